use Rattle.std.proofs.Common.{◌≡◌, ◌++◌, drop, map}
use Rattle.rc_core.specs.Shapes.{ty_of}
use Rattle.rc_items.proofs.Params.{takes}
use Rattle.rc_items.proofs.heads.taken.Given as goal

abbrev pub invariant-loop-q : goal.invariant-loop-q
invariant-loop-q l = record { same : takes l.context.types l.params ≡ map ty_of l.types.items ++ takes l.context.types (drop l.q-index l.params) }
