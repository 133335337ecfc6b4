use Rattle.std.proofs.Common.{◌≡◌, ◌++◌, map}
use Rattle.std.specs.Vec.Iter.{into_iter_items}
use Rattle.rc_core.specs.Shapes.{expr_of}
use Rattle.rc_rules.specs.Shapes.{code_of}
use Rattle.rc_rules.proofs.calls.in_a_row.Given as goal

abbrev pub invariant-loop-code : goal.invariant-loop-code
invariant-loop-code l = map code_of l.fn.codes.items ≡ map expr_of l.row.items ++ map code_of (into_iter_items l.code-iterator)
