use Rattle.std.proofs.Common.{◌≡◌, drop}
use Rattle.rc_core.specs.Shapes.{ty_of}
use Rattle.rc_deletes.specs.Kinds.{starred}
use Rattle.rc_typed_values.proofs.kinds.starred.Given as goal

abbrev pub invariant-loop-note : goal.invariant-loop-note
invariant-loop-note l = starred (ty_of l.fn.base) l.stars ≡ starred (ty_of l.ty) (drop l.note-index l.stars)
