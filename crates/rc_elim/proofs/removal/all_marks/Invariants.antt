use Rattle.rc_edges.specs.Heads.{Inferred}
use Rattle.rc_elim.specs.Marking.{AreMarked}
use Rattle.rc_elim.specs.Masks.{rows_of}
use Rattle.rc_elim.proofs.removal.all_marks.Given as goal

abbrev pub invariant-loop-function : goal.invariant-loop-function
invariant-loop-function l = record { marked : (inferred : Inferred l.parts l.facts) → AreMarked l.parts inferred.family l.function (rows_of l.rows.items) }
