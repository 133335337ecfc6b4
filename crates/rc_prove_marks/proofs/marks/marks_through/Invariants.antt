use Rattle.rc_prove.specs.Family.{family_of}
use Rattle.rc_prove_marks.specs.Going.{IsAt, AreFirst}
use Rattle.rc_prove_marks.proofs.marks.marks_through.Given as goal

abbrev pub invariant-loop-at : goal.invariant-loop-at
invariant-loop-at l = record {
  here : IsAt l.route (family_of l.claims.entries.items l.claims.exits.items l.claims.frames.items) l.at l.work;
  marked : AreFirst l.route (family_of l.claims.entries.items l.claims.exits.items l.claims.frames.items) l.at l.marks.items;
}
