use Rattle.std.proofs.Common.{◌≡◌, ℕ, suc, ◌+◌, Bool, ◌||◌}
use Rattle.rc_facts.specs.Facts.{holds}
use Rattle.rc_code.specs.Running.{Reading}
use Rattle.rc_carrying.specs.Left.{IsReady}
use Rattle.rc_prove.specs.Sets.{Sets, Shrinks, FewerFacts}
use Rattle.rc_prove.specs.Passing.{Reached}
use Rattle.rc_prove.specs.Visiting.{sets_of, AreSpotsFrom, PlaceFits, SameShape}
use Rattle.rc_prove.proofs.visit.pass.Given as goal

abbrev pub invariant-loop-at : goal.invariant-loop-at
invariant-loop-at l = record {
  shape : SameShape (sets_of l.fn.entries l.fn.exits l.fn.frames) (sets_of l.entries l.exits l.frames);
  fewer : FewerFacts (sets_of l.fn.entries l.fn.exits l.fn.frames) (sets_of l.entries l.exits l.frames);
  shrinks : Shrinks l.lost (sets_of l.fn.entries l.fn.exits l.fn.frames) (sets_of l.entries l.exits l.frames);
  fits : PlaceFits l.place (sets_of l.entries l.exits l.frames);
  variables : l.work.variables ≡ suc (suc l.place.result);
  ready : IsReady (suc (suc l.place.result)) (suc l.place.result) (holds l.work);
  reached : (image : Reading) (from : ℕ) → AreSpotsFrom image l.place from l.spots → (start : Sets) (lost : Bool) → Reached image l.place.function from start (sets_of l.fn.entries l.fn.exits l.fn.frames) (holds l.fn.work) lost
      → Reached image l.place.function (from + l.at) start (sets_of l.entries l.exits l.frames) (holds l.work) (lost || l.lost);
}
