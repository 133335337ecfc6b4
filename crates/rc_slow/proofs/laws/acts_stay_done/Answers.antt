use Rattle.std.proofs.Common.{◌≡◌, true, false, refl}
use Rattle.rc_base.specs.Acts.{Act}
use Rattle.std.specs.Prelude.{List, Bool, if◌then◌else◌}
use Rattle.rc_core.specs.Heap.{Value}
use Rattle.rc_memory.specs.KeptWorld.{KeptWorld, kept}
use Rattle.rc_slow.specs.Prefix.{behind_acts}
use Rattle.rc_slow.proofs.Prefixes.{acts_agree}
use Rattle.rc_slow.proofs.Simulation.{main_agrees}
use Rattle.rc_slow.proofs.WholeAgrees.{whole_same}
use Rattle.rc_slow.proofs.laws.acts_stay_done.Goals as goal

left_by : (acts : List Act) (b : Bool) (waits : List Value) (w : KeptWorld) → behind_acts acts (if b then record w { waiting = waits } else w) ≡ (if b then record (behind_acts acts w) { waiting = waits } else behind_acts acts w)
left_by acts true waits w = refl
left_by acts false waits w = refl

pub returns-clause-main : goal.returns-clause-main
returns-clause-main c = λ program acts w. main_agrees (behind_acts acts) kept kept program (acts_agree acts) w

pub returns-clause-anywhere : goal.returns-clause-anywhere
returns-clause-anywhere c = λ program acts s w. whole_same (behind_acts acts) program (acts_agree acts) (λ a w1. left_by acts a.deletes a.waits w1) s w
