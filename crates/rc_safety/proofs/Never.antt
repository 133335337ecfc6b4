-- No run is stale, and what a run leaves is sound.
use Rattle.std.proofs.Common.{◌≢◌, ℕ, suc, Bool, List, [], subst}
use Rattle.rc_base.specs.declared.ends.Limits.{Limits}
use Rattle.rc_core.specs.Programs.{Program}
use Rattle.rc_core.specs.Heap.{Value}
use Rattle.rc_core.specs.Runs.{Run, Go, Stopped, Stale}
use Rattle.rc_core.specs.Source.{World}
use Rattle.rc_core.specs.Execution.{deletes}
use Rattle.rc_core.specs.Meaning.{first_world, run_of, meaning_of_run}
use Rattle.rc_core.specs.Deletes.{DeletesInPlace}
use Rattle.rc_safety.specs.Safety.{NeverTouchesDeleted, IsLeftSound, LeavesSoundHeap}
use Rattle.rc_safety.proofs.Worlds.{Fresh, NotStale, Yields}
use Rattle.rc_safety.proofs.Calls.{calls_yield}
use Rattle.rc_safety.proofs.First.{first_is_sound}

not_stale : (may : Bool) (input : List ℕ) (w : World) (m : Run World Value) → Yields may w Fresh m → (line : ℕ) → (meaning_of_run input m).end ≢ Stale line
not_stale may input w (Go v w1) y line e = cc
not_stale may input w (Stopped stop w1) y line e = subst NotStale e y.holds

left_sound : (may : Bool) (w : World) (m : Run World Value) → Yields may w Fresh m → IsLeftSound m
left_sound may w (Go v w1) y = y.holds.0.sound.heap
left_sound may w (Stopped stop w1) y = tt

run_yields : (program : Program) (input : List ℕ) (limits : Limits) → DeletesInPlace program → Yields (deletes program program.main) (first_world program input limits) Fresh (run_of program input limits)
run_yields program input limits deleting =
    calls_yield program deleting (suc limits.turns) program.main [] (first_world program input limits) (record { heap = first_is_sound program; waiting = tt }) tt

pub never_touches_deleted : (program : Program) (input : List ℕ) (limits : Limits) → DeletesInPlace program → NeverTouchesDeleted program input limits
never_touches_deleted program input limits deleting = not_stale _ input _ (run_of program input limits) (run_yields program input limits deleting)

pub leaves_sound_heap : (program : Program) (input : List ℕ) (limits : Limits) → DeletesInPlace program → LeavesSoundHeap program input limits
leaves_sound_heap program input limits deleting = left_sound _ _ (run_of program input limits) (run_yields program input limits deleting)
