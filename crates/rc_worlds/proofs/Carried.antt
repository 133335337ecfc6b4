-- A program's image over the store is the image over the source's world.
use Rattle.std.proofs.Common.{◌≡◌, ℕ, List, Some, ap}
use Rattle.std.specs.Prelude.{◌≢◌, true}
use Rattle.rc_base.specs.declared.ends.Limits.{Limits}
use Rattle.rc_core.specs.Heap.{Value}
use Rattle.rc_core.specs.Programs.{Program}
use Rattle.rc_core.specs.Laws.{stop_of}
use Rattle.rc_core.specs.Meaning.{first_world}
use Rattle.rc_core.specs.Runs.{Run, Go, Stopped}
use Rattle.rc_core.specs.Source.{World}
use Rattle.rc_code.specs.Running.{run_main}
use Rattle.rc_worlds.specs.Worlds.{Compared, failed, watched, may_mark, tells_apart}
use Rattle.rc_worlds.specs.Translated.{IsTranslated, IsCarried}
use Rattle.rc_worlds.proofs.Does.{Excused}
use Rattle.rc_worlds.proofs.Whole.{image_runs}
use Rattle.rc_worlds.proofs.First.{first_is_good}

pub carried : (image : Compared) (p : Program) → IsTranslated image p → (input : List ℕ) (limits : Limits) → IsCarried image p input limits
carried image p is input limits never =
    image_runs image is.numbers is.sound (first_world p input limits) (first_is_good image is.unranged p input limits is.globals)
    (none (run_main (watched image) image.code (first_world p input limits)) never)
  where
    none : (m : Run World Value) → (may_mark image.marks ≡ true → (line : ℕ) → stop_of m ≢ Some (failed (tells_apart image.marks) line)) → Excused image m → ⊥
    none (Go x w) never e = e
    none (Stopped stop w) never e = never e.0 e.2.0 (ap Some e.2.1)
