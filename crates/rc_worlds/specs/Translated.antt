-- An image that a program was translated to. Over the source's world its objects keep the layouts of the source, so that the
-- image's code does there what the program's does; the store has them as the image writes them.
use Rattle.std.specs.Prelude.{◌≡◌, ◌≢◌, ℕ, true, false, List, Some}
use Rattle.rc_base.specs.declared.ends.Limits.{Limits}
use Rattle.rc_core.specs.Types.{Ty}
use Rattle.rc_core.specs.Programs.{Program}
use Rattle.rc_core.specs.Heap.{first_heap}
use Rattle.rc_core.specs.Laws.{stop_of}
use Rattle.rc_core.specs.Meaning.{first_world}
use Rattle.rc_code.specs.Running.{pointee, run_main}
use Rattle.rc_code.specs.StoreModel.{stored}
use Rattle.rc_worlds.specs.Worlds.{Compared, failed, model, watched, mapped, own, may_mark, tells_apart}
use Rattle.rc_worlds.specs.Typed.{GlobalsAreThere}
use Rattle.rc_worlds.specs.Facts.{ImageIsSound}

-- the image as it is written keeps the rules, cells name types by the numbers that loads are judged by, and the image's globals
-- are the first of the program's objects
pub record IsTranslated (image : Compared) (p : Program) : Type 0 where
  pub sound : ImageIsSound (own image)
  pub numbers : (ty : Ty) → pointee (image.name ty) ≡ image.code.numbered ty
  pub globals : GlobalsAreThere image (first_heap p)
  pub unranged : image.ranged ≡ false

-- the run over the store is the run over the source's world, where marks, if there are some, never leave out a check that fails
abbrev pub IsCarried : Compared → Program → (input : List ℕ) → Limits → Type 0
IsCarried image p input limits =
    (may_mark image.marks ≡ true → (line : ℕ) → stop_of (run_main (watched image) image.code (first_world p input limits)) ≢ Some (failed (tells_apart image.marks) line))
    → run_main stored (own image).code (model image.name (first_world p input limits)) ≡ mapped image (run_main (watched image) image.code (first_world p input limits))
