-- What an image does over the source's world. Its first world has region 0 alone, with the image's globals.
use Rattle.std.specs.Prelude.{◌≡◌, ◌≢◌, ℕ, Bool, true, false, List, [], ◌∷◌}
use Rattle.std.specs.List.{AllByRecursion as Every}
use Rattle.rc_base.specs.declared.ends.Limits.{Limits}
use Rattle.rc_core.specs.Numbers.{IsByte}
use Rattle.rc_core.specs.Heap.{Value}
use Rattle.rc_core.specs.Meaning.{Meaning, meaning_of_run, left_by_run}
use Rattle.rc_core.specs.Runs.{Run, Stale}
use Rattle.rc_core.specs.Source.{World}
use Rattle.rc_code.specs.declared.image.Initial.{Initial}
use Rattle.rc_code.specs.declared.image.Initial.TheVariants as initial
use Rattle.rc_code.specs.declared.image.Global.{Global}
use Rattle.rc_code.specs.declared.image.Parts.{Parts}
use Rattle.rc_code.specs.Running.{Reading, reading_of, run_main}
use Rattle.rc_code.specs.ImageMeaning.{first_objects, image_meaning, image_left}
use Rattle.rc_worlds.specs.Worlds.{Compared, watched, Marks, none_marked, marks_checked, marks_trusted}

abbrev pub image_world : Reading → (input : List ℕ) → Limits → World
image_world image input limits = record {
  turns = limits.turns;
  input = input;
  acts = [];
  heap = record { parent = 0; alive = true; objects = first_objects image } ∷ [];
  waiting = [];
  regions = limits.regions;
  blocks = limits.blocks;
}

-- an image as it is written
abbrev pub as_marked : Marks → (ranged : Bool) → Parts → Compared
as_marked marks ranged parts = record { code = reading_of parts; name = λ ty. ty; marks = marks; ranged = ranged }

-- where the run over the source's world looks at each cell at a deletion and makes each check, and where it counts and trusts the marks
abbrev pub looking : (marked : Bool) → Parts → Compared
looking false parts = as_marked none_marked false parts
looking true parts = as_marked (marks_checked false) false parts

abbrev pub counting : (ranged : Bool) → Parts → Compared
counting ranged parts = as_marked marks_trusted ranged parts

-- each byte that a global begins with is one
abbrev pub AreBytes : Initial → Type 0
AreBytes initial.Zeros = Unit {0}
AreBytes (initial.Number n) = Unit {0}
AreBytes (initial.Bytes bytes) = Every IsByte bytes

abbrev pub GlobalsHaveBytes : Parts → Type 0
GlobalsHaveBytes parts = Every (λ (g : Global). AreBytes g.initial) parts.globals

abbrev pub world_run : Compared → (input : List ℕ) → Limits → Run World Value
world_run image input limits = run_main (watched image) image.code (image_world image.code input limits)

abbrev pub world_meaning : Compared → (input : List ℕ) → Limits → Meaning
world_meaning image input limits = meaning_of_run input (world_run image input limits)

-- the store has the acts, the bytes taken and the end of the source's world, and leaves what that leaves
pub record AreTheSame (parts : Parts) (image : Compared) (input : List ℕ) (limits : Limits) : Type 0 where
  pub meaning : image_meaning parts input limits ≡ world_meaning image input limits
  pub left : image_left parts input limits ≡ left_by_run (world_run image input limits)

abbrev pub IsNotStale : Meaning → Type 0
IsNotStale meaning = (line : ℕ) → meaning.end ≢ Stale line
