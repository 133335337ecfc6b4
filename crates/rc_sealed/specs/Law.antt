-- The law of images that carry their proofs.
use Rattle.std.specs.Prelude.{◌≡◌, ◌≢◌, ℕ, List}
use Rattle.rc_base.specs.declared.ends.Limits.{Limits}
use Rattle.rc_core.specs.Runs.{Stale}
use Rattle.rc_code.specs.declared.image.Parts.{Parts}
use Rattle.rc_code.specs.Faithful.{Faithful}
use Rattle.rc_code.specs.ImageMeaning.{image_meaning, image_left}
use Rattle.rc_loader.specs.Unmarked.{unmarked}

abbrev pub NeverStale : Parts → Type 0
NeverStale parts = (input : List ℕ) (limits : Limits) (line : ℕ) → (image_meaning parts input limits).end ≢ Stale line

-- it has the same acts, bytes taken and end as the other, and leaves the same
pub record MeansTheSame (parts others : Parts) (input : List ℕ) (limits : Limits) : Type 0 where
  pub meaning : image_meaning parts input limits ≡ image_meaning others input limits
  pub left : image_left parts input limits ≡ image_left others input limits

-- The law: an image of which proofs prove every instruction, and whose pins list what is used, has right marks, never touches a dead
-- region, and means what it means with every check made.
pub record IsLawful (parts : Parts) : Type 0 where
  pub faithful : Faithful parts
  pub never : NeverStale parts
  pub cleared : (input : List ℕ) (limits : Limits) → MeansTheSame parts (unmarked parts) input limits
