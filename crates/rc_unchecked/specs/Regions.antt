-- What the image of region code with marks means, whether a program was translated to the code or not. Marks stand at stores alone whose
-- checks ask for a fact. In a run no marked check fails where it makes no difference what a marked store does with a value that doesn't fit:
-- the run is that of the region code all the same. Then the image's run means what the region code's means, a dead region that is touched and
-- its line included, and where it exits it leaves the same. Where that is so on every input of bytes and within all limits, no run of the image
-- comes to a marked store that would have failed its check.
use Rattle.std.specs.Prelude.{◌≡◌, ℕ, Bool, false, List}
use Rattle.std.specs.List.{AllByRecursion as Every}
use Rattle.rc_base.specs.declared.ends.Limits.{Limits}
use Rattle.rc_core.specs.Numbers.{IsByte}
use Rattle.rc_core.specs.Meaning.{left_by_run}
use Rattle.rc_core.specs.Source.{World, source}
use Rattle.rc_rlang.specs.RegionCode.{Rlang}
use Rattle.rc_rlang.specs.RegionRuns.{run_main}
use Rattle.rc_code.specs.declared.image.Parts.{Parts}
use Rattle.rc_code.specs.ImageMeaning.{image_meaning, image_left}
use Rattle.rc_code.specs.Faithful.{Faithful}
use Rattle.rc_along.specs.MarkedRuns.{Put, main_marked}
use Rattle.rc_along.specs.MarkedLaws.{Trusting}
use Rattle.rc_marks.specs.InOrder.{mask_of}
use Rattle.rc_marks.specs.Marked.{marked_image}
use Rattle.rc_labels.specs.InOrder.{OnlyWhereAsked}
use Rattle.rc_numbering.specs.Regions.{region_world, region_meaning}

-- in one run
abbrev pub NoMarkedCheckFails : Rlang → (marks : (function point : ℕ) → Bool) → (input : List ℕ) → Limits → Type 0
NoMarkedCheckFails r marks input limits = (put : Put World) → Trusting put → main_marked source put marks r (region_world r input limits) ≡ run_main source r (region_world r input limits)

-- an image's run means what the region code's means, and leaves what that leaves
abbrev pub MeansItsCode : Rlang → Parts → (input : List ℕ) → Limits → Type 0
MeansItsCode r image input limits = (image_meaning image input limits ≡ region_meaning r input limits) × (image_left image input limits ≡ left_by_run (run_main source r (region_world r input limits)))

-- where no mark is set
abbrev pub BareMeansItsCode : Rlang → (marks : (function point : ℕ) → Bool) → Parts → Type 0
BareMeansItsCode r marks image = ((function point : ℕ) → marks function point ≡ false) → (input : List ℕ) (limits : Limits) → MeansItsCode r image input limits

abbrev pub MarkedMeansItsCode : Rlang → (marks : (function point : ℕ) → Bool) → Parts → Type 0
MarkedMeansItsCode r marks image = OnlyWhereAsked r marks → (input : List ℕ) (limits : Limits) → NoMarkedCheckFails r marks input limits → MeansItsCode r image input limits

abbrev pub IsFaithfulToItsCode : Rlang → (marks : (function point : ℕ) → Bool) → Parts → Type 0
IsFaithfulToItsCode r marks image = OnlyWhereAsked r marks → ((input : List ℕ) (limits : Limits) → Every IsByte input → NoMarkedCheckFails r marks input limits) → Faithful image

-- of the image of region code with these marks
pub record DoesWhatItsCodeDoes (r : Rlang) (marks : (function point : ℕ) → Bool) (image : Parts) : Type 0 where
  pub bare : BareMeansItsCode r marks image
  pub marked : MarkedMeansItsCode r marks image
  pub faithful : IsFaithfulToItsCode r marks image

abbrev pub MarkedImagesDoWhatTheirCodeDoes : Rlang → Type 0
MarkedImagesDoWhatTheirCodeDoes r = (marks : (function point : ℕ) → Bool) → DoesWhatItsCodeDoes r marks (marked_image (mask_of marks r) r)
