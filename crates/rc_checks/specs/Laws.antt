-- What the laws of facts ask of region code and of its runs, of the region code of a program: types agree, and a run from where `main`
-- begins meets them, however many calls may stand inside one another. And that checks which may go never fail: where their stores are
-- marked, and a marked store does what it likes with a value that doesn't fit, the whole run is the same, on every input of bytes and
-- within all limits.
use Rattle.std.specs.Prelude.{◌≡◌, ℕ, Bool, List, []}
use Rattle.std.specs.List.{AllByRecursion as Every}
use Rattle.rc_base.specs.declared.ends.Limits.{Limits}
use Rattle.rc_core.specs.Numbers.{IsByte}
use Rattle.rc_core.specs.Programs.{Program}
use Rattle.rc_core.specs.Source.{World, source}
use Rattle.rc_core.specs.Meaning.{first_world}
use Rattle.rc_rlang.specs.RegionRuns.{run_main}
use Rattle.rc_translation.specs.Translation.{region_of_program}
use Rattle.rc_annotations.specs.Heights.{temporaries_of}
use Rattle.rc_along.specs.Along.{CallsMeet}
use Rattle.rc_along.specs.RunLaws.{AllRight}
use Rattle.rc_along.specs.MarkedRuns.{Put, main_marked}
use Rattle.rc_along.specs.MarkedLaws.{Trusting}
use Rattle.rc_along.specs.Comes.{At, Comes}
use Rattle.rc_annotations.specs.Annotations.{Annotation, Consistent, AllRemovable}
use Rattle.rc_annotations.specs.Holding.{AllHold}
use Rattle.rc_core.specs.Heap.{Value, Heap}

abbrev pub TypesAgree : Program → Type 0
TypesAgree program = AllRight (region_of_program program) (temporaries_of (region_of_program program))

abbrev pub RunsMeet : Program → Type 0
RunsMeet program = (input : List ℕ) (limits : Limits) → Every IsByte input → (m : ℕ) → CallsMeet (region_of_program program) m program.main [] (first_world program input limits)

abbrev pub RemovedChecksNeverFail : Program → Type 0
RemovedChecksNeverFail program = let r = region_of_program program in (input : List ℕ) (limits : Limits) → Every IsByte input → (marks : (function point : ℕ) → Bool) → AllRemovable r (temporaries_of r) marks → (put : Put World) → Trusting put → main_marked source put marks r (first_world program input limits) ≡ run_main source r (first_world program input limits)

-- each fact of a consistent annotation holds each time that the run of `main` comes to its point, of the values there
abbrev pub FactsHold : Program → Type 0
FactsHold program = let r = region_of_program program in (a : Annotation) → Consistent r (temporaries_of r) a → (input : List ℕ) (limits : Limits) → Every IsByte input → (function point : ℕ) (values : ℕ → Value) (heap : Heap) → Comes r (first_world program input limits) (At function point values heap) → AllHold (a.before function point) values heap
