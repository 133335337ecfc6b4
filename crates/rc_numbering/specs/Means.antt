-- An image of region code means what the stack code means that it is made of. It is said of a view of the image whose objects have the
-- layouts of the source: of its types by their names, where the image as it is written has numbers. A world may be any in which calls give
-- back what waits. What is asked of region code is that its temporaries stand in order, its types agree, what it names is there, and an
-- image can say it.
use Rattle.std.specs.Prelude.{◌≡◌, ℕ, false, List, [], Option, Some, None, slice_get}
use Rattle.std.specs.List.{AllByRecursion as Every}
use Rattle.rc_base.specs.declared.ends.Limits.{Limits}
use Rattle.rc_core.specs.Numbers.{IsByte}
use Rattle.rc_core.specs.Types.{Ty, int}
use Rattle.rc_core.specs.Heap.{Value}
use Rattle.rc_core.specs.Typing.{IsDefined}
use Rattle.rc_core.specs.Programs.{Program}
use Rattle.rc_core.specs.Runs.{Run, Target}
use Rattle.rc_core.specs.Source.{World, source}
use Rattle.rc_core.specs.Meaning.{first_world, meaning_of_run, meaning, left_by_run, left}
use Rattle.rc_rlang.specs.RegionCode.{Routine, Rlang}
use Rattle.rc_rlang.specs.RegionNames.{object_type, result_type}
use Rattle.rc_rlang.specs.RegionRuns.{deletes}
use Rattle.rc_translation.specs.Translation.{region_of_program}
use Rattle.rc_emission.specs.StackCode.{stack_main}
use Rattle.rc_emission.specs.KeptOperands.{stack_code}
use Rattle.rc_stack_rules.specs.Loadable.{IsInOrder}
use Rattle.rc_stack_rules.specs.Named.{CodeSets}
use Rattle.rc_code.specs.Running.{Reading, Doing, run_main}
use Rattle.rc_numbering.specs.Numbered.{type_in, layouts_in, image_of}
use Rattle.rc_numbering.specs.Sayable.{IsCalled, result_in, CodeSayable}

abbrev pub view_of : Rlang → Reading
view_of r = record { parts = image_of r; layouts = layouts_in r; numbered = type_in r }

abbrev pub ResultDefined : Rlang → Option Ty → Type 0
ResultDefined r None = Unit {0}
ResultDefined r (Some ty) = IsDefined r.structs ty

pub record FunctionFits (r : Rlang) (f : Routine) : Type 0 where
  pub in_order : IsInOrder (object_type r) (result_type r) f
  pub sets : CodeSets f.locals f.body
  pub sayable : CodeSayable r f f.body
  pub result : ResultDefined r f.result

pub record IsNumberable (r : Rlang) : Type 0 where
  pub functions : (k : ℕ) (f : Routine) → slice_get r.functions k ≡ Some f → FunctionFits r f
  pub main : IsCalled r r.main []
  pub gives : result_in r r.main ≡ Some int

-- a store without a mark is the world's
abbrev pub IsPlain : {W : Type 0} → Doing W → Type 0
IsPlain {W} does = (line : ℕ) (target : Target) (v : Value) (w : W) → does.put false line target v w ≡ does.ops.store line target v w

abbrev pub ImageMeansTheSame : {W : Type 0} → Doing W → Rlang → Type 0
ImageMeansTheSame {W} does r = (w : W) → run_main does (view_of r) w ≡ stack_main does.ops (deletes r) (stack_code r) r.main w

-- ---- of programs, in the world of the language's definition

abbrev pub without_marks : Doing World
without_marks = record { ops = source; put = λ proved. source.store }

abbrev pub view_run : Program → (input : List ℕ) → Limits → Run World Value
view_run program input limits = run_main without_marks (view_of (region_of_program program)) (first_world program input limits)

abbrev pub ViewMeansTheSame : Program → Type 0
ViewMeansTheSame program = (input : List ℕ) (limits : Limits) → Every IsByte input → meaning_of_run input (view_run program input limits) ≡ meaning program input limits

abbrev pub ViewLeavesTheSame : Program → Type 0
ViewLeavesTheSame program = (input : List ℕ) (limits : Limits) → Every IsByte input → left_by_run (view_run program input limits) ≡ left program input limits
