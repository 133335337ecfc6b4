-- What the laws say. The stack code of labelled region code, and the tables of the types and paths that it names, are those of the region
-- code, but that labels stand for lines. So the image of labelled region code, in a world that reads labels, does what the image with marks
-- does.
use Rattle.std.specs.Prelude.{◌≡◌, ℕ, Bool, map}
use Rattle.rc_core.specs.Runs.{Ops}
use Rattle.rc_rlang.specs.RegionCode.{Routine, Rlang}
use Rattle.rc_emission.specs.StackCode.{StackFunction}
use Rattle.rc_code.specs.Running.{Reading, Doing, run_main}
use Rattle.rc_numbering.specs.Names.{types_of, paths_of, stack_of}
use Rattle.rc_numbering.specs.Numbered.{type_in}
use Rattle.rc_numbering.specs.Means.{view_of}
use Rattle.rc_along.specs.MarkedRuns.{Put, main_marked}
use Rattle.rc_labels.specs.Labels.{Numbering, line_in}
use Rattle.rc_labels.specs.Labelled.{routine_labelled, labelled}
use Rattle.rc_labels.specs.LabelledWorlds.{decoded}
use Rattle.rc_labels.specs.LabelledImages.{told_by_labels}
use Rattle.rc_marks.specs.Marked.{marked_image}
use Rattle.rc_labels.specs.InOrder.{routine_marks, mask_of}
use Rattle.rc_labels.specs.Told.{told, marks_told}

-- 0 is a label of line 0, as instructions have it that were made for no line
abbrev pub KeepsZero : Numbering → Type 0
KeepsZero n = line_in n 0 ≡ 0

-- the stack code of a function, whose stores have these marks, and of the labelled one
pub record SaysTheCode (n : Numbering) (marked : (point : ℕ) → Bool) (f : Routine) (labelled code : StackFunction) : Type 0 where
  pub locals : labelled.locals ≡ code.locals
  pub lines : map (told n) labelled.code ≡ code.code
  pub marks : marks_told n labelled.code ≡ routine_marks marked f

abbrev pub LabelsStandForLines : (n : Numbering) → (marks : (function point : ℕ) → Bool) → Rlang → Type 0
LabelsStandForLines n marks r = (k : ℕ) (f : Routine) → SaysTheCode n (marks k) f (stack_of (labelled n marks r) (routine_labelled n (marks k) f)) (stack_of r f)

pub record NamesTheSame (labelled r : Rlang) : Type 0 where
  pub types : types_of labelled ≡ types_of r
  pub paths : paths_of (type_in labelled) labelled ≡ paths_of (type_in r) r

-- the image with marks, seen with the layouts of the source
abbrev pub marked_view : (mask : ℕ → Bool) → Rlang → Reading
marked_view mask r = record (view_of r) { parts = marked_image mask r }

-- the world of labels, whose stop has its label read
abbrev pub UndoesLabels : {W : Type 0} → Numbering → Ops W → Put W → (marks : (function point : ℕ) → Bool) → Rlang → Type 0
UndoesLabels {W} n ops put marks r = (w : W) → run_main (record { ops = ops; put = put }) (marked_view (mask_of marks r) r) w ≡ decoded n (run_main (told_by_labels n ops put) (view_of (labelled n marks r)) w)

-- of a world, whatever it does at a store with a mark
abbrev pub DoesWhatMarkedCodeDoes : {W : Type 0} → Doing W → (marks : (function point : ℕ) → Bool) → Rlang → Type 0
DoesWhatMarkedCodeDoes {W} does marks r = (w : W) → run_main does (marked_view (mask_of marks r) r) w ≡ main_marked does.ops does.put marks r w
