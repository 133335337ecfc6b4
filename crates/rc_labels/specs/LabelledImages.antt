-- The image of labelled code, in the world of labels, does what code does with marked stores. No store of the image has a mark: the world of
-- labels is told by the label.
use Rattle.std.specs.Prelude.{◌≡◌, ℕ, Bool}
use Rattle.rc_core.specs.Runs.{Ops}
use Rattle.rc_rlang.specs.RegionCode.{Rlang}
use Rattle.rc_code.specs.Running.{Doing, run_main}
use Rattle.rc_numbering.specs.Means.{view_of}
use Rattle.rc_along.specs.MarkedRuns.{Put, main_marked}
use Rattle.rc_labels.specs.Labels.{Numbering}
use Rattle.rc_labels.specs.Labelled.{labelled}
use Rattle.rc_labels.specs.LabelledWorlds.{decoded, labelled_ops}

abbrev pub told_by_labels : {W : Type 0} → Numbering → Ops W → Put W → Doing W
told_by_labels n ops put = record { ops = labelled_ops n ops put; put = λ proved. (labelled_ops n ops put).store }

abbrev pub ImageDoesWhatMarkedCodeDoes : {W : Type 0} → Numbering → Ops W → Put W → (marks : (function point : ℕ) → Bool) → Rlang → Type 0
ImageDoesWhatMarkedCodeDoes {W} n ops put marks r = (w : W) → decoded n (run_main (told_by_labels n ops put) (view_of (labelled n marks r)) w) ≡ main_marked ops put marks r w
