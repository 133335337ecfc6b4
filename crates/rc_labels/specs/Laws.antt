-- What labelled code does in the world of labels is what code does with marked stores: of a run's stop the labels are read, and else it is the
-- same run.
use Rattle.std.specs.Prelude.{◌≡◌, ℕ, Bool}
use Rattle.rc_core.specs.Runs.{Ops}
use Rattle.rc_rlang.specs.RegionCode.{Rlang}
use Rattle.rc_rlang.specs.RegionRuns.{run_main}
use Rattle.rc_along.specs.MarkedRuns.{Put, main_marked}
use Rattle.rc_labels.specs.Labels.{Numbering}
use Rattle.rc_labels.specs.Labelled.{labelled}
use Rattle.rc_labels.specs.LabelledWorlds.{decoded, labelled_ops}

abbrev pub DoesWhatMarkedCodeDoes : {W : Type 0} → Numbering → Ops W → Put W → (marks : (function point : ℕ) → Bool) → Rlang → Type 0
DoesWhatMarkedCodeDoes {W} n ops put marks r = (w : W) → decoded n (run_main (labelled_ops n ops put) (labelled n marks r) w) ≡ main_marked ops put marks r w
