-- Image, stack code and region code of labelled code do the same in the world of labels, and with the labels read that is what code does with
-- marked stores.
use Rattle.std.proofs.Common.{ℕ, Bool, refl, ap, ◌∙◌}
use Rattle.rc_core.specs.Runs.{Ops}
use Rattle.rc_rlang.specs.RegionCode.{Rlang}
use Rattle.rc_emission.specs.Turns.{Turning}
use Rattle.rc_emission.proofs.Theorem.{means}
use Rattle.rc_numbering.specs.Means.{IsNumberable}
use Rattle.rc_numbering.specs.Waits.{Waiting}
use Rattle.rc_numbering.proofs.Programs.{image_same}
use Rattle.rc_along.specs.MarkedRuns.{Put}
use Rattle.rc_labels.specs.Labels.{Numbering}
use Rattle.rc_labels.specs.Labelled.{labelled}
use Rattle.rc_labels.specs.LabelledWorlds.{decoded, labelled_ops}
use Rattle.rc_labels.proofs.Runs.{main_reads}
use Rattle.rc_labels.specs.PutLaws.{MakesNoTurns, KeepsWaiting}
use Rattle.rc_labels.specs.LabelledImages.{told_by_labels, ImageDoesWhatMarkedCodeDoes}
use Rattle.rc_labels.proofs.Worlds.{counts, waits}
use Rattle.rc_labels.proofs.Whole.{ordered, numberable}

module _ {W V : Type 0} (n : Numbering) (ops : Ops W) (put : Put W) (waiting : W → V) (turning : Turning ops) (no_turns : MakesNoTurns ops put) (waits_world : Waiting ops waiting) (keeps : KeepsWaiting put waiting) where
  pub image_does : (marks : (function point : ℕ) → Bool) (r : Rlang) → IsNumberable r → ImageDoesWhatMarkedCodeDoes n ops put marks r
  image_does marks r is w =
      ap (decoded n)
      (image_same (told_by_labels n ops put) (λ line t v u. refl) waiting (waits n ops put waiting waits_world keeps) (labelled n marks r) (numberable n marks r is) w
      ∙ means (labelled_ops n ops put) (counts n ops put turning no_turns) (labelled n marks r) (ordered n marks r (λ k f there. let order = (is.functions k f there).in_order in (order.0, order.1))) w)
      ∙ main_reads n ops put marks r w
