-- The image with marks does what region code with marked stores does: both do what the image of labelled code does, with its labels read.
use Rattle.std.proofs.Common.{ℕ, Bool, refl, ◌∙◌}
use Rattle.rc_rlang.specs.RegionCode.{Rlang}
use Rattle.rc_emission.specs.Turns.{Turning}
use Rattle.rc_code.specs.Running.{Doing}
use Rattle.rc_numbering.specs.Means.{IsNumberable}
use Rattle.rc_numbering.specs.Waits.{Waiting}
use Rattle.rc_labels.specs.Labels.{Numbering}
use Rattle.rc_labels.specs.Numberings.{number_of, label_in}
use Rattle.rc_labels.proofs.Numberings.{read_there}
use Rattle.rc_labels.specs.PutLaws.{MakesNoTurns, KeepsWaiting}
use Rattle.rc_labels.proofs.Images.{image_does}
use Rattle.rc_labels.specs.InOrder.{OnlyWhereAsked}
use Rattle.rc_labels.specs.MarkedLaws.{DoesWhatMarkedCodeDoes}
use Rattle.rc_labels.proofs.Views.{undoes_labels}

-- labels as bits; 0 has none
abbrev by_bits : Numbering
by_bits = record { number = number_of; label = label_in; read = read_there }

pub does_what_marked_code_does : {W V : Type 0} (does : Doing W) (waiting : W → V) → Turning does.ops → MakesNoTurns does.ops does.put → Waiting does.ops waiting → KeepsWaiting does.put waiting
    → (r : Rlang) → IsNumberable r → (marks : (function point : ℕ) → Bool) → OnlyWhereAsked r marks → DoesWhatMarkedCodeDoes does marks r
does_what_marked_code_does does waiting turning no_turns waits keeps r numberable marks only w =
    undoes_labels by_bits refl does.ops does.put marks r only w ∙ image_does by_bits does.ops does.put waiting turning no_turns waits keeps marks r numberable w
