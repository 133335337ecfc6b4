-- The image that a program is compiled to is all that is asked of it.
use Rattle.std.proofs.Common.{◌≡◌, map, sym, subst}
use Rattle.rc_core.specs.Programs.{Program}
use Rattle.rc_core.specs.WellTyped.{IsWellTyped}
use Rattle.rc_rlang.specs.Bounds.{IsWithinBounds}
use Rattle.rc_translation.specs.Translation.{region_of_program}
use Rattle.rc_code.specs.declared.image.Parts.{Parts}
use Rattle.rc_code.specs.Soundness.{Sound}
use Rattle.rc_code.specs.Faithful.{Faithful}
use Rattle.rc_numbering.proofs.Programs.{program_is_numberable}
use Rattle.rc_numbering.specs.Small.{IsSmall}
use Rattle.rc_marks.specs.Marked.{image_stores}
use Rattle.rc_marks.specs.Counted.{all_sites, stored, HasAsMany}
use Rattle.rc_marks.proofs.Counted.{stores_are_sites, images_have_as_many}
use Rattle.rc_numbering.specs.Programs.{image_of_program}
use Rattle.rc_unchecked.specs.Compiled.{IsCompiled}
use Rattle.rc_unchecked.proofs.Faithful.{marks_are_right}
use Rattle.rc_emit.proofs.Whole.{may_go}
use Rattle.rc_unchecked.specs.Images.{HasImage, HasMeaningOf}

pub has_image : (program : Program) (image : Parts) → IsWellTyped program → IsWithinBounds program → IsSmall (image_of_program program) → IsCompiled program image → Sound image → HasMeaningOf program image → HasImage program image
has_image program image well bounds small compiled sound means =
    let r = region_of_program program in
    let numberable = program_is_numberable program well in
    record {
      compiled = compiled;
      sound = sound;
      faithful = subst Faithful (sym compiled.is) (marks_are_right program well bounds small compiled.marks (may_go program image compiled));
      stores = subst (λ (made : Parts). image_stores made ≡ map (stored compiled.marks) (all_sites r)) (sym compiled.is) (stores_are_sites r numberable compiled.marks);
      counted = subst (HasAsMany r) (sym compiled.is) (images_have_as_many r numberable compiled.marks compiled.removable);
      means = means;
      small = small;
    }
