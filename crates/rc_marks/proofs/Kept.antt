-- The image of region code with marks keeps the rules of code and of fields.
use Rattle.std.proofs.Common.{ℕ, Bool, false, sym, subst}
use Rattle.rc_rlang.specs.RegionCode.{Rlang}
use Rattle.rc_rlang.specs.IsRlang.{IsRlang}
use Rattle.rc_code.specs.Image.{FieldsFit}
use Rattle.rc_code.specs.Running.{reading_of}
use Rattle.rc_code.specs.Soundness.{ReadingIsSound, Sound}
use Rattle.rc_numbering.specs.Numbered.{image_of}
use Rattle.rc_numbering.specs.Means.{IsNumberable}
use Rattle.rc_numbering.specs.Small.{IsSmall}
use Rattle.rc_numbering.proofs.Sounds.{image_sound}
use Rattle.rc_numbering.proofs.Fields.{fields_fit}
use Rattle.rc_marks.specs.Marked.{marked_image}
use Rattle.rc_marks.proofs.Bare.{bare_image}
use Rattle.rc_marks.proofs.Standing.{marks_stand}
use Rattle.rc_marks.proofs.Rules.{sound_with_marks, fields_with_marks}

pub marked_sound : (r : Rlang) (mask : ℕ → Bool) → IsNumberable r → Sound (marked_image mask r)
marked_sound r mask numberable = sound_with_marks (marked_image mask r) (marks_stand r mask numberable) (subst (λ parts. ReadingIsSound false (reading_of parts)) (sym (bare_image r mask)) (image_sound r numberable))

pub marked_fields_fit : (r : Rlang) (mask : ℕ → Bool) → IsRlang r → IsNumberable r → IsSmall (image_of r) → FieldsFit (marked_image mask r)
marked_fields_fit r mask fit numberable small = fields_with_marks (marked_image mask r) (subst FieldsFit (sym (bare_image r mask)) (fields_fit r fit numberable small))
