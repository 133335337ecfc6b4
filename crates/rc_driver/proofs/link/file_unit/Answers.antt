use Rattle.std.proofs.Common.{ℕ, List, refl, subst, sym}
use Rattle.rc_compile.specs.Acceptance.{too_long}
use Rattle.rc_linked_texts.specs.Texts.{unread}
use Rattle.rc_linked_texts.specs.Units.{FindsUnit}
use Rattle.rc_files.specs.Texts.{IsTextOf}
use Rattle.rc_files.specs.declared.text_files.FileText.{FileText}
use Rattle.rc_driver.proofs.link.file_unit.Goals as goal

pub returns-in-Whole : goal.returns-in-Whole
returns-in-Whole c = λ bytes is.
    (let same = subst (λ (one : FileText). IsTextOf one bytes) c.in-Whole.is is in
    subst (λ (text : List ℕ). FindsUnit text c.text_unit.result) (sym same) (subst (λ (text : List ℕ). FindsUnit text c.text_unit.result) c.as_slice.ensures c.text_unit.ensures))

pub returns-in-TooLong : goal.returns-in-TooLong
returns-in-TooLong c = λ bytes long. unread (too_long (subst (λ (one : FileText). IsTextOf one bytes) c.in-TooLong.is long) refl) tt
