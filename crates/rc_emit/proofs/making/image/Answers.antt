use Rattle.std.proofs.Common.{ap, sym, subst, ◌∙◌}
use Rattle.rc_code.specs.Image.{FieldsFit}
use Rattle.rc_lines.specs.ProgramCode.{IsProgramCode}
use Rattle.rc_rlang.specs.Shapes.{rlang_of}
use Rattle.rc_numbering.specs.Small.{IsSmall}
use Rattle.rc_numbering.proofs.Fields.{fields_fit}
use Rattle.rc_numbering.specs.Numbered.{image_of}
use Rattle.rc_numbering.proofs.Programs.{rlang_is_numberable}
use Rattle.rc_emit.specs.Cells.{BacksFit}
use Rattle.rc_emit.proofs.Backs.{backs_fit}
use Rattle.rc_emit.proofs.making.image.Goals as goal

pub image_parts-requires-clause-backs : goal.image_parts-requires-clause-backs
image_parts-requires-clause-backs c = subst BacksFit (ap rlang_of (sym c.parts-parts.ensures.parts)) (backs_fit (rlang_of c.args.code.now) (rlang_is_numberable (rlang_of c.args.code.now) c.parts-parts.ensures.fits))

pub new-requires : goal.new-requires
new-requires c =
    let r = rlang_of c.args.code.now in
    let is = c.in_ok-parts.ensures.is ∙ ap (λ p. image_of (rlang_of p)) c.parts-parts.ensures.parts in
    subst FieldsFit (sym is) (fields_fit r c.parts-parts.ensures.fits (rlang_is_numberable r c.parts-parts.ensures.fits) (subst IsSmall is c.in_ok-parts.ensures.small))

pub returns-clause-image : goal.returns-clause-image
returns-clause-image c = c.new.ensures ∙ c.in_ok-parts.ensures.is ∙ ap (λ p. image_of (rlang_of p)) c.parts-parts.ensures.parts

pub returns-clause-small : goal.returns-clause-small
returns-clause-small c = subst IsSmall (sym c.new.ensures) c.in_ok-parts.ensures.small

pub image_parts-requires-clause-code : goal.image_parts-requires-clause-code
image_parts-requires-clause-code c =
    subst (λ cs. IsProgramCode (rlang_of c.parts-parts.result.now) cs) (sym c.as_slice-3.ensures.value) (subst (λ p. IsProgramCode (rlang_of p) c.args.functions.items) (sym c.parts-parts.ensures.parts) c.requires.functions)
