use Rattle.std.proofs.Common.{◌≡◌, map, sym, subst}
use Rattle.rc_code.specs.Soundness.{Sound}
use Rattle.rc_code.specs.declared.image.Parts.{Parts}
use Rattle.rc_elim.specs.Masks.{marks_in}
use Rattle.rc_numbering.specs.Small.{IsSmall}
use Rattle.rc_marks.proofs.Kept.{marked_sound}
use Rattle.rc_marks.specs.InOrder.{mask_of}
use Rattle.rc_marks.specs.Marked.{image_stores}
use Rattle.rc_marks.specs.Counted.{all_sites, stored}
use Rattle.rc_marks.proofs.Counted.{stores_are_sites}
use Rattle.rc_numbering.proofs.Programs.{rlang_is_numberable}
use Rattle.rc_numbering.specs.Numbered.{image_of}
use Rattle.rc_rlang.specs.Shapes.{rlang_of}
use Rattle.rc_unchecked.specs.Regions.{DoesWhatItsCodeDoes}
use Rattle.rc_unchecked.proofs.Faithful.{does_what_its_code_does}
use Rattle.rc_emit.proofs.Answered.{if_ok}
use Rattle.rc_emit.proofs.emission.emit.Goals as goal

pub returns-clause-small : goal.returns-clause-small
returns-clause-small c = if_ok c.marked.result (λ i e. subst IsSmall c.in_ok-bare.ensures.image c.in_ok-bare.ensures.small) c.marked.ensures

pub returns-clause-sound : goal.returns-clause-sound
returns-clause-sound c = let r = rlang_of c.args.code.now in if_ok c.marked.result (λ i e. subst Sound (sym e) (marked_sound r (mask_of (marks_in c.args.mask.now) r) (rlang_is_numberable r c.parts-parts.ensures.fits))) c.marked.ensures

pub returns-clause-stores : goal.returns-clause-stores
returns-clause-stores c =
    let r = rlang_of c.args.code.now in
    let marks = marks_in c.args.mask.now in
    if_ok c.marked.result (λ i e. subst (λ (image : Parts). image_stores image ≡ map (stored marks) (all_sites r)) (sym e) (stores_are_sites r (rlang_is_numberable r c.parts-parts.ensures.fits) marks)) c.marked.ensures

pub returns-clause-does : goal.returns-clause-does
returns-clause-does c =
    let r = rlang_of c.args.code.now in
    let marks = marks_in c.args.mask.now in
    let small : IsSmall (image_of r) = subst IsSmall c.in_ok-bare.ensures.image c.in_ok-bare.ensures.small in
    if_ok c.marked.result (λ i e. subst (DoesWhatItsCodeDoes r marks) (sym e) (does_what_its_code_does r c.parts-parts.ensures.fits small marks)) c.marked.ensures
