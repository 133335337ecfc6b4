use Rattle.std.proofs.Common.{ap, ◌∙◌}
use Rattle.rc_elim.specs.Masks.{marks_in}
use Rattle.rc_rlang.specs.Shapes.{rlang_of}
use Rattle.rc_marking.specs.Marking.{with_marks}
use Rattle.rc_numbering.proofs.Programs.{rlang_is_numberable}
use Rattle.rc_marks.specs.InOrder.{marks_in_order}
use Rattle.rc_marking.proofs.Numbered.{marks_numbered}
use Rattle.rc_marking.proofs.images.marked.Goals as goal

pub returns : goal.returns
returns c =
    let r = rlang_of c.args.code.now in
    let bits = marks_in_order (marks_in c.args.mask.now) r in
    c.mark.ensures ∙ ap (λ bs. with_marks bs c.args.image) (c.as_slice.ensures.value ∙ c.in_ok-bits.ensures) ∙ ap (with_marks bits) c.requires.image ∙ marks_numbered r bits (rlang_is_numberable r c.parts-parts.ensures.fits)
