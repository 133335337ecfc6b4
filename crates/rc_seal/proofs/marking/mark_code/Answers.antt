use Rattle.std.proofs.Common.{slice_set, sym, ap, ◌∙◌, get_or, false}
use Rattle.rc_seal.specs.Marking.{marked_instruction}
use Rattle.rc_seal.proofs.Marks.{code_over}
use Rattle.rc_seal.proofs.marking.mark_code.Goals as goal

pub loop-at-preserved : goal.loop-at-preserved
loop-at-preserved c =
    ap (slice_set c.loop-at.code c.loop-at.at) (c.mark.ensures ∙ ap (λ b. marked_instruction b (get_or c.loop-at.code c.loop-at.at c.index-code-at.result)) c.mark_at.ensures)
    ∙ ap (λ i. slice_set c.loop-at.code c.loop-at.at (marked_instruction (get_or c.args.marks.now c.loop-at.at false) i)) (sym c.index-code-at.is)
    ∙ code_over c.args.marks.now c.args.code.now c.loop-at.code c.loop-at.at c.index-code-at.result c.loop-at-test.true c.loop-at.invariant c.index-code-at.is
