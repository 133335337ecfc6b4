use Rattle.std.proofs.Common.{slice_set, sym, ap, ◌∙◌}
use Rattle.std.proofs.lemmas.List.Edits.{map_over_more}
use Rattle.rc_loader.specs.Unmarked.{unmarked_instruction}
use Rattle.rc_loader.proofs.loading.unmark_code.Goals as goal

pub loop-at-preserved : goal.loop-at-preserved
loop-at-preserved c =
    ap (slice_set c.loop-at.code c.loop-at.at) c.unmark.ensures
    ∙ ap (λ i. slice_set c.loop-at.code c.loop-at.at (unmarked_instruction i)) (sym c.index-code-at.is)
    ∙ map_over_more unmarked_instruction c.args.code.now c.loop-at.code c.loop-at.at c.index-code-at.result c.loop-at-test.true c.loop-at.invariant c.index-code-at.is
