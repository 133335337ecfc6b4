use Rattle.std.proofs.Common.{slice_set, sym, ap, ◌∙◌}
use Rattle.std.proofs.lemmas.List.Edits.{map_over_more}
use Rattle.rc_loader.specs.Unmarked.{unmarked_function}
use Rattle.rc_loader.proofs.loading.unmark_functions.Goals as goal

pub loop-number-preserved : goal.loop-number-preserved
loop-number-preserved c =
    ap (slice_set c.loop-number.functions c.loop-number.number) c.unmark_function.ensures
    ∙ ap (λ f. slice_set c.loop-number.functions c.loop-number.number (unmarked_function f)) (sym c.index-functions-number.is)
    ∙ map_over_more unmarked_function c.args.functions.now c.loop-number.functions c.loop-number.number c.index-functions-number.result c.loop-number-test.true c.loop-number.invariant c.index-functions-number.is
