use Rattle.std.proofs.Common.{slice_set, sym, ap, ◌∙◌, get_or, map, []}
use Rattle.rc_seal.specs.Marking.{bits_of, marked_function}
use Rattle.rc_seal.proofs.Marks.{functions_over}
use Rattle.rc_seal.proofs.marking.mark_functions.Goals as goal

pub loop-number-preserved : goal.loop-number-preserved
loop-number-preserved c =
    let marks = map bits_of c.args.marks.now in
    ap (slice_set c.loop-number.functions c.loop-number.number) (c.mark_function.ensures ∙ ap (λ ms. marked_function ms (get_or c.loop-number.functions c.loop-number.number c.index-functions-number.result)) c.marks_at.ensures)
    ∙ ap (λ f. slice_set c.loop-number.functions c.loop-number.number (marked_function (get_or marks c.loop-number.number []) f)) (sym c.index-functions-number.is)
    ∙ functions_over marks c.args.functions.now c.loop-number.functions c.loop-number.number c.index-functions-number.result c.loop-number-test.true c.loop-number.invariant c.index-functions-number.is
