use Rattle.std.proofs.Common.{refl, ap, sym, ◌∙◌, get_or, ◌++◌, take, drop, ◌+◌, slice_set, ◌<◌, length, subst}
use Rattle.rc_marking.specs.Marking.{left_by_code, left_by_functions, marked_function, marked_functions, note_at}
use Rattle.rc_code.specs.declared.image.Function.{Function}
use Rattle.rc_marking.proofs.Stepping.{step_changed}
use Rattle.rc_marking.proofs.marking.mark_functions.Goals as goal

pub loop-number-preserved : goal.loop-number-preserved
loop-number-preserved c =
    let note = note_at c.args.parts.now in
    let at = c.loop-number.number in
    let x = get_or c.loop-number.functions at c.index-functions-number.result in
    let set_is = ap (slice_set c.loop-number.functions at) c.mark_function-rest.ensures.marked in
    let within : at < length c.loop-number.functions = subst (λ n. at < n) (sym c.loop-number.auto.functions) c.loop-number-test.true in
    let left_is = c.mark_function-rest.ensures.left in
    (λ k. take (at + 1) (set_is k) ++ marked_functions note (left_is k) (drop (at + 1) (set_is k)))
    ∙ step_changed (marked_function note) (λ bits (f : Function). left_by_code note bits f.code) (marked_functions note) (left_by_functions note) (λ s y ys. refl) (λ s y ys. refl) c.loop-number.rest.now c.loop-number.functions (marked_functions note c.args.bits.now c.args.functions.now) at x c.index-functions-number.result within refl c.loop-number.invariant
