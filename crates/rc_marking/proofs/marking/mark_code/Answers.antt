use Rattle.std.proofs.Common.{refl, ap, sym, ◌∙◌, get_or, ◌++◌, take, drop, ◌+◌, slice_set, ◌<◌, length, subst}
use Rattle.rc_marking.specs.Marking.{left_by_code, left_by_one, marked_code, marked_one, note_at}
use Rattle.rc_marking.proofs.Stepping.{step_changed, step_behind}
use Rattle.rc_marking.proofs.marking.mark_code.Goals as goal

pub loop-at-preserved : goal.loop-at-preserved
loop-at-preserved c =
    let note = note_at c.args.parts.now in
    let x = get_or c.loop-at.code c.loop-at.at c.index-code-at.result in
    let set_is = ap (slice_set c.loop-at.code c.loop-at.at) c.mark_one-rest.ensures.marked in
    let within : c.loop-at.at < length c.loop-at.code = subst (λ n. c.loop-at.at < n) (sym c.loop-at.auto.code) c.loop-at-test.true in
    let left_is = c.mark_one-rest.ensures.left in (
      (λ k. take (c.loop-at.at + 1) (set_is k) ++ marked_code note (left_is k) (drop (c.loop-at.at + 1) (set_is k)))
          ∙ step_changed (marked_one note) (left_by_one note) (marked_code note) (left_by_code note) (λ s y ys. refl) (λ s y ys. refl) c.loop-at.rest.now c.loop-at.code (marked_code note c.args.bits.now c.args.code.now) c.loop-at.at x c.index-code-at.result within refl c.loop-at.invariant.0,
      (λ k. left_by_code note (left_is k) (drop (c.loop-at.at + 1) (set_is k)))
          ∙ step_behind (marked_one note) (left_by_one note) (marked_code note) (left_by_code note) (λ s y ys. refl) (λ s y ys. refl) c.loop-at.rest.now (left_by_code note c.args.bits.now c.args.code.now) c.loop-at.code c.loop-at.at x c.index-code-at.result within refl c.loop-at.invariant.1,
    )
