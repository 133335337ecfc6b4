use Rattle.std.proofs.Common.{◌≡◌, suc, max, sym, ap, ◌∙◌, arith}
use Rattle.rc_rlang.specs.RegionVariables.{step_temporaries, steps_temporaries}
use Rattle.rc_rlang.specs.Shapes.{steps_of}
use Rattle.rc_rlang.proofs.CodeRows.{fork_is}
use Rattle.rc_plans.proofs.heights.+steps.Goals as goal

pub step-returns-in_ok-right-in-Fork : goal.step-returns-in_ok-right-in-Fork
step-returns-in_ok-right-in-Fork t c structs =
    let i = c.in-Fork in
    let own = c.in_ok-own-in-Fork.ensures in
    let n : c.in_ok-own-in-Fork.own ≡ suc i.temporary = omega (arith, own) in
    let l = c.in_ok-left-in-Fork.ensures structs ∙ ap (λ xs. steps_temporaries (steps_of structs xs)) c.as_slice.ensures.value in
    let r = c.in_ok-right-in-Fork.ensures structs ∙ ap (λ xs. steps_temporaries (steps_of structs xs)) c.as_slice-in-Fork.ensures.value in
    c.larger-in-Fork.ensures ∙ ap (λ m. max c.in_ok-own-in-Fork.own m) c.larger.ensures
    ∙ ap (λ m. max m (max c.in_ok-left-in-Fork.left c.in_ok-right-in-Fork.right)) n ∙ ap (λ m. max (suc i.temporary) (max m c.in_ok-right-in-Fork.right)) l ∙ ap (λ m. max (suc i.temporary) (max (steps_temporaries (steps_of structs i.yes.items)) m)) r
    ∙ sym (ap step_temporaries (fork_is structs c.args.step.now i.line i.temporary i.test i.result i.yes i.no i.is))
