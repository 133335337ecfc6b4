use Rattle.std.proofs.Common.{◌≡◌, ◌+◌, ◌++◌, suc, drop, length, sym, ap, ◌∙◌, arith}
use Rattle.std.proofs.lemmas.List.{length-drop}
use Rattle.rc_core.specs.Shapes.{ty_of}
use Rattle.rc_rlang.specs.RegionFlow.{step_nodes, steps_nodes}
use Rattle.rc_rlang.specs.Shapes.{step_of, steps_of}
use Rattle.rc_rlang.proofs.CodeRows.{fork_is}
use Rattle.rc_graph.specs.Nodes.{effect_of, nodes_of}
use Rattle.rc_plans.specs.Plans.{fork_plan}
use Rattle.rc_plans.proofs.Counting.{steps_from}
use Rattle.rc_graph.proofs.Walking.{from_count, from_plan, fork_done, steps_more, last_step, on_ok}
use Rattle.rc_graph.proofs.walk.+steps.Goals as goal

pub step-returns-in_ok-steps-in-Fork : goal.step-returns-in_ok-steps-in-Fork
step-returns-in_ok-steps-in-Fork t c structs f s =
    let i = c.in-Fork in
    let here = c.args.here in
    let next = c.args.next in
    let plan = c.in_ok-plan-in-Fork.plan in
    let a = steps_of structs i.yes.items in
    let b = steps_of structs i.no.items in
    let planned = from_plan c.plan_fork.result _ _ _ c.in_ok-plan-in-Fork.ensures (c.plan_fork.ensures structs) ∙ ap (λ xs. fork_plan (steps_of structs xs) (steps_of structs c.as_slice-in-Fork.result.now) here next) c.as_slice.ensures.value ∙ ap (λ xs. fork_plan a (steps_of structs xs) here next) c.as_slice-in-Fork.ensures.value in
    let variable = c.in_ok-variable-in-Fork.ensures f s.numbers in
    let first = c.in_ok-steps-in-Fork.ensures structs f s ∙ ap (λ xs. nodes_of c.fork.new.out.items ++ steps_nodes f (steps_of structs xs) plan.at_yes next) c.as_slice-in-Fork-2.ensures.value in
    on_ok c.steps-in-Fork.result _ _
    (λ last. fork_done f i.line i.temporary (ty_of i.test) (ty_of i.result) a b here next plan (effect_of c.found_true-truth.result) (effect_of c.found_false-falsehood.result) (nodes_of c.args.out.now.items) (nodes_of c.fork.new.out.items) (nodes_of c.steps.new.out.items) (nodes_of c.steps-in-Fork.new.out.items)
    planned (c.found_true-truth.ensures f i.temporary variable) (c.found_false-falsehood.ensures f i.temporary variable) c.in_ok-fork-in-Fork.ensures first
    (last ∙ ap (λ xs. nodes_of c.steps.new.out.items ++ steps_nodes f (steps_of structs xs) plan.at_no next) c.as_slice-in-Fork-3.ensures.value)
    ∙ ap (λ one. nodes_of c.args.out.now.items ++ step_nodes f one here next) (sym (fork_is structs c.args.step.now i.line i.temporary i.test i.result i.yes i.no i.is)))
    (c.steps-in-Fork.ensures structs f s)

pub steps-loop-i-preserved : goal.steps-loop-i-preserved
steps-loop-i-preserved t c structs f s =
    let l = c.loop-i in
    let i = l.i in
    let xs = c.args.steps.now in
    let one = c.index-steps-i.result in
    let within = c.loop-i-test.true in
    let next = c.args.next in
    let behind = c.in_ok-behind.behind in
    let later = steps_of structs (drop (suc i) xs) in
    let short = length-drop (suc i) xs in
    let to = c.either-to.ensures ∙ last_step structs (drop (suc i) xs) (i + 1) (length xs) behind next (omega (arith, short)) (omega (arith, within)) in
    let j : suc i ≡ i + 1 = omega arith in
    steps_more f (step_of structs one) later l.at c.either-to.result behind next (nodes_of c.args.out.now.items ++ steps_nodes f (steps_of structs xs) c.args.here next) (nodes_of c.args.out.now.items) (nodes_of l.out.items) (nodes_of c.step.new.out.items)
    (l.invariant structs f s ∙ ap (λ ys. nodes_of l.out.items ++ steps_nodes f ys l.at next) (steps_from structs xs i one within c.index-steps-i.is)) (from_count c.past_step.result _ _ c.in_ok-behind.ensures (c.past_step.ensures structs)) to (c.in_ok-step.ensures structs f s)
    ∙ ap (λ k. nodes_of c.step.new.out.items ++ steps_nodes f (steps_of structs (drop k xs)) behind next) j
