use Rattle.std.proofs.Common.{◌++◌, sym, ap, ◌∙◌}
use Rattle.std.specs.Prelude.{option_map}
use Rattle.rc_rlang.specs.RegionFlow.{steps_nodes, code_nodes, codes_nodes}
use Rattle.rc_rlang.specs.Shapes.{steps_of, act_of, test_of, code_of, codes_of}
use Rattle.rc_rlang.proofs.CodeRows.{block_is}
use Rattle.rc_graph.specs.Nodes.{nodes_of, ends_of}
use Rattle.rc_plans.specs.Plans.{act_plan, branch_plan, loop_plan, repeat_plan}
use Rattle.rc_graph.proofs.Walking.{from_plan, simple_done, branch_done, loop_done, repeat_done, on_ok}
use Rattle.rc_graph.proofs.walk.+code.Goals as goal

pub code-returns-in_ok-steps-in-Simple : goal.code-returns-in_ok-steps-in-Simple
code-returns-in_ok-steps-in-Simple t c structs f s =
    let i = c.in-Simple in
    let here = c.args.here in
    let k = ends_of c.args.ways.now in
    let old = nodes_of c.args.out.now.items in
    let plan = c.in_ok-plan-in-Simple.plan in
    let last = act_of structs i.last in
    on_ok c.act.result _ _
    (λ d. simple_done f (steps_of structs i.all.items) last here k plan old (nodes_of c.steps.new.out.items) (nodes_of c.act.new.out.items)
    (from_plan c.plan_act.result _ _ _ c.in_ok-plan-in-Simple.ensures (c.plan_act.ensures structs s.laid) ∙ ap (λ xs. act_plan (steps_of structs xs) last here k.next) c.as_slice.ensures.value)
    (c.in_ok-steps-in-Simple.ensures structs f s ∙ ap (λ xs. old ++ steps_nodes f (steps_of structs xs) here plan.behind) c.as_slice-in-Simple.ensures.value) d
    ∙ ap (λ one. old ++ code_nodes f one here k) (sym (ap (code_of structs) i.is)))
    (c.act.ensures structs f s)

pub code-returns-in-Block : goal.code-returns-in-Block
code-returns-in-Block t c structs f s =
    let i = c.in-Block in
    let k = ends_of c.args.ways.now in
    let old = nodes_of c.args.out.now.items in
    on_ok c.codes.result _ _
    (λ d. d ∙ ap (λ xs. old ++ codes_nodes f (codes_of structs xs) c.args.here k) c.as_slice-in-Block.ensures.value ∙ ap (λ one. old ++ code_nodes f one c.args.here k) (sym (block_is structs c.args.code.now i.body i.is)))
    (c.codes.ensures structs f s)

pub code-returns-in_ok-code-in-Branch : goal.code-returns-in_ok-code-in-Branch
code-returns-in_ok-code-in-Branch t c structs f s =
    let i = c.in-Branch in
    let here = c.args.here in
    let k = ends_of c.args.ways.now in
    let old = nodes_of c.args.out.now.items in
    let plan = c.in_ok-plan-in-Branch.plan in
    let all = steps_of structs i.all.items in
    let yes' = code_of structs i.yes.value in
    let no' = code_of structs i.no.value in
    let planned = from_plan c.plan_branch.result _ _ _ c.in_ok-plan-in-Branch.ensures (c.plan_branch.ensures structs s.laid) ∙ ap (λ xs. branch_plan (steps_of structs xs) (code_of structs c.deref.result.now) (code_of structs c.deref-in-Branch.result.now) here k.next) c.as_slice-in-Branch.ensures.value
    ∙ ap (λ x. branch_plan all (code_of structs x) (code_of structs c.deref-in-Branch.result.now) here k.next) c.deref.ensures ∙ ap (λ x. branch_plan all yes' (code_of structs x) here k.next) c.deref-in-Branch.ensures in
    on_ok c.code-in-Branch.result _ _
    (λ d. branch_done f all (test_of i.test) yes' no' here k plan old (nodes_of c.steps-in-Branch.new.out.items) (nodes_of c.branch-context.new.out.items) (nodes_of c.code.new.out.items) (nodes_of c.code-in-Branch.new.out.items) planned
    (c.in_ok-steps-in-Branch.ensures structs f s ∙ ap (λ xs. old ++ steps_nodes f (steps_of structs xs) here plan.at_test) c.as_slice-in-Branch-2.ensures.value)
    (c.in_ok-branch-in-Branch.ensures structs f s)
    (c.in_ok-code-in-Branch.ensures structs f s ∙ ap (λ x. nodes_of c.branch-context.new.out.items ++ code_nodes f (code_of structs x) plan.at_yes k) c.deref-in-Branch-2.ensures)
    (d ∙ ap (λ x. nodes_of c.code.new.out.items ++ code_nodes f (code_of structs x) plan.at_no k) c.deref-in-Branch-3.ensures)
    ∙ ap (λ one. old ++ code_nodes f one here k) (sym (ap (code_of structs) i.is)))
    (c.code-in-Branch.ensures structs f s)

pub code-returns-in_ok-code-in-Loop : goal.code-returns-in_ok-code-in-Loop
code-returns-in_ok-code-in-Loop t c structs f s =
    let i = c.in-Loop in
    let here = c.args.here in
    let k = ends_of c.args.ways.now in
    let old = nodes_of c.args.out.now.items in
    let plan = c.in_ok-plan-in-Loop.plan in
    let all = steps_of structs i.all.items in
    let test = option_map test_of i.test in
    let third = code_of structs i.third.value in
    let body = code_of structs i.body.value in
    let planned = from_plan c.plan_loop.result _ _ _ c.in_ok-plan-in-Loop.ensures (c.plan_loop.ensures structs s.laid) ∙ ap (λ xs. loop_plan (steps_of structs xs) test (code_of structs c.deref-in-Loop.result.now) (code_of structs c.deref-in-Loop-2.result.now) here) c.as_slice-in-Loop.ensures.value
    ∙ ap (λ x. loop_plan all test (code_of structs x) (code_of structs c.deref-in-Loop-2.result.now) here) c.deref-in-Loop.ensures ∙ ap (λ x. loop_plan all test third (code_of structs x) here) c.deref-in-Loop-2.ensures in
    let m1 = nodes_of c.go-in-Loop.new.out.items in
    let m3 = nodes_of c.condition.new.out.items in
    let m4 = nodes_of c.code-in-Loop.new.out.items in
    on_ok c.code-in-Loop-2.result _ _
    (λ d. loop_done f i.line all test third body here k plan old m1 (nodes_of c.steps-in-Loop.new.out.items) m3 m4 (nodes_of c.code-in-Loop-2.new.out.items) planned
    c.in_ok-go-in-Loop.ensures
    (c.in_ok-steps-in-Loop.ensures structs f s ∙ ap (λ xs. m1 ++ steps_nodes f (steps_of structs xs) plan.first plan.at_test) c.as_slice-in-Loop-2.ensures.value)
    (c.in_ok-condition-in-Loop.ensures structs f s)
    (c.in_ok-code-in-Loop.ensures structs f s ∙ ap (λ x. m3 ++ code_nodes f (code_of structs x) plan.at_body (ends_of c.round.result)) c.deref-in-Loop-3.ensures ∙ ap (λ w. m3 ++ code_nodes f body plan.at_body (ends_of w)) c.round.ensures)
    (d ∙ ap (λ x. m4 ++ code_nodes f (code_of structs x) plan.at_third (ends_of c.then.result)) c.deref-in-Loop-4.ensures ∙ ap (λ w. m4 ++ code_nodes f third plan.at_third (ends_of w)) c.then.ensures)
    ∙ ap (λ one. old ++ code_nodes f one here k) (sym (ap (code_of structs) i.is)))
    (c.code-in-Loop-2.ensures structs f s)

pub code-returns-in_ok-steps-in-Repeat : goal.code-returns-in_ok-steps-in-Repeat
code-returns-in_ok-steps-in-Repeat t c structs f s =
    let i = c.in-Repeat in
    let here = c.args.here in
    let k = ends_of c.args.ways.now in
    let old = nodes_of c.args.out.now.items in
    let plan = c.in_ok-plan-in-Repeat.plan in
    let all = steps_of structs i.all.items in
    let body = code_of structs i.body.value in
    let planned = from_plan c.plan_repeat.result _ _ _ c.in_ok-plan-in-Repeat.ensures (c.plan_repeat.ensures structs s.laid) ∙ ap (λ x. repeat_plan (code_of structs x) (steps_of structs c.as_slice-in-Repeat.result.now) here) c.deref-in-Repeat.ensures
    ∙ ap (λ xs. repeat_plan body (steps_of structs xs) here) c.as_slice-in-Repeat.ensures.value in
    let m1 = nodes_of c.go-in-Repeat.new.out.items in
    let m2 = nodes_of c.code-in-Repeat.new.out.items in
    on_ok c.branch-context-in-Repeat.result _ _
    (λ d. repeat_done f i.line body all (test_of i.test) here k plan old m1 m2 (nodes_of c.steps-in-Repeat.new.out.items) (nodes_of c.branch-context-in-Repeat.new.out.items) planned
    c.in_ok-go-in-Repeat.ensures
    (c.in_ok-code-in-Repeat.ensures structs f s ∙ ap (λ x. m1 ++ code_nodes f (code_of structs x) plan.first (ends_of c.round-in-Repeat.result)) c.deref-in-Repeat-2.ensures ∙ ap (λ w. m1 ++ code_nodes f body plan.first (ends_of w)) c.round-in-Repeat.ensures)
    (c.in_ok-steps-in-Repeat.ensures structs f s ∙ ap (λ xs. m2 ++ steps_nodes f (steps_of structs xs) plan.at_tail plan.at_test) c.as_slice-in-Repeat-2.ensures.value)
    d
    ∙ ap (λ one. old ++ code_nodes f one here k) (sym (ap (code_of structs) i.is)))
    (c.branch-context-in-Repeat.ensures structs f s)
