use Rattle.std.proofs.Common.{◌≡◌, sym, ap, ◌∙◌}
use Rattle.rc_core.specs.Shapes.{ty_of}
use Rattle.rc_rlang.specs.RegionFlow.{operation_effect, if_regional, moved, local_variable}
use Rattle.rc_rlang.specs.Shapes.{operation_of}
use Rattle.rc_graph.specs.Nodes.{effect_of}
use Rattle.rc_plans.proofs.Counting.{ok_more}
use Rattle.rc_graph.proofs.operations.operation.Goals as goal

pub returns-in-Copy : goal.returns-in-Copy
returns-in-Copy c structs f s =
    let ty = ty_of c.args.ty.now in
    let local = c.in-Copy.local in
    ok_more c.copy.result (λ effect. effect_of effect ≡ if_regional ty (moved c.in_ok-to.to (local_variable f local))) (λ effect. effect_of effect ≡ operation_effect f c.args.height ty (operation_of structs c.args.operation.now))
    (λ effect e. e ∙ ap (λ v. if_regional ty (moved v (local_variable f local))) (c.in_ok-to.ensures f s.numbers) ∙ sym (ap (λ o. operation_effect f c.args.height ty (operation_of structs o)) c.in-Copy.is))
    (c.copy.ensures structs f s)
