use Rattle.std.proofs.Common.{rules, ℤ, ◌≡◌, ◌∙◌, sym, ap, subst, w64, SFits, to_z-of_z}
use Rattle.rc_core.specs.declared.operators.Operator.{Operator}
use Rattle.rc_core.specs.declared.ty.Signedness.{Signedness}
use Rattle.rc_core.specs.Arithmetic.{calculate}
use Rattle.rc_core.specs.Evaluation.{give_number}
use Rattle.rc_core.specs.Layout.{cells}
use Rattle.rc_core.specs.Runs.{Run, bind, computed}
use Rattle.rc_core.specs.Shapes.{expr_of, ty_of}
use Rattle.rc_nodes.specs.Coming.{Comes}
use Rattle.rc_memory.specs.KeptWorld.{KeptWorld, kept}
use Rattle.rc_nodes.specs.Stepping.{Doing, giving_next, second_step}
use Rattle.rc_values.specs.Values.{value_of}
use Rattle.rc_nodes.proofs.expressions.second_value_to_expression.Goals as goal

both : (operator : Operator) (s : Signedness) (a a' b b' : ℤ) → a ≡ a' → b ≡ b' → calculate operator s a b ≡ calculate operator s a' b'
both operator s a a' b b' p q = ap (λ z. calculate operator s z b) p ∙ ap (calculate operator s a') q

pub returns-in-Step : goal.returns-in-Step
returns-in-Step c = λ program f calls frames env w laid at_heap limited.
    let P : Run KeptWorld Doing → Type 0 = Comes c.step_pointer.result frames env c.args.heap.now w in
    subst P (sym (ap (λ e. second_step program f calls (expr_of e) (value_of c.args.first) (value_of c.args.second) frames env w) c.in-Step.is)) (c.step_pointer.ensures program frames env w at_heap)

pub returns-in-StepFrom : goal.returns-in-StepFrom
returns-in-StepFrom c = λ program f calls frames env w laid at_heap limited.
    let P : Run KeptWorld Doing → Type 0 = Comes c.step_pointer-in-StepFrom.result frames env c.args.heap.now w in
    subst P (sym (ap (λ e. second_step program f calls (expr_of e) (value_of c.args.first) (value_of c.args.second) frames env w) c.in-StepFrom.is)) (c.step_pointer-in-StepFrom.ensures program frames env w at_heap)

pub returns-in-Binary : goal.returns-in-Binary
returns-in-Binary c = λ program f calls frames env w laid at_heap limited.
    let left : SFits w64 c.number_in.result = search rules in
    let right : SFits w64 c.number_in-in-Binary.result = search rules in
    let P : Run KeptWorld Doing → Type 0 = Comes c.computed.result frames env c.args.heap.now w in
    subst P
    (ap (λ o. bind (bind (computed c.in-Binary.line o w) give_number) (giving_next program frames env))
    (c.calculate.ensures ∙ both c.in-Binary.operator c.in-Binary.signedness _ _ _ _ (to_z-of_z left ∙ c.number_in.ensures) (to_z-of_z right ∙ c.number_in-in-Binary.ensures))
    ∙ sym (ap (λ e. second_step program f calls (expr_of e) (value_of c.args.first) (value_of c.args.second) frames env w) c.in-Binary.is))
    (subst (λ h. Comes c.computed.result frames env h w (bind (bind (computed c.in-Binary.line c.calculate.result w) give_number) (giving_next program frames env))) at_heap (c.computed.ensures program frames env w))

pub returns-in-AllocateArray : goal.returns-in-AllocateArray
returns-in-AllocateArray c = λ program f calls frames env w laid at_heap limited.
    let count : SFits w64 c.number_in-count.result = search rules in
    let P : Run KeptWorld Doing → Type 0 = Comes c.allocate.result frames env c.allocate.new.heap w in
    subst P
    (ap (λ n. bind (kept.allocate c.in-AllocateArray.line (value_of c.args.first) n (cells program.structs (ty_of c.in-AllocateArray.element)) w) (giving_next program frames env)) (to_z-of_z count ∙ c.number_in-count.ensures)
    ∙ sym (ap (λ e. second_step program f calls (expr_of e) (value_of c.args.first) (value_of c.args.second) frames env w) c.in-AllocateArray.is))
    (c.allocate.ensures program frames env w laid at_heap limited)
