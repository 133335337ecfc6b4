use Rattle.std.proofs.Common.{rules, ℤ, ◌≡◌, ◌∙◌, sym, ap, subst, w64, SFits, to_z-of_z}
use Rattle.rc_core.specs.declared.operators.Operator.{Operator}
use Rattle.rc_core.specs.declared.ty.NumberType.{NumberType}
use Rattle.rc_core.specs.declared.ty.Signedness.{Signedness}
use Rattle.rc_core.specs.Arithmetic.{calculate, converted, type_of}
use Rattle.rc_core.specs.Evaluation.{number_in}
use Rattle.rc_core.specs.Execution.{changed}
use Rattle.rc_core.specs.Heap.{Value as HeapValue, Number}
use Rattle.rc_core.specs.Runs.{Run, Go, bind, computed}
use Rattle.rc_memory.specs.Kept.{KeptHeap}
use Rattle.rc_memory.specs.KeptWorld.{KeptWorld, kept}
use Rattle.rc_memory.specs.Leaving.{Leaves}
use Rattle.rc_values.specs.Values.{value_of}
use Rattle.rc_nodes.proofs.storing.change.Goals as goal

both : (operator : Operator) (s : Signedness) (a a' b b' : ℤ) → a ≡ a' → b ≡ b' → calculate operator s a b ≡ calculate operator s a' b'
both operator s a a' b b' p q = ap (λ z. calculate operator s z b) p ∙ ap (calculate operator s a') q

as_type : (t t' : NumberType) (n n' : ℤ) → t ≡ t' → n ≡ n' → converted t n ≡ converted t' n'
as_type t t' n n' p q = ap (λ u. converted u n) p ∙ ap (converted t') q

pub returns-in-Compute : goal.returns-in-Compute
returns-in-Compute c = λ program w at_heap.
    let operator = c.in-Compute.operator in
    let s = c.in-Compute.signedness in
    let old_fits : SFits w64 c.number_in.result = search rules in
    let left_fits : SFits w64 c.converted-left.result = search rules in
    let right_fits : SFits w64 c.number_in-in-Compute.result = search rules in
    let left : c.converted-left.result ≡ converted (type_of s) (number_in (value_of c.args.old)) = c.converted-left.ensures ∙ as_type _ _ _ _ c.type_of.ensures (to_z-of_z old_fits ∙ c.number_in.ensures) in
    let exact : c.calculate-exact.result ≡ calculate operator s (converted (type_of s) (number_in (value_of c.args.old))) (number_in (value_of c.args.value)) = c.calculate-exact.ensures ∙ both operator s _ _ _ _ (to_z-of_z left_fits ∙ left) (to_z-of_z right_fits ∙ c.number_in-in-Compute.ensures) in
    let P : Run KeptWorld HeapValue → Type 0 = λ run. Leaves value_of c.computed_as.result c.args.heap.now w run in
    let Q : KeptHeap → Type 0 = λ h. Leaves value_of c.computed_as.result h w (bind (computed c.args.line c.calculate-exact.result w) (λ n w1. Go (Number (converted c.in-Compute.from n)) w1)) in
    subst P
    (ap (λ o. bind (computed c.args.line o w) (λ n w1. Go (Number (converted c.in-Compute.from n)) w1)) exact
    ∙ sym (ap (λ by. changed kept program c.args.line by (value_of c.args.old) (value_of c.args.value) w) c.in-Compute.is))
    (subst Q at_heap (c.computed_as.ensures w))
