use Rattle.std.proofs.Common.{◌≡◌, ◌∙◌, ◌+◌, ◌+ℤ◌, suc, pos, ap, sym, refl, rules, add-one, false, true}
use Rattle.std.specs.Prelude.{unsigned_abs}
use Rattle.rc_core.specs.Heap.{Pointer}
use Rattle.rc_core.specs.Evaluation.{toward}
use Rattle.rc_core.specs.Source.{is_index}
use Rattle.rc_pile.specs.Words.{value_of}
use Rattle.rc_pile.specs.Stacks.{giving}
use Rattle.rc_store.specs.Stores.{object_in}
use Rattle.rc_store.specs.Values.{address_of}
use Rattle.rc_calls.proofs.Leading.{leads_pile, some_same}
use Rattle.rc_calls.proofs.objects.move_pointer.Goals as goal

pub elements-count-requires-clause-object : goal.elements-count-requires-clause-object
elements-count-requires-clause-object g c =
    let r = c.requires.ready.2 in
    let store = g.H.Heap.store c.args.heap.now in
    let p = c.in-Ok.pointer in
    let e : value_of c.operand.result ≡ r.0 = some_same c.operand.ensures r.2.0 in
    let there = (r.5.2 (address_of p) (sym e ∙ c.in-Ok.ensures.0)).1 c.in-Ok.ensures.1 in
    there.0

pub returns-in_default : goal.returns-in_default
returns-in_default g c =
    let r = c.requires.ready.2 in
    let store = g.H.Heap.store c.args.heap.now in
    let p = c.in-Ok.pointer in
    let e : value_of c.operand.result ≡ r.0 = some_same c.operand.ensures r.2.0 in
    let there = (r.5.2 (address_of p) (sym e ∙ c.in-Ok.ensures.0)).1 c.in-Ok.ensures.1 in
    let n : c.number-n.result ≡ r.1 = c.number-n.ensures r.1 r.3.0 in
    let count : c.elements-count.result ≡ (object_in store.regions p.region p.object).count = c.elements-count.ensures in
    let toward_is : c.toward.result ≡ toward c.args.direction c.number-n.result = search rules in
    let same : is_index (pos p.index +ℤ c.toward.result) (c.elements-count.result + 1) ≡ is_index (pos p.index +ℤ toward c.args.direction r.1) (suc (object_in store.regions p.region p.object).count) =
    ap (λ z. is_index (pos p.index +ℤ z) (c.elements-count.result + 1)) (toward_is ∙ ap (toward c.args.direction) n)
    ∙ ap (is_index (pos p.index +ℤ toward c.args.direction r.1)) (add-one c.elements-count.result ∙ ap suc count) in
    let out : is_index (pos p.index +ℤ c.toward.result) (c.elements-count.result + 1) ≡ false = search rules in
    there.1.0 (sym same ∙ out)

pub returns-in-Some : goal.returns-in-Some
returns-in-Some g c =
    let r = c.requires.ready.2 in
    let store = g.H.Heap.store c.args.heap.now in
    let p = c.in-Ok.pointer in
    let e : value_of c.operand.result ≡ r.0 = some_same c.operand.ensures r.2.0 in
    let there = (r.5.2 (address_of p) (sym e ∙ c.in-Ok.ensures.0)).1 c.in-Ok.ensures.1 in
    let n : c.number-n.result ≡ r.1 = c.number-n.ensures r.1 r.3.0 in
    let count : c.elements-count.result ≡ (object_in store.regions p.region p.object).count = c.elements-count.ensures in
    let toward_is : c.toward.result ≡ toward c.args.direction c.number-n.result = search rules in
    let same : is_index (pos p.index +ℤ c.toward.result) (c.elements-count.result + 1) ≡ is_index (pos p.index +ℤ toward c.args.direction r.1) (suc (object_in store.regions p.region p.object).count) =
    ap (λ z. is_index (pos p.index +ℤ z) (c.elements-count.result + 1)) (toward_is ∙ ap (toward c.args.direction) n)
    ∙ ap (is_index (pos p.index +ℤ toward c.args.direction r.1)) (add-one c.elements-count.result ∙ ap suc count) in
    let inside : is_index (pos p.index +ℤ c.toward.result) (c.elements-count.result + 1) ≡ true = search rules in
    let index : c.in-Some.index ≡ unsigned_abs (pos p.index +ℤ c.toward.result) = search rules in
    leads_pile _ _ _ _ _ _ _ _ _ (there.1.1 (sym same ∙ inside))
    (c.give.ensures ∙ ap (λ u. giving 2 u c.args.pile.now) c.of_pointer.ensures
    ∙ ap (λ i. giving 2 (Pointer (record { region = p.region; object = p.object; index = i })) c.args.pile.now) (index ∙ ap (λ z. unsigned_abs (pos p.index +ℤ z)) (toward_is ∙ ap (toward c.args.direction) n))) refl
