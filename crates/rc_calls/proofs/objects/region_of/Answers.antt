use Rattle.std.proofs.Common.{◌≡◌, ◌∙◌, ap, refl, sym}
use Rattle.rc_core.specs.Heap.{Handle, Address}
use Rattle.rc_pile.specs.Words.{value_of}
use Rattle.rc_pile.specs.Stacks.{giving}
use Rattle.rc_store.specs.Values.{address_of}
use Rattle.rc_calls.proofs.Leading.{leads_pile, some_same, no_number, not_so, pointer_there}
use Rattle.rc_calls.proofs.objects.region_of.Goals as goal

pub returns : goal.returns
returns g c =
    let r = c.requires.ready.1 in
    let e : value_of c.operand-word.result ≡ r.0 = some_same c.operand-word.ensures r.1.0 in
    let a = pointer_there r.0 r.2 (λ n. not_so c.leads_nowhere.result (c.leads_nowhere.ensures (λ m h. no_number r.0 r.2 m (sym e ∙ h))) c.if-leads_nowhere.false (e ∙ n)) in
    let p : address_of c.pointer-pointer.result ≡ a.0 = c.pointer-pointer.ensures a.0 (e ∙ a.1) in
    leads_pile _ _ _ _ _ _ _ _ _ (r.4 a.0 a.1) (c.give.ensures ∙ ap (λ u. giving 1 u c.args.pile.now) c.of_region.ensures ∙ ap (λ (x : Address). giving 1 (Handle x.region) c.args.pile.now) p) refl
