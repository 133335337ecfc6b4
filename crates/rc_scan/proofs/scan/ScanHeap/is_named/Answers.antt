use Rattle.std.proofs.Common.{◌≡◌, ◌<◌, ◌+◌, ◌∙◌, None, refl, set, sym, ap, subst, arith}
use Rattle.std.specs.List.{sum_by, count_by}
use Rattle.rc_core.specs.Heap.{names}
use Rattle.rc_store.specs.Kept.{KeptStore, view_refs}
use Rattle.rc_scan.proofs.Zero.{none_is_zero}
use Rattle.rc_scan.proofs.scan.ScanHeap.is_named.Goals as goal

pub returns-then-any_other_names-clause-found : goal.returns-then-any_other_names-clause-found
returns-then-any_other_names-clause-found g c =
    let region = c.args.region in
    let regions = c.args.self.now.regions in
    let slots_are = c.slots.ensures ∙ ap (λ (x : KeptStore). x.regions) c.self.view_is in
    let some : 0 < sum_by (view_refs region) (set regions region None)
    = subst (λ views. 0 < sum_by (view_refs region) (set views region None)) slots_are (c.if-any_other_names.ensures.found.0 refl) in
    let all : 0 < sum_by (view_refs region) (set regions region None) + count_by (names region) c.args.self.now.pins = omega (arith, some) in
    ((λ _. all), (λ _. refl))

pub returns-clause-found : goal.returns-clause-found
returns-clause-found g c =
    let region = c.args.region in
    let regions = c.args.self.now.regions in
    let slots_are = c.slots.ensures ∙ ap (λ (x : KeptStore). x.regions) c.self.view_is in
    let none : sum_by (view_refs region) (set regions region None) ≡ 0
    = subst (λ views. sum_by (view_refs region) (set views region None) ≡ 0) slots_are (none_is_zero _ (λ some. (let is = c.if-any_other_names.ensures.found.1 some in cc))) in
    let pins : sum_by (view_refs region) (set regions region None) + count_by (names region) c.args.self.now.pins ≡ count_by (names region) c.args.self.now.pins = omega (arith, none) in
    let pins_are = ap (λ (x : KeptStore). x.pins) c.self.view_is in (
      (λ named. (let some : 0 < count_by (names region) c.args.self.now.pins = subst (λ vs. 0 < count_by (names region) vs) pins_are (c.name.ensures.0 named) in omega (arith, some, pins))),
      (λ some. (let some : 0 < count_by (names region) c.args.self.now.pins = omega (arith, some, pins) in c.name.ensures.1 (subst (λ vs. 0 < count_by (names region) vs) (sym pins_are) some))),
    )
