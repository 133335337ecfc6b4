use Rattle.std.specs.Prelude.{ℕ, slice_get, Result, Ok, Err, OnErr}
use Rattle.std.proofs.Common.{length, sym, ap, ◌∙◌, subst}
use Rattle.std.proofs.lemmas.Option.{slice_get_read}
use Rattle.smallvec.specs.SmallVec.{SmallVec}
use Rattle.rc_rlang.specs.LiveMaps.{IsMap, with_listed, IsGreater}
use Rattle.rc_rlang.proofs.Searching.{listed_is_map, set_same, set_listed}
use Rattle.rc_rlang.proofs.live_map.LiveMap.list.Goals as goal

pub invariant_of-self : goal.invariant_of-self
invariant_of-self c =
    let items = c.self.inside.lists.items in
    let h = c.index_mut.result.now in
    let there = slice_get_read items _ c.place_of-place.result h (ap length c.as_slice.ensures.value) c.place_of-place.ensures.inside c.index_mut.ensures.value in
    subst IsMap (sym (set_same items c.place_of-place.result h _ there (ap (λ (v : SmallVec ℕ). record { point = h.point; locals = v.items }) c.in_err-push.ensures.err))) c.self.invariant

same_on_error : {A E : Type 0} (r : Result A E) (P : Type 0) → P → OnErr r P
same_on_error (Ok x) P p = tt
same_on_error (Err e) P p = p

pub returns-in_err-push-clause-same : goal.returns-in_err-push-clause-same
returns-in_err-push-clause-same c =
    let items = c.self.inside.lists.items in
    let h = c.index_mut.result.now in
    let there = slice_get_read items _ c.place_of-place.result h (ap length c.as_slice.ensures.value) c.place_of-place.ensures.inside c.index_mut.ensures.value in
    same_on_error c.from_residual.result _ (set_same items c.place_of-place.result h _ there (ap (λ (v : SmallVec ℕ). record { point = h.point; locals = v.items }) c.in_err-push.ensures.err) ∙ c.self.view_is)

pub invariant_of-self-2 : goal.invariant_of-self-2
invariant_of-self-2 c =
    let items = c.self.inside.lists.items in
    let h = c.index_mut.result.now in
    let there = slice_get_read items _ c.place_of-place.result h (ap length c.as_slice.ensures.value) c.place_of-place.ensures.inside c.index_mut.ensures.value in
    let new = set_listed 0 items c.place_of-place.result c.args.point c.args.local h _ c.self.invariant.points there (c.place_of-place.ensures.there h (ap (λ xs. slice_get xs c.place_of-place.result) c.as_slice.ensures.value ∙ there)) (ap (λ l. record { point = h.point; locals = l }) c.in_ok-push.ensures.ok) in
    subst IsMap (sym new) (listed_is_map c.args.point c.args.local _ c.self.invariant (subst (λ ls. IsGreater ls c.args.point c.args.local) (sym c.self.view_is) c.requires))

pub returns-clause-listed : goal.returns-clause-listed
returns-clause-listed c =
    let items = c.self.inside.lists.items in
    let h = c.index_mut.result.now in
    let there = slice_get_read items _ c.place_of-place.result h (ap length c.as_slice.ensures.value) c.place_of-place.ensures.inside c.index_mut.ensures.value in
    set_listed 0 items c.place_of-place.result c.args.point c.args.local h _ c.self.invariant.points there (c.place_of-place.ensures.there h (ap (λ xs. slice_get xs c.place_of-place.result) c.as_slice.ensures.value ∙ there)) (ap (λ l. record { point = h.point; locals = l }) c.in_ok-push.ensures.ok)
    ∙ ap (with_listed c.args.point c.args.local) c.self.view_is
