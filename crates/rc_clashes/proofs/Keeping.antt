-- What is kept of earlier items, in the code's lists.
use Rattle.std.proofs.Common.{◌≡◌, ◌+◌, ℕ, zero, suc, List, [], ◌∷◌, ◌++◌, true, Some, None, refl, sym, ap, ◌∙◌, subst, map, if◌then◌else◌, is_some}
use Rattle.std.specs.Prelude.{get_or, slice_get, slice_set}
use Rattle.std.proofs.lemmas.List.{map-append}
use Rattle.std.specs.Borrow.{Bor}
use Rattle.std.specs.declared.vec.Vec.{Vec}
use Rattle.std.specs.declared.alloc.Global.{Global}
use Rattle.rc_syntax.specs.declared.tree.Item.{Item}
use Rattle.rc_syntax.specs.Shape.{item_of}
use Rattle.rc_syntax.specs.Tree as t
use Rattle.rc_scope.specs.Names.{with_name}
use Rattle.rc_deletes.specs.Kinds.{place_of}
use Rattle.rc_linking.specs.Clash.{disagrees, doubles, any}
use Rattle.rc_linking.specs.Links.{clash_in}
use Rattle.rc_clashes.specs.Standing.{name_of, covers, kept_of, StandFor}
use Rattle.rc_clashes.specs.Kept.{items_of, own_items}
use Rattle.rc_clashes.proofs.Standing.{kept_at, kept_nowhere, stand_new, stand_covered, stand_more}
use Rattle.rc_clashes.proofs.Clashing.{same_clash}

abbrev Text : Type 0
Text = List ℕ

abbrev Own : Type 0
Own = Vec (Bor Item) Global

own_there : (kept : List Own) (k : ℕ) (v : Own) (items : List t.Item) → slice_get (map own_items kept) k ≡ Some items → v ≡ get_or kept k v → own_items v ≡ items
own_there [] k v items h e = absurd cc
own_there (w ∷ ws) zero v items h e = ap own_items e ∙ (let same : own_items w ≡ items = cc in same)
own_there (w ∷ ws) (suc k) v items h e = own_there ws k v items h e

set_own : (kept : List Own) (k : ℕ) (x : Own) → map own_items (slice_set kept k x) ≡ slice_set (map own_items kept) k (own_items x)
set_own [] k x = refl
set_own (y ∷ ys) zero x = refl
set_own (y ∷ ys) (suc k) x = ap (λ zs. own_items y ∷ zs) (set_own ys k x)

set_same : (kept : List Own) (k : ℕ) (v : Own) → v ≡ get_or kept k v → slice_set kept k v ≡ kept
set_same [] k v e = refl
set_same (w ∷ ws) zero v e = ap (λ x. x ∷ ws) e
set_same (w ∷ ws) (suc k) v e = ap (λ xs. w ∷ xs) (set_same ws k v e)

module _ (ns : List Text) (kept : List Own) (earlier : List t.Item) (stand : StandFor ns (map own_items kept) earlier) where
  -- what is kept of a name is at its place
  module _ (x : t.Item) (k : ℕ) (found : place_of ns (name_of x).text ≡ Some k) (v : Own) (at : v ≡ get_or kept k v) where
    here : own_items v ≡ kept_of ns (map own_items kept) (name_of x).text
    here = own_there kept k v (kept_of ns (map own_items kept) (name_of x).text) (kept_at ns (map own_items kept) (name_of x).text k stand.aligned found) at

    pub found_clash : (items : List (Bor Item)) (file : ℕ) → items ≡ v.items → clash_in (items_of items) file (x ∷ []) ≡ clash_in earlier file (x ∷ [])
    found_clash items file same =
        ap (λ xs. clash_in xs file (x ∷ [])) (ap items_of same ∙ here)
        ∙ same_clash (kept_of ns (map own_items kept) (name_of x).text) earlier file x (stand.disagree x) (stand.double x)

    pub covered_there : (items : List (Bor Item)) → items ≡ v.items → true ≡ any (λ i. covers i x) (items_of items) → StandFor ns (map own_items (slice_set kept k v)) (earlier ++ x ∷ [])
    covered_there items same covered =
        subst (λ (xs : List Own). StandFor ns (map own_items xs) (earlier ++ x ∷ [])) (sym (set_same kept k v at))
        (stand_covered ns (map own_items kept) earlier x stand (ap (any (λ i. covers i x)) (sym (ap items_of same ∙ here)) ∙ sym covered))

  pub more_there : (item : Bor Item) (k : ℕ) → place_of ns (name_of (item_of item.now)).text ≡ Some k → (v w : Own) → v ≡ get_or kept k v → w.items ≡ v.items ++ item ∷ [] → StandFor ns (map own_items (slice_set kept k w)) (earlier ++ item_of item.now ∷ [])
  more_there item k found v w at more =
      let x = item_of item.now in
      let own : own_items w ≡ kept_of ns (map own_items kept) (name_of x).text ++ x ∷ [] = ap items_of more ∙ map-append (λ (i : Bor Item). item_of i.now) v.items (item ∷ []) ∙ ap (λ xs. xs ++ x ∷ []) (here x k found v at) in
      subst (λ (xs : List (List t.Item)). StandFor ns xs (earlier ++ x ∷ [])) (sym (set_own kept k w ∙ ap (slice_set (map own_items kept) k) own))
      (stand_more ns (map own_items kept) earlier x stand k found)

  -- nothing is kept of a new name
  module _ (x : t.Item) (none : place_of ns (name_of x).text ≡ None) where
    pub nothing_clashes : (file : ℕ) → None ≡ clash_in earlier file (x ∷ [])
    nothing_clashes file =
        let nothing = kept_nowhere ns (map own_items kept) (name_of x).text none in
        same_clash [] earlier file x (ap (any (λ i. disagrees i x)) (sym nothing) ∙ stand.disagree x) (ap (any (λ i. doubles i x)) (sym nothing) ∙ stand.double x)

  pub new_there : (item : Bor Item) → place_of ns (name_of (item_of item.now)).text ≡ None → (name : Text) (ms : List Text) (own : Own) (next : List Own) →
      name ≡ (name_of (item_of item.now)).text → ms ≡ with_name ns name → own.items ≡ item ∷ [] → next ≡ kept ++ own ∷ [] → StandFor ms (map own_items next) (earlier ++ item_of item.now ∷ [])
  new_there item none name ms own next called names alone behind =
      let x = item_of item.now in
      let text = (name_of x).text in
      let all : ms ≡ ns ++ text ∷ [] = names ∙ ap (with_name ns) called ∙ ap (λ o. if is_some o then ns else ns ++ text ∷ []) none in
      let lists : map own_items next ≡ map own_items kept ++ (x ∷ []) ∷ [] = ap (map own_items) behind ∙ map-append own_items kept (own ∷ []) ∙ ap (λ xs. map own_items kept ++ items_of xs ∷ []) alone in
      subst (λ (xs : List Text). StandFor xs (map own_items next) (earlier ++ x ∷ [])) (sym all)
      (subst (λ (xs : List (List t.Item)). StandFor (ns ++ text ∷ []) xs (earlier ++ x ∷ [])) (sym lists) (stand_new ns (map own_items kept) earlier x stand none))
