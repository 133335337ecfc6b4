-- Sums over regions, objects and cells of which one changes.
use Rattle.std.proofs.Common.{◌≡◌, ◌≢◌, ◌<◌, ◌≤◌, ◌+◌, ◌∙◌, ℕ, zero, suc, Bool, true, false, cond, nat_eq, IsTrue, List, [], ◌∷◌, ◌++◌, length, map, set, get_or, replicate, Option, Some, None, refl, sym, ap, arith, rules}
use Rattle.std.specs.Prelude.{◌&&◌, zip, flat_map}
use Rattle.std.specs.List.{count_by, sum_by}
use Rattle.std.proofs.lemmas.Bool.{false≢true}
use Rattle.std.proofs.lemmas.List.{map-append}
use Rattle.std.proofs.lemmas.List.Sums.{count_by-le-length, sum_by-cons, sum_by-set, sum_by_push}
use Rattle.rc_core.specs.declared.layouts.Kind.{Kind}
use Rattle.rc_core.specs.declared.layouts.Kind.TheVariants.{Number as NumberKind, Region as RegionKind, Pointer as PointerKind}
use Rattle.rc_core.specs.Layout.{is_plain}
use Rattle.rc_core.specs.Heap.{Value, Null, names}
use Rattle.rc_store.specs.declared.cell.Place.{Place}
use Rattle.rc_store.specs.Kept.{KeptObject, KeptStore, KeptView, Regions, blank, object_refs, refs, view_refs}
use Rattle.rc_store.specs.Stores.{IsLive, all_cells, at_place, cell_place, cells_in, no_object, object_with, objects_in, or_none, is_view, joined, parent_in, region_at, size_of, view_in}
use Rattle.rc_store.specs.Stores as S
use Rattle.rc_store.specs.Values.{blank_of, is_counted}
use Rattle.rc_store.proofs.Along.{refs_along, refs_from}
use Rattle.rc_store.proofs.Changed.{objects_set}
use Rattle.rc_cells.specs.Follow.{IsThere, ReferencesFollow, cell_refs}

-- whether a counted cell names r
abbrev is_ref : ℕ → Kind × Value → Bool
is_ref r c = is_counted c.0 && names r c.1

abbrev one : ℕ → Kind → Value → ℕ
one r k v = cond (is_counted k && names r v) 1 0

pairs_refs : (r : ℕ) (k : Kind) (v : Value) (rest : List (Kind × Value)) → count_by (is_ref r) ((k, v) ∷ rest) ≡ one r k v + count_by (is_ref r) rest
pairs_refs r k v rest = sum_by-cons (λ (c : Kind × Value). cond (is_counted c.0 && names r c.1) 1 0) (k, v) rest

-- one value of an object changes
values_changed : (r : ℕ) (ks : List Kind) (vs : List Value) (i : ℕ) (v : Value) → i < length ks → i < length vs
    → count_by (is_ref r) (zip ks (set vs i v)) + one r (get_or ks i NumberKind) (get_or vs i Null) ≡ count_by (is_ref r) (zip ks vs) + one r (get_or ks i NumberKind) v
values_changed r [] vs i v kind value = absurd (omega (arith, kind))
values_changed r (k ∷ ks) [] i v kind value = absurd (omega (arith, value))
values_changed r (k ∷ ks) (u ∷ us) zero v kind value = omega (arith, pairs_refs r k v (zip ks us), pairs_refs r k u (zip ks us))
values_changed r (k ∷ ks) (u ∷ us) (suc i) v kind value =
    let rest = values_changed r ks us i v (omega (arith, kind)) (omega (arith, value)) in
    omega (arith, rest, pairs_refs r k u (zip ks (set us i v)), pairs_refs r k u (zip ks us))

and_false : (b : Bool) → b && false ≡ false
and_false true = refl
and_false false = refl

blank_names : (r : ℕ) (k : Kind) → is_counted k && names r (blank_of k) ≡ false
blank_names r NumberKind = refl
blank_names r RegionKind = refl
blank_names r (PointerKind note) = and_false (is_plain note)

blanks_refs : (r : ℕ) (ks : List Kind) → count_by (is_ref r) (zip ks (map blank_of ks)) ≡ 0
blanks_refs r [] = refl
blanks_refs r (k ∷ ks) = omega (arith, pairs_refs r k (blank_of k) (zip ks (map blank_of ks)), ap (λ b. cond {A = ℕ} b 1 0) (blank_names r k), blanks_refs r ks)

blank_again : (n : ℕ) (ks : List Kind) → flat_map (map blank_of) (replicate n ks) ≡ map blank_of (flat_map (λ k. k) (replicate n ks))
blank_again zero ks = refl
blank_again (suc n) ks = ap (λ vs. map blank_of ks ++ vs) (blank_again n ks) ∙ sym (map-append blank_of ks (flat_map (λ k. k) (replicate n ks)))

-- a new object names nothing
blank_refs : (r : ℕ) (kinds : List Kind) (n : ℕ) → object_refs r (blank kinds n) ≡ 0
blank_refs r kinds n = ap (λ vs. count_by (is_ref r) (zip (flat_map (λ k. k) (replicate n kinds)) vs)) (blank_again n kinds) ∙ blanks_refs r (flat_map (λ k. k) (replicate n kinds))

-- what a region adds to the references from outside
abbrev weight : (r at : ℕ) → Option KeptView → ℕ
weight r at v = cond (nat_eq at r) 0 (view_refs r v)

-- one of them changes
views_changed : (r at q n : ℕ) (views : Regions) (y : Option KeptView) → n ≡ at + q → q < length views → refs_from r at (set views q y) + weight r n (get_or views q None) ≡ refs_from r at views + weight r n y
views_changed r at q n [] y is inside = absurd (omega (arith, inside))
views_changed r at zero n (v ∷ views) y is inside =
    let here : n ≡ at = omega (arith, is) in
    omega (arith, ap (λ m. weight r m v) here, ap (λ m. weight r m y) here)
views_changed r at (suc q) n (v ∷ views) y is inside =
    let rest = views_changed r (suc at) q n views y (omega (arith, is)) (omega (arith, inside)) in
    omega (arith, rest)

cond_zero : (b : Bool) → cond {A = ℕ} b 0 0 ≡ 0
cond_zero true = refl
cond_zero false = refl

made_refs : (r at parent : ℕ) (views : Regions) → refs_from r at (views ++ Some (record { parent = parent; objects = [] }) ∷ []) ≡ refs_from r at views
made_refs r at parent [] = ap (λ n. n + 0) (cond_zero (nat_eq at r))
made_refs r at parent (v ∷ views) = ap (λ n. weight r at v + n) (made_refs r (suc at) parent views)

-- a live region is there
pub live_there : (regions : Regions) (q : ℕ) → IsTrue (S.live_in regions q) → q < length regions
live_there [] q live = absurd (false≢true live)
live_there (v ∷ views) zero live = omega arith
live_there (v ∷ views) (suc q) live = omega (arith, live_there views q live)

pub region_read : (regions : Regions) (q : ℕ) → region_at regions q ≡ get_or regions q None
region_read [] q = refl
region_read (v ∷ views) zero = refl
region_read (v ∷ views) (suc q) = region_read views q

some_view : (v : Option KeptView) → IsTrue (is_view v) → v ≡ Some (or_none v)
some_view None live = absurd (false≢true live)
some_view (Some v) live = refl

pub view_there : (regions : Regions) (q : ℕ) → IsTrue (S.live_in regions q) → get_or regions q None ≡ Some (view_in regions q)
view_there regions q live = sym (region_read regions q) ∙ some_view (region_at regions q) live

-- all references from regions but r
abbrev elsewhere : (r : ℕ) → Regions → ℕ
elsewhere r regions = sum_by (view_refs r) (set regions r None)

-- one region changes
region_changed : (r q : ℕ) (regions : Regions) (y : Option KeptView) → q < length regions → elsewhere r (set regions q y) + weight r q (get_or regions q None) ≡ elsewhere r regions + weight r q y
region_changed r q regions y inside = omega (arith, views_changed r 0 q q regions y (omega arith) inside, refs_along r (set regions q y), refs_along r regions)

-- the objects of a live region change
objects_changed : (r q : ℕ) (regions : Regions) (objects : List KeptObject) → IsTrue (S.live_in regions q)
    → elsewhere r (S.with_objects q objects regions) + cond (nat_eq q r) 0 (sum_by (object_refs r) (objects_in regions q)) ≡ elsewhere r regions + cond (nat_eq q r) 0 (sum_by (object_refs r) objects)
objects_changed r q regions objects live =
    let changed = region_changed r q regions (Some (record { parent = parent_in regions q; objects = objects })) (live_there regions q live) in
    omega (arith, ap (elsewhere r) (objects_set q objects regions live), changed, ap (λ v. weight r q v) (view_there regions q live))

cond_plus : (b : Bool) (m n k l : ℕ) → m + n ≡ k + l → cond b 0 m + cond b 0 n ≡ cond b 0 k + cond b 0 l
cond_plus true m n k l same = refl
cond_plus false m n k l same = same

allocated_refs : (s : KeptStore) (q n r : ℕ) (kinds : List Kind) → IsLive s q → refs (S.allocated q kinds n s) r ≡ refs s r
allocated_refs s q n r kinds live =
    let changed = objects_changed r q s.regions (objects_in s.regions q ++ blank kinds n ∷ []) live in
    let same : sum_by (object_refs r) (objects_in s.regions q ++ blank kinds n ∷ []) ≡ sum_by (object_refs r) (objects_in s.regions q) = omega (arith, sum_by_push (object_refs r) (objects_in s.regions q) (blank kinds n), blank_refs r kinds n) in
    omega (arith, changed, ap (λ m. cond (nat_eq q r) 0 m) same)

written_refs : (s : KeptStore) (p : Place) (v : Value) (r : ℕ) → IsThere s p
    → refs (S.written p v s) r + cell_refs r p.pointer.region (S.kind_at s p) (S.kept_value s p) ≡ refs s r + cell_refs r p.pointer.region (S.kind_at s p) v
written_refs s p v r there =
    let q = p.pointer.region in
    let objects = objects_in s.regions q in
    let o = at_place s p in
    let changed = objects_changed r q s.regions (S.objects_with p.pointer.object p.pointer.index p.cell v objects) there.place.live in
    let values = values_changed r o.kinds o.values (cell_place o p.pointer.index p.cell) v there.kind there.value in
    let sums = sum_by-set (object_refs r) objects p.pointer.object (object_with p.pointer.index p.cell v o) no_object there.place.object in
    let all : sum_by (object_refs r) (S.objects_with p.pointer.object p.pointer.index p.cell v objects) + one r (S.kind_at s p) (S.kept_value s p) ≡ sum_by (object_refs r) objects + one r (S.kind_at s p) v = omega (arith, values, sums) in
    let both = cond_plus (nat_eq q r) _ _ _ _ all in
    omega (arith, changed, both)

number_itself : (n : ℕ) → nat_eq n n ≡ true
number_itself n = search rules

number_other : (m n : ℕ) → m ≢ n → nat_eq m n ≡ false
number_other m n other = search (rules, other)

deleted_refs : (s : KeptStore) (d r : ℕ) → d < length s.regions → r ≢ d → refs (S.deleted d s) r + view_refs r (region_at s.regions d) ≡ refs s r
deleted_refs s d r inside other =
    let changed = region_changed r d s.regions None inside in
    let apart = number_other d r (λ e. other (sym e)) in
    omega (arith, changed, ap (λ b. cond b 0 (view_refs r (get_or s.regions d None))) apart, ap (λ b. cond {A = ℕ} b 0 0) apart, ap (view_refs r) (region_read s.regions d))

own_refs : (s : KeptStore) (d : ℕ) → d < length s.regions → refs (S.deleted d s) d ≡ refs s d
own_refs s d inside =
    let changed = region_changed d d s.regions None inside in
    omega (arith, changed, ap (λ b. cond b 0 (view_refs d (get_or s.regions d None))) (number_itself d), ap (λ b. cond {A = ℕ} b 0 0) (number_itself d))

zip_short : {A B : Type 0} (xs : List A) (ys : List B) → length (zip xs ys) ≤ length ys
zip_short [] ys = omega arith
zip_short (x ∷ xs) [] = omega arith
zip_short (x ∷ xs) (y ∷ ys) = omega (arith, zip_short xs ys)

object_few : (r : ℕ) (o : KeptObject) → object_refs r o ≤ size_of o
object_few r o = omega (arith, count_by-le-length (is_ref r) (zip o.kinds o.values), zip_short o.kinds o.values)

objects_few : (r : ℕ) (os : List KeptObject) → sum_by (object_refs r) os ≤ sum_by size_of os
objects_few r [] = omega arith
objects_few r (o ∷ os) = omega (arith, object_few r o, objects_few r os, sum_by-cons (object_refs r) o os, sum_by-cons size_of o os)

view_few : (r : ℕ) (v : Option KeptView) → view_refs r v ≤ cells_in v
view_few r None = omega arith
view_few r (Some v) = objects_few r v.objects

cond_few : (b : Bool) (m n : ℕ) → m ≤ n → cond b 0 m ≤ n
cond_few true m n few = omega arith
cond_few false m n few = few

views_few : (r at : ℕ) (views : Regions) → refs_from r at views ≤ sum_by cells_in views
views_few r at [] = omega arith
views_few r at (v ∷ views) = omega (arith, cond_few (nat_eq at r) _ _ (view_few r v), views_few r (suc at) views, sum_by-cons cells_in v views)

pub references_follow : ReferencesFollow
references_follow = record {
  made = λ s parent r. ap (λ n. n + count_by (names r) s.pins) (refs_along r _ ∙ made_refs r 0 parent s.regions ∙ sym (refs_along r s.regions));
  allocated = allocated_refs;
  written = written_refs;
  others = deleted_refs;
  own = own_refs;
  few = λ s r. omega (arith, refs_along r s.regions, views_few r 0 s.regions, count_by-le-length (names r) s.pins);
}
