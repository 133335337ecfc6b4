-- A region dies to which nothing outside refers.
use Rattle.std.proofs.Common.{◌≡◌, ℕ, zero, suc, ◌+◌, Bool, true, false, ◌||◌, ◌&&◌, List, [], ◌∷◌, flat_map, filter, nat_eq, cond, if◌then◌else◌, refl, sym, ap, ◌∙◌, subst, arith, rules}
use Rattle.std.specs.List.{AllByRecursion as Every, AllZip}
use Rattle.rc_core.specs.Types.{CellKind}
use Rattle.rc_core.specs.Heap.{Value, Number, Null, Handle, Pointer, Object, Region, Heap, region_at, live, parent, objects, names}
use Rattle.rc_core.specs.Source.{has_child, values_of, values_outside, is_empty, killed}
use Rattle.rc_safety.proofs.Lists.{every_split}
use Rattle.rc_safety.specs.Soundness.{IsFresh, CellIsSound, ObjectIsSound, RegionIsSound, EachIsSound, HeapIsSound}
use Rattle.rc_safety.proofs.Heaps.{region_elsewhere, parent_same}
use Rattle.rc_safety.proofs.Changed.{same_number}

abbrev pub NamesNot : ℕ → Value → Type 0
NamesNot r v = names r v ≡ false

-- an empty filter kept none
pub none_kept : {A : Type 0} (test : A → Bool) (xs : List A) → (filter test xs ≡ []) → Every (λ x. test x ≡ false) xs
none_kept test [] e = tt
none_kept test (x ∷ xs) e = one (test x) refl e (none_kept test xs)
  where
    one : (b : Bool) → test x ≡ b → cond b (x ∷ filter test xs) (filter test xs) ≡ [] → (filter test xs ≡ [] → Every (λ x. test x ≡ false) xs) → Every (λ x. test x ≡ false) (x ∷ xs)
    one true q e rest = cc
    one false q e rest = (q, rest e)

pub empty_is_nil : (vs : List Value) → is_empty vs ≡ true → vs ≡ []
empty_is_nil [] e = refl
empty_is_nil (v ∷ vs) e = cc

or_false : (a b : Bool) → (a || b) ≡ false → (a ≡ false) × (b ≡ false)
or_false true b e = cc
or_false false b e = (refl, e)

not_child : (r : ℕ) (heap : Heap) → has_child r heap ≡ false → (q : ℕ) → live heap q ≡ true → nat_eq (parent heap q) r ≡ false
not_child r [] none q l = cc
not_child r (g ∷ heap) none zero l = ap (λ b. b && nat_eq g.parent r) (sym l) ∙ (or_false (g.alive && nat_eq g.parent r) _ none).0
not_child r (g ∷ heap) none (suc q) l = not_child r heap (or_false (g.alive && nat_eq g.parent r) _ none).1 q l

-- the values of a live region that is not r were looked at
outside_at : (P : Value → Type 0) (r at : ℕ) (heap : Heap) (q : ℕ) → live heap q ≡ true → nat_eq (at + q) r ≡ false → Every P (values_outside r at heap) → Every P (flat_map (λ (o : Object). o.values) (objects heap q))
outside_at P r at [] q l apart all = cc
outside_at P r at (g ∷ heap) zero l apart all =
    let e : at + 0 ≡ at = omega arith in
    let here = (every_split P (if nat_eq at r then [] else values_of g) (values_outside r (suc at) heap) all).0 in
    let looked : Every P (values_of g) = subst (λ b. Every P (if b then [] else values_of g)) (ap (λ n. nat_eq n r) (sym e) ∙ apart) here in
    subst (λ b. Every P (if b then flat_map (λ (o : Object). o.values) g.objects else [])) l looked
outside_at P r at (g ∷ heap) (suc q) l apart all =
    let e : suc at + q ≡ at + suc q = omega arith in
    outside_at P r (suc at) heap q l (ap (λ n. nat_eq n r) e ∙ apart) (every_split P (if nat_eq at r then [] else values_of g) (values_outside r (suc at) heap) all).1

values_each : (P : Value → Type 0) (os : List Object) → Every P (flat_map (λ (o : Object). o.values) os) → Every (λ (o : Object). Every P o.values) os
values_each P [] all = tt
values_each P (o ∷ os) all = let parts = every_split P o.values (flat_map (λ (o : Object). o.values) os) all in (parts.0, values_each P os parts.1)

-- the others live on
pub others_live : (heap : Heap) (r q : ℕ) → nat_eq q r ≡ false → live (killed heap r) q ≡ live heap q
others_live heap r q apart = ap (λ (g : Region). g.alive) (region_elsewhere heap r q _ apart)

-- and what does not name it is as fresh as it was
pub fresh_killed : (heap : Heap) (r : ℕ) (v : Value) → IsFresh (live heap) v → NamesNot r v → IsFresh (live (killed heap r)) v
fresh_killed heap r (Number n) fresh apart = refl
fresh_killed heap r Null fresh apart = refl
fresh_killed heap r (Handle q) fresh apart = others_live heap r q apart ∙ fresh
fresh_killed heap r (Pointer a) fresh apart = others_live heap r a.region apart ∙ fresh

pub all_fresh_killed : (heap : Heap) (r : ℕ) (vs : List Value) → Every (IsFresh (live heap)) vs → Every (NamesNot r) vs → Every (IsFresh (live (killed heap r))) vs
all_fresh_killed heap r [] fresh apart = tt
all_fresh_killed heap r (v ∷ vs) fresh apart = (fresh_killed heap r v fresh.0 apart.0, all_fresh_killed heap r vs fresh.1 apart.1)

dead : (heap : Heap) (r : ℕ) → live (killed heap r) r ≡ false
dead [] r = refl
dead (g ∷ heap) zero = refl
dead (g ∷ heap) (suc r) = dead heap r

pub killed_sound : (heap : Heap) (r : ℕ) → HeapIsSound heap → nat_eq r 0 ≡ false → has_child r heap ≡ false → Every (NamesNot r) (values_outside r 0 heap) → HeapIsSound (killed heap r)
killed_sound heap r sound inner childless apart = record {
  root = others_live heap r 0 (search rules) ∙ sound.root;
  regions = subst (λ parents. EachIsSound (live heap1) parents heap1) (sym ep) each;
}
  where
    heap1 : Heap
    heap1 = killed heap r

    ep : parent heap1 ≡ parent heap
    ep = parent_same heap r _ (λ g. refl)

    cells : (q : ℕ) (kinds : List CellKind) (vs : List Value) → AllZip (CellIsSound (live heap) (parent heap) q) kinds vs → Every (NamesNot r) vs → AllZip (CellIsSound (live heap1) (parent heap) q) kinds vs
    cells q [] [] all apart = tt
    cells q [] (v ∷ vs) all apart = all
    cells q (kind ∷ kinds) [] all apart = all
    cells q (kind ∷ kinds) (v ∷ vs) all apart = (record { fresh = fresh_killed heap r v all.0.fresh apart.0; fit = all.0.fit }, cells q kinds vs all.1 apart.1)

    each_object : (q : ℕ) (os : List Object) → Every (ObjectIsSound (live heap) (parent heap) q) os → Every (λ (o : Object). Every (NamesNot r) o.values) os → Every (ObjectIsSound (live heap1) (parent heap) q) os
    each_object q [] all apart = tt
    each_object q (o ∷ os) all apart = (cells q _ o.values all.0 apart.0, each_object q os all.1 apart.1)

    old : (q : ℕ) → nat_eq q r ≡ false → live heap q ≡ true → RegionIsSound (live heap1) (parent heap) q (region_at heap q)
    old q other l =
        let was = sound.regions q l in
        let e : 0 + q ≡ q = omega arith in
        record {
          parent_lives = others_live heap r (parent heap q) (not_child r heap childless q l) ∙ was.parent_lives;
          made_later = was.made_later;
          objects = each_object q (objects heap q) was.objects (values_each (NamesNot r) (objects heap q) (outside_at (NamesNot r) r 0 heap q l (ap (λ n. nat_eq n r) e ∙ other) apart));
        }

    at : (q : ℕ) (b : Bool) → nat_eq q r ≡ b → live heap1 q ≡ true → RegionIsSound (live heap1) (parent heap) q (region_at heap1 q)
    at q true e l = let gone : false ≡ true = sym (dead heap r) ∙ ap (live heap1) (sym (same_number q r e)) ∙ l in cc
    at q false e l = subst (RegionIsSound (live heap1) (parent heap) q) (sym (region_elsewhere heap r q _ e)) (old q e (sym (others_live heap r q e) ∙ l))

    each : EachIsSound (live heap1) (parent heap) heap1
    each q l = at q (nat_eq q r) refl l
