-- A heap in which the objects of one region change.
use Rattle.std.proofs.Common.{◌≡◌, ℕ, Bool, true, false, List, nat_eq, refl, sym, ap, ◌∙◌, subst, rules}
use Rattle.std.specs.List.{AllByRecursion as Every}
use Rattle.rc_core.specs.Heap.{Object, Heap, region_at, live, parent, objects, with_objects}
use Rattle.rc_safety.specs.Soundness.{ObjectIsSound, RegionIsSound, EachIsSound, HeapIsSound}
use Rattle.rc_safety.proofs.Heaps.{region_elsewhere, region_there, live_same, parent_same}

pub same_number : (a b : ℕ) → nat_eq a b ≡ true → a ≡ b
same_number a b e = search rules

pub same_lives : (heap : Heap) (r : ℕ) (change : List Object → List Object) → live (with_objects heap r change) ≡ live heap
same_lives heap r change = live_same heap r _ (λ g. refl)

pub same_parents : (heap : Heap) (r : ℕ) (change : List Object → List Object) → parent (with_objects heap r change) ≡ parent heap
same_parents heap r change = parent_same heap r _ (λ g. refl)

pub changed_sound : (heap : Heap) (r : ℕ) (change : List Object → List Object) → HeapIsSound heap → live heap r ≡ true
    → Every (ObjectIsSound (live heap) (parent heap) r) (change (objects heap r)) → HeapIsSound (with_objects heap r change)
changed_sound heap r change sound l new = record {
  root = ap (λ lives. lives 0) el ∙ sound.root;
  regions = subst (λ lives. EachIsSound lives (parent heap1) heap1) (sym el) (subst (λ parents. EachIsSound (live heap) parents heap1) (sym ep) each);
}
  where
    heap1 : Heap
    heap1 = with_objects heap r change

    el : live heap1 ≡ live heap
    el = same_lives heap r change

    ep : parent heap1 ≡ parent heap
    ep = same_parents heap r change

    old : RegionIsSound (live heap) (parent heap) r (region_at heap r)
    old = sound.regions r l

    there : RegionIsSound (live heap) (parent heap) r (region_at heap1 r)
    there = subst (RegionIsSound (live heap) (parent heap) r) (sym (region_there heap r _ l)) (record { parent_lives = old.parent_lives; made_later = old.made_later; objects = new })

    at : (q : ℕ) (b : Bool) → nat_eq q r ≡ b → live heap q ≡ true → RegionIsSound (live heap) (parent heap) q (region_at heap1 q)
    at q true e lq = subst (λ i. RegionIsSound (live heap) (parent heap) i (region_at heap1 i)) (sym (same_number q r e)) there
    at q false e lq = subst (RegionIsSound (live heap) (parent heap) q) (sym (region_elsewhere heap r q _ e)) (sound.regions q lq)

    each : EachIsSound (live heap) (parent heap) heap1
    each q lq = at q (nat_eq q r) refl (sym (ap (λ lives. lives q) el) ∙ lq)
