-- The ledger and the heap, which grow together.
use Rattle.std.proofs.Common.{◌≡◌, ◌<◌, ℕ, zero, suc, List, [], ◌∷◌, ◌++◌, length, slice_get, get_or, Some, refl, sym, ap, subst, arith, length-append}
use Rattle.std.specs.List.{AllZip}
use Rattle.rc_core.specs.Programs.{Struct, Program}
use Rattle.rc_core.specs.Heap.{Object, Heap, no_object, objects, object_at, update, with_objects}
use Rattle.rc_core.specs.Source.{World, with_heap, killed}
use Rattle.rc_safety.proofs.Lists.{zip_more, zip_append}
use Rattle.rc_safety.proofs.Made.{new_region}
use Rattle.rc_kinds.specs.Suits.{Entry, Ledger, entry_at, ObjectSuits, RegionSuits, HeapSuits, Grows, WorldSuits}
use Rattle.rc_kinds.proofs.Zips.{zip_at, zip_length, zip_change, zip_both, slice_append, slice_last}
use Rattle.rc_kinds.proofs.Grown.{grows_on, region_still_suits, waiting_still_suit}

update_length : {A : Type 0} (xs : List A) (i : ℕ) (change : A → A) → length (update xs i change) ≡ length xs
update_length [] i change = refl
update_length (x ∷ xs) zero change = refl
update_length (x ∷ xs) (suc i) change = ap suc (update_length xs i change)

-- a region more
pub with_region : Ledger → Ledger
with_region l = l ++ [] ∷ []

pub region_grows : (l : Ledger) → Grows l (l ++ [] ∷ [])
region_grows l = record { regions = omega (arith, length-append l ([] ∷ [])); entries = by l }
  where
    by : (l : Ledger) (r o : ℕ) (e : Entry) → entry_at l r o ≡ Some e → entry_at (l ++ [] ∷ []) r o ≡ Some e
    by [] r o e h = cc
    by (x ∷ l) zero o e h = h
    by (x ∷ l) (suc r) o e h = by l r o e h

-- an object more
abbrev pub with_entry : Ledger → ℕ → Entry → Ledger
with_entry l r e = update l r (λ es. es ++ e ∷ [])

pub entry_grows : (l : Ledger) (r : ℕ) (e : Entry) → Grows l (with_entry l r e)
entry_grows l r e = record { regions = let q = update_length l r (λ es. es ++ e ∷ []) in omega (arith, q); entries = by l r }
  where
    by : (l : Ledger) (r q o : ℕ) (e1 : Entry) → entry_at l q o ≡ Some e1 → entry_at (with_entry l r e) q o ≡ Some e1
    by [] r q o e1 h = cc
    by (x ∷ l) zero zero o e1 h = slice_append x (e ∷ []) o e1 h
    by (x ∷ l) zero (suc q) o e1 h = h
    by (x ∷ l) (suc r) zero o e1 h = h
    by (x ∷ l) (suc r) (suc q) o e1 h = by l r q o e1 h

pub entry_last : (l : Ledger) (r n : ℕ) (e : Entry) → r < length l → length (get_or l r []) ≡ n → entry_at (with_entry l r e) r n ≡ Some e
entry_last [] r n e h q = absurd (omega (arith, h))
entry_last (x ∷ l) zero n e h q = slice_last x e n q
entry_last (x ∷ l) (suc r) n e h q = entry_last l r n e (omega (arith, h)) q

module _ (structs : List Struct) (l : Ledger) where
  -- the object that an entry tells of
  pub object_suits : (part : Ledger) (heap : Heap) (r o : ℕ) (e : Entry) → AllZip (RegionSuits structs l) part heap → entry_at part r o ≡ Some e → ObjectSuits structs l e (object_at heap r o)
  object_suits [] heap r o e all h = cc
  object_suits (es ∷ part) [] r o e all h = absurd all
  object_suits (es ∷ part) (g ∷ heap) zero o e all h = zip_at (ObjectSuits structs l) es g.objects o e no_object all.0 h
  object_suits (es ∷ part) (g ∷ heap) (suc r) o e all h = object_suits part heap r o e all.1 h

  -- as many objects as entries
  pub objects_counted : (part : Ledger) (heap : Heap) (r : ℕ) → AllZip (RegionSuits structs l) part heap → length (get_or part r []) ≡ length (objects heap r)
  objects_counted [] [] r all = refl
  objects_counted [] (g ∷ heap) r all = absurd all
  objects_counted (es ∷ part) [] r all = absurd all
  objects_counted (es ∷ part) (g ∷ heap) zero all = sym (zip_length (ObjectSuits structs l) es g.objects all.0)
  objects_counted (es ∷ part) (g ∷ heap) (suc r) all = objects_counted part heap r all.1

  -- one object changes, whose entry is known
  pub object_changed : (part : Ledger) (heap : Heap) (r o : ℕ) (e : Entry) (change : Object → Object) → entry_at part r o ≡ Some e → ((x : Object) → x ≡ object_at heap r o → ObjectSuits structs l e x → ObjectSuits structs l e (change x))
      → AllZip (RegionSuits structs l) part heap → AllZip (RegionSuits structs l) part (with_objects heap r (λ os. update os o change))
  object_changed [] heap r o e change h k all = cc
  object_changed (es ∷ part) [] r o e change h k all = absurd all
  object_changed (es ∷ part) (g ∷ heap) zero o e change h k all = (by es g.objects o h k all.0, all.1)
    where
      by : (es : List Entry) (os : List Object) (o : ℕ) → slice_get es o ≡ Some e → ((x : Object) → x ≡ get_or os o no_object → ObjectSuits structs l e x → ObjectSuits structs l e (change x)) → AllZip (ObjectSuits structs l) es os → AllZip (ObjectSuits structs l) es (update os o change)
      by [] os o h k all = cc
      by (e1 ∷ es) [] o h k all = absurd all
      by (e1 ∷ es) (x ∷ os) zero h k all = let q : e1 ≡ e = cc in (subst (λ d. ObjectSuits structs l d (change x)) (sym q) (k x refl (subst (λ d. ObjectSuits structs l d x) q all.0)), all.1)
      by (e1 ∷ es) (x ∷ os) (suc o) h k all = (all.0, by es os o h k all.1)
  object_changed (es ∷ part) (g ∷ heap) (suc r) o e change h k all = (all.0, object_changed part heap r o e change h k all.1)

pub heap_with_region : (structs : List Struct) (l : Ledger) (heap : Heap) (p : ℕ) → HeapSuits structs l heap → HeapSuits structs (l ++ [] ∷ []) (heap ++ new_region p ∷ [])
heap_with_region structs l heap p all =
    zip_append (RegionSuits structs (l ++ [] ∷ [])) l ([] ∷ []) heap (new_region p ∷ []) (zip_more (RegionSuits structs l) (RegionSuits structs (l ++ [] ∷ [])) (λ es g s. region_still_suits structs l (l ++ [] ∷ []) (region_grows l) es g s) l heap all) (tt, tt)

pub heap_with_object : (structs : List Struct) (l : Ledger) (heap : Heap) (r : ℕ) (e : Entry) (o : Object) → HeapSuits structs l heap → ObjectSuits structs (with_entry l r e) e o → HeapSuits structs (with_entry l r e) (with_objects heap r (λ os. os ++ o ∷ []))
heap_with_object structs l heap r e o all s =
    zip_both (RegionSuits structs (with_entry l r e)) l heap r _ _ (λ es g h. zip_append (ObjectSuits structs (with_entry l r e)) es (e ∷ []) g.objects (o ∷ []) h (s, tt))
    (zip_more (RegionSuits structs l) (RegionSuits structs (with_entry l r e)) (λ es g h. region_still_suits structs l (with_entry l r e) (entry_grows l r e) es g h) l heap all)

pub heap_killed : (structs : List Struct) (l : Ledger) (heap : Heap) (r : ℕ) → HeapSuits structs l heap → HeapSuits structs l (killed heap r)
heap_killed structs l heap r all = zip_change (RegionSuits structs l) l heap r _ (λ es g e q s. s) all

-- another heap and a longer ledger
pub world_with : (program : Program) (l l1 : Ledger) (w : World) (heap : Heap) → Grows l l1 → WorldSuits program l w → HeapSuits program.structs l1 heap → WorldSuits program l1 (with_heap w heap)
world_with program l l1 w heap g suits h = record { heap = h; waiting = waiting_still_suit l l1 g w.waiting suits.waiting; input = suits.input; begun = grows_on _ l l1 suits.begun g }
