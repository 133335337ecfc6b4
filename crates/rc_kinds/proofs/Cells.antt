-- One cell is written, in one object of a heap.
use Rattle.std.proofs.Common.{◌≡◌, ◌-◌, ℕ, zero, suc, pos, ◌+ℤ◌, true, List, [], ◌∷◌, length, take, drop, map, get_or, refl, sym, ap, ◌∙◌, subst, inl, inr, arith}
use Rattle.std.proofs.Math.Path.{fun_ext}
use Rattle.std.specs.Prelude.{unsigned_abs}
use Rattle.std.specs.List.{list_all}
use Rattle.rc_base.specs.declared.ends.Trap.TheVariants.{Bounds}
use Rattle.rc_core.specs.declared.ty.Note.{Note}
use Rattle.rc_core.specs.Layout.{Layout, note_of}
use Rattle.rc_core.specs.Heap.{Value, Pointer, Address, Object, Heap, no_object, live, parent, object_at, update, with_objects, fits}
use Rattle.rc_core.specs.Runs.{Run, tested, touching, Target}
use Rattle.rc_core.specs.Source.{World, at_address, is_index, chosen_in_range, cell_of, Spot, object_of, place_of, values_from, at_spot, unfit, fitting, overwritten, written}
use Rattle.rc_kinds.specs.Copies.{Apart, AreApart}
use Rattle.rc_kinds.proofs.Moves.{overwritten_nothing, overwritten_first, read_after}

abbrev no_values : List Value
no_values = []

take_nothing : (n : ℕ) → take n no_values ≡ no_values
take_nothing zero = refl
take_nothing (suc n) = refl

-- a change of one object
abbrev pub with_object : Heap → (r o : ℕ) → (Object → Object) → Heap
with_object heap r o change = with_objects heap r (λ os. update os o change)

-- what the change keeps of each object is as it was
pub still : {B : Type 0} (get : Object → B) (change : Object → Object) → ((x : Object) → get (change x) ≡ get x) → (heap : Heap) (r o q p : ℕ) → get (object_at (with_object heap r o change) q p) ≡ get (object_at heap q p)
still get change keeps [] r o q p = refl
still get change keeps (g ∷ heap) zero o zero p = by g.objects o p
  where
    by : (os : List Object) (o p : ℕ) → get (get_or (update os o change) p no_object) ≡ get (get_or os p no_object)
    by [] o p = refl
    by (x ∷ os) zero zero = keeps x
    by (x ∷ os) zero (suc p) = refl
    by (x ∷ os) (suc o) zero = refl
    by (x ∷ os) (suc o) (suc p) = by os o p
still get change keeps (g ∷ heap) zero o (suc q) p = refl
still get change keeps (g ∷ heap) (suc r) o zero p = refl
still get change keeps (g ∷ heap) (suc r) o (suc q) p = still get change keeps heap r o q p

pub changed_there : (change : Object → Object) → change no_object ≡ no_object → (heap : Heap) (r o : ℕ) → object_at (with_object heap r o change) r o ≡ change (object_at heap r o)
changed_there change none [] r o = sym none
changed_there change none (g ∷ heap) zero o = by g.objects o
  where
    by : (os : List Object) (o : ℕ) → get_or (update os o change) o no_object ≡ change (get_or os o no_object)
    by [] o = sym none
    by (x ∷ os) zero = refl
    by (x ∷ os) (suc o) = by os o
changed_there change none (g ∷ heap) (suc r) o = changed_there change none heap r o

pub changed_elsewhere : (change : Object → Object) (heap : Heap) (r o q p : ℕ) → (r ≡ q → o ≡ p → ⊥) → object_at (with_object heap r o change) q p ≡ object_at heap q p
changed_elsewhere change [] r o q p other = refl
changed_elsewhere change (g ∷ heap) zero o zero p other = by g.objects o p (other refl)
  where
    by : (os : List Object) (o p : ℕ) → (o ≡ p → ⊥) → get_or (update os o change) p no_object ≡ get_or os p no_object
    by [] o p other = refl
    by (x ∷ os) zero zero other = absurd (other refl)
    by (x ∷ os) zero (suc p) other = refl
    by (x ∷ os) (suc o) zero other = refl
    by (x ∷ os) (suc o) (suc p) other = by os o p (λ e. other (ap suc e))
changed_elsewhere change (g ∷ heap) zero o (suc q) p other = refl
changed_elsewhere change (g ∷ heap) (suc r) o zero p other = refl
changed_elsewhere change (g ∷ heap) (suc r) o (suc q) p other = changed_elsewhere change heap r o q p (λ e. other (ap suc e))

pub changed_twice : (f g : Object → Object) (heap : Heap) (r o : ℕ) → with_object (with_object heap r o f) r o g ≡ with_object heap r o (λ x. g (f x))
changed_twice f g [] r o = refl
changed_twice f g (x ∷ heap) zero o = ap (λ os. record x { objects = os } ∷ heap) (by x.objects o)
  where
    by : (os : List Object) (o : ℕ) → update (update os o f) o g ≡ update os o (λ x. g (f x))
    by [] o = refl
    by (y ∷ os) zero = refl
    by (y ∷ os) (suc o) = ap (λ xs. y ∷ xs) (by os o)
changed_twice f g (x ∷ heap) (suc r) o = ap (λ h. x ∷ h) (changed_twice f g heap r o)

pub changed_same : (f g : Object → Object) → ((x : Object) → f x ≡ g x) → (heap : Heap) (r o : ℕ) → with_object heap r o f ≡ with_object heap r o g
changed_same f g e heap r o = ap (λ c. with_object heap r o c) (fun_ext e)

pub unchanged : (f : Object → Object) → ((x : Object) → f x ≡ x) → (heap : Heap) (r o : ℕ) → with_object heap r o f ≡ heap
unchanged f e [] r o = refl
unchanged f e (x ∷ heap) zero o = ap (λ os. record x { objects = os } ∷ heap) (by x.objects o)
  where
    by : (os : List Object) (o : ℕ) → update os o f ≡ os
    by [] o = refl
    by (y ∷ os) zero = ap (λ z. z ∷ os) (e y)
    by (y ∷ os) (suc o) = ap (λ xs. y ∷ xs) (by os o)
unchanged f e (x ∷ heap) (suc r) o = ap (λ h. x ∷ h) (unchanged f e heap r o)

-- what a write does to its object
abbrev pub overwrite : Spot → List Value → Object → Object
overwrite spot vs o = record o { values = overwritten (place_of o spot) (take (length o.layout - spot.cell) vs) o.values }

abbrev pub next : Spot → Spot
next spot = record spot { cell = suc spot.cell }

overwrite_first : (spot : Spot) (v : Value) (vs : List Value) (o : Object) → overwrite spot (v ∷ vs) o ≡ overwrite (next spot) vs (overwrite spot (v ∷ []) o)
overwrite_first spot v vs o = ap (λ us. record o { values = us }) (by (length o.layout - spot.cell) (length o.layout - suc spot.cell) refl refl)
  where
    at : ℕ
    at = place_of o spot

    step : place_of o (next spot) ≡ suc at
    step = omega arith

    by : (n m : ℕ) → length o.layout - spot.cell ≡ n → length o.layout - suc spot.cell ≡ m → overwritten at (take n (v ∷ vs)) o.values ≡ overwritten (place_of o (next spot)) (take m vs) (overwritten at (take n (v ∷ [])) o.values)
    by zero m e1 e2 =
        let z : m ≡ 0 = omega (arith, e1, e2) in
        subst (λ k. overwritten at [] o.values ≡ overwritten (place_of o (next spot)) (take k vs) (overwritten at [] o.values)) (sym z)
        (sym (overwritten_nothing (place_of o (next spot)) (overwritten at [] o.values)))
    by (suc n) m e1 e2 =
        let z : m ≡ n = omega (arith, e1, e2) in
        subst (λ k. overwritten at (v ∷ take n vs) o.values ≡ overwritten (place_of o (next spot)) (take k vs) (overwritten at (v ∷ take n []) o.values)) (sym z)
        (subst (λ q. overwritten at (v ∷ take n vs) o.values ≡ overwritten q (take n vs) (overwritten at (v ∷ take n []) o.values)) (sym step)
        (overwritten_first at v (take n vs) o.values ∙ ap (λ us. overwritten (suc at) (take n vs) (overwritten at (v ∷ us) o.values)) (sym (take_nothing n))))

pub written_first : (spot : Spot) (v : Value) (vs : List Value) (heap : Heap) → written spot (v ∷ vs) heap ≡ written (next spot) vs (written spot (v ∷ []) heap)
written_first spot v vs heap =
    changed_same (overwrite spot (v ∷ vs)) (λ o. overwrite (next spot) vs (overwrite spot (v ∷ []) o)) (overwrite_first spot v vs) heap spot.region spot.object
    ∙ sym (changed_twice (overwrite spot (v ∷ [])) (overwrite (next spot) vs) heap spot.region spot.object)

pub written_nothing : (spot : Spot) (heap : Heap) → written spot [] heap ≡ heap
written_nothing spot heap = unchanged (overwrite spot []) by heap spot.region spot.object
  where
    by : (o : Object) → overwrite spot [] o ≡ o
    by o = ap (λ us. record o { values = us }) (ap (λ us. overwritten (place_of o spot) us o.values) (take_nothing (length o.layout - spot.cell)) ∙ overwritten_nothing (place_of o spot) o.values)

none_overwritten : (spot : Spot) (vs : List Value) → overwrite spot vs no_object ≡ no_object
none_overwritten spot vs = ap (λ us. record no_object { values = us }) (by (place_of no_object spot) (take (length no_object.layout - spot.cell) vs))
  where
    by : (at : ℕ) (new : List Value) → overwritten at new [] ≡ []
    by zero new = refl
    by (suc at) new = refl

-- what is read behind a write is what was there before
pub read_next : (size : ℕ) (heap : Heap) (a b : Spot) (v : Value) → AreApart (suc size) heap a b → values_from (written b (v ∷ []) heap) (next a) size ≡ values_from heap (next a) size
read_next size heap a b v (inl other) = ap (λ (o : Object). take size (drop (place_of o (next a)) o.values)) (changed_elsewhere (overwrite b (v ∷ [])) heap b.region b.object a.region a.object other)
read_next size heap a b v (inr s) =
    let o : Object = object_of heap a in
    let there : object_of (written b (v ∷ []) heap) a ≡ overwrite b (v ∷ []) o =
    subst (λ q. object_at (written b (v ∷ []) heap) q a.object ≡ overwrite b (v ∷ []) (object_at heap q a.object)) s.0
    (subst (λ q. object_at (written b (v ∷ []) heap) b.region q ≡ overwrite b (v ∷ []) (object_at heap b.region q)) s.1
    (changed_there (overwrite b (v ∷ [])) (none_overwritten b (v ∷ [])) heap b.region b.object)) in
    ap (λ (x : Object). take size (drop (place_of x (next a)) x.values)) there ∙ by o s.2 (length o.layout - b.cell)
  where
    by : (o : Object) → Apart (suc size) (place_of o a) (place_of o b) → (n : ℕ) → take size (drop (place_of o (next a)) (overwritten (place_of o b) (take n (v ∷ [])) o.values)) ≡ take size (drop (place_of o (next a)) o.values)
    by o apart zero = ap (λ us. take size (drop (place_of o (next a)) us)) (overwritten_nothing (place_of o b) o.values)
    by o apart (suc n) =
        let step : place_of o (next a) ≡ suc (place_of o a) = omega arith in
        subst (λ q. take size (drop q (overwritten (place_of o b) (v ∷ take n []) o.values)) ≡ take size (drop q o.values)) (sym step)
        (ap (λ us. take size (drop (suc (place_of o a)) (overwritten (place_of o b) (v ∷ us) o.values))) (take_nothing n) ∙ read_after size (place_of o a) (place_of o b) v o.values apart)

-- a target whose tests pass
pub record Passes (tg : Target) (a : Address) (heap : Heap) : Type 0 where
  pub pointer : tg.pointer ≡ Pointer a
  pub alive : live heap a.region ≡ true
  pub index : is_index (pos a.index +ℤ tg.shift) (object_at heap a.region a.object).count ≡ true
  pub chosen : list_all chosen_in_range tg.chosen ≡ true

abbrev pub spot_at : Target → Address → Spot
spot_at tg a = record { region = a.region; object = a.object; element = unsigned_abs (pos a.index +ℤ tg.shift); cell = cell_of tg }

pub passed : {A : Type 0} (line : ℕ) (tg : Target) (a : Address) (w : World) (go : Spot → Run World A) → Passes tg a w.heap → at_spot line tg w go ≡ go (spot_at tg a)
passed line tg a w go p =
    ap (λ v. at_address line v w (λ b. touching (live w.heap b.region) line w (tested (is_index (pos b.index +ℤ tg.shift) (object_at w.heap b.region b.object).count) Bounds line w (tested (list_all chosen_in_range tg.chosen) Bounds line w (go (spot_at tg b)))))) p.pointer
    ∙ ap (λ b. touching b line w (tested (is_index (pos a.index +ℤ tg.shift) (object_at w.heap a.region a.object).count) Bounds line w (tested (list_all chosen_in_range tg.chosen) Bounds line w (go (spot_at tg a))))) p.alive
    ∙ ap (λ b. tested b Bounds line w (tested (list_all chosen_in_range tg.chosen) Bounds line w (go (spot_at tg a)))) p.index
    ∙ ap (λ b. tested b Bounds line w (go (spot_at tg a))) p.chosen

-- the checks of several cells are those of the first, and then those of the others
pub fitting_first : (heap : Heap) (holder line cell : ℕ) (layout : Layout) (v : Value) (vs : List Value) (w : World) (run : Run World (Unit {0})) →
    fitting heap holder line (map note_of (drop cell layout)) (v ∷ vs) w run ≡ fitting heap holder line (map note_of (drop cell layout)) (v ∷ []) w (fitting heap holder line (map note_of (drop (suc cell) layout)) vs w run)
fitting_first heap holder line zero [] v [] w run = refl
fitting_first heap holder line zero [] v (u ∷ vs) w run = refl
fitting_first heap holder line (suc cell) [] v [] w run = refl
fitting_first heap holder line (suc cell) [] v (u ∷ vs) w run = refl
fitting_first heap holder line zero (k ∷ layout) v vs w run = refl
fitting_first heap holder line (suc cell) (k ∷ layout) v vs w run = fitting_first heap holder line cell layout v vs w run

pub fitting_heap : (a b : Heap) → parent a ≡ parent b → (holder line : ℕ) (notes : List Note) (vs : List Value) (w : World) (run : Run World (Unit {0})) → fitting a holder line notes vs w run ≡ fitting b holder line notes vs w run
fitting_heap a b e holder line notes [] w run = refl
fitting_heap a b e holder line [] (v ∷ vs) w run = refl
fitting_heap a b e holder line (note ∷ notes) (v ∷ vs) w run =
    ap (λ p. tested (fits p note holder v) (unfit note) line w (fitting a holder line notes vs w run)) e
    ∙ ap (λ m. tested (fits (parent b) note holder v) (unfit note) line w m) (fitting_heap a b e holder line notes vs w run)
