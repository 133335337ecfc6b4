-- A mark is right exactly where a store does the same with its check and without it.
use Rattle.std.proofs.Common.{◌≡◌, ℕ, Bool, true, false, refl, sym, ap, ◌∙◌}
use Rattle.std.specs.Prelude.{◌+ℤ◌, pos}
use Rattle.std.specs.List.{list_all}
use Rattle.rc_base.specs.declared.ends.Trap.TheVariants.{Bounds}
use Rattle.rc_core.specs.Heap.{Value, Number, Null, Handle, Pointer, Address, is_fresh, fits}
use Rattle.rc_core.specs.Layout.{note_of}
use Rattle.rc_core.specs.Runs.{Run, Go, Target, tested, touching}
use Rattle.rc_core.specs.Source.{Spot, is_index, chosen_in_range, unfit}
use Rattle.rc_code.specs.Running.{Reading}
use Rattle.rc_code.specs.Steps.{State}
use Rattle.rc_code.specs.StoreModel.{Held, lives, parent_in, object_in, kind_in, spot_at, on_address, on_spot, put_in, with_store, stored_in}
use Rattle.rc_code.specs.Faithful.{WouldWrite, FitsAt, MarkIsRight, stored_to, stored_value}

module _ (v : Value) (t : Target) (w : Held) (line : ℕ) where
  abbrev wrote : Spot → Run Held (Unit {0})
  wrote spot = Go tt (with_store w (put_in spot v w.store))

  abbrev checked : Address → Run Held (Unit {0})
  checked a = tested (fits (parent_in w.store) (note_of (kind_in w.store (spot_at a t))) a.region v) (unfit (note_of (kind_in w.store (spot_at a t)))) line w (wrote (spot_at a t))

  module _ (right : (a : Address) → WouldWrite v t w.store a → FitsAt v t w.store a) (a : Address) (pointer : t.pointer ≡ Pointer a) (live : lives w.store a.region ≡ true) (inside : is_index (pos a.index +ℤ t.shift) (object_in w.store a.region a.object).count ≡ true) (chosen : list_all chosen_in_range t.chosen ≡ true) where
    by_fresh : (b : Bool) → is_fresh (lives w.store) v ≡ b → touching b line w (checked a) ≡ touching b line w (wrote (spot_at a t))
    by_fresh true e = ap (λ b. tested b (unfit (note_of (kind_in w.store (spot_at a t)))) line w (wrote (spot_at a t))) (right a (record { pointer = pointer; live = live; inside = inside; chosen = chosen; fresh = e }))
    by_fresh false e = refl

  module _ (right : (a : Address) → WouldWrite v t w.store a → FitsAt v t w.store a) where
    abbrev written : Address → Run Held (Unit {0})
    written a = touching (is_fresh (lives w.store) v) line w (wrote (spot_at a t))

    abbrev tried : Address → Run Held (Unit {0})
    tried a = touching (is_fresh (lives w.store) v) line w (checked a)

    by_chosen : (a : Address) → t.pointer ≡ Pointer a → lives w.store a.region ≡ true → is_index (pos a.index +ℤ t.shift) (object_in w.store a.region a.object).count ≡ true → (b : Bool) → list_all chosen_in_range t.chosen ≡ b
        → tested b Bounds line w (tried a) ≡ tested b Bounds line w (written a)
    by_chosen a pointer live inside true e = by_fresh right a pointer live inside e (is_fresh (lives w.store) v) refl
    by_chosen a pointer live inside false e = refl

    abbrev chose : Run Held (Unit {0}) → Run Held (Unit {0})
    chose m = tested (list_all chosen_in_range t.chosen) Bounds line w m

    by_inside : (a : Address) → t.pointer ≡ Pointer a → lives w.store a.region ≡ true → (b : Bool) → is_index (pos a.index +ℤ t.shift) (object_in w.store a.region a.object).count ≡ b
        → tested b Bounds line w (chose (tried a)) ≡ tested b Bounds line w (chose (written a))
    by_inside a pointer live true e = by_chosen a pointer live e (list_all chosen_in_range t.chosen) refl
    by_inside a pointer live false e = refl

    abbrev found : Address → Run Held (Unit {0}) → Run Held (Unit {0})
    found a m = tested (is_index (pos a.index +ℤ t.shift) (object_in w.store a.region a.object).count) Bounds line w (chose m)

    by_live : (a : Address) → t.pointer ≡ Pointer a → (b : Bool) → lives w.store a.region ≡ b → touching b line w (found a (tried a)) ≡ touching b line w (found a (written a))
    by_live a pointer true e = by_inside a pointer e (is_index (pos a.index +ℤ t.shift) (object_in w.store a.region a.object).count) refl
    by_live a pointer false e = refl

    by_pointer : (p : Value) → t.pointer ≡ p
        → on_address line p w (λ a. touching (lives w.store a.region) line w (found a (tried a))) ≡ on_address line p w (λ a. touching (lives w.store a.region) line w (found a (written a)))
    by_pointer (Pointer a) e = by_live a e (lives w.store a.region) refl
    by_pointer (Number n) e = refl
    by_pointer Null e = refl
    by_pointer (Handle r) e = refl

    pub same_store : stored_in false line t v w ≡ stored_in true line t v w
    same_store = by_pointer t.pointer refl

  -- and the other way round
  module _ (a : Address) (writes : WouldWrite v t w.store a) where
    at_place : (go : Spot → Run Held (Unit {0})) → on_spot line t w go ≡ go (spot_at a t)
    at_place go =
        ap (λ p. on_address line p w (λ b. touching (lives w.store b.region) line w
        (tested (is_index (pos b.index +ℤ t.shift) (object_in w.store b.region b.object).count) Bounds line w (tested (list_all chosen_in_range t.chosen) Bounds line w (go (spot_at b t)))))) writes.pointer
        ∙ ap (λ b. touching b line w (tested (is_index (pos a.index +ℤ t.shift) (object_in w.store a.region a.object).count) Bounds line w (tested (list_all chosen_in_range t.chosen) Bounds line w (go (spot_at a t))))) writes.live
        ∙ ap (λ b. tested b Bounds line w (tested (list_all chosen_in_range t.chosen) Bounds line w (go (spot_at a t)))) writes.inside
        ∙ ap (λ b. tested b Bounds line w (go (spot_at a t))) writes.chosen

    with_mark : stored_in true line t v w ≡ wrote (spot_at a t)
    with_mark = at_place (λ spot. touching (is_fresh (lives w.store) v) line w (wrote spot)) ∙ ap (λ b. touching b line w (wrote (spot_at a t))) writes.fresh

    without : stored_in false line t v w ≡ checked a
    without =
        at_place (λ spot. touching (is_fresh (lives w.store) v) line w (tested (fits (parent_in w.store) (note_of (kind_in w.store spot)) spot.region v) (unfit (note_of (kind_in w.store spot))) line w (wrote spot)))
        ∙ ap (λ b. touching b line w (checked a)) writes.fresh

    pub fits_there : stored_in false line t v w ≡ stored_in true line t v w → FitsAt v t w.store a
    fits_there same = by (fits (parent_in w.store) (note_of (kind_in w.store (spot_at a t))) a.region v) (sym without ∙ same ∙ with_mark)
      where
        by : (b : Bool) → tested b (unfit (note_of (kind_in w.store (spot_at a t)))) line w (wrote (spot_at a t)) ≡ wrote (spot_at a t) → b ≡ true
        by true e = refl
        by false e = cc

module _ (image : Reading) (path : ℕ) (s : State Held) (w : Held) where
  pub same_where_right : MarkIsRight image path s w → (line : ℕ) → stored_in false line (stored_to image path s.stack) (stored_value image path s.stack) w ≡ stored_in true line (stored_to image path s.stack) (stored_value image path s.stack) w
  same_where_right right line = same_store (stored_value image path s.stack) (stored_to image path s.stack) w line right

  pub right_where_same : (line : ℕ) → stored_in false line (stored_to image path s.stack) (stored_value image path s.stack) w ≡ stored_in true line (stored_to image path s.stack) (stored_value image path s.stack) w → MarkIsRight image path s w
  right_where_same line same a writes = fits_there (stored_value image path s.stack) (stored_to image path s.stack) w line a writes same
