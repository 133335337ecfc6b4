-- In the source's world calls give back what waits.
use Rattle.std.proofs.Common.{ℕ, zero, suc, ℤ, pos, Bool, true, false, not, List, [], ◌∷◌, ◌++◌, length, refl, sym, ap}
use Rattle.std.specs.Prelude.{◌+ℤ◌, unsigned_abs, nat_le, nat_lt, nat_eq, int_le}
use Rattle.rc_base.specs.declared.ends.Trap.TheVariants.{Bounds, Full, Size, Root, Subregion, Reference}
use Rattle.std.specs.List.{list_all}
use Rattle.rc_base.specs.declared.ends.Trap.{Trap}
use Rattle.rc_core.specs.declared.ty.Note.{Note}
use Rattle.rc_core.specs.Layout.{Layout}
use Rattle.rc_core.specs.Heap.{Value, Number, Null, Handle, Pointer, Address, Heap, live, object_at, objects, with_objects, blank, parent, fits, is_fresh}
use Rattle.rc_core.specs.Runs.{Run, Go, tested, touching, Target}
use Rattle.rc_core.specs.Source.{World, turn_from, byte_from, at_region, at_address, at_spot, Spot, fitting, stored, made, allocated, stepped, deleted, source, cell_of, is_index, chosen_in_range, unfit, notes_from, with_heap, written, has_child, is_empty, references, killed, first_of, values_from}
use Rattle.rc_numbering.specs.Waits.{Keeps, Waiting}

abbrev pub waiting : World → List Value
waiting w = w.waiting

abbrev In : {A : Type 0} → World → Run World A → Type 0
In w m = Keeps waiting w m

turn_in : (n : ℕ) (w : World) → In w (turn_from n w)
turn_in zero w = record { holds = tt }
turn_in (suc n) w = record { holds = refl }

byte_in : (bytes : List ℕ) (w : World) → In w (byte_from bytes w)
byte_in [] w = record { holds = refl }
byte_in (x ∷ xs) w = record { holds = refl }

tested_in : {A : Type 0} (c : Bool) (t : Trap) (line : ℕ) (w : World) (m : Run World A) → In w m → In w (tested c t line w m)
tested_in true t line w m h = h
tested_in false t line w m h = record { holds = tt }

touching_in : {A : Type 0} (c : Bool) (line : ℕ) (w : World) (m : Run World A) → In w m → In w (touching c line w m)
touching_in true line w m h = h
touching_in false line w m h = record { holds = tt }

region_in : {A : Type 0} (line : ℕ) (v : Value) (w : World) (go : ℕ → Run World A) → ((r : ℕ) → In w (go r)) → In w (at_region line v w go)
region_in line (Handle r) w go h = h r
region_in line (Number n) w go h = record { holds = tt }
region_in line Null w go h = record { holds = tt }
region_in line (Pointer a) w go h = record { holds = tt }

address_in : {A : Type 0} (line : ℕ) (v : Value) (w : World) (go : Address → Run World A) → ((a : Address) → In w (go a)) → In w (at_address line v w go)
address_in line (Pointer a) w go h = h a
address_in line (Number n) w go h = record { holds = tt }
address_in line Null w go h = record { holds = tt }
address_in line (Handle r) w go h = record { holds = tt }

spot_in : {A : Type 0} (line : ℕ) (t : Target) (w : World) (go : Spot → Run World A) → ((s : Spot) → In w (go s)) → In w (at_spot line t w go)
spot_in line t w go h = address_in line t.pointer w _ (λ a.
    let s : Spot = record { region = a.region; object = a.object; element = unsigned_abs (pos a.index +ℤ t.shift); cell = cell_of t } in
    touching_in (live w.heap a.region) line w _ (tested_in (is_index (pos a.index +ℤ t.shift) (object_at w.heap a.region a.object).count) Bounds line w _ (tested_in (list_all chosen_in_range t.chosen) Bounds line w (go s) (h s))))

fitting_in : (heap : Heap) (holder line : ℕ) (notes : List Note) (vs : List Value) (w : World) (m : Run World (Unit {0})) → In w m → In w (fitting heap holder line notes vs w m)
fitting_in heap holder line [] [] w m h = h
fitting_in heap holder line [] (v ∷ vs) w m h = h
fitting_in heap holder line (note ∷ notes) [] w m h = h
fitting_in heap holder line (note ∷ notes) (v ∷ vs) w m h = tested_in (fits (parent heap) note holder v) (unfit note) line w (fitting heap holder line notes vs w m) (fitting_in heap holder line notes vs w m h)

stored_in : (line : ℕ) (t : Target) (vs : List Value) (w : World) → In w (stored line t vs w)
stored_in line t vs w = spot_in line t w _ (λ spot. touching_in (list_all (is_fresh (live w.heap)) vs) line w _ (fitting_in w.heap spot.region line (notes_from w.heap spot) vs w (Go tt (with_heap w (written spot vs w.heap))) (record { holds = refl })))

made_in : (line p : ℕ) (w : World) → In w (made line p w)
made_in line p w = tested_in (nat_le (length w.heap) w.regions) Full line w (Go (Handle (length w.heap)) (with_heap w (w.heap ++ record { parent = p; alive = true; objects = [] } ∷ []))) (record { holds = refl })

allocated_in : (line r : ℕ) (count : ℤ) (layout : Layout) (w : World) → In w (allocated line r count layout w)
allocated_in line r count layout w =
    tested_in (int_le (pos 0) count) Size line w _ (tested_in (nat_lt (length (objects w.heap r)) w.blocks) Full line w
    (Go (Pointer (record { region = r; object = length (objects w.heap r); index = 0 })) (with_heap w (with_objects w.heap r (λ os. os ++ blank layout (unsigned_abs count) ∷ [])))) (record { holds = refl }))

stepped_in : (line : ℕ) (a : Address) (n : ℤ) (w : World) → In w (stepped line a n w)
stepped_in line a n w =
    touching_in (live w.heap a.region) line w _ (tested_in (is_index (pos a.index +ℤ n) (suc (object_at w.heap a.region a.object).count)) Bounds line w (Go (Pointer (record a { index = unsigned_abs (pos a.index +ℤ n) })) w) (record { holds = refl }))

deleted_in : (line : ℕ) (held : List Value) (r : ℕ) (w : World) → In w (deleted line held r w)
deleted_in line held r w =
    touching_in (live w.heap r) line w _ (tested_in (not (nat_eq r 0)) Root line w _ (tested_in (not (has_child r w.heap)) Subregion line w _ (tested_in (is_empty (references r held w)) Reference line w (Go tt (with_heap w (killed w.heap r))) (record { holds = refl }))))

pub source_waits : Waiting source waiting
source_waits = record {
  take_turn = λ w. turn_in w.turns w;
  get_byte = λ w. byte_in w.input w;
  put_byte = λ n w. record { holds = refl };
  new_region = λ line w. made_in line 0 w;
  new_subregion = λ line v w. region_in line v w _ (λ r. touching_in (live w.heap r) line w (made line r w) (made_in line r w));
  allocate = λ line v count layout w. region_in line v w _ (λ r. touching_in (live w.heap r) line w (allocated line r count layout w) (allocated_in line r count layout w));
  step = λ line v n w. address_in line v w _ (λ a. stepped_in line a n w);
  load = λ line t w. spot_in line t w (λ spot. Go (first_of (values_from w.heap spot 1)) w) (λ spot. record { holds = refl });
  store = λ line t v w. stored_in line t (v ∷ []) w;
  delete = λ line held v w. region_in line v w _ (λ r. deleted_in line held r w);
  enter_none = λ w. refl;
  leave_same = λ w w1 e. ap (λ vs. record w1 { waiting = vs }) (sym e);
  left = λ w w1. refl;
}
