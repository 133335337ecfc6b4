-- The source's world turns: a turn is one less, and nothing else makes turns.
use Rattle.std.proofs.Common.{◌<◌, ◌≤◌, ℕ, zero, suc, ℤ, pos, Bool, true, false, not, List, [], ◌∷◌, ◌++◌, length, refl, arith}
use Rattle.std.specs.Prelude.{◌+ℤ◌, unsigned_abs, nat_le, nat_lt, nat_eq, int_le}
use Rattle.rc_base.specs.declared.ends.Trap.TheVariants.{Bounds, Full, Size, Root, Subregion, Reference}
use Rattle.std.specs.List.{list_all}
use Rattle.rc_base.specs.declared.ends.Trap.{Trap}
use Rattle.rc_core.specs.declared.ty.Note.{Note}
use Rattle.rc_core.specs.Layout.{Layout}
use Rattle.rc_core.specs.Heap.{Value, Number, Null, Handle, Pointer, Address, Heap, live, object_at, objects, with_objects, blank, parent, fits, is_fresh}
use Rattle.rc_core.specs.Laws.{IfGoes}
use Rattle.rc_core.specs.Runs.{Run, Go, tested, touching, Target}
use Rattle.rc_core.specs.Source.{World, turn_from, byte_from, at_region, at_address, at_spot, Spot, fitting, stored, made, allocated, stepped, deleted, source, cell_of, is_index, chosen_in_range, unfit, notes_from, with_heap, written, has_child, is_empty, references, killed, first_of, values_from}
use Rattle.rc_emission.specs.Turns.{Within, Turning}

abbrev In : {A : Type 0} → ℕ → Run World A → Type 0
In b m = Within source b m

turn_in : (n : ℕ) (w : World) (b : ℕ) → n ≤ b → IfGoes (λ (_ : Unit {0}) w1. w1.turns < b) (turn_from n w)
turn_in zero w b le = tt
turn_in (suc n) w b le = omega (arith, le)

byte_in : (bytes : List ℕ) (w : World) (b : ℕ) → w.turns ≤ b → In b (byte_from bytes w)
byte_in [] w b le = record { holds = le }
byte_in (x ∷ xs) w b le = record { holds = le }

tested_in : {A : Type 0} (b : ℕ) (c : Bool) (t : Trap) (line : ℕ) (w : World) (m : Run World A) → In b m → In b (tested c t line w m)
tested_in b true t line w m h = h
tested_in b false t line w m h = record { holds = tt }

touching_in : {A : Type 0} (b : ℕ) (c : Bool) (line : ℕ) (w : World) (m : Run World A) → In b m → In b (touching c line w m)
touching_in b true line w m h = h
touching_in b false line w m h = record { holds = tt }

region_in : {A : Type 0} (b line : ℕ) (v : Value) (w : World) (go : ℕ → Run World A) → ((r : ℕ) → In b (go r)) → In b (at_region line v w go)
region_in b line (Handle r) w go h = h r
region_in b line (Number n) w go h = record { holds = tt }
region_in b line Null w go h = record { holds = tt }
region_in b line (Pointer a) w go h = record { holds = tt }

address_in : {A : Type 0} (b line : ℕ) (v : Value) (w : World) (go : Address → Run World A) → ((a : Address) → In b (go a)) → In b (at_address line v w go)
address_in b line (Pointer a) w go h = h a
address_in b line (Number n) w go h = record { holds = tt }
address_in b line Null w go h = record { holds = tt }
address_in b line (Handle r) w go h = record { holds = tt }

spot_in : {A : Type 0} (b line : ℕ) (t : Target) (w : World) (go : Spot → Run World A) → ((s : Spot) → In b (go s)) → In b (at_spot line t w go)
spot_in b line t w go h = address_in b line t.pointer w _ (λ a.
    let s : Spot = record { region = a.region; object = a.object; element = unsigned_abs (pos a.index +ℤ t.shift); cell = cell_of t } in
    touching_in b (live w.heap a.region) line w _ (tested_in b (is_index (pos a.index +ℤ t.shift) (object_at w.heap a.region a.object).count) Bounds line w _ (tested_in b (list_all chosen_in_range t.chosen) Bounds line w (go s) (h s))))

fitting_in : (b : ℕ) (heap : Heap) (holder line : ℕ) (notes : List Note) (vs : List Value) (w : World) (m : Run World (Unit {0})) → In b m → In b (fitting heap holder line notes vs w m)
fitting_in b heap holder line [] [] w m h = h
fitting_in b heap holder line [] (v ∷ vs) w m h = h
fitting_in b heap holder line (note ∷ notes) [] w m h = h
fitting_in b heap holder line (note ∷ notes) (v ∷ vs) w m h = tested_in b (fits (parent heap) note holder v) (unfit note) line w (fitting heap holder line notes vs w m) (fitting_in b heap holder line notes vs w m h)

stored_in : (line : ℕ) (t : Target) (vs : List Value) (w : World) (b : ℕ) → w.turns ≤ b → In b (stored line t vs w)
stored_in line t vs w b le = spot_in b line t w _ (λ spot. touching_in b (list_all (is_fresh (live w.heap)) vs) line w _ (fitting_in b w.heap spot.region line (notes_from w.heap spot) vs w (Go tt (with_heap w (written spot vs w.heap))) (record { holds = le })))

made_in : (line p : ℕ) (w : World) (b : ℕ) → w.turns ≤ b → In b (made line p w)
made_in line p w b le = tested_in b (nat_le (length w.heap) w.regions) Full line w (Go (Handle (length w.heap)) (with_heap w (w.heap ++ record { parent = p; alive = true; objects = [] } ∷ []))) (record { holds = le })

allocated_in : (line r : ℕ) (count : ℤ) (layout : Layout) (w : World) (b : ℕ) → w.turns ≤ b → In b (allocated line r count layout w)
allocated_in line r count layout w b le =
    tested_in b (int_le (pos 0) count) Size line w _ (tested_in b (nat_lt (length (objects w.heap r)) w.blocks) Full line w
    (Go (Pointer (record { region = r; object = length (objects w.heap r); index = 0 })) (with_heap w (with_objects w.heap r (λ os. os ++ blank layout (unsigned_abs count) ∷ [])))) (record { holds = le }))

stepped_in : (line : ℕ) (a : Address) (n : ℤ) (w : World) (b : ℕ) → w.turns ≤ b → In b (stepped line a n w)
stepped_in line a n w b le =
    touching_in b (live w.heap a.region) line w _ (tested_in b (is_index (pos a.index +ℤ n) (suc (object_at w.heap a.region a.object).count)) Bounds line w (Go (Pointer (record a { index = unsigned_abs (pos a.index +ℤ n) })) w) (record { holds = le }))

deleted_in : (line : ℕ) (held : List Value) (r : ℕ) (w : World) (b : ℕ) → w.turns ≤ b → In b (deleted line held r w)
deleted_in line held r w b le =
    touching_in b (live w.heap r) line w _ (tested_in b (not (nat_eq r 0)) Root line w _ (tested_in b (not (has_child r w.heap)) Subregion line w _ (tested_in b (is_empty (references r held w)) Reference line w (Go tt (with_heap w (killed w.heap r))) (record { holds = le }))))

pub source_turns : Turning source
source_turns = record {
  take_turn = λ w b le. turn_in w.turns w b le;
  get_byte = λ w b le. byte_in w.input w b le;
  put_byte = λ n w b le. record { holds = le };
  new_region = λ line w b le. made_in line 0 w b le;
  new_subregion = λ line v w b le. region_in b line v w _ (λ r. touching_in b (live w.heap r) line w (made line r w) (made_in line r w b le));
  allocate = λ line v count layout w b le. region_in b line v w _ (λ r. touching_in b (live w.heap r) line w (allocated line r count layout w) (allocated_in line r count layout w b le));
  step = λ line v n w b le. address_in b line v w _ (λ a. stepped_in line a n w b le);
  load = λ line t w b le. spot_in b line t w (λ spot. Go (first_of (values_from w.heap spot 1)) w) (λ spot. record { holds = le });
  store = λ line t v w b le. stored_in line t (v ∷ []) w b le;
  delete = λ line held v w b le. region_in b line v w _ (λ r. deleted_in line held r w b le);
  enter = λ held w. refl;
  leave = λ w w1. refl;
}
