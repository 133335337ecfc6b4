-- What the source does to its world, it does to what is kept of it.
use Rattle.std.proofs.Common.{◌≡◌, ℕ, zero, suc, ℤ, pos, ◌+◌, ◌-◌, ◌*◌, ◌+ℤ◌, Bool, true, false, not, ◌||◌, ◌&&◌, nat_eq, nat_lt, nat_le, List, [], ◌∷◌, ◌++◌, length, map, take, drop, get_or, replicate, Ok, Err, refl, sym, ap, ◌∙◌, subst, append_assoc}
use Rattle.std.specs.Prelude.{slice_get, flat_map, filter, unsigned_abs, int_le, if◌then◌else◌}
use Rattle.std.specs.List.{list_any, list_all}
use Rattle.std.proofs.Math.Path.{fun_ext}
use Rattle.std.proofs.lemmas.List.{length-map, map-append}
use Rattle.std.proofs.lemmas.List.Folds.{list_any-append}
use Rattle.rc_base.specs.declared.ends.Trap.TheVariants.{Bounds, Size, Root, Subregion, Reference, Full}
use Rattle.rc_core.specs.Types.{CellKind, int_cell, unsigned_cell, char_cell, region_cell, pointer_cell}
use Rattle.rc_core.specs.Layout.{Layout, note_of}
use Rattle.rc_core.specs.Heap.{Value, Number, Null, Handle, Pointer, Address, Object, Region, Heap, no_object, live, parent, objects, object_at, update, with_objects, names, is_fresh, fits, blank, blank_cell}
use Rattle.rc_core.specs.Runs.{Stop, Stale, Run, Go, Stopped, tested, touching, Chosen, Target}
use Rattle.rc_core.specs.Source.{World, with_heap, turn_from, byte_from, is_index, chosen_in_range, cell_of, Spot, values_from, notes_from, at_spot, unfit, fitting, overwritten, written, stored, made, allocated, has_child, values_of, values_outside, references, is_empty, killed, first_of, source}
use Rattle.rc_memory.specs.declared.heap.Spot.{Spot as KeptSpot}
use Rattle.rc_core.specs.Laid.{held_kind}
use Rattle.rc_values.specs.Outcomes.{Outcome, trapped, passing, after}
use Rattle.rc_values.proofs.Lists.{drop_mapped}
use Rattle.rc_memory.specs.Change.{mapped, Agree}
use Rattle.rc_values.specs.Cells as of_kind
use Rattle.rc_memory.specs.Kept as k
use Rattle.rc_memory.specs.Kept.{KeptHeap, kept_region, kept_heap, count_in, size_in, kinds_in, values_in, in_bounds, is_named}
use Rattle.rc_values.specs.Objects as of_object
use Rattle.rc_values.specs.Objects.{KeptObject, kept_object, object_names}
use Rattle.rc_memory.specs.KeptWorld as kw
use Rattle.rc_memory.specs.KeptWorld.{KeptWorld, kept_world, giving, leaving, in_region, kept}

-- objects

count_kept : (os : List Object) (o : ℕ) → count_in (slice_get (map kept_object os) o) ≡ (get_or os o no_object).count
count_kept [] o = refl
count_kept (x ∷ os) zero = refl
count_kept (x ∷ os) (suc o) = count_kept os o

size_kept : (os : List Object) (o : ℕ) → size_in (slice_get (map kept_object os) o) ≡ length (get_or os o no_object).layout
size_kept [] o = refl
size_kept (x ∷ os) zero = length-map x.layout held_kind
size_kept (x ∷ os) (suc o) = size_kept os o

kinds_kept : (os : List Object) (o : ℕ) → kinds_in (slice_get (map kept_object os) o) ≡ map held_kind (get_or os o no_object).layout
kinds_kept [] o = refl
kinds_kept (x ∷ os) zero = refl
kinds_kept (x ∷ os) (suc o) = kinds_kept os o

values_kept : (os : List Object) (o : ℕ) → values_in (slice_get (map kept_object os) o) ≡ (get_or os o no_object).values
values_kept [] o = refl
values_kept (x ∷ os) zero = refl
values_kept (x ∷ os) (suc o) = values_kept os o

-- regions

live_kept : (heap : Heap) (r : ℕ) → k.live (kept_heap heap) r ≡ live heap r
live_kept [] r = refl
live_kept (g ∷ heap) zero = refl
live_kept (g ∷ heap) (suc r) = live_kept heap r

parent_kept : (heap : Heap) (r : ℕ) → k.parent (kept_heap heap) r ≡ parent heap r
parent_kept [] r = refl
parent_kept (g ∷ heap) zero = refl
parent_kept (g ∷ heap) (suc r) = parent_kept heap r

live_same : (heap : Heap) → k.live (kept_heap heap) ≡ live heap
live_same heap = fun_ext (λ r. live_kept heap r)

parent_same : (heap : Heap) → k.parent (kept_heap heap) ≡ parent heap
parent_same heap = fun_ext (λ r. parent_kept heap r)

objects_kept : (heap : Heap) (r : ℕ) → live heap r ≡ true → k.objects (kept_heap heap) r ≡ map kept_object (objects heap r)
objects_kept [] r is = absurd cc
objects_kept (g ∷ heap) zero is = ap (λ b. if b then map kept_object g.objects else []) is
objects_kept (g ∷ heap) (suc r) is = objects_kept heap r is

changed_kept : (heap : Heap) (r : ℕ) (change : List Object → List Object) (change' : List KeptObject → List KeptObject) → live heap r ≡ true → map kept_object (change (objects heap r)) ≡ change' (map kept_object (objects heap r)) → kept_heap (with_objects heap r change) ≡ k.with_objects (kept_heap heap) r change'
changed_kept [] r change change' is same = absurd cc
changed_kept (g ∷ heap) zero change change' is same =
    let both : (b : Bool) → b ≡ true → (if b then map kept_object (change g.objects) else []) ≡ change' (if b then map kept_object g.objects else []) = λ b t. subst (λ c. (if c then map kept_object (change g.objects) else []) ≡ change' (if c then map kept_object g.objects else [])) (sym t) same in
    ap (λ (os : List KeptObject). record { parent = g.parent; alive = g.alive; objects = os } ∷ kept_heap heap) (both g.alive is)
changed_kept (g ∷ heap) (suc r) change change' is same = ap (λ hs. kept_region g ∷ hs) (changed_kept heap r change change' is same)

updated_kept : (os : List Object) (i : ℕ) (change : Object → Object) (change' : KeptObject → KeptObject) → kept_object (change (get_or os i no_object)) ≡ change' (kept_object (get_or os i no_object)) → map kept_object (update os i change) ≡ update (map kept_object os) i change'
updated_kept [] i change change' same = refl
updated_kept (x ∷ os) zero change change' same = ap (λ y. y ∷ map kept_object os) same
updated_kept (x ∷ os) (suc i) change change' same = ap (λ l. kept_object x ∷ l) (updated_kept os i change change' same)

-- turns and bytes

turn_kept : (n : ℕ) (w : World) → mapped kept_world (turn_from n w) ≡ kw.turn_from n (kept_world w)
turn_kept zero w = refl
turn_kept (suc n) w = refl

byte_kept : (bytes : List ℕ) (w : World) → mapped kept_world (byte_from bytes w) ≡ kw.byte_from bytes (kept_world w)
byte_kept [] w = refl
byte_kept (b ∷ rest) w = refl

-- new regions

made_by : (b : Bool) (line p : ℕ) (w : World) → mapped kept_world (tested b Full line w (Go (Handle (length w.heap)) (with_heap w (w.heap ++ record { parent = p; alive = true; objects = [] } ∷ [])))) ≡ leaving (Handle (length w.heap)) (if b then Ok (kept_heap w.heap ++ record { parent = p; alive = true; objects = [] } ∷ []) else trapped Full line) (kept_world w)
made_by true line p w = ap (λ hs. Go (Handle (length w.heap)) (kw.with_heap (kept_world w) hs)) (map-append kept_region w.heap (record { parent = p; alive = true; objects = [] } ∷ []))
made_by false line p w = refl

made_kept : (line p : ℕ) (w : World) → mapped kept_world (made line p w) ≡ leaving (Handle (length (kept_heap w.heap))) (k.made (kept_heap w.heap) line p w.regions) (kept_world w)
made_kept line p w =
    made_by (nat_le (length w.heap) w.regions) line p w
    ∙ ap (λ n. leaving (Handle n) (if nat_le n w.regions then Ok (kept_heap w.heap ++ record { parent = p; alive = true; objects = [] } ∷ []) else trapped Full line) (kept_world w)) (sym (length-map w.heap kept_region))

child_by : (b : Bool) (line r : ℕ) (w : World) → mapped kept_world (touching b line w (made line r w)) ≡ leaving (Handle (length (kept_heap w.heap))) (after (passing b (Stale line) (Ok r)) (λ p. k.made (kept_heap w.heap) line p w.regions)) (kept_world w)
child_by true line r w = made_kept line r w
child_by false line r w = refl

child_kept : (line : ℕ) (v : Value) (w : World) → mapped kept_world (source.new_subregion line v w) ≡ kept.new_subregion line v (kept_world w)
child_kept line (Number n) w = refl
child_kept line Null w = refl
child_kept line (Pointer a) w = refl
child_kept line (Handle r) w =
    child_by (live w.heap r) line r w
    ∙ ap (λ b. leaving (Handle (length (kept_heap w.heap))) (after (passing b (Stale line) (Ok r)) (λ p. k.made (kept_heap w.heap) line p w.regions)) (kept_world w)) (sym (live_kept w.heap r))

-- new objects

blank_cells_kept : (cells : Layout) → map blank_cell cells ≡ map of_kind.blank_cell (map held_kind cells)
blank_cells_kept [] = refl
blank_cells_kept (int_cell ∷ cells) = ap (λ l. Number (pos 0) ∷ l) (blank_cells_kept cells)
blank_cells_kept (unsigned_cell ∷ cells) = ap (λ l. Number (pos 0) ∷ l) (blank_cells_kept cells)
blank_cells_kept (char_cell ∷ cells) = ap (λ l. Number (pos 0) ∷ l) (blank_cells_kept cells)
blank_cells_kept (region_cell ∷ cells) = ap (λ l. Null ∷ l) (blank_cells_kept cells)
blank_cells_kept (pointer_cell note target ∷ cells) = ap (λ l. Null ∷ l) (blank_cells_kept cells)

blank_values_kept : (layout : Layout) (n : ℕ) → flat_map (map blank_cell) (replicate n layout) ≡ flat_map (map of_kind.blank_cell) (replicate n (map held_kind layout))
blank_values_kept layout zero = refl
blank_values_kept layout (suc n) = ap (λ l. l ++ flat_map (map blank_cell) (replicate n layout)) (blank_cells_kept layout) ∙ ap (λ l. map of_kind.blank_cell (map held_kind layout) ++ l) (blank_values_kept layout n)

pub blank_kept : (layout : Layout) (n : ℕ) → kept_object (blank layout n) ≡ of_object.blank (map held_kind layout) n
blank_kept layout n = ap (λ (vs : List Value). record { kinds = map held_kind layout; count = n; values = vs }) (blank_values_kept layout n)

added_kept : (heap : Heap) (r n : ℕ) (layout : Layout) → live heap r ≡ true → kept_heap (with_objects heap r (λ os. os ++ blank layout n ∷ [])) ≡ k.with_objects (kept_heap heap) r (λ os. os ++ of_object.blank (map held_kind layout) n ∷ [])
added_kept heap r n layout is = changed_kept heap r _ _ is (map-append kept_object (objects heap r) (blank layout n ∷ []) ∙ ap (λ o. map kept_object (objects heap r) ++ o ∷ []) (blank_kept layout n))

number_kept : (heap : Heap) (r : ℕ) → live heap r ≡ true → length (k.objects (kept_heap heap) r) ≡ length (objects heap r)
number_kept heap r is = ap length (objects_kept heap r is) ∙ length-map (objects heap r) kept_object

allocated_by : (b c : Bool) (line r : ℕ) (count : ℤ) (layout : Layout) (w : World) → live w.heap r ≡ true → mapped kept_world (tested b Size line w (tested c Full line w (Go (Pointer (record { region = r; object = length (objects w.heap r); index = 0 })) (with_heap w (with_objects w.heap r (λ os. os ++ blank layout (unsigned_abs count) ∷ [])))))) ≡ leaving (Pointer (record { region = r; object = length (objects w.heap r); index = 0 })) (if b then (if c then Ok (k.with_objects (kept_heap w.heap) r (λ os. os ++ of_object.blank (map held_kind layout) (unsigned_abs count) ∷ [])) else trapped Full line) else trapped Size line) (kept_world w)
allocated_by true true line r count layout w is = ap (λ hs. Go (Pointer (record { region = r; object = length (objects w.heap r); index = 0 })) (kw.with_heap (kept_world w) hs)) (added_kept w.heap r (unsigned_abs count) layout is)
allocated_by true false line r count layout w is = refl
allocated_by false c line r count layout w is = refl

allocated_kept : (line r : ℕ) (count : ℤ) (layout : Layout) (w : World) → live w.heap r ≡ true → mapped kept_world (allocated line r count layout w) ≡ in_region (Ok r) line count layout (kept_world w)
allocated_kept line r count layout w is =
    allocated_by (int_le (pos 0) count) (nat_lt (length (objects w.heap r)) w.blocks) line r count layout w is
    ∙ ap (λ n. leaving (Pointer (record { region = r; object = n; index = 0 })) (if int_le (pos 0) count then (if nat_lt n w.blocks then Ok (k.with_objects (kept_heap w.heap) r (λ os. os ++ of_object.blank (map held_kind layout) (unsigned_abs count) ∷ [])) else trapped Full line) else trapped Size line) (kept_world w)) (sym (number_kept w.heap r is))

allocate_by : (b : Bool) (line r : ℕ) (count : ℤ) (layout : Layout) (w : World) → live w.heap r ≡ b → mapped kept_world (touching b line w (allocated line r count layout w)) ≡ in_region (passing b (Stale line) (Ok r)) line count layout (kept_world w)
allocate_by true line r count layout w is = allocated_kept line r count layout w is
allocate_by false line r count layout w is = refl

allocate_kept : (line : ℕ) (v : Value) (count : ℤ) (layout : Layout) (w : World) → mapped kept_world (source.allocate line v count layout w) ≡ kept.allocate line v count layout (kept_world w)
allocate_kept line (Number n) count layout w = refl
allocate_kept line Null count layout w = refl
allocate_kept line (Pointer a) count layout w = refl
allocate_kept line (Handle r) count layout w = allocate_by (live w.heap r) line r count layout w refl ∙ ap (λ b. in_region (passing b (Stale line) (Ok r)) line count layout (kept_world w)) (sym (live_kept w.heap r))

-- steps

count_at : (heap : Heap) (r o : ℕ) → live heap r ≡ true → count_in (k.object_at (kept_heap heap) r o) ≡ (object_at heap r o).count
count_at heap r o is = ap (λ os. count_in (slice_get os o)) (objects_kept heap r is) ∙ count_kept (objects heap r) o

size_at : (heap : Heap) (r o : ℕ) → live heap r ≡ true → size_in (k.object_at (kept_heap heap) r o) ≡ length (object_at heap r o).layout
size_at heap r o is = ap (λ os. size_in (slice_get os o)) (objects_kept heap r is) ∙ size_kept (objects heap r) o

kinds_at : (heap : Heap) (r o : ℕ) → live heap r ≡ true → kinds_in (k.object_at (kept_heap heap) r o) ≡ map held_kind (object_at heap r o).layout
kinds_at heap r o is = ap (λ os. kinds_in (slice_get os o)) (objects_kept heap r is) ∙ kinds_kept (objects heap r) o

values_at : (heap : Heap) (r o : ℕ) → live heap r ≡ true → values_in (k.object_at (kept_heap heap) r o) ≡ (object_at heap r o).values
values_at heap r o is = ap (λ os. values_in (slice_get os o)) (objects_kept heap r is) ∙ values_kept (objects heap r) o

bounds_by : {A : Type 0} (b : Bool) (line : ℕ) (w : World) (run : Run World A) (outcome : Outcome A) → mapped kept_world run ≡ giving outcome (kept_world w) → mapped kept_world (tested b Bounds line w run) ≡ giving (in_bounds b line outcome) (kept_world w)
bounds_by true line w run outcome same = same
bounds_by false line w run outcome same = refl

stepped_by : (b : Bool) (line : ℕ) (a : Address) (n : ℤ) (w : World) → live w.heap a.region ≡ b → mapped kept_world (touching b line w (tested (is_index (pos a.index +ℤ n) (suc (object_at w.heap a.region a.object).count)) Bounds line w (Go (Pointer (record a { index = unsigned_abs (pos a.index +ℤ n) })) w))) ≡ giving (after (passing b (Stale line) (Ok a)) (λ q. in_bounds (is_index (pos q.index +ℤ n) (suc (count_in (k.object_at (kept_heap w.heap) q.region q.object)))) line (Ok (Pointer (record q { index = unsigned_abs (pos q.index +ℤ n) }))))) (kept_world w)
stepped_by true line a n w is =
    bounds_by (is_index (pos a.index +ℤ n) (suc (object_at w.heap a.region a.object).count)) line w _ (Ok (Pointer (record a { index = unsigned_abs (pos a.index +ℤ n) }))) refl
    ∙ ap (λ c. giving (in_bounds (is_index (pos a.index +ℤ n) (suc c)) line (Ok (Pointer (record a { index = unsigned_abs (pos a.index +ℤ n) })))) (kept_world w)) (sym (count_at w.heap a.region a.object is))
stepped_by false line a n w is = refl

step_kept : (line : ℕ) (v : Value) (n : ℤ) (w : World) → mapped kept_world (source.step line v n w) ≡ kept.step line v n (kept_world w)
step_kept line (Number m) n w = refl
step_kept line Null n w = refl
step_kept line (Handle r) n w = refl
step_kept line (Pointer a) n w = stepped_by (live w.heap a.region) line a n w refl ∙ ap (λ b. giving (after (passing b (Stale line) (Ok a)) (λ q. in_bounds (is_index (pos q.index +ℤ n) (suc (count_in (k.object_at (kept_heap w.heap) q.region q.object)))) line (Ok (Pointer (record q { index = unsigned_abs (pos q.index +ℤ n) }))))) (kept_world w)) (sym (live_kept w.heap a.region))

-- places

spot_tests : {A B : Type 0} (c d : Bool) (line : ℕ) (w : World) (run : Run World A) (s : KeptSpot) (next : KeptSpot → Outcome B) (finish : Outcome B → Run KeptWorld A) → ((stop : Stop) → finish (Err stop) ≡ Stopped stop (kept_world w)) → mapped kept_world run ≡ finish (next s) → mapped kept_world (tested c Bounds line w (tested d Bounds line w run)) ≡ finish (after (in_bounds c line (in_bounds d line (Ok s))) next)
spot_tests true true line w run s next finish stops same = same
spot_tests true false line w run s next finish stops same = sym (stops _)
spot_tests false d line w run s next finish stops same = sym (stops _)

abbrev spot_from : KeptHeap → (line : ℕ) → (shift : ℤ) → (chosen : List Chosen) → (cell : ℕ) → Address → Outcome KeptSpot
spot_from heap line shift chosen cell a =
    in_bounds (is_index (pos a.index +ℤ shift) (count_in (k.object_at heap a.region a.object))) line
    (in_bounds (list_all chosen_in_range chosen) line
    (Ok (k.spot_at heap a (unsigned_abs (pos a.index +ℤ shift)) cell)))

spot_by : {A B : Type 0} (b : Bool) (line : ℕ) (a : Address) (shift : ℤ) (chosen : List Chosen) (cell : ℕ) (w : World) (run : Run World A) (next : KeptSpot → Outcome B) (finish : Outcome B → Run KeptWorld A) → ((stop : Stop) → finish (Err stop) ≡ Stopped stop (kept_world w)) → live w.heap a.region ≡ b → (live w.heap a.region ≡ true → mapped kept_world run ≡ finish (next (k.spot_at (kept_heap w.heap) a (unsigned_abs (pos a.index +ℤ shift)) cell))) → mapped kept_world (touching b line w (tested (is_index (pos a.index +ℤ shift) (object_at w.heap a.region a.object).count) Bounds line w (tested (list_all chosen_in_range chosen) Bounds line w run))) ≡ finish (after (after (passing b (Stale line) (Ok a)) (spot_from (kept_heap w.heap) line shift chosen cell)) next)
spot_by true line a shift chosen cell w run next finish stops is same =
    spot_tests (is_index (pos a.index +ℤ shift) (object_at w.heap a.region a.object).count) (list_all chosen_in_range chosen) line w run (k.spot_at (kept_heap w.heap) a (unsigned_abs (pos a.index +ℤ shift)) cell) next finish stops (same is)
    ∙ ap (λ n. finish (after (in_bounds (is_index (pos a.index +ℤ shift) n) line (in_bounds (list_all chosen_in_range chosen) line (Ok (k.spot_at (kept_heap w.heap) a (unsigned_abs (pos a.index +ℤ shift)) cell)))) next)) (sym (count_at w.heap a.region a.object is))
spot_by false line a shift chosen cell w run next finish stops is same = sym (stops _)

-- the spot of a target whose pointer is an address
abbrev spot_in : Target → Address → Spot
spot_in t a = record { region = a.region; object = a.object; element = unsigned_abs (pos a.index +ℤ t.shift); cell = cell_of t }

abbrev kept_spot_in : Heap → Target → Address → KeptSpot
kept_spot_in heap t a = k.spot_at (kept_heap heap) a (unsigned_abs (pos a.index +ℤ t.shift)) (cell_of t)

spot_kept : {A B : Type 0} (line : ℕ) (pointer : Value) (shift : ℤ) (offset : ℕ) (chosen : List Chosen) (w : World) (go : Spot → Run World A) (next : KeptSpot → Outcome B) (finish : Outcome B → Run KeptWorld A) → ((stop : Stop) → finish (Err stop) ≡ Stopped stop (kept_world w)) → ((a : Address) → live w.heap a.region ≡ true → mapped kept_world (go (spot_in (record { pointer = pointer; shift = shift; offset = offset; chosen = chosen }) a)) ≡ finish (next (kept_spot_in w.heap (record { pointer = pointer; shift = shift; offset = offset; chosen = chosen }) a))) → mapped kept_world (at_spot line (record { pointer = pointer; shift = shift; offset = offset; chosen = chosen }) w go) ≡ finish (after (k.spot_of (kept_heap w.heap) line (record { pointer = pointer; shift = shift; offset = offset; chosen = chosen })) next)
spot_kept line (Number n) shift offset chosen w go next finish stops same = sym (stops _)
spot_kept line Null shift offset chosen w go next finish stops same = sym (stops _)
spot_kept line (Handle r) shift offset chosen w go next finish stops same = sym (stops _)
spot_kept line (Pointer a) shift offset chosen w go next finish stops same =
    let t : Target = record { pointer = Pointer a; shift = shift; offset = offset; chosen = chosen } in
    spot_by (live w.heap a.region) line a shift chosen (cell_of t) w (go (spot_in t a)) next finish stops refl (same a)
    ∙ ap (λ b. finish (after (after (passing b (Stale line) (Ok a)) (spot_from (kept_heap w.heap) line shift chosen (cell_of t))) next)) (sym (live_kept w.heap a.region))

values_same : (heap : Heap) (r o element cell : ℕ) → live heap r ≡ true → drop (element * length (object_at heap r o).layout + cell) (object_at heap r o).values ≡ drop (element * size_in (k.object_at (kept_heap heap) r o) + cell) (values_in (k.object_at (kept_heap heap) r o))
values_same heap r o element cell is =
    ap (λ n. drop (element * n + cell) (object_at heap r o).values) (sym (size_at heap r o is))
    ∙ ap (drop (element * size_in (k.object_at (kept_heap heap) r o) + cell)) (sym (values_at heap r o is))

first_same : (xs : List Value) → first_of (take 1 xs) ≡ of_object.first_of xs
first_same [] = refl
first_same (x ∷ xs) = refl

load_kept : (line : ℕ) (t : Target) (w : World) → mapped kept_world (source.load line t w) ≡ kept.load line t (kept_world w)
load_kept line t w =
    spot_kept line t.pointer t.shift t.offset t.chosen w (λ spot. Go (first_of (values_from w.heap spot 1)) w) (λ spot. Ok (of_object.first_of (k.values_at (kept_heap w.heap) spot))) (λ o. giving o (kept_world w)) (λ stop. refl)
    (λ a is. ap (λ v. Go v (kept_world w)) (first_same (drop (unsigned_abs (pos a.index +ℤ t.shift) * length (object_at w.heap a.region a.object).layout + cell_of t) (object_at w.heap a.region a.object).values) ∙ ap of_object.first_of (values_same w.heap a.region a.object (unsigned_abs (pos a.index +ℤ t.shift)) (cell_of t) is)))

load_all_kept : (line : ℕ) (t : Target) (size : ℕ) (w : World) → mapped kept_world (source.load_all line t size w) ≡ kept.load_all line t size (kept_world w)
load_all_kept line t size w =
    spot_kept line t.pointer t.shift t.offset t.chosen w (λ spot. Go (values_from w.heap spot size) w) (λ spot. Ok (take size (k.values_at (kept_heap w.heap) spot))) (λ o. giving o (kept_world w)) (λ stop. refl)
    (λ a is. ap (λ vs. Go (take size vs) (kept_world w)) (values_same w.heap a.region a.object (unsigned_abs (pos a.index +ℤ t.shift)) (cell_of t) is))

-- stores

note_kept : (c : CellKind) → of_kind.note_of (held_kind c) ≡ note_of c
note_kept int_cell = refl
note_kept unsigned_cell = refl
note_kept char_cell = refl
note_kept region_cell = refl
note_kept (pointer_cell note target) = refl

fit_by : (b : Bool) (c : CellKind) (line : ℕ) (w : World) (run : Run World (Unit {0})) (outcome : Outcome (Unit {0})) (out : Outcome KeptHeap) → mapped kept_world run ≡ leaving tt (after outcome (λ _. out)) (kept_world w) → mapped kept_world (tested b (unfit (note_of c)) line w run) ≡ leaving tt (after (if b then outcome else trapped (unfit (note_of c)) line) (λ _. out)) (kept_world w)
fit_by true c line w run outcome out same = same
fit_by false c line w run outcome out same = refl

fitting_kept : (heap : Heap) (holder line : ℕ) (cs : Layout) (vs : List Value) (w : World) (run : Run World (Unit {0})) (out : Outcome KeptHeap) → mapped kept_world run ≡ leaving tt out (kept_world w) → mapped kept_world (fitting heap holder line (map note_of cs) vs w run) ≡ leaving tt (after (k.fitting (kept_heap heap) holder line (map held_kind cs) vs) (λ _. out)) (kept_world w)
fitting_kept heap holder line [] [] w run out same = same
fitting_kept heap holder line (c ∷ cs) [] w run out same = same
fitting_kept heap holder line [] (v ∷ vs) w run out same = same
fitting_kept heap holder line (c ∷ cs) (v ∷ vs) w run out same =
    fit_by (fits (parent heap) (note_of c) holder v) c line w _ (k.fitting (kept_heap heap) holder line (map held_kind cs) vs) out (fitting_kept heap holder line cs vs w run out same)
    ∙ ap (λ p. leaving tt (after (if fits p (note_of c) holder v then k.fitting (kept_heap heap) holder line (map held_kind cs) vs else trapped (unfit (note_of c)) line) (λ _. out)) (kept_world w)) (sym (parent_same heap))
    ∙ ap (λ note. leaving tt (after (if fits (k.parent (kept_heap heap)) note holder v then k.fitting (kept_heap heap) holder line (map held_kind cs) vs else trapped (unfit note) line) (λ _. out)) (kept_world w)) (sym (note_kept c))

written_kept : (heap : Heap) (t : Target) (a : Address) (vs : List Value) → live heap a.region ≡ true → kept_heap (written (spot_in t a) vs heap) ≡ k.written (kept_spot_in heap t a) (take (k.room (kept_heap heap) (kept_spot_in heap t a)) vs) (kept_heap heap)
written_kept heap t a vs is =
    let o : Object = object_at heap a.region a.object in
    changed_kept heap a.region _ _ is (updated_kept (objects heap a.region) a.object _ _
    (ap (λ n. let object : KeptObject = record { kinds = map held_kind o.layout; count = o.count; values = overwritten (unsigned_abs (pos a.index +ℤ t.shift) * n + cell_of t) (take (n - cell_of t) vs) o.values } in object) (sym (size_at heap a.region a.object is))))

fresh_by : (b : Bool) (line : ℕ) (w : World) (run : Run World (Unit {0})) (out : Outcome KeptHeap) → mapped kept_world run ≡ leaving tt out (kept_world w) → mapped kept_world (touching b line w run) ≡ leaving tt (passing b (Stale line) out) (kept_world w)
fresh_by true line w run out same = same
fresh_by false line w run out same = refl

stored_kept : (line : ℕ) (t : Target) (vs : List Value) (w : World) → mapped kept_world (stored line t vs w) ≡ leaving tt (k.store (kept_heap w.heap) line t vs) (kept_world w)
stored_kept line t vs w =
    spot_kept line t.pointer t.shift t.offset t.chosen w
    (λ spot. touching (list_all (is_fresh (live w.heap)) vs) line w (fitting w.heap spot.region line (notes_from w.heap spot) vs w (Go tt (with_heap w (written spot vs w.heap)))))
    (λ spot. passing (list_all (is_fresh (k.live (kept_heap w.heap))) vs) (Stale line) (after (k.fitting (kept_heap w.heap) spot.region line (drop spot.cell (kinds_in (k.object_at (kept_heap w.heap) spot.region spot.object))) vs) (λ _. Ok (k.written spot (take (k.room (kept_heap w.heap) spot) vs) (kept_heap w.heap)))))
    (λ o. leaving tt o (kept_world w)) (λ stop. refl)
    (λ a is.
    let done : Outcome KeptHeap = Ok (k.written (kept_spot_in w.heap t a) (take (k.room (kept_heap w.heap) (kept_spot_in w.heap t a)) vs) (kept_heap w.heap)) in
    let cells : Layout = drop (cell_of t) (object_at w.heap a.region a.object).layout in
    let kinds_is : map held_kind cells ≡ drop (cell_of t) (kinds_in (k.object_at (kept_heap w.heap) a.region a.object)) = drop_mapped held_kind (cell_of t) (object_at w.heap a.region a.object).layout ∙ ap (drop (cell_of t)) (sym (kinds_at w.heap a.region a.object is)) in
    fresh_by (list_all (is_fresh (live w.heap)) vs) line w _ _
    (fitting_kept w.heap a.region line cells vs w _ done (ap (λ hs. Go tt (kw.with_heap (kept_world w) hs)) (written_kept w.heap t a vs is))
    ∙ ap (λ ks. leaving tt (after (k.fitting (kept_heap w.heap) a.region line ks vs) (λ _. done)) (kept_world w)) kinds_is)
    ∙ ap (λ p. leaving tt (passing (list_all (is_fresh p) vs) (Stale line) (after (k.fitting (kept_heap w.heap) a.region line (drop (cell_of t) (kinds_in (k.object_at (kept_heap w.heap) a.region a.object))) vs) (λ _. done))) (kept_world w)) (sym (live_same w.heap)))

-- deletions

child_is : (r : ℕ) (heap : Heap) → has_child r heap ≡ k.has_child r (kept_heap heap)
child_is r [] = refl
child_is r (g ∷ heap) = ap (λ b. (g.alive && nat_eq g.parent r) || b) (child_is r heap)

killed_kept : (heap : Heap) (r : ℕ) → kept_heap (killed heap r) ≡ k.killed (kept_heap heap) r
killed_kept [] r = refl
killed_kept (g ∷ heap) zero = refl
killed_kept (g ∷ heap) (suc r) = ap (λ hs. kept_region g ∷ hs) (killed_kept heap r)

cells_named : (r : ℕ) (os : List Object) → list_any (names r) (flat_map (λ (o : Object). o.values) os) ≡ list_any (object_names r) (map kept_object os)
cells_named r [] = refl
cells_named r (o ∷ os) = list_any-append (names r) o.values (flat_map (λ (x : Object). x.values) os) ∙ ap (λ b. list_any (names r) o.values || b) (cells_named r os)

region_by : (b : Bool) (r : ℕ) (os : List Object) → list_any (names r) (if b then flat_map (λ (o : Object). o.values) os else []) ≡ (b && list_any (object_names r) (if b then map kept_object os else []))
region_by true r os = cells_named r os
region_by false r os = refl

outside_by : (b : Bool) (r : ℕ) (g : Region) → list_any (names r) (if b then [] else values_of g) ≡ (not b && (g.alive && list_any (object_names r) (kept_region g).objects))
outside_by true r g = refl
outside_by false r g = region_by g.alive r g.objects

or_assoc : (a b c : Bool) → (a || (b || c)) ≡ ((a || b) || c)
or_assoc true b c = refl
or_assoc false b c = refl

or_comm : (a b : Bool) → (a || b) ≡ (b || a)
or_comm true true = refl
or_comm true false = refl
or_comm false true = refl
or_comm false false = refl

outside_named : (r at : ℕ) (heap : Heap) (rest : List Value) → list_any (names r) (values_outside r at heap ++ rest) ≡ (is_named r at (kept_heap heap) || list_any (names r) rest)
outside_named r at [] rest = refl
outside_named r at (g ∷ heap) rest =
    let own : List Value = if nat_eq at r then [] else values_of g in
    ap (list_any (names r)) (append_assoc own (values_outside r (suc at) heap) rest)
    ∙ list_any-append (names r) own (values_outside r (suc at) heap ++ rest)
    ∙ ap (λ b. list_any (names r) own || b) (outside_named r (suc at) heap rest)
    ∙ ap (λ b. b || (is_named r (suc at) (kept_heap heap) || list_any (names r) rest)) (outside_by (nat_eq at r) r g)
    ∙ or_assoc (not (nat_eq at r) && (g.alive && list_any (object_names r) (kept_region g).objects)) (is_named r (suc at) (kept_heap heap)) (list_any (names r) rest)

empty_by : (b c : Bool) (v : Value) (vs : List Value) → is_empty vs ≡ not c → is_empty (if b then v ∷ vs else vs) ≡ not (b || c)
empty_by true c v vs same = refl
empty_by false c v vs same = same

none_named : (p : Value → Bool) (vs : List Value) → is_empty (filter p vs) ≡ not (list_any p vs)
none_named p [] = refl
none_named p (v ∷ vs) = empty_by (p v) (list_any p vs) v (filter p vs) (none_named p vs)

named_same : (r : ℕ) (held : List Value) (w : World) → is_empty (references r held w) ≡ not (is_named r 0 (kept_heap w.heap) || list_any (names r) (held ++ w.waiting))
named_same r held w =
    none_named (names r) (values_outside r 0 w.heap ++ (w.waiting ++ held))
    ∙ ap not (outside_named r 0 w.heap (w.waiting ++ held)
    ∙ ap (λ b. is_named r 0 (kept_heap w.heap) || b) (list_any-append (names r) w.waiting held ∙ or_comm (list_any (names r) w.waiting) (list_any (names r) held) ∙ sym (list_any-append (names r) held w.waiting)))

abbrev killing : (r : ℕ) → World → Run World (Unit {0})
killing r w = Go tt (with_heap w (killed w.heap r))

tests_by : (root child named : Bool) (line r : ℕ) (w : World) → mapped kept_world (tested (not root) Root line w (tested (not child) Subregion line w (tested (not named) Reference line w (killing r w)))) ≡ leaving tt (if root then trapped Root line else (if child then trapped Subregion line else (if named then trapped Reference line else Ok (k.killed (kept_heap w.heap) r)))) (kept_world w)
tests_by true child named line r w = refl
tests_by false true named line r w = refl
tests_by false false true line r w = refl
tests_by false false false line r w = ap (λ hs. Go tt (kw.with_heap (kept_world w) hs)) (killed_kept w.heap r)

deleted_tests : (line : ℕ) (held : List Value) (r : ℕ) (w : World) → mapped kept_world (tested (not (nat_eq r 0)) Root line w (tested (not (has_child r w.heap)) Subregion line w (tested (is_empty (references r held w)) Reference line w (killing r w)))) ≡ leaving tt (k.deleted_at (kept_heap w.heap) line (held ++ w.waiting) r) (kept_world w)
deleted_tests line held r w =
    ap (λ b. mapped kept_world (tested (not (nat_eq r 0)) Root line w (tested (not (has_child r w.heap)) Subregion line w (tested b Reference line w (killing r w))))) (named_same r held w)
    ∙ tests_by (nat_eq r 0) (has_child r w.heap) (is_named r 0 (kept_heap w.heap) || list_any (names r) (held ++ w.waiting)) line r w
    ∙ ap (λ b. leaving tt (if nat_eq r 0 then trapped Root line else (if b then trapped Subregion line else (if is_named r 0 (kept_heap w.heap) || list_any (names r) (held ++ w.waiting) then trapped Reference line else Ok (k.killed (kept_heap w.heap) r)))) (kept_world w)) (child_is r w.heap)

deleted_by : (b : Bool) (line : ℕ) (held : List Value) (r : ℕ) (w : World) → mapped kept_world (touching b line w (tested (not (nat_eq r 0)) Root line w (tested (not (has_child r w.heap)) Subregion line w (tested (is_empty (references r held w)) Reference line w (killing r w))))) ≡ leaving tt (after (passing b (Stale line) (Ok r)) (k.deleted_at (kept_heap w.heap) line (held ++ w.waiting))) (kept_world w)
deleted_by true line held r w = deleted_tests line held r w
deleted_by false line held r w = refl

delete_kept : (line : ℕ) (held : List Value) (v : Value) (w : World) → mapped kept_world (source.delete line held v w) ≡ kept.delete line held v (kept_world w)
delete_kept line held (Number n) w = refl
delete_kept line held Null w = refl
delete_kept line held (Pointer a) w = refl
delete_kept line held (Handle r) w =
    deleted_by (live w.heap r) line held r w
    ∙ ap (λ b. leaving tt (after (passing b (Stale line) (Ok r)) (k.deleted_at (kept_heap w.heap) line (held ++ w.waiting))) (kept_world w)) (sym (live_kept w.heap r))

pub kept_agrees : Agree kept_world source kept
kept_agrees = record {
  turns_left = λ w. refl;
  take_turn = λ w. turn_kept w.turns w;
  get_byte = λ w. byte_kept w.input w;
  put_byte = λ byte w. refl;
  new_region = λ line w. made_kept line 0 w;
  new_subregion = child_kept;
  allocate = allocate_kept;
  step = step_kept;
  load = load_kept;
  store = λ line t v w. stored_kept line t (v ∷ []) w;
  load_all = load_all_kept;
  store_all = stored_kept;
  delete = delete_kept;
  enter = λ held w. refl;
  leave = λ before now. refl;
}
