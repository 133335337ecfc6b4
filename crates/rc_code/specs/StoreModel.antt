-- The store model: what a heap does that keeps live regions only. Values that wait are pinned, and a deletion counts the pins
-- and the counted cells that name the region. It is one of the worlds in which an image has a meaning.
--
-- A dead region is touched where the source touches one, and at the same place: behind the null test of a pointer or a region,
-- and for a stored value behind the bounds tests. A store with the mark makes no check of the annotation.
use Rattle.std.specs.Prelude.{ℕ, zero, suc, ℤ, pos, negsuc, ◌-◌, ◌+ℤ◌, Bool, true, false, not, nat_eq, nat_lt, nat_le, int_le, unsigned_abs, List, [], ◌∷◌, ◌++◌, length, take, filter, get_or, Option, Some, None}
use Rattle.std.specs.List.{list_any, list_all}
use Rattle.rc_base.specs.Acts.{Act, Write, Getchar}
use Rattle.rc_base.specs.declared.ends.Trap.TheVariants.{Null as NullTrap, Bounds, Size, Root, Subregion, Reference, Full}
use Rattle.rc_core.specs.Types.{CellKind, int_cell}
use Rattle.rc_core.specs.Layout.{Layout, note_of}
use Rattle.rc_core.specs.Heap.{Value, Number, Null, Handle, Pointer, Address, Object, no_object, update, is_fresh, fits, blank}
use Rattle.rc_core.specs.Store.{View, Store, refs}
use Rattle.rc_core.specs.Runs.{Run, Go, spent, trap, tested, touching, Target, Ops}
use Rattle.rc_core.specs.Source.{Spot, is_index, chosen_in_range, cell_of, place_of, overwritten, unfit}
use Rattle.rc_code.specs.Running.{Doing}

pub record Held : Type 0 where
  pub turns : ℕ
  pub input : List ℕ
  pub acts : List Act
  pub store : Store

abbrev pub no_view : View
no_view = record { parent = 0; objects = [] }

abbrev pub or_none : Option View → View
or_none None = no_view
or_none (Some v) = v

abbrev pub is_view : Option View → Bool
is_view None = false
is_view (Some v) = true

abbrev pub lives : Store → ℕ → Bool
lives s r = is_view (get_or s.regions r None)

abbrev pub view : Store → ℕ → View
view s r = or_none (get_or s.regions r None)

abbrev pub parent_in : Store → ℕ → ℕ
parent_in s r = (view s r).parent

abbrev pub object_in : Store → (r o : ℕ) → Object
object_in s r o = get_or (view s r).objects o no_object

abbrev pub changed_view : (List Object → List Object) → Option View → Option View
changed_view change None = None
changed_view change (Some v) = Some (record v { objects = change v.objects })

abbrev pub with_objects_in : Store → ℕ → (List Object → List Object) → Store
with_objects_in s r change = record s { regions = update s.regions r (changed_view change) }

abbrev pub with_store : Held → Store → Held
with_store w s = record w { store = s }

abbrev pub turn_in : ℕ → Held → Run Held (Unit {0})
turn_in zero w = spent w
turn_in (suc n) w = Go tt (record w { turns = n })

abbrev pub byte_in : List ℕ → Held → Run Held ℤ
byte_in [] w = Go (negsuc 0) (record w { acts = w.acts ++ Getchar ∷ [] })
byte_in (b ∷ rest) w = Go (pos b) (record w { acts = w.acts ++ Getchar ∷ []; input = rest })

abbrev pub on_region : {A : Type 0} → (line : ℕ) → Value → Held → (ℕ → Run Held A) → Run Held A
on_region line (Handle r) w go = go r
on_region line (Number n) w go = trap NullTrap line w
on_region line Null w go = trap NullTrap line w
on_region line (Pointer a) w go = trap NullTrap line w

abbrev pub on_address : {A : Type 0} → (line : ℕ) → Value → Held → (Address → Run Held A) → Run Held A
on_address line (Pointer a) w go = go a
on_address line (Number n) w go = trap NullTrap line w
on_address line Null w go = trap NullTrap line w
on_address line (Handle r) w go = trap NullTrap line w

-- the cell that a target comes to, whose pointer leads to this element
abbrev pub spot_at : Address → Target → Spot
spot_at a t = record { region = a.region; object = a.object; element = unsigned_abs (pos a.index +ℤ t.shift); cell = cell_of t }

abbrev pub on_spot : {A : Type 0} → (line : ℕ) → Target → Held → (Spot → Run Held A) → Run Held A
on_spot line t w go =
    on_address line t.pointer w (λ a.
    touching (lives w.store a.region) line w
    (tested (is_index (pos a.index +ℤ t.shift) (object_in w.store a.region a.object).count) Bounds line w
    (tested (list_all chosen_in_range t.chosen) Bounds line w
    (go (spot_at a t)))))

abbrev pub value_in : Store → Spot → Value
value_in s spot = get_or (object_in s spot.region spot.object).values (place_of (object_in s spot.region spot.object) spot) Null

abbrev pub kind_in : Store → Spot → CellKind
kind_in s spot = get_or (object_in s spot.region spot.object).layout spot.cell int_cell

-- one cell, if the element has it
abbrev pub put_in : Spot → Value → Store → Store
put_in spot v s = with_objects_in s spot.region (λ os. update os spot.object (λ o. record o { values = overwritten (place_of o spot) (take (length o.layout - spot.cell) (v ∷ [])) o.values }))

-- with the check of the annotation, or without
abbrev pub stored_in : (proved : Bool) → (line : ℕ) → Target → Value → Held → Run Held (Unit {0})
stored_in proved line t v w =
    on_spot line t w (λ spot.
    touching (is_fresh (lives w.store) v) line w
    (checked proved spot (Go tt (with_store w (put_in spot v w.store)))))
  where
    checked : Bool → Spot → Run Held (Unit {0}) → Run Held (Unit {0})
    checked true spot run = run
    checked false spot run = tested (fits (parent_in w.store) (note_of (kind_in w.store spot)) spot.region v) (unfit (note_of (kind_in w.store spot))) line w run

abbrev pub made_in : (line parent : ℕ) → Held → Run Held Value
made_in line p w =
    tested (nat_le (length w.store.regions) w.store.region_limit) Full line w
    (Go (Handle (length w.store.regions)) (with_store w (record w.store { regions = w.store.regions ++ Some (record { parent = p; objects = [] }) ∷ [] })))

abbrev pub allocated_in : (line region : ℕ) → (count : ℤ) → Layout → Held → Run Held Value
allocated_in line r count layout w =
    tested (int_le (pos 0) count) Size line w
    (tested (nat_lt (length (view w.store r).objects) w.store.block_limit) Full line w
    (Go (Pointer (record { region = r; object = length (view w.store r).objects; index = 0 }))
    (with_store w (with_objects_in w.store r (λ os. os ++ blank layout (unsigned_abs count) ∷ [])))))

abbrev pub is_child : ℕ → Option View → Bool
is_child r None = false
is_child r (Some v) = nat_eq v.parent r

-- the values of the live locals are pinned while it is tried
abbrev pub deleted_in : (line : ℕ) → (held : List Value) → (r : ℕ) → Held → Run Held (Unit {0})
deleted_in line held r w =
    touching (lives w.store r) line w
    (tested (not (nat_eq r 0)) Root line w
    (tested (not (list_any (is_child r) w.store.regions)) Subregion line w
    (tested (nat_eq (refs (record w.store { pins = filter (is_fresh (lives w.store)) held ++ w.store.pins }) r) 0) Reference line w
    (Go tt (with_store w (record w.store { regions = update w.store.regions r (λ _. None) }))))))

abbrev pub stepped_in : (line : ℕ) → Address → ℤ → Held → Run Held Value
stepped_in line a n w =
    touching (lives w.store a.region) line w
    (tested (is_index (pos a.index +ℤ n) (suc (object_in w.store a.region a.object).count)) Bounds line w
    (Go (Pointer (record a { index = unsigned_abs (pos a.index +ℤ n) })) w))

-- cells are read and written one by one here; `load_all` and `store_all` are the source's alone
abbrev pub store_model : Ops Held
store_model = record {
  turns_left = λ w. w.turns;
  take_turn = λ w. turn_in w.turns w;
  get_byte = λ w. byte_in w.input w;
  put_byte = λ b w. Go tt (record w { acts = w.acts ++ Write b ∷ [] });
  new_region = λ line w. made_in line 0 w;
  new_subregion = λ line v w. on_region line v w (λ r. touching (lives w.store r) line w (made_in line r w));
  allocate = λ line v count layout w. on_region line v w (λ r. touching (lives w.store r) line w (allocated_in line r count layout w));
  step = λ line v n w. on_address line v w (λ a. stepped_in line a n w);
  load = λ line t w. on_spot line t w (λ spot. Go (value_in w.store spot) w);
  store = λ line t v w. stored_in false line t v w;
  load_all = λ line t size w. Go [] w;
  store_all = λ line t vs w. Go tt w;
  delete = λ line held v w. on_region line v w (λ r. deleted_in line held r w);
  enter = λ held w. with_store w (record w.store { pins = filter (is_fresh (lives w.store)) held ++ w.store.pins });
  leave = λ before now. with_store now (record now.store { pins = before.store.pins });
}

-- a store with the mark, and without
abbrev pub stored : Doing Held
stored = record { ops = store_model; put = stored_in }
