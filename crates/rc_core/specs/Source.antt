-- The source's world, and what the language does to it. It keeps no counts: a deletion looks at every cell of every other
-- live region, at the values that wait, and at the live locals.
use Rattle.std.specs.Prelude.{ℕ, zero, suc, ℤ, pos, negsuc, ◌+◌, ◌-◌, ◌*◌, ◌+ℤ◌, Bool, true, false, not, ◌&&◌, nat_eq, nat_lt, nat_le, int_le, int_lt, unsigned_abs, List, [], ◌∷◌, ◌++◌, length, map, take, drop, filter, flat_map, if◌then◌else◌}
use Rattle.std.specs.List.{list_any, list_all}
use Rattle.rc_base.specs.Acts.{Act, Write, Getchar}
use Rattle.rc_base.specs.declared.ends.Trap.{Trap}
use Rattle.rc_base.specs.declared.ends.Trap.TheVariants.{Null as NullTrap, Bounds, Size, SameRegion as UnfitSameRegion, ParentPtr as UnfitParentPtr, Traditional as UnfitTraditional, Root, Subregion, Reference, Full}
use Rattle.rc_core.specs.declared.ty.Note.{Note}
use Rattle.rc_core.specs.declared.ty.Note.TheVariants.{Plain, SameRegion, ParentPtr, Traditional}
use Rattle.rc_core.specs.Layout.{Layout, note_of}
use Rattle.rc_core.specs.Heap.{Value, Number, Null, Handle, Pointer, Address, Object, Region, Heap, live, parent, objects, object_at, update, with_objects, names, is_fresh, fits, blank}
use Rattle.rc_core.specs.Runs.{Run, Go, spent, trap, tested, touching, Chosen, Target, Ops}

-- the turns and the input that are left, the acts so far, the heap, the values that wait in callers, and how many regions a
-- run may make and objects a region may have
pub record World : Type 0 where
  pub turns : ℕ
  pub input : List ℕ
  pub acts : List Act
  pub heap : Heap
  pub waiting : List Value
  pub regions : ℕ
  pub blocks : ℕ

abbrev pub with_heap : World → Heap → World
with_heap w heap = record w { heap = heap }

abbrev pub doing : World → Act → World
doing w act = record w { acts = w.acts ++ act ∷ [] }

abbrev pub turn_from : ℕ → World → Run World (Unit {0})
turn_from zero w = spent w
turn_from (suc n) w = Go tt (record w { turns = n })

-- EOF is -1
abbrev pub byte_from : List ℕ → World → Run World ℤ
byte_from [] w = Go (negsuc 0) (doing w Getchar)
byte_from (b ∷ rest) w = Go (pos b) (record (doing w Getchar) { input = rest })

-- behind the null test
abbrev pub at_region : {A : Type 0} → (line : ℕ) → Value → World → (ℕ → Run World A) → Run World A
at_region line (Handle r) w go = go r
at_region line (Number n) w go = trap NullTrap line w
at_region line Null w go = trap NullTrap line w
at_region line (Pointer a) w go = trap NullTrap line w

abbrev pub at_address : {A : Type 0} → (line : ℕ) → Value → World → (Address → Run World A) → Run World A
at_address line (Pointer a) w go = go a
at_address line (Number n) w go = trap NullTrap line w
at_address line Null w go = trap NullTrap line w
at_address line (Handle r) w go = trap NullTrap line w

-- from 0, and less than the count
abbrev pub is_index : ℤ → ℕ → Bool
is_index z count = int_le (pos 0) z && int_lt z (pos count)

abbrev pub chosen_in_range : Chosen → Bool
chosen_in_range c = is_index c.index c.count

-- the cells that stand before the chosen elements, within their array fields
abbrev pub cells_chosen : List Chosen → ℕ
cells_chosen [] = 0
cells_chosen (c ∷ cs) = unsigned_abs c.index * c.stride + cells_chosen cs

-- the cell in the element that the target names
abbrev pub cell_of : Target → ℕ
cell_of t = t.offset + cells_chosen t.chosen

-- a cell: the object, the element in it and the cell in that
pub record Spot : Type 0 where
  pub region : ℕ
  pub object : ℕ
  pub element : ℕ
  pub cell : ℕ

abbrev pub object_of : Heap → Spot → Object
object_of heap spot = object_at heap spot.region spot.object

abbrev pub place_of : Object → Spot → ℕ
place_of o spot = spot.element * length o.layout + spot.cell

-- the cells from the spot on
abbrev pub values_from : Heap → Spot → (size : ℕ) → List Value
values_from heap spot size = take size (drop (place_of (object_of heap spot) spot) (object_of heap spot).values)

abbrev pub notes_from : Heap → Spot → List Note
notes_from heap spot = map note_of (drop spot.cell (object_of heap spot).layout)

-- the null test, whether the region is alive, and the bounds tests, from left to right
abbrev pub at_spot : {A : Type 0} → (line : ℕ) → Target → World → (Spot → Run World A) → Run World A
at_spot line t w go =
    at_address line t.pointer w (λ a.
    touching (live w.heap a.region) line w
    (tested (is_index (pos a.index +ℤ t.shift) (object_at w.heap a.region a.object).count) Bounds line w
    (tested (list_all chosen_in_range t.chosen) Bounds line w
    (go (record { region = a.region; object = a.object; element = unsigned_abs (pos a.index +ℤ t.shift); cell = cell_of t })))))

abbrev pub unfit : Note → Trap
unfit Plain = NullTrap
unfit SameRegion = UnfitSameRegion
unfit ParentPtr = UnfitParentPtr
unfit Traditional = UnfitTraditional

-- the annotation checks, in the order of the cells
abbrev pub fitting : Heap → (holder line : ℕ) → List Note → List Value → World → Run World (Unit {0}) → Run World (Unit {0})
fitting heap holder line notes [] w run = run
fitting heap holder line [] (v ∷ vs) w run = run
fitting heap holder line (note ∷ notes) (v ∷ vs) w run =
    tested (fits (parent heap) note holder v) (unfit note) line w (fitting heap holder line notes vs w run)

-- the list with these elements from a place on
abbrev pub overwritten : ℕ → List Value → List Value → List Value
overwritten at new [] = []
overwritten zero [] (v ∷ vs) = v ∷ vs
overwritten zero (u ∷ new) (v ∷ vs) = u ∷ overwritten zero new vs
overwritten (suc at) new (v ∷ vs) = v ∷ overwritten at new vs

-- no value goes past the element
abbrev pub written : Spot → List Value → Heap → Heap
written spot vs heap =
    with_objects heap spot.region (λ os. update os spot.object (λ o. record o { values = overwritten (place_of o spot) (take (length o.layout - spot.cell) vs) o.values }))

abbrev pub stored : (line : ℕ) → Target → List Value → World → Run World (Unit {0})
stored line t vs w =
    at_spot line t w (λ spot.
    touching (list_all (is_fresh (live w.heap)) vs) line w
    (fitting w.heap spot.region line (notes_from w.heap spot) vs w
    (Go tt (with_heap w (written spot vs w.heap)))))

-- region 0 isn't made by a run
abbrev pub made : (line parent : ℕ) → World → Run World Value
made line p w =
    tested (nat_le (length w.heap) w.regions) Full line w
    (Go (Handle (length w.heap)) (with_heap w (w.heap ++ record { parent = p; alive = true; objects = [] } ∷ [])))

abbrev pub allocated : (line region : ℕ) → (count : ℤ) → Layout → World → Run World Value
allocated line r count layout w =
    tested (int_le (pos 0) count) Size line w
    (tested (nat_lt (length (objects w.heap r)) w.blocks) Full line w
    (Go (Pointer (record { region = r; object = length (objects w.heap r); index = 0 }))
    (with_heap w (with_objects w.heap r (λ os. os ++ blank layout (unsigned_abs count) ∷ [])))))

-- a new index may be the end of the object
abbrev pub stepped : (line : ℕ) → Address → ℤ → World → Run World Value
stepped line a n w =
    touching (live w.heap a.region) line w
    (tested (is_index (pos a.index +ℤ n) (suc (object_at w.heap a.region a.object).count)) Bounds line w
    (Go (Pointer (record a { index = unsigned_abs (pos a.index +ℤ n) })) w))

abbrev pub has_child : ℕ → Heap → Bool
has_child r heap = list_any (λ (g : Region). g.alive && nat_eq g.parent r) heap

abbrev pub values_of : Region → List Value
values_of g = if g.alive then flat_map (λ (o : Object). o.values) g.objects else []

-- the values of all cells of live regions but r; `at` is the number of the first region
abbrev pub values_outside : (r at : ℕ) → Heap → List Value
values_outside r at [] = []
values_outside r at (g ∷ heap) = (if nat_eq at r then [] else values_of g) ++ values_outside r (suc at) heap

-- the references to r from outside: cells, waiting values and live locals
abbrev pub references : (r : ℕ) → (held : List Value) → World → List Value
references r held w = filter (names r) (values_outside r 0 w.heap ++ (w.waiting ++ held))

abbrev pub is_empty : List Value → Bool
is_empty [] = true
is_empty (v ∷ vs) = false

-- it keeps its objects, though nothing looks at them again: a value that still leads to one keeps its type
abbrev pub killed : Heap → ℕ → Heap
killed heap r = update heap r (λ g. record g { alive = false })

abbrev pub deleted : (line : ℕ) → (held : List Value) → (r : ℕ) → World → Run World (Unit {0})
deleted line held r w =
    touching (live w.heap r) line w
    (tested (not (nat_eq r 0)) Root line w
    (tested (not (has_child r w.heap)) Subregion line w
    (tested (is_empty (references r held w)) Reference line w
    (Go tt (with_heap w (killed w.heap r))))))

abbrev pub first_of : List Value → Value
first_of [] = Null
first_of (v ∷ vs) = v

-- A deleted region is touched, and the run would stop there as Stale, by these alone, where they meet it: `new_subregion` of its
-- handle, `allocate` in it, `step` of a pointer into it, `load`, `load_all`, `store` and `store_all` through one, the last two also
-- with a value that names it, and `delete` of it. `regionof`, `==`, tests for null and passing a value on touch nothing.
abbrev pub source : Ops World
source = record {
  turns_left = λ w. w.turns;
  take_turn = λ w. turn_from w.turns w;
  get_byte = λ w. byte_from w.input w;
  put_byte = λ b w. Go tt (doing w (Write b));
  new_region = λ line w. made line 0 w;
  new_subregion = λ line v w. at_region line v w (λ r. touching (live w.heap r) line w (made line r w));
  allocate = λ line v count layout w. at_region line v w (λ r. touching (live w.heap r) line w (allocated line r count layout w));
  step = λ line v n w. at_address line v w (λ a. stepped line a n w);
  load = λ line t w. at_spot line t w (λ spot. Go (first_of (values_from w.heap spot 1)) w);
  store = λ line t v w. stored line t (v ∷ []) w;
  load_all = λ line t size w. at_spot line t w (λ spot. Go (values_from w.heap spot size) w);
  store_all = stored;
  delete = λ line held v w. at_region line v w (λ r. deleted line held r w);
  enter = λ held w. record w { waiting = held ++ w.waiting };
  leave = λ before now. record now { waiting = before.waiting };
}
