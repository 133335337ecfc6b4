-- The heap as far as it has to be kept: of a dead region its parent alone.
use Rattle.std.specs.Prelude.{ℕ, suc, ℤ, pos, ◌+◌, ◌-◌, ◌*◌, ◌+ℤ◌, Bool, true, false, not, ◌||◌, ◌&&◌, nat_eq, nat_lt, nat_le, int_le, unsigned_abs, List, [], ◌∷◌, ◌++◌, length, map, take, drop, slice_get, Option, Some, None, Ok, if◌then◌else◌}
use Rattle.std.specs.List.{list_any, list_all}
use Rattle.rc_base.specs.declared.ends.Trap.TheVariants.{Null as NullTrap, Bounds, Size, Root, Subregion, Reference, Full}
use Rattle.rc_core.specs.Heap.{Value, Number, Null, Handle, Pointer, Address, Region, Heap, update, is_fresh, fits, names}
use Rattle.rc_core.specs.Runs.{Stale, Target}
use Rattle.rc_core.specs.Source.{is_index, chosen_in_range, cell_of, unfit, overwritten}
use Rattle.rc_core.specs.declared.layouts.Kind.{Kind}
use Rattle.rc_memory.specs.declared.heap.Spot.{Spot}
use Rattle.rc_values.specs.Cells.{note_of}
use Rattle.rc_values.specs.Objects.{KeptObject, kept_object, blank, object_names, first_of}
use Rattle.rc_values.specs.Outcomes.{Outcome, trapped, passing, after}

pub record KeptRegion : Type 0 where
  pub parent : ℕ
  pub alive : Bool
  pub objects : List KeptObject

abbrev pub KeptHeap : Type 0
KeptHeap = List KeptRegion

abbrev pub kept_region : Region → KeptRegion
kept_region g = record { parent = g.parent; alive = g.alive; objects = if g.alive then map kept_object g.objects else [] }

abbrev pub kept_heap : Heap → KeptHeap
kept_heap heap = map kept_region heap

abbrev pub alive_in : Option KeptRegion → Bool
alive_in None = false
alive_in (Some g) = g.alive

abbrev pub parent_in : Option KeptRegion → ℕ
parent_in None = 0
parent_in (Some g) = g.parent

abbrev pub objects_in : Option KeptRegion → List KeptObject
objects_in None = []
objects_in (Some g) = g.objects

abbrev pub count_in : Option KeptObject → ℕ
count_in None = 0
count_in (Some o) = o.count

abbrev pub size_in : Option KeptObject → ℕ
size_in None = 0
size_in (Some o) = length o.kinds

abbrev pub kinds_in : Option KeptObject → List Kind
kinds_in None = []
kinds_in (Some o) = o.kinds

abbrev pub values_in : Option KeptObject → List Value
values_in None = []
values_in (Some o) = o.values

abbrev pub live : KeptHeap → ℕ → Bool
live heap r = alive_in (slice_get heap r)

abbrev pub parent : KeptHeap → ℕ → ℕ
parent heap r = parent_in (slice_get heap r)

abbrev pub objects : KeptHeap → ℕ → List KeptObject
objects heap r = objects_in (slice_get heap r)

abbrev pub object_at : KeptHeap → (r o : ℕ) → Option KeptObject
object_at heap r o = slice_get (objects heap r) o

-- behind the null test, in a live region
abbrev pub live_region : KeptHeap → (line : ℕ) → Value → Outcome ℕ
live_region heap line (Handle r) = passing (live heap r) (Stale line) (Ok r)
live_region heap line (Number n) = trapped NullTrap line
live_region heap line Null = trapped NullTrap line
live_region heap line (Pointer a) = trapped NullTrap line

abbrev pub live_address : KeptHeap → (line : ℕ) → Value → Outcome Address
live_address heap line (Pointer a) = passing (live heap a.region) (Stale line) (Ok a)
live_address heap line (Number n) = trapped NullTrap line
live_address heap line Null = trapped NullTrap line
live_address heap line (Handle r) = trapped NullTrap line

abbrev pub in_bounds : {A : Type 0} → Bool → (line : ℕ) → Outcome A → Outcome A
in_bounds true line next = next
in_bounds false line next = trapped Bounds line

-- an element of an object, and a cell in it
abbrev pub spot_at : KeptHeap → Address → (element cell : ℕ) → Spot
spot_at heap a element cell = record { region = a.region; object = a.object; place = element * size_in (object_at heap a.region a.object) + cell; cell = cell }

abbrev pub spot_of : KeptHeap → (line : ℕ) → Target → Outcome Spot
spot_of heap line t =
    after (live_address heap line t.pointer) (λ a.
    in_bounds (is_index (pos a.index +ℤ t.shift) (count_in (object_at heap a.region a.object))) line
    (in_bounds (list_all chosen_in_range t.chosen) line
    (Ok (spot_at heap a (unsigned_abs (pos a.index +ℤ t.shift)) (cell_of t)))))

abbrev pub values_at : KeptHeap → Spot → List Value
values_at heap spot = drop spot.place (values_in (object_at heap spot.region spot.object))

abbrev pub load : KeptHeap → (line : ℕ) → Target → Outcome Value
load heap line t = after (spot_of heap line t) (λ spot. Ok (first_of (values_at heap spot)))

abbrev pub load_all : KeptHeap → (line : ℕ) → Target → (size : ℕ) → Outcome (List Value)
load_all heap line t size = after (spot_of heap line t) (λ spot. Ok (take size (values_at heap spot)))

-- the annotation checks, in the order of the cells
abbrev pub fitting : KeptHeap → (holder line : ℕ) → List Kind → List Value → Outcome (Unit {0})
fitting heap holder line kinds [] = Ok tt
fitting heap holder line [] (v ∷ vs) = Ok tt
fitting heap holder line (kind ∷ kinds) (v ∷ vs) =
    if fits (parent heap) (note_of kind) holder v then fitting heap holder line kinds vs else trapped (unfit (note_of kind)) line

abbrev pub with_objects : KeptHeap → ℕ → (List KeptObject → List KeptObject) → KeptHeap
with_objects heap r change = update heap r (λ g. record g { objects = change g.objects })

abbrev pub written : Spot → List Value → KeptHeap → KeptHeap
written spot vs heap =
    with_objects heap spot.region (λ os. update os spot.object (λ o. record o { values = overwritten spot.place vs o.values }))

-- no value goes past the element
abbrev pub room : KeptHeap → Spot → ℕ
room heap spot = size_in (object_at heap spot.region spot.object) - spot.cell

abbrev pub store : KeptHeap → (line : ℕ) → Target → List Value → Outcome KeptHeap
store heap line t vs =
    after (spot_of heap line t) (λ spot.
    passing (list_all (is_fresh (live heap)) vs) (Stale line)
    (after (fitting heap spot.region line (drop spot.cell (kinds_in (object_at heap spot.region spot.object))) vs) (λ _.
    Ok (written spot (take (room heap spot) vs) heap))))

-- region 0 isn't made by a run
abbrev pub made : KeptHeap → (line parent limit : ℕ) → Outcome KeptHeap
made heap line p limit = if nat_le (length heap) limit then Ok (heap ++ record { parent = p; alive = true; objects = [] } ∷ []) else trapped Full line

abbrev pub allocated : KeptHeap → (line limit : ℕ) → (count : ℤ) → List Kind → ℕ → Outcome KeptHeap
allocated heap line limit count kinds r =
    if int_le (pos 0) count
    then (if nat_lt (length (objects heap r)) limit then Ok (with_objects heap r (λ os. os ++ blank kinds (unsigned_abs count) ∷ [])) else trapped Full line)
    else trapped Size line

abbrev pub step : KeptHeap → (line : ℕ) → Value → ℤ → Outcome Value
step heap line v n =
    after (live_address heap line v) (λ a.
    in_bounds (is_index (pos a.index +ℤ n) (suc (count_in (object_at heap a.region a.object)))) line
    (Ok (Pointer (record a { index = unsigned_abs (pos a.index +ℤ n) }))))

abbrev pub has_child : ℕ → KeptHeap → Bool
has_child r heap = list_any (λ (g : KeptRegion). g.alive && nat_eq g.parent r) heap

-- a cell of a live region but r names r; `at` is the number of the first region
abbrev pub is_named : (r at : ℕ) → KeptHeap → Bool
is_named r at [] = false
is_named r at (g ∷ heap) = (not (nat_eq at r) && (g.alive && list_any (object_names r) g.objects)) || is_named r (suc at) heap

abbrev pub killed : KeptHeap → ℕ → KeptHeap
killed heap r = update heap r (λ g. record g { alive = false; objects = [] })

abbrev pub deleted_at : KeptHeap → (line : ℕ) → (held : List Value) → ℕ → Outcome KeptHeap
deleted_at heap line held r =
    if nat_eq r 0 then trapped Root line else
    (if has_child r heap then trapped Subregion line else
    (if is_named r 0 heap || list_any (names r) held then trapped Reference line else
    Ok (killed heap r)))

abbrev pub deleted : KeptHeap → (line : ℕ) → (held : List Value) → Value → Outcome KeptHeap
deleted heap line held v = after (live_region heap line v) (deleted_at heap line held)
