-- What a run of a sound image keeps, as facts of a world.
--
-- A number stands where a number is asked for, and in the range of its kind. A region is null or one that was made, dead ones
-- included. A pointer is null or leads to an element or the end of an object, and what it points to is told by the layout of that
-- object, so no type is kept beside the heap. An object has as many values as its layout has cells, each of its cell's kind.
-- Parents of live regions live, and where the run over the source's world looks, cells of live regions name no dead one and
-- annotated cells fit. Objects and regions never go away.
use Rattle.std.specs.Prelude.{◌≡◌, ℕ, ℤ, ◌<◌, ◌≤◌, Bool, true, false, IsTrue, length, slice_get, Option, Some, None}
use Rattle.std.specs.List.{AllByRecursion as Every, AllZip}
use Rattle.rc_core.specs.declared.ty.NumberType.{NumberType}
use Rattle.rc_core.specs.declared.ty.NumberType.TheVariants.{Int, Unsigned, Char}
use Rattle.rc_core.specs.Arithmetic.{type_of}
use Rattle.rc_core.specs.Evaluation.{number_in}
use Rattle.rc_core.specs.Numbers.{IsByte}
use Rattle.rc_core.specs.Types.{CellKind}
use Rattle.rc_core.specs.Typing.{fits}
use Rattle.rc_core.specs.Layout.{Layout}
use Rattle.rc_core.specs.Heap.{Value, Number, Null, Handle, Pointer, Address, Object, Region, Heap, live, parent, objects, is_fresh, kinds_of}
use Rattle.rc_core.specs.Source.{World}
use Rattle.rc_safety.specs.Soundness.{HeapIsSound}
use Rattle.rc_code.specs.declared.kind.Storage.{Storage}
use Rattle.rc_code.specs.declared.kind.Storage.TheVariants as storage
use Rattle.rc_code.specs.declared.image.Global.{Global}
use Rattle.rc_code.specs.Soundness.{Kind, numbers, handles, pointers, operand_kind}
use Rattle.rc_worlds.specs.Worlds.{Compared, looks}
use Rattle.rc_code.specs.Running.{layout_at, storage_of}

-- the cells of an element, and how many elements there are
pub record Shape : Type 0 where
  pub layout : Layout
  pub count : ℕ

abbrev pub shape_of : Object → Shape
shape_of o = record { layout = o.layout; count = o.count }

abbrev pub shape_in : Option Object → Option Shape
shape_in None = None
shape_in (Some o) = Some (shape_of o)

-- of an object that was made, in a live region or in a dead one
abbrev pub shape_there : Heap → (r o : ℕ) → Option Shape
shape_there heap r o = shape_in (slice_get (objects heap r) o)

-- it leads to an element, or to the end, of an object that was made with these cells
pub record LeadsTo (heap : Heap) (layout : Layout) (a : Address) : Type 0 where
  pub count : ℕ
  pub there : shape_there heap a.region a.object ≡ Some (record { layout = layout; count = count })
  pub within : a.index ≤ count

-- in the range of the type, where each byte that a run is given is one
abbrev pub InRange : (ranged : Bool) → NumberType → ℤ → Type 0
InRange ranged k n = ranged ≡ true → IsTrue (fits k n)

-- the value is of the kind, and was made
abbrev pub Suits : Compared → Heap → Kind → Value → Type 0
Suits image heap (numbers s) (Number n) = InRange image.ranged (type_of s) n
Suits image heap (numbers s) Null = ⊥
Suits image heap (numbers s) (Handle r) = ⊥
Suits image heap (numbers s) (Pointer a) = ⊥
Suits image heap handles (Number n) = ⊥
Suits image heap handles Null = Unit {0}
Suits image heap handles (Handle r) = r < length heap
Suits image heap handles (Pointer a) = ⊥
Suits image heap (pointers t) (Number n) = ⊥
Suits image heap (pointers t) Null = Unit {0}
Suits image heap (pointers t) (Handle r) = ⊥
Suits image heap (pointers t) (Pointer a) = LeadsTo heap (layout_at image.code t) a

-- as a record, so that arguments are found
pub record HasKind (image : Compared) (heap : Heap) (kind : Kind) (value : Value) : Type 0 where
  pub suits : Suits image heap kind value

-- on the stack a `char` is an `int`; where it is kept, it is a byte
abbrev pub IsNarrow : (ranged : Bool) → Storage → Value → Type 0
IsNarrow ranged (storage.Number Int) v = Unit {0}
IsNarrow ranged (storage.Number Unsigned) v = Unit {0}
IsNarrow ranged (storage.Number Char) v = InRange ranged Char (number_in v)
IsNarrow ranged storage.Region v = Unit {0}
IsNarrow ranged (storage.Pointer type) v = Unit {0}

-- what a local or a cell keeps
pub record Keeps (image : Compared) (heap : Heap) (s : Storage) (v : Value) : Type 0 where
  pub kind : HasKind image heap (operand_kind s) v
  pub narrow : IsNarrow image.ranged s v

abbrev pub Stored : Compared → Heap → CellKind → Value → Type 0
Stored image heap kind v = Keeps image heap (storage_of image.code kind) v

-- as many values as cells, each of its cell's kind
abbrev pub ObjectIsTyped : Compared → Heap → Object → Type 0
ObjectIsTyped image heap o = AllZip (Stored image heap) (kinds_of o) o.values

abbrev pub RegionIsTyped : Compared → Heap → Region → Type 0
RegionIsTyped image heap g = Every (ObjectIsTyped image heap) g.objects

-- of dead regions too: nothing is written there
pub record HeapIsTyped (image : Compared) (heap : Heap) : Type 0 where
  pub regions : Every (RegionIsTyped image heap) heap

abbrev pub IsMade : Heap → Value → Type 0
IsMade heap (Number n) = Unit {0}
IsMade heap Null = Unit {0}
IsMade heap (Handle r) = r < length heap
IsMade heap (Pointer a) = a.region < length heap

-- the globals stand in region 0
abbrev pub GlobalsAreThere : Compared → Heap → Type 0
GlobalsAreThere image heap =
    (g : ℕ) (global : Global) → slice_get image.code.parts.globals g ≡ Some global → shape_there heap 0 g ≡ Some (record { layout = layout_at image.code global.type_number; count = global.elements })

-- parents of live regions live; and where the run looks and checks, cells name no dead region and fit
pub record IsTree (heap : Heap) : Type 0 where
  pub root : live heap 0 ≡ true
  pub parents : (r : ℕ) → live heap r ≡ true → live heap (parent heap r) ≡ true

abbrev pub IsSoundBy : (looks : Bool) → Heap → Type 0
IsSoundBy true heap = HeapIsSound heap
IsSoundBy false heap = IsTree heap

pub record Good (image : Compared) (w : World) : Type 0 where
  pub sound : IsSoundBy (looks image.marks) w.heap
  pub typed : HeapIsTyped image w.heap
  pub globals : GlobalsAreThere image w.heap
  pub waiting : Every (IsMade w.heap) w.waiting
  pub input : image.ranged ≡ true → Every IsByte w.input

-- regions and objects that were made stay, and objects keep their layouts and counts
pub record Grows (before after : Heap) : Type 0 where
  pub regions : length before ≤ length after
  pub objects : (r o : ℕ) (shape : Shape) → shape_there before r o ≡ Some shape → shape_there after r o ≡ Some shape

-- no pinned region dies, and no dead one lives again
abbrev pub AsFresh : (before after : Heap) → Value → Type 0
AsFresh before after v = is_fresh (live after) v ≡ is_fresh (live before) v

-- what a run may change of the world
pub record Reaches (image : Compared) (w w1 : World) : Type 0 where
  pub good : Good image w1
  pub grows : Grows w.heap w1.heap
  pub waits : w1.waiting ≡ w.waiting
  pub fresh : Every (AsFresh w.heap w1.heap) w.waiting
