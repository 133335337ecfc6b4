-- What suits a type. A number has to be in range; what a handle or a pointer names has to have been made, so that is told by a
-- ledger of what was made, region by region, region 0 first, with an entry for each object of a region in order. The ledger only
-- grows, since a region that dies keeps its objects; so what suits once suits from then on.
use Rattle.std.specs.Prelude.{◌≡◌, ℕ, suc, ◌<◌, ◌≤◌, IsTrue, List, [], ◌∷◌, ◌++◌, length, map, get_or, slice_get, Option, Some}
use Rattle.std.specs.List.{AllByRecursion as Every, AllZip}
use Rattle.rc_core.specs.declared.ty.NumberType.{NumberType}
use Rattle.rc_core.specs.declared.ty.NumberType.TheVariants.{Int, Unsigned, Char}
use Rattle.rc_core.specs.Types.{Ty, int, unsigned, char, region, struct, pointer, CellKind, int_cell, unsigned_cell, char_cell, region_cell, pointer_cell}
use Rattle.rc_core.specs.Programs.{Struct, Global, Program}
use Rattle.rc_core.specs.Numbers.{IsByte}
use Rattle.rc_core.specs.Layout.{cells}
use Rattle.rc_core.specs.Heap.{Value, Number, Null, Handle, Pointer, Address, Object, kinds_of, Region, Heap}
use Rattle.rc_core.specs.Source.{World}
use Rattle.rc_core.specs.Typing.{fits, IsDefined}
use Rattle.rc_core.specs.WellTyped.{elements}

-- of an object: the type of its elements, and how many it has
pub record Entry : Type 0 where
  pub ty : Ty
  pub count : ℕ

abbrev pub Ledger : Type 0
Ledger = List (List Entry)

-- object o of region r
abbrev pub entry_at : Ledger → (region object : ℕ) → Option Entry
entry_at ledger r o = slice_get (get_or ledger r []) o

-- it leads to an element of an object of the type, or to the end of one
pub record Leads (ledger : Ledger) (target : Ty) (a : Address) : Type 0 where
  pub count : ℕ
  pub entry : entry_at ledger a.region a.object ≡ Some (record { ty = target; count = count })
  pub within : a.index ≤ count

-- a number in the type's range
abbrev pub IsNumber : NumberType → Value → Type 0
IsNumber k (Number n) = IsTrue (fits k n)
IsNumber k Null = ⊥
IsNumber k (Handle r) = ⊥
IsNumber k (Pointer a) = ⊥

-- null, or the handle of a region that was made
abbrev pub IsRegion : Ledger → Value → Type 0
IsRegion ledger (Number n) = ⊥
IsRegion ledger Null = Unit {0}
IsRegion ledger (Handle r) = r < length ledger
IsRegion ledger (Pointer a) = ⊥

-- null, or the address of an element or of the end of an object that was made of the type
abbrev pub IsPointer : Ledger → (target : Ty) → Value → Type 0
IsPointer ledger target (Number n) = ⊥
IsPointer ledger target Null = Unit {0}
IsPointer ledger target (Handle r) = ⊥
IsPointer ledger target (Pointer a) = Leads ledger target a

-- an annotation says nothing here; no value is a whole struct
abbrev pub Suits : Ledger → Ty → Value → Type 0
Suits ledger int v = IsNumber Int v
Suits ledger unsigned v = IsNumber Unsigned v
Suits ledger char v = IsNumber Char v
Suits ledger region v = IsRegion ledger v
Suits ledger (struct k) v = ⊥
Suits ledger (pointer note target) v = IsPointer ledger target v

-- the type of what a cell holds
abbrev pub cell_type : CellKind → Ty
cell_type int_cell = int
cell_type unsigned_cell = unsigned
cell_type char_cell = char
cell_type region_cell = region
cell_type (pointer_cell note target) = pointer note target

-- a cell takes the values of its type
abbrev pub CellSuits : Ledger → CellKind → Value → Type 0
CellSuits ledger kind v = Suits ledger (cell_type kind) v

-- an object is laid out as its type, and has a value that suits for each cell of each element
pub record ObjectSuits (structs : List Struct) (ledger : Ledger) (entry : Entry) (o : Object) : Type 0 where
  pub defined : IsDefined structs entry.ty
  pub count : o.count ≡ entry.count
  pub layout : o.layout ≡ cells structs entry.ty
  pub values : AllZip (CellSuits ledger) (kinds_of o) o.values

-- as many objects as entries, each as its entry says
abbrev pub RegionSuits : List Struct → Ledger → List Entry → Region → Type 0
RegionSuits structs ledger entries g = AllZip (ObjectSuits structs ledger) entries g.objects

-- every region that was made, dead ones too
abbrev pub HeapSuits : List Struct → Ledger → Heap → Type 0
HeapSuits structs ledger heap = AllZip (RegionSuits structs ledger) ledger heap

-- more may have been made; what was made stays, and is what it was
pub record Grows (before after : Ledger) : Type 0 where
  pub regions : length before ≤ length after
  pub entries : (r o : ℕ) (e : Entry) → entry_at before r o ≡ Some e → entry_at after r o ≡ Some e

abbrev pub global_entry : Global → Entry
global_entry g = record { ty = g.ty; count = elements g.count }

abbrev pub literal_entry : List ℕ → Entry
literal_entry bytes = record { ty = char; count = suc (length bytes) }

-- region 0 with the globals, and then the literals
abbrev pub first_ledger : Program → Ledger
first_ledger p = (map global_entry p.globals ++ map literal_entry p.strings) ∷ []

-- it suits some type
abbrev pub SuitsSome : Ledger → Value → Type 0
SuitsSome ledger v = (t : Ty) × Suits ledger t v

-- the heap suits, each value that waits is one of some type, the input is bytes, and the globals and literals are in the ledger
pub record WorldSuits (program : Program) (ledger : Ledger) (w : World) : Type 0 where
  pub heap : HeapSuits program.structs ledger w.heap
  pub waiting : Every (SuitsSome ledger) w.waiting
  pub input : Every IsByte w.input
  pub begun : Grows (first_ledger program) ledger

-- as many values as types, each of its type: of locals, or of arguments
abbrev pub AllSuit : Ledger → List Ty → List Value → Type 0
AllSuit ledger types values = AllZip (Suits ledger) types values

-- some ledger tells what these values and the world are
pub record Known (program : Program) (types : List Ty) (values : List Value) (w : World) : Type 0 where
  pub ledger : Ledger
  pub world : WorldSuits program ledger w
  pub suit : AllSuit ledger types values
