-- The bytes of the fields of an image: numbers, types, globals, paths, and what locals and results hold.
use Rattle.std.specs.Prelude.{ℕ, zero, suc, ◌+◌, ◌/◌, ◌%◌, nat_lt, List, [], ◌∷◌, ◌++◌, length, Option, Some, None, if◌then◌else◌}
use Rattle.std.specs.List.{flat_map}
use Rattle.rc_core.specs.declared.ty.Signedness.{Signedness}
use Rattle.rc_code.specs.declared.kind.Cell.{Cell}
use Rattle.rc_code.specs.declared.kind.Cell.TheVariants as cell
use Rattle.rc_code.specs.declared.kind.Storage.{Storage}
use Rattle.rc_code.specs.declared.kind.Storage.TheVariants as storage
use Rattle.rc_code.specs.declared.image.Initial.{Initial}
use Rattle.rc_code.specs.declared.image.Initial.TheVariants as initial
use Rattle.rc_code.specs.declared.image.Global.{Global}
use Rattle.rc_code.specs.declared.image.Index.{Index}
use Rattle.rc_code.specs.declared.image.Path.{Path}
use Rattle.rc_code.specs.Kinds.{cell_tag, storage_tag}
use Rattle.rc_code.specs.Image.{kind_number}

-- Seven bits a byte, the low ones first. Each byte but the last has 128 added. So many digits may follow the first.
unfoldable pub digits : ℕ → ℕ → List ℕ
digits zero n = n % 128 ∷ []
digits (suc more) n = if nat_lt n 128 then n ∷ [] else (n % 128 + 128) ∷ digits more (n / 128)

abbrev pub number : ℕ → List ℕ
number n = digits 9 n

abbrev pub numbers : List ℕ → List ℕ
numbers ns = flat_map number ns

-- how many there are, and these
abbrev pub counted : {A : Type 0} → (A → List ℕ) → List A → List ℕ
counted item items = number (length items) ++ flat_map item items

-- ---- types

abbrev pub cell_target : Cell → List ℕ
cell_target (cell.Number n) = []
cell_target cell.Region = []
cell_target (cell.Pointer note type) = number type

abbrev pub cell_bytes : Cell → List ℕ
cell_bytes c = number (cell_tag c) ++ cell_target c

abbrev pub type_bytes : List Cell → List ℕ
type_bytes cells = counted cell_bytes cells

-- ---- globals

abbrev pub initial_bytes : Initial → List ℕ
initial_bytes initial.Zeros = number 0
initial_bytes (initial.Number n) = number 1 ++ number n
initial_bytes (initial.Bytes bytes) = number 2 ++ bytes

abbrev pub global_bytes : Global → List ℕ
global_bytes g = number g.type_number ++ number g.elements ++ initial_bytes g.initial

-- ---- paths

abbrev pub shift_number : Option Signedness → ℕ
shift_number None = 0
shift_number (Some kind) = suc (kind_number kind)

abbrev pub index_bytes : Index → List ℕ
index_bytes i = number i.length ++ number i.stride ++ number (kind_number i.kind)

abbrev pub path_bytes : Path → List ℕ
path_bytes p = number p.type_number ++ number (shift_number p.shift) ++ number p.offset ++ counted index_bytes p.indices

-- ---- what locals and results hold

abbrev pub storage_target : Storage → List ℕ
storage_target (storage.Number n) = []
storage_target storage.Region = []
storage_target (storage.Pointer type) = number type

abbrev pub storage_bytes : Storage → List ℕ
storage_bytes s = number (storage_tag s) ++ storage_target s

abbrev pub result_bytes : Option Storage → List ℕ
result_bytes None = number 5
result_bytes (Some s) = storage_bytes s
