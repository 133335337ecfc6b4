-- Reading the fields of an image from left to right, with the first fault that is met.
use Rattle.std.specs.Prelude.{◌≡◌, ℕ, zero, suc, ◌+◌, ◌-◌, ◌*◌, Bool, ◌&&◌, nat_lt, ◌==◌, List, [], ◌∷◌, length, take, drop, Option, Some, None, Result, Ok, Err, if◌then◌else◌}
use Rattle.rc_base.specs.Limits.{most_struct_cells}
use Rattle.rc_core.specs.declared.ty.Signedness.{Signedness}
use Rattle.rc_core.specs.declared.ty.Signedness.TheVariants.{Signed, Unsigned}
use Rattle.rc_code.specs.declared.kind.Cell.{Cell}
use Rattle.rc_code.specs.declared.kind.Cell.TheVariants as cell
use Rattle.rc_code.specs.declared.kind.Storage.{Storage}
use Rattle.rc_code.specs.declared.kind.Storage.TheVariants as storage
use Rattle.rc_code.specs.declared.image.Initial.{Initial}
use Rattle.rc_code.specs.declared.image.Initial.TheVariants as initial
use Rattle.rc_code.specs.declared.image.Global.{Global}
use Rattle.rc_code.specs.declared.image.Index.{Index}
use Rattle.rc_code.specs.declared.image.Path.{Path}
use Rattle.rc_code.specs.Kinds.{cell_tagged, storage_tagged}
use Rattle.rc_code.specs.Image.{bound_of, cells_at, is_nested}
use Rattle.rc_code.specs.Reached.{span, has_one_kind}
use Rattle.rc_fields.specs.declared.stop.Stop.{Stop}
use Rattle.rc_fields.specs.declared.stop.Stop.TheVariants as stop

-- why reading fails; a field that breaks a rule by how many bytes stand from its first byte to the end
pub data Fault : Type 0 where
  wrong_magic : Fault
  wrong_version : Fault
  short : Fault
  extra : Fault
  field : (left : ℕ) → Fault

infixl 10 ◌>>=◌
abbrev pub ◌>>=◌ : {A B : Type 0} → Result A Fault → (A → Result B Fault) → Result B Fault
(Ok x) >>= f = f x
(Err e) >>= f = Err e

-- a value and the bytes after it
abbrev pub Read : Type 0 → Type 0
Read A = Result (A × List ℕ) Fault

-- what a function returned, seen by view, is what reading gives, unless memory ran out
abbrev pub Fails : {Y : Type 0} → Stop → Result Y Fault → Type 0
Fails stop.Memory read = Unit {0}
Fails stop.Magic read = read ≡ Err wrong_magic
Fails stop.Version read = read ≡ Err wrong_version
Fails stop.Short read = read ≡ Err short
Fails stop.Extra read = read ≡ Err extra
Fails (stop.Field left) read = read ≡ Err (field left)

abbrev pub Gives : {X Y : Type 0} → (X → Y) → Result X Stop → Result Y Fault → Type 0
Gives view (Ok x) read = read ≡ Ok (view x)
Gives view (Err e) read = Fails e read

-- ---- numbers

-- the digits after the first one, of which the last is not 0; so many may follow the next one
unfoldable pub tail_at : ℕ → (left : ℕ) → List ℕ → Read ℕ
tail_at more left [] = Err short
tail_at zero left (b ∷ rest) = if b == 0 then Err (field left) else if nat_lt b 16 then Ok (b, rest) else Err (field left)
tail_at (suc more) left (b ∷ rest) =
    if b == 0 then Err (field left) else if nat_lt b 128 then Ok (b, rest) else tail_at more left rest >>= λ x. Ok (b - 128 + 128 * x.0, x.1)

unfoldable pub number_at : List ℕ → Read ℕ
number_at [] = Err short
number_at (b ∷ rest) = if nat_lt b 128 then Ok (b, rest) else tail_at 3 (suc (length rest)) rest >>= λ x. Ok (b - 128 + 128 * x.0, x.1)

-- a number in its bounds, which the field breaks otherwise
unfoldable pub number_within : (least bound : ℕ) → List ℕ → Read ℕ
number_within least bound bytes = number_at bytes >>= λ n. if nat_lt n.0 least then Err (field (length bytes)) else if nat_lt n.0 bound then Ok n else Err (field (length bytes))

-- so many of one kind
unfoldable pub many : {A : Type 0} → (List ℕ → Read A) → ℕ → List ℕ → Read (List A)
many item zero bytes = Ok ([], bytes)
many item (suc n) bytes = item bytes >>= λ first. many item n first.1 >>= λ others. Ok (first.0 ∷ others.0, others.1)

-- how many there are, and these
unfoldable pub counted_at : {A : Type 0} → (List ℕ → Read A) → List ℕ → Read (List A)
counted_at item bytes = number_at bytes >>= λ count. many item count.0 count.1

abbrev pub kind_numbered : (left : ℕ) → ℕ → List ℕ → Read Signedness
kind_numbered left zero rest = Ok (Signed, rest)
kind_numbered left (suc zero) rest = Ok (Unsigned, rest)
kind_numbered left (suc (suc n)) rest = Err (field left)

unfoldable pub kind_at : List ℕ → Read Signedness
kind_at bytes = number_at bytes >>= λ n. kind_numbered (length bytes) n.0 n.1

-- ---- types

-- with the type that a pointer points to
abbrev pub cell_of : (types left : ℕ) → Option Cell → List ℕ → Read Cell
cell_of types left None rest = Err (field left)
cell_of types left (Some (cell.Number n)) rest = Ok (cell.Number n, rest)
cell_of types left (Some cell.Region) rest = Ok (cell.Region, rest)
cell_of types left (Some (cell.Pointer note zeroth)) rest = number_within 0 types rest >>= λ type. Ok (cell.Pointer note type.0, type.1)

unfoldable pub cell_at : (types : ℕ) → List ℕ → Read Cell
cell_at types bytes = number_at bytes >>= λ tag. cell_of types (length bytes) (cell_tagged tag.0) tag.1

unfoldable pub type_at : (types : ℕ) → List ℕ → Read (List Cell)
type_at types bytes = number_within 1 (suc most_struct_cells) bytes >>= λ count. many (cell_at types) count.0 count.1

unfoldable pub types_at : List ℕ → Read (List (List Cell))
types_at bytes = number_at bytes >>= λ count. many (type_at count.0) count.0 count.1

-- ---- globals

abbrev pub text_at : (elements : ℕ) → List ℕ → Read Initial
text_at elements bytes = if nat_lt (length bytes) elements then Err short else Ok (initial.Bytes (take elements bytes), drop elements bytes)

abbrev pub first_number_at : (elements bound left : ℕ) → List ℕ → Read Initial
first_number_at elements bound left bytes =
    if elements == 1 then (if bound == 0 then Err (field left) else (number_within 0 bound bytes >>= λ n. Ok (initial.Number n.0, n.1))) else Err (field left)

abbrev pub initial_of : (cells : List Cell) (elements left : ℕ) → ℕ → List ℕ → Read Initial
initial_of cells elements left zero rest = Ok (initial.Zeros, rest)
initial_of cells elements left (suc zero) rest = first_number_at elements (bound_of cells) left rest
initial_of cells elements left (suc (suc zero)) rest = if bound_of cells == 256 then text_at elements rest else Err (field left)
initial_of cells elements left (suc (suc (suc n))) rest = Err (field left)

unfoldable pub initial_at : (cells : List Cell) (elements : ℕ) → List ℕ → Read Initial
initial_at cells elements bytes = number_at bytes >>= λ tag. initial_of cells elements (length bytes) tag.0 tag.1

unfoldable pub global_at : (types : List (List Cell)) → List ℕ → Read Global
global_at types bytes = do
  type ← number_within 0 (length types) bytes
  elements ← number_within 1 2147483648 type.1
  initial ← initial_at (cells_at types type.0) elements.0 elements.1
  Ok (record { type_number = type.0; elements = elements.0; initial = initial.0 }, initial.1)

-- ---- paths

abbrev pub shift_of : (left : ℕ) → ℕ → List ℕ → Read (Option Signedness)
shift_of left zero rest = Ok (None, rest)
shift_of left (suc zero) rest = Ok (Some Signed, rest)
shift_of left (suc (suc zero)) rest = Ok (Some Unsigned, rest)
shift_of left (suc (suc (suc n))) rest = Err (field left)

unfoldable pub shift_at : List ℕ → Read (Option Signedness)
shift_at bytes = number_at bytes >>= λ n. shift_of (length bytes) n.0 n.1

unfoldable pub index_at : List ℕ → Read Index
index_at bytes = do
  count ← number_within 1 4294967296 bytes
  stride ← number_within 1 4294967296 count.1
  kind ← kind_at stride.1
  Ok (record { length = count.0; stride = stride.0; kind = kind.0 }, kind.1)

-- of the cells from the offset on
abbrev pub keeps_rules : (from : List Cell) → List Index → Bool
keeps_rules from indices = is_nested indices && nat_lt (span indices) (length from) && has_one_kind indices from

unfoldable pub path_at : (types : List (List Cell)) → List ℕ → Read Path
path_at types bytes = do
  type ← number_within 0 (length types) bytes
  shift ← shift_at type.1
  offset ← number_at shift.1
  indices ← counted_at index_at offset.1
  if keeps_rules (drop offset.0 (cells_at types type.0)) indices.0 then
      Ok (record { type_number = type.0; shift = shift.0; offset = offset.0; indices = indices.0 }, indices.1) else Err (field (length bytes))

-- ---- what locals and results hold

abbrev pub storage_of : (types left : ℕ) → Option Storage → List ℕ → Read Storage
storage_of types left None rest = Err (field left)
storage_of types left (Some (storage.Number n)) rest = Ok (storage.Number n, rest)
storage_of types left (Some storage.Region) rest = Ok (storage.Region, rest)
storage_of types left (Some (storage.Pointer zeroth)) rest = number_within 0 types rest >>= λ type. Ok (storage.Pointer type.0, type.1)

unfoldable pub storage_at : (types : ℕ) → List ℕ → Read Storage
storage_at types bytes = number_at bytes >>= λ tag. storage_of types (length bytes) (storage_tagged tag.0) tag.1

-- 5 for none
unfoldable pub result_at : (types : ℕ) → List ℕ → Read (Option Storage)
result_at types bytes = number_at bytes >>= λ tag.
    if tag.0 == 5 then Ok (None, tag.1) else storage_of types (length bytes) (storage_tagged tag.0) tag.1 >>= λ s. Ok (Some s.0, s.1)
