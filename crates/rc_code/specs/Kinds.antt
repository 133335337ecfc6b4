-- What cells and locals hold, and the tags that tell them apart in an image.
use Rattle.std.specs.Prelude.{ℕ, Bool, ◌&&◌, ◌==◌, List, [], ◌∷◌, slice_get, Option}
use Rattle.rc_core.specs.declared.ty.NumberType.TheVariants as numbers
use Rattle.rc_core.specs.declared.ty.Note.{Note}
use Rattle.rc_core.specs.declared.ty.Note.TheVariants as note
use Rattle.rc_code.specs.declared.kind.Cell.{Cell}
use Rattle.rc_code.specs.declared.kind.Cell.TheVariants as cell
use Rattle.rc_code.specs.declared.kind.Storage.{Storage}
use Rattle.rc_code.specs.declared.kind.Storage.TheVariants as storage

abbrev pub pointer_tag : Note → ℕ
pointer_tag note.Plain = 4
pointer_tag note.SameRegion = 5
pointer_tag note.ParentPtr = 6
pointer_tag note.Traditional = 7

abbrev pub cell_tag : Cell → ℕ
cell_tag (cell.Number numbers.Int) = 0
cell_tag (cell.Number numbers.Unsigned) = 1
cell_tag (cell.Number numbers.Char) = 2
cell_tag cell.Region = 3
cell_tag (cell.Pointer note type) = pointer_tag note

-- the type that a pointer points to
abbrev pub cell_type : Cell → ℕ
cell_type (cell.Number n) = 0
cell_type cell.Region = 0
cell_type (cell.Pointer note type) = type

abbrev pub same_cell : Cell → Cell → Bool
same_cell a b = cell_tag a == cell_tag b && cell_type a == cell_type b

-- the cell of that tag alone
abbrev pub with_no_type : Cell → Cell
with_no_type (cell.Number n) = cell.Number n
with_no_type cell.Region = cell.Region
with_no_type (cell.Pointer note type) = cell.Pointer note 0

-- each at its tag, pointers with type 0
unfoldable pub cells : List Cell
cells =
    cell.Number numbers.Int ∷ cell.Number numbers.Unsigned ∷ cell.Number numbers.Char ∷ cell.Region ∷ cell.Pointer note.Plain 0 ∷ cell.Pointer note.SameRegion 0
    ∷ cell.Pointer note.ParentPtr 0 ∷ cell.Pointer note.Traditional 0 ∷ []

abbrev pub cell_tagged : ℕ → Option Cell
cell_tagged tag = slice_get cells tag

abbrev pub storage_tag : Storage → ℕ
storage_tag (storage.Number numbers.Int) = 0
storage_tag (storage.Number numbers.Unsigned) = 1
storage_tag (storage.Number numbers.Char) = 2
storage_tag storage.Region = 3
storage_tag (storage.Pointer type) = 4

-- the storage of that tag alone
abbrev pub with_no_pointee : Storage → Storage
with_no_pointee (storage.Number n) = storage.Number n
with_no_pointee storage.Region = storage.Region
with_no_pointee (storage.Pointer type) = storage.Pointer 0

-- each at its tag, pointers with type 0
unfoldable pub storages : List Storage
storages = storage.Number numbers.Int ∷ storage.Number numbers.Unsigned ∷ storage.Number numbers.Char ∷ storage.Region ∷ storage.Pointer 0 ∷ []

abbrev pub storage_tagged : ℕ → Option Storage
storage_tagged tag = slice_get storages tag
