-- Layouts as they are kept: of each struct its cells, and where its fields lie in it.
use Rattle.std.specs.Prelude.{◌≡◌, ℕ, List, [], map, length, take, get_or, slice_get, Option, Some, None}
use Rattle.rc_core.specs.Types.{CellKind, int_cell, unsigned_cell, char_cell, region_cell, pointer_cell}
use Rattle.rc_core.specs.Programs.{Field, Struct}
use Rattle.rc_core.specs.Layout.{Layout, cells_by, fields_cells, layouts_of, count_in, offset, count_of, stride}
use Rattle.rc_core.specs.declared.layouts.Kind.{Kind}
use Rattle.rc_core.specs.declared.layouts.Kind.TheVariants.{Number, Region, Pointer}
use Rattle.rc_core.specs.declared.layouts.FieldPlace.{FieldPlace}

-- what a cell holds: a pointer's target is left out
abbrev pub held_kind : CellKind → Kind
held_kind int_cell = Number
held_kind unsigned_cell = Number
held_kind char_cell = Number
held_kind region_cell = Region
held_kind (pointer_cell note target) = Pointer note

-- a struct's cells, and where its fields lie, in order
pub record LaidStruct : Type 0 where
  pub kinds : List Kind
  pub places : List FieldPlace

abbrev pub LaidStructs : Type 0
LaidStructs = List LaidStruct

-- a struct that isn't there has no cells
abbrev pub kinds_in : Option LaidStruct → List Kind
kinds_in None = []
kinds_in (Some s) = s.kinds

-- a field that isn't there has no length and no cells; it lies at the end of its struct
abbrev pub place_in : Option LaidStruct → (field : ℕ) → FieldPlace
place_in None field = record { offset = 0; count = 0; stride = 0 }
place_in (Some s) field = get_or s.places field (record { offset = length s.kinds; count = 0; stride = 0 })

abbrev pub kinds_laid : LaidStruct → List Kind
kinds_laid s = s.kinds

-- they have the cells of these layouts, in order
abbrev pub HaveCells : List Layout → LaidStructs → Type 0
HaveCells layouts laid = map kinds_laid laid ≡ map (map held_kind) layouts

-- where a field lies among these, where the structs inside have these layouts
abbrev pub stride_by : List Layout → Option Field → ℕ
stride_by layouts None = 0
stride_by layouts (Some f) = length (cells_by layouts f.ty)

abbrev pub place_by : List Layout → List Field → (field : ℕ) → FieldPlace
place_by layouts fields field = record {
  offset = length (fields_cells layouts (take field fields));
  count = count_in (slice_get fields field);
  stride = stride_by layouts (slice_get fields field);
}

-- it is the struct with these fields
pub record IsLaidOut (layouts : List Layout) (fields : List Field) (s : LaidStruct) : Type 0 where
  pub cells : s.kinds ≡ map held_kind (fields_cells layouts fields)
  pub places : (field : ℕ) → place_in (Some s) field ≡ place_by layouts fields field

-- where a field lies, by the definitions of layout
abbrev pub place_of : List Struct → (structure field : ℕ) → FieldPlace
place_of structs structure field = record {
  offset = offset structs structure field;
  count = count_of structs structure field;
  stride = stride structs structure field;
}

-- they are the layouts of these structs
pub record AreLaidOut (structs : List Struct) (laid : LaidStructs) : Type 0 where
  pub cells : HaveCells (layouts_of structs) laid
  pub places : (structure field : ℕ) → place_in (slice_get laid structure) field ≡ place_of structs structure field
