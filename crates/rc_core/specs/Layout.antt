-- Layout: the cells of a type. A number, a region and a pointer are one cell each, a struct is the cells of its fields in
-- order, and an array field is as many copies as it is long. The structs that a struct has inside it stand before it.
use Rattle.std.specs.Prelude.{ℕ, Bool, true, false, List, [], ◌∷◌, ◌++◌, length, take, replicate, flat_map, get_or, slice_get, Option, Some, None}
use Rattle.rc_core.specs.declared.ty.Note.{Note}
use Rattle.rc_core.specs.declared.ty.Note.TheVariants.{Plain, SameRegion, ParentPtr, Traditional}
use Rattle.rc_core.specs.Types.{Ty, int, unsigned, char, region, struct, pointer, CellKind, int_cell, unsigned_cell, char_cell, region_cell, pointer_cell}
use Rattle.rc_core.specs.Programs.{Field, Struct}

-- the kinds of an object's or of a type's cells, in order
abbrev pub Layout : Type 0
Layout = List CellKind

-- where the structs that were defined have these layouts
abbrev pub cells_by : List Layout → Ty → Layout
cells_by layouts int = int_cell ∷ []
cells_by layouts unsigned = unsigned_cell ∷ []
cells_by layouts char = char_cell ∷ []
cells_by layouts region = region_cell ∷ []
cells_by layouts (struct number) = get_or layouts number []
cells_by layouts (pointer note target) = pointer_cell note target ∷ []

abbrev pub copies : Option ℕ → Layout → Layout
copies None cells = cells
copies (Some count) cells = flat_map (λ copy. copy) (replicate count cells)

abbrev pub field_cells : List Layout → Field → Layout
field_cells layouts f = copies f.count (cells_by layouts f.ty)

abbrev pub fields_cells : List Layout → List Field → Layout
fields_cells layouts fields = flat_map (field_cells layouts) fields

-- with the structs behind those that have these layouts
abbrev pub layouts_after : List Layout → List Struct → List Layout
layouts_after layouts [] = layouts
layouts_after layouts (fields ∷ structs) = layouts_after (layouts ++ fields_cells layouts fields ∷ []) structs

abbrev pub layouts_of : List Struct → List Layout
layouts_of structs = layouts_after [] structs

abbrev pub cells : List Struct → Ty → Layout
cells structs ty = cells_by (layouts_of structs) ty

abbrev pub size : List Struct → Ty → ℕ
size structs ty = length (cells structs ty)

abbrev pub fields_of : List Struct → ℕ → List Field
fields_of structs structure = get_or structs structure []

-- how many cells of the struct stand before the field
abbrev pub offset : List Struct → (structure field : ℕ) → ℕ
offset structs structure field = length (fields_cells (layouts_of structs) (take field (fields_of structs structure)))

abbrev pub field_at : List Struct → (structure field : ℕ) → Option Field
field_at structs structure field = slice_get (fields_of structs structure) field

abbrev pub count_in : Option Field → ℕ
count_in None = 0
count_in (Some f) = elim f.count [ None ↦ 0 | Some count ↦ count ]

abbrev pub stride_in : List Struct → Option Field → ℕ
stride_in structs None = 0
stride_in structs (Some f) = size structs f.ty

-- a field's length, where it is an array
abbrev pub count_of : List Struct → (structure field : ℕ) → ℕ
count_of structs structure field = count_in (field_at structs structure field)

-- the cells of one element of an array field
abbrev pub stride : List Struct → (structure field : ℕ) → ℕ
stride structs structure field = stride_in structs (field_at structs structure field)

abbrev pub note_of : CellKind → Note
note_of int_cell = Plain
note_of unsigned_cell = Plain
note_of char_cell = Plain
note_of region_cell = Plain
note_of (pointer_cell note target) = note

abbrev pub is_plain : Note → Bool
is_plain Plain = true
is_plain SameRegion = false
is_plain ParentPtr = false
is_plain Traditional = false

-- a counted cell: a region, or a pointer without an annotation
abbrev pub is_counted : CellKind → Bool
is_counted int_cell = false
is_counted unsigned_cell = false
is_counted char_cell = false
is_counted region_cell = true
is_counted (pointer_cell note target) = is_plain note
