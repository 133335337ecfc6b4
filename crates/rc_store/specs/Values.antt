-- What the values in code stand for, and which may stand in a cell.
use Rattle.std.specs.Prelude.{ℕ, Bool, true, false, pos}
use Rattle.rc_core.specs.declared.ty.Note.{Note}
use Rattle.rc_core.specs.declared.ty.Note.TheVariants.{Plain}
use Rattle.rc_core.specs.declared.layouts.Kind.{Kind}
use Rattle.rc_core.specs.declared.layouts.Kind.TheVariants.{Number as NumberKind, Region as RegionKind, Pointer as PointerKind}
use Rattle.rc_core.specs.Layout.{is_plain}
use Rattle.rc_core.specs.Heap.{Value, Number, Null, Handle, Pointer, Address, names}
use Rattle.rc_store.specs.declared.cell.Cell.{Cell}
use Rattle.rc_store.specs.declared.cell.Cell.TheVariants.{Number as CodeNumber, Nothing as CodeNothing, Region as CodeRegion, Pointer as CodePointer}
use Rattle.rc_store.specs.declared.cell.Pointer.{Pointer as CodeAddress}

abbrev pub address_of : CodeAddress → Address
address_of a = record { region = a.region; object = a.object; index = a.index }

abbrev pub value_of : Cell → Value
value_of (CodeNumber n) = Number n
value_of CodeNothing = Null
value_of (CodeRegion r) = Handle r
value_of (CodePointer a) = Pointer (address_of a)

abbrev pub is_number : Value → Bool
is_number (Number n) = true
is_number Null = false
is_number (Handle r) = false
is_number (Pointer a) = false

abbrev pub is_region : Value → Bool
is_region (Number n) = false
is_region Null = true
is_region (Handle r) = true
is_region (Pointer a) = false

abbrev pub is_pointer : Value → Bool
is_pointer (Number n) = false
is_pointer Null = true
is_pointer (Handle r) = false
is_pointer (Pointer a) = true

-- the value may stand in a cell of this kind, whatever region it names
abbrev pub suits : Kind → Value → Bool
suits NumberKind v = is_number v
suits RegionKind v = is_region v
suits (PointerKind note) v = is_pointer v

abbrev pub note_of : Kind → Note
note_of NumberKind = Plain
note_of RegionKind = Plain
note_of (PointerKind note) = note

-- a counted cell: a region, or a pointer without an annotation
abbrev pub is_counted : Kind → Bool
is_counted NumberKind = false
is_counted RegionKind = true
is_counted (PointerKind note) = is_plain note

-- zero or null
abbrev pub blank_of : Kind → Value
blank_of NumberKind = Number (pos 0)
blank_of RegionKind = Null
blank_of (PointerKind note) = Null

-- a value that names r
abbrev pub cell_refs : (r : ℕ) → Cell → Bool
cell_refs r c = names r (value_of c)
