-- What a cell of a kind begins with, and its annotation.
use Rattle.std.specs.Prelude.{pos}
use Rattle.rc_core.specs.declared.ty.Note.{Note}
use Rattle.rc_core.specs.declared.ty.Note.TheVariants.{Plain}
use Rattle.rc_core.specs.Heap.{Value, Number, Null}
use Rattle.rc_core.specs.declared.layouts.Kind.{Kind}
use Rattle.rc_core.specs.declared.layouts.Kind.TheVariants.{Number as NumberKind, Region as RegionKind, Pointer as PointerKind}

abbrev pub note_of : Kind → Note
note_of NumberKind = Plain
note_of RegionKind = Plain
note_of (PointerKind note) = note

abbrev pub blank_cell : Kind → Value
blank_cell NumberKind = Number (pos 0)
blank_cell RegionKind = Null
blank_cell (PointerKind note) = Null
