-- The name of a shape: a byte for each of its kinds. Two shapes have two names.
use Rattle.std.specs.Prelude.{ℕ, List, map}
use Rattle.rc_core.specs.declared.ty.Note.{Note}
use Rattle.rc_core.specs.declared.ty.Note.TheVariants.{Plain, SameRegion, ParentPtr, Traditional}
use Rattle.rc_core.specs.declared.layouts.Kind.{Kind}
use Rattle.rc_core.specs.declared.layouts.Kind.TheVariants.{Number, Region, Pointer}
use Rattle.rc_areas.specs.Shapes.{Shape}

abbrev pub note_byte : Note → ℕ
note_byte Plain = 2
note_byte SameRegion = 3
note_byte ParentPtr = 4
note_byte Traditional = 5

abbrev pub kind_byte : Kind → ℕ
kind_byte Number = 0
kind_byte Region = 1
kind_byte (Pointer note) = note_byte note

abbrev pub name_of : Shape → List ℕ
name_of shape = map kind_byte shape
