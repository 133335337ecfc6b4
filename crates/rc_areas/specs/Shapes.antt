-- The layouts that objects have, each once: a shape is the kinds of an element's cells.
use Rattle.std.specs.Prelude.{◌≡◌, Bool, true, false, ◌&&◌, List, [], ◌∷◌, ◌++◌, if◌then◌else◌}
use Rattle.std.specs.List.{list_any}
use Rattle.rc_core.specs.declared.ty.Note.{Note}
use Rattle.rc_core.specs.declared.ty.Note.TheVariants.{Plain, SameRegion, ParentPtr, Traditional}
use Rattle.rc_core.specs.declared.layouts.Kind.{Kind}
use Rattle.rc_core.specs.declared.layouts.Kind.TheVariants.{Number, Region, Pointer}
use Rattle.rc_store.specs.Values.{is_counted}
use Rattle.rc_areas.specs.declared.shapes.Shape.{Shape as KeptShape}

abbrev pub Shape : Type 0
Shape = List Kind

abbrev pub is_note : Note → Note → Bool
is_note Plain Plain = true
is_note SameRegion SameRegion = true
is_note ParentPtr ParentPtr = true
is_note Traditional Traditional = true
is_note _ _ = false

abbrev pub is_kind : Kind → Kind → Bool
is_kind Number Number = true
is_kind Region Region = true
is_kind (Pointer a) (Pointer b) = is_note a b
is_kind _ _ = false

abbrev pub is_shape : Shape → Shape → Bool
is_shape [] [] = true
is_shape (k ∷ ks) (l ∷ ls) = is_kind k l && is_shape ks ls
is_shape _ _ = false

-- a shape stands there once
abbrev pub has_shape : Shape → List Shape → Bool
has_shape shape shapes = list_any (λ s. is_shape s shape) shapes

abbrev pub with_shape : Shape → List Shape → List Shape
with_shape shape shapes = if has_shape shape shapes then shapes else shapes ++ shape ∷ []

-- a cell of these kinds counts
abbrev pub has_counted : Shape → Bool
has_counted kinds = list_any is_counted kinds

abbrev pub items_of : KeptShape → Shape
items_of shape = shape.kinds.items

-- whether one counts stands beside them
abbrev pub IsMarked : KeptShape → Type 0
IsMarked shape = shape.counts ≡ has_counted (items_of shape)
