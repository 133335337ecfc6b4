-- What the right side of an assignment stands for in definitions.
use Rattle.rc_core.specs.Shapes.{place_of}
use Rattle.rc_item_rules.specs.declared.sides.RightSide.{RightSide as CodeSide}
use Rattle.rc_item_rules.specs.declared.sides.RightSide.TheVariants as side
use Rattle.rc_typed_values.specs.Shapes.{typed_of}
use Rattle.rc_deletes.specs.Statements.{RightSide, one_value, whole_struct}

abbrev pub right_of : CodeSide → RightSide
right_of (side.Value v) = one_value (typed_of v)
right_of (side.Struct place s) = whole_struct (place_of place.value) s
