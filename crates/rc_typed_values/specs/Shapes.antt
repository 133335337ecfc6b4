-- What the parts that the rules of operators work on stand for in definitions.
use Rattle.std.specs.Prelude.{option_map}
use Rattle.rc_core.specs.Shapes.{ty_of, expr_of, place_of}
use Rattle.rc_typed_values.specs.declared.meanings.Typed.{Typed as CodeTyped}
use Rattle.rc_typed_values.specs.declared.meanings.Meant.{Meant as CodeMeant}
use Rattle.rc_typed_values.specs.declared.meanings.Meant.TheVariants.{Value, Variable, Place, Array}
use Rattle.rc_deletes.specs.Values.{Typed, Meant, a_value, a_variable, a_place, an_array}

abbrev pub typed_of : CodeTyped → Typed
typed_of v = record { line = v.line; ty = option_map ty_of v.ty; code = expr_of v.code.value }

abbrev pub meant_of : CodeMeant → Meant
meant_of (Value v) = a_value (typed_of v)
meant_of (Variable x t) = a_variable x (ty_of t)
meant_of (Place place t) = a_place (place_of place.value) (ty_of t)
meant_of (Array place s f t) = an_array (place_of place.value) s f (ty_of t)
