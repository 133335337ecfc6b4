-- The fields of a struct in code, as definitions speak of them.
use Rattle.std.specs.Prelude.{ℕ, List, Option, map, option_map, slice_get}
use Rattle.rc_core.specs.Programs.{Field, Struct}
use Rattle.rc_core.specs.Shapes.{field_of}
use Rattle.rc_defined.specs.declared.fields.NamedField.{NamedField}
use Rattle.rc_defined.specs.declared.fields.Fields.{Fields}

abbrev pub named_of : NamedField → List ℕ × Field
named_of f = (f.name.items, field_of f.field)

abbrev pub fields_of : Fields → List (List ℕ × Field)
fields_of s = map named_of s.fields.items

abbrev pub names_in : Fields → List (List ℕ)
names_in s = map (λ f. f.name.items) s.fields.items

abbrev pub struct_in : Fields → Struct
struct_in s = map (λ f. f.1) (fields_of s)

abbrev pub field_at : List NamedField → ℕ → Option (ℕ × Field)
field_at fields number = option_map (λ f. (number, field_of f.field)) (slice_get fields number)
