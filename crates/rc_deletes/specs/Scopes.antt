-- What names stand for.
use Rattle.std.specs.Prelude.{ℕ, List, [], ◌∷◌, Option, Some, None, Bool, map, take, length, if◌then◌else◌}
use Rattle.std.specs.Str.{bytes_eq}
use Rattle.rc_core.specs.Types.{Ty}
use Rattle.rc_core.specs.Programs.{Field, Struct}
use Rattle.rc_deletes.specs.declared.builtin.Builtin.{Builtin}

-- what declarations of a function agree in
pub record Signature : Type 0 where
  pub takes : List Ty
  pub gives : Option Ty
  pub deletes : Bool

-- a function has a number where the text defines it somewhere
pub data Meaning : Type 0 where
  a_local : (number : ℕ) → Ty → Meaning
  a_global : (number : ℕ) → Ty → (count : Option ℕ) → Meaning
  a_function : (number : Option ℕ) → Signature → Meaning
  a_builtin : Builtin → Meaning

-- the innermost names first
abbrev pub Scope : Type 0
Scope = List (List ℕ × Meaning)

abbrev pub meaning_in : Scope → List ℕ → Option Meaning
meaning_in [] name = None
meaning_in (known ∷ rest) name = if bytes_eq known.0 name then Some known.1 else meaning_in rest name

-- the fields of a struct, each with its name
abbrev pub Shape : Type 0
Shape = List (List ℕ × Field)

-- what the whole text defines: its structs, and the names of its functions, each once. The types are the names by which types
-- are told apart: those of the structs that are defined, and after them each other one that a field, a result or a parameter
-- names
pub record Context : Type 0 where
  pub shapes : List Shape
  pub types : List (List ℕ)
  pub functions : List (List ℕ)

-- the names of the structs that are defined
abbrev pub struct_names : Context → List (List ℕ)
struct_names context = take (length context.shapes) context.types

abbrev pub fields_in : Shape → Struct
fields_in s = map (λ f. f.1) s

abbrev pub structs_in : Context → List Struct
structs_in context = map fields_in context.shapes
