-- An object as far as it has to be kept: of a cell's type whether it is a number, a region or a pointer, and what annotation it
-- has.
use Rattle.std.specs.Prelude.{ℕ, Bool, List, [], ◌∷◌, map, replicate, flat_map}
use Rattle.std.specs.List.{list_any}
use Rattle.rc_core.specs.Heap.{Value, Null, Object, names}
use Rattle.rc_core.specs.Laid.{held_kind}
use Rattle.rc_core.specs.declared.layouts.Kind.{Kind}
use Rattle.rc_values.specs.Cells.{blank_cell}

pub record KeptObject : Type 0 where
  pub kinds : List Kind
  pub count : ℕ
  pub values : List Value

abbrev pub kept_object : Object → KeptObject
kept_object o = record { kinds = map held_kind o.layout; count = o.count; values = o.values }

abbrev pub blank : List Kind → (count : ℕ) → KeptObject
blank kinds count = record { kinds = kinds; count = count; values = flat_map (map blank_cell) (replicate count kinds) }

abbrev pub object_names : ℕ → KeptObject → Bool
object_names r o = list_any (names r) o.values

abbrev pub first_of : List Value → Value
first_of [] = Null
first_of (v ∷ vs) = v
