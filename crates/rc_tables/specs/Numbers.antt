-- Numbers in tables.
use Rattle.std.specs.Prelude.{ℕ, List}
use Rattle.rc_core.specs.Types.{Ty}
use Rattle.rc_core.specs.declared.ty.Ty.{Ty as CodeTy}
use Rattle.rc_emission.specs.KeptOperands.{place_in, same_type}
use Rattle.rc_tables.specs.Kept.{all_types}

-- the number of a type in a table
abbrev pub number_in : List CodeTy → Ty → ℕ
number_in types ty = place_in same_type (all_types types) ty
