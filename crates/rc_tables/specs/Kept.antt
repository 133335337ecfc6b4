-- What tables are made of: beside the types or paths, in the same order, the keys by which they are found, no more of them than 32 bits can number.
use Rattle.std.specs.Prelude.{◌≡◌, ◌≤◌, ℕ, List, length, map}
use Rattle.std.specs.Borrow.{Bor}
use Rattle.std.specs.List.{AllByRecursion as Every}
use Rattle.rc_core.specs.Types.{Ty}
use Rattle.rc_core.specs.Shapes.{ty_of}
use Rattle.rc_core.specs.declared.ty.Ty.{Ty as CodeTy}
use Rattle.rc_lines.specs.Keys.{type_key, TypeHasKey}
use Rattle.rc_code.specs.declared.image.Path.{Path}
use Rattle.rc_tables.specs.Keys.{path_key, PathHasKey}

abbrev pub types_listed : List (Bor CodeTy) → List CodeTy
types_listed types = map (λ (t : Bor CodeTy). t.now) types

-- the types that a table has
abbrev pub all_types : List CodeTy → List Ty
all_types types = map ty_of types

pub record IsTypeTable (keys : List (List ℕ)) (types : List CodeTy) : Type 0 where
  pub keyed : keys ≡ map type_key (all_types types)
  pub each : Every TypeHasKey (all_types types)
  pub few : length keys ≤ 4294967295

pub record IsPathTable (keys : List (List ℕ)) (paths : List Path) : Type 0 where
  pub keyed : keys ≡ map path_key paths
  pub each : Every PathHasKey paths
  pub few : length keys ≤ 4294967295
