-- Region code whose parts fit together: what every program's region code is, and what whatever is made from region code may take for
-- granted. Structs, globals and strings are as a program has them. In each function temporaries stand in order, types agree, what is named
-- is there, and no more than 128 region variables are needed; all functions have no more than 65,536 points. `main` takes nothing and
-- gives an `int`.
use Rattle.std.specs.Prelude.{◌≡◌, ℕ, ◌≤◌, false, IfSome, List, length, map, sum, slice_get, Some}
use Rattle.std.specs.List.{AllByRecursion as Every}
use Rattle.rc_base.specs.Limits.{most_global_cells, most_program_words, most_string_bytes, most_points, most_variables}
use Rattle.rc_core.specs.Types.{Ty, int}
use Rattle.rc_core.specs.Programs.{Global}
use Rattle.rc_core.specs.Numbers.{IsByte}
use Rattle.rc_core.specs.WellTyped.{StructsFit, GlobalFits, IsVariable, global_size}
use Rattle.rc_rlang.specs.RegionCode.{Routine, Rlang}
use Rattle.rc_rlang.specs.RegionFits.{CodeFits}
use Rattle.rc_rlang.specs.RegionKinds.{CodeKinded}
use Rattle.rc_rlang.specs.RegionNames.{object_type, result_type, CodeStands}
use Rattle.rc_rlang.specs.RegionPoints.{rlang_points}
use Rattle.rc_rlang.specs.RegionVariables.{routine_variables}

pub record RoutineFits (r : Rlang) (f : Routine) : Type 0 where
  pub parameters : f.parameters ≤ length f.locals
  pub locals : (x : ℕ) (ty : Ty) → slice_get f.locals x ≡ Some ty → IsVariable r.structs ty
  pub result : IfSome f.result (IsVariable r.structs)
  pub in_order : CodeFits f.body
  pub kinded : CodeKinded f.locals (object_type r) (result_type r) f.body
  pub stands : CodeStands r f.locals f.result false f.body
  pub narrow : routine_variables f ≤ most_variables

pub record IsRlang (r : Rlang) : Type 0 where
  pub structs : StructsFit r.structs
  pub globals : (k : ℕ) (g : Global) → slice_get r.globals k ≡ Some g → GlobalFits r.structs g
  pub all_globals : sum (map (global_size r.structs) r.globals) ≤ most_global_cells
  pub number_of_strings : length r.strings ≤ most_program_words
  pub strings : (k : ℕ) (bytes : List ℕ) → slice_get r.strings k ≡ Some bytes → length bytes ≤ most_string_bytes
  pub bytes : Every (Every IsByte) r.strings
  pub functions : (k : ℕ) (f : Routine) → slice_get r.functions k ≡ Some f → RoutineFits r f
  pub main : (f : Routine) × ((slice_get r.functions r.main ≡ Some f) × (f.parameters ≡ 0) × (f.result ≡ Some int))
  pub few_points : rlang_points r ≤ most_points
