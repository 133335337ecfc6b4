-- What a map of live locals has of a function.
use Rattle.std.specs.Prelude.{◌≡◌, ℕ, suc, ◌+◌, List, map}
use Rattle.rc_core.specs.Programs.{Struct}
use Rattle.rc_core.specs.Shapes.{struct_of}
use Rattle.rc_rlang.specs.declared.code.RegionParts.{RegionParts}
use Rattle.rc_rlang.specs.declared.code.Routine.{Routine as CodeRoutine}
use Rattle.rc_rlang.specs.LiveLists.{Held, routine_lists}
use Rattle.rc_rlang.specs.RegionCode.{Routine}
use Rattle.rc_rlang.specs.RegionPoints.{code_points}
use Rattle.rc_rlang.specs.RegionRuns.{deletes}
use Rattle.rc_rlang.specs.Shapes.{rlang_of, routine_in}
use Rattle.rc_lines.specs.Over.{Listed}

abbrev pub structs_of : RegionParts → List Struct
structs_of parts = map struct_of parts.structs.items

abbrev pub routine_of : RegionParts → CodeRoutine → Routine
routine_of parts routine = routine_in (structs_of parts) routine

-- the map has the lists of the function behind whose body stands a point
pub record HeldBefore (parts : RegionParts) (lists : List Held) (routine : CodeRoutine) (behind : ℕ) : Type 0 where
  pub entry : ℕ
  pub ends : suc entry + code_points (routine_of parts routine).body ≡ behind
  pub listed : Listed lists (routine_lists (deletes (rlang_of parts)) (routine_of parts routine) entry)
