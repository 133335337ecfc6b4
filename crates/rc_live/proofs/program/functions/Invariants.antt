use Rattle.std.proofs.Common.{drop, map}
use Rattle.std.specs.Prelude.{sum}
use Rattle.rc_rlang.specs.RegionPoints.{routine_points}
use Rattle.rc_rlang.specs.RegionRuns.{deletes}
use Rattle.rc_rlang.specs.Shapes.{rlang_of, routine_in}
use Rattle.rc_rlang.specs.LiveLists.{functions_lists}
use Rattle.rc_live.specs.Walking.{seen, structs_in, WentBack}
use Rattle.rc_live.proofs.program.functions.Given as goal

abbrev pub invariant-loop-i : goal.invariant-loop-i
invariant-loop-i l =
    let parts = l.program.parts.now in
    let later = map (seen l.program.listed) (map (routine_in (structs_in parts)) (drop l.i parts.functions.items)) in
    WentBack (sum (map routine_points later)) (functions_lists (deletes (rlang_of parts)) later) l.fn.walk l.walk
