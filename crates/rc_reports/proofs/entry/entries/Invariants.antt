use Rattle.std.proofs.Common.{◌≡◌, ◌++◌, drop, map}
use Rattle.rc_core.specs.Shapes.{struct_of}
use Rattle.rc_elim.specs.Masks.{marks_in}
use Rattle.rc_rlang.specs.Shapes.{rlang_of, routine_in}
use Rattle.rc_reports.specs.Reports.{entries, entries_from}
use Rattle.rc_reports.proofs.entry.entries.Given as goal

abbrev pub invariant-loop-routine : goal.invariant-loop-routine
invariant-loop-routine l = l.all.items ++ entries_from (marks_in l.mask) l.number (map (routine_in (map struct_of l.code.structs.items)) (drop l.routine-index l.routine-items)) ≡ entries (marks_in l.mask) (rlang_of l.code)
