use Rattle.std.proofs.Common.{drop}
use Rattle.rc_lines.specs.Gathered.{all_kept}
use Rattle.rc_program_code.proofs.Loops.{EnteredFrom}
use Rattle.rc_program_code.proofs.entering.each_once.Given as goal

abbrev pub invariant-loop-i : goal.invariant-loop-i
invariant-loop-i l = EnteredFrom l.keys (all_kept l.table.items) (all_kept (drop l.i l.kept))
