use Rattle.std.proofs.Common.{take}
use Rattle.rc_lines.specs.Gathered.{all_kept}
use Rattle.rc_program_code.proofs.Loops.{KeysOf}
use Rattle.rc_program_code.proofs.entering.keys_of.Given as goal

abbrev pub invariant-loop-operand : goal.invariant-loop-operand
invariant-loop-operand l = KeysOf l.keys (all_kept (take l.operand-index l.table))
