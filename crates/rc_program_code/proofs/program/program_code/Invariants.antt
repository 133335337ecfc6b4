use Rattle.rc_program_code.proofs.Functions.{Making}
use Rattle.rc_program_code.proofs.program.program_code.Given as goal

abbrev pub invariant-loop-routine : goal.invariant-loop-routine
invariant-loop-routine l = Making l.code l.live l.made.items l.entry l.routine-index
