use Rattle.std.proofs.Common.{drop}
use Rattle.rc_program_code.specs.Placed.{code_in, codes_in}
use Rattle.rc_program_code.proofs.Walks.{MadeFrom, nodes, all_nodes}
use Rattle.rc_program_code.proofs.code.+code.Given as goal

abbrev pub decreases-code : goal.decreases-code
decreases-code l = nodes (code_in l.body.now l.code.now)

abbrev pub decreases-codes : goal.decreases-codes
decreases-codes l = all_nodes (codes_in l.body.now l.all.now)

abbrev pub invariant-codes-loop-i : goal.invariant-codes-loop-i
invariant-codes-loop-i l = MadeFrom l.body (drop l.i l.all) l.leads l.end l.fn.out.items l.out.items l.here
