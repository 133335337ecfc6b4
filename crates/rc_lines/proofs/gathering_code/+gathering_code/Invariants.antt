use Rattle.rc_lines.proofs.Gathers.{GatheringCode}
use Rattle.rc_lines.proofs.gathering_code.+gathering_code.Given as goal

abbrev pub invariant-gather_codes-loop-code : goal.invariant-gather_codes-loop-code
invariant-gather_codes-loop-code l = GatheringCode l.fn.out.items l.body l.out.items l.code-index
