use Rattle.std.proofs.Common.{◌≡◌, ◌++◌, take, drop}
use Rattle.rc_seal.specs.Marking.{marked_code}
use Rattle.rc_seal.proofs.marking.mark_code.Given as goal

abbrev pub invariant-loop-at : goal.invariant-loop-at
invariant-loop-at l = l.code ≡ marked_code l.marks (take l.at l.fn.code) ++ drop l.at l.fn.code
