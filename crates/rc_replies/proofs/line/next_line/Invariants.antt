use Rattle.std.proofs.Common.{◌≡◌, false, take, All, ◌==◌}
use Rattle.rc_replies.proofs.line.next_line.Given as goal

abbrev pub invariant-loop-at : goal.invariant-loop-at
invariant-loop-at l = All (λ b. (b == 10) ≡ false) (take l.at l.text)
