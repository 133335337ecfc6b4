use Rattle.std.proofs.Common.{◌≡◌, take, not, false}
use Rattle.std.specs.List.{list_any}
use Rattle.rc_facts.specs.Facts.{holds}
use Rattle.rc_crossing.proofs.calls.lacks.Given as goal

abbrev pub invariant-loop-fact : goal.invariant-loop-fact
invariant-loop-fact l = list_any (λ p. not (holds l.set p)) (take l.fact-index l.facts) ≡ false
