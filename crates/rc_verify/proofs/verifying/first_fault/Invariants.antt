use Rattle.std.proofs.Common.{◌<◌, ℕ}
use Rattle.rc_verify.specs.Firsts.{AllRight}
use Rattle.rc_verify.specs.Passes.{proofs_of}
use Rattle.rc_verify.proofs.verifying.first_fault.Given as goal

abbrev pub invariant-loop-at : goal.invariant-loop-at
invariant-loop-at l = (g : ℕ) → g < l.at → AllRight l.checks.parts.now (proofs_of l.checks) g
