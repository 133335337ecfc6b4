use Rattle.std.proofs.Common.{◌≡◌, ◌<◌, ◌≤◌, ◌↔◌, ℕ, true, false, length, get_or}
use Rattle.rc_code.specs.Running.{reading_of}
use Rattle.rc_code.specs.Soundness.{kinds_before}
use Rattle.rc_pinning.specs.Operands.{CountOperands, TakesAboveNumbers}
use Rattle.rc_pinning.proofs.operands.above_numbers.Given as goal

abbrev pub invariant-loop-at : goal.invariant-loop-at
invariant-loop-at l = record {
  low : l.operands.height ≤ l.at;
  counted : CountOperands (kinds_before (reading_of l.parts) l.function l.at) l.operands;
  long : length l.tells.items ≡ l.at;
  each : (k : ℕ) → k < l.at → (get_or l.tells.items k false ≡ true) ↔ TakesAboveNumbers (reading_of l.parts) l.function k;
}
