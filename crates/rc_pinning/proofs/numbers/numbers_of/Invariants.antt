use Rattle.std.proofs.Common.{◌≡◌, ◌<◌, ◌≤◌, ℕ, map, length, get_or}
use Rattle.rc_code.specs.Soundness.{is_regional}
use Rattle.rc_claims.specs.Counts.{trues}
use Rattle.rc_pinning.proofs.numbers.numbers_of.Given as goal

abbrev pub invariant-loop-at : goal.invariant-loop-at
invariant-loop-at l = record {
  count : l.count ≡ trues (map is_regional l.locals) l.at;
  small : l.count ≤ l.at;
  long : length l.numbers.items ≡ l.at;
  each : (x : ℕ) → x < l.at → get_or l.numbers.items x 0 ≡ trues (map is_regional l.locals) x;
}
