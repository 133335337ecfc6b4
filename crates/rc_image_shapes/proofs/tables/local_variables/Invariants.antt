use Rattle.std.proofs.Common.{◌≡◌, ◌<◌, ◌+◌, ℕ, map, length, get_or}
use Rattle.rc_code.specs.Soundness.{is_regional}
use Rattle.rc_claims.specs.Counts.{trues}
use Rattle.rc_image_shapes.proofs.tables.local_variables.Given as goal

abbrev pub invariant-loop-at : goal.invariant-loop-at
invariant-loop-at l = record {
  variable : l.variable ≡ l.copies + trues (map is_regional l.locals) l.at;
  long : length l.table.items ≡ l.at;
  each : (x : ℕ) → x < l.at → get_or l.table.items x 0 ≡ l.copies + trues (map is_regional l.locals) x;
}
