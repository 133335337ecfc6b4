use Rattle.std.proofs.Common.{◌≡◌, ◌≤◌, map}
use Rattle.rc_code.specs.Soundness.{is_regional}
use Rattle.rc_claims.specs.Counts.{trues}
use Rattle.rc_image_counts.proofs.locals.count_regional.Given as goal

abbrev pub invariant-loop-at : goal.invariant-loop-at
invariant-loop-at l = record {
  count : l.count ≡ trues (map is_regional l.locals) l.at;
  small : l.count ≤ l.at;
}
