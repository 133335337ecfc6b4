use Rattle.std.proofs.Common.{◌≡◌, ◌≤◌}
use Rattle.rc_claims.specs.Counts.{trues}
use Rattle.rc_prove_routes.proofs.tables.count_of.Given as goal

abbrev pub invariant-loop-at : goal.invariant-loop-at
invariant-loop-at l = record {
  count : l.count ≡ trues l.targets l.at;
  few : l.count ≤ l.at;
}
