use Rattle.std.proofs.Common.{◌≡◌, ℕ, List, [], length, map, replicate}
use Rattle.rc_regions.proofs.ways.Ways.new.Given as goal

abbrev pub invariant-loop : goal.invariant-loop
invariant-loop l = record {
  count : length l.columns.items ≡ l.counter;
  empty : map (λ column. column.items) l.columns.items ≡ replicate {A = List ℕ} l.counter [];
}
