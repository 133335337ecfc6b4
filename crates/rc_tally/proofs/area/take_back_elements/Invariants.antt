use Rattle.std.proofs.Common.{◌≡◌, ◌≤◌, ◌+◌, ◌*◌, length, replicate, drop}
use Rattle.std.specs.Prelude.{flat_map}
use Rattle.rc_tally.specs.Tally.{IsTaken, codes_refs}
use Rattle.rc_tally.proofs.area.take_back_elements.Given as goal

abbrev pub invariant-loop : goal.invariant-loop
invariant-loop g l = record {
  place : l.place ≡ l.fn.head.start + l.counter * length l.shape;
  taken : IsTaken l.fn.directory l.directory (λ r. codes_refs r l.holder (flat_map (λ ks. ks) (replicate l.counter l.shape)) (drop l.fn.head.start l.area.codes));
  cost : l.steps ≤ l.fn.steps + l.counter * length l.shape;
  never_falls : l.fn.steps ≤ l.steps;
}
