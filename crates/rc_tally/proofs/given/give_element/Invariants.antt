use Rattle.std.proofs.Common.{◌≤◌, ◌+◌, take, drop}
use Rattle.rc_tally.specs.Tally.{IsGiven, codes_refs}
use Rattle.rc_tally.proofs.given.give_element.Given as goal

abbrev pub invariant-loop-cell : goal.invariant-loop-cell
invariant-loop-cell g l = record {
  given : IsGiven l.fn.directory l.directory (λ r. codes_refs r l.holder (take l.cell l.shape) (drop l.place l.area.codes));
  cost : l.steps ≤ l.fn.steps + l.cell;
  never_falls : l.fn.steps ≤ l.steps;
}
