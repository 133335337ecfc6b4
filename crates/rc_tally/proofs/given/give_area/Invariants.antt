use Rattle.std.proofs.Common.{◌≤◌, ◌+◌, take, drop}
use Rattle.std.specs.List.{sum_by}
use Rattle.rc_areas.specs.Areas.{kinds_in, size_in}
use Rattle.rc_tally.specs.Tally.{IsGiven, codes_refs}
use Rattle.rc_tally.proofs.given.give_area.Given as goal

abbrev pub invariant-loop-head : goal.invariant-loop-head
invariant-loop-head g l = record {
  given : IsGiven l.fn.directory l.directory (λ r. sum_by (λ h. codes_refs r l.holder (kinds_in l.shapes h) (drop h.start l.area.codes)) (take l.head-index l.area.heads));
  cost : l.steps ≤ l.fn.steps + sum_by (size_in l.shapes) (take l.head-index l.area.heads);
  never_falls : l.fn.steps ≤ l.steps;
}
