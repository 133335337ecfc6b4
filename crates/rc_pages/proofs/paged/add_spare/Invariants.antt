use Rattle.std.proofs.Common.{◌≡◌, ◌+◌, ◌-◌, ◌≤◌}
use Rattle.rc_pages.specs.Cells.{IsLonger}
use Rattle.rc_pages.proofs.paged.add_spare.Given as goal

abbrev pub invariant-loop : goal.invariant-loop
invariant-loop g l = record {
  longer : IsLonger l.fn.pages.pages l.pages.pages l.counter;
  room : l.fn.pages.room ≤ l.pages.room + l.counter;
  enough : l.count ≤ l.fn.pages.room;
  bank : l.bank ≡ record l.fn.bank { kept = l.fn.bank.kept - l.counter };
  kept : l.count ≤ l.fn.bank.kept;
}
