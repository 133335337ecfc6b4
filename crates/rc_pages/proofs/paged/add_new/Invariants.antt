use Rattle.std.proofs.Common.{◌≡◌, ◌+◌, ◌≤◌, length}
use Rattle.rc_pages.specs.Cells.{IsLonger}
use Rattle.rc_pages.proofs.paged.add_new.Given as goal

abbrev pub invariant-loop : goal.invariant-loop
invariant-loop g l = record {
  longer : IsLonger l.fn.pages.pages l.pages.pages l.counter;
  before : l.before ≡ length l.fn.pages.pages;
  room : l.fn.pages.room ≤ l.pages.room + l.counter;
  enough : l.count ≤ l.fn.pages.room;
}
