use Rattle.std.proofs.Common.{◌≡◌, ◌≤◌, ◌-◌, ◌++◌, length, take, replicate}
use Rattle.std.specs.List.{concat}
use Rattle.rc_pages.specs.Cells.{AreWhole}
use Rattle.rc_pages.proofs.paged.clear.Given as goal

abbrev pub invariant-loop-at : goal.invariant-loop-at
invariant-loop-at g l = record {
  whole : AreWhole l.pages.pages;
  count : length l.pages.pages ≡ length l.fn.pages.pages;
  behind : l.from ≤ l.at;
  before : l.at ≤ l.to;
  cells : take l.at (concat l.pages.pages) ≡ take l.from (concat l.fn.pages.pages) ++ replicate (l.at - l.from) 0;
}

abbrev pub decreases-loop-at : goal.decreases-loop-at
decreases-loop-at g l = l.to - l.at
