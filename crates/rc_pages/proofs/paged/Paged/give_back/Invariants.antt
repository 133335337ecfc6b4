use Rattle.std.proofs.Common.{◌≡◌, ◌+◌, ◌-◌, ◌≤◌, length}
use Rattle.rc_pages.specs.Cells.{AreWhole}
use Rattle.rc_pages.proofs.paged.Paged.give_back.Given as goal

abbrev pub invariant-loop-page : goal.invariant-loop-page
invariant-loop-page g l = record {
  bank : l.bank ≡ record l.initial.bank { kept = l.initial.bank.kept + (length l.initial.pages.pages - length l.pages.pages) };
  fewer : length l.pages.pages ≤ length l.initial.pages.pages;
  room : l.initial.bank.kept + length l.initial.pages.pages ≤ l.initial.bank.places;
  whole : AreWhole l.pages.pages;
}

abbrev pub decreases-loop-page : goal.decreases-loop-page
decreases-loop-page g l = length l.pages.pages
