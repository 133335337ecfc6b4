use Rattle.std.proofs.Common.{◌≡◌, ◌++◌, drop, map}
use Rattle.rc_elim.specs.Masks.{marks_in}
use Rattle.rc_reports.specs.Listed.{sites_of}
use Rattle.rc_reports.specs.Reports.{entry_of}
use Rattle.rc_reports.proofs.entry.add_entries.Given as goal

abbrev pub invariant-loop-site : goal.invariant-loop-site
invariant-loop-site l = l.out.items ++ map (entry_of (marks_in l.mask l.function)) (sites_of (drop l.site-index l.site-items)) ≡ l.fn.out.items ++ map (entry_of (marks_in l.mask l.function)) (sites_of l.site-items)
