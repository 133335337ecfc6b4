use Rattle.std.proofs.Common.{◌≡◌, ◌++◌, drop, map}
use Rattle.rc_elim.specs.Masks.{marks_in}
use Rattle.rc_rlang.specs.Sites.{Site}
use Rattle.rc_reports.specs.Listed.{sites_of}
use Rattle.rc_marking.proofs.marks.add_marks.Given as goal

abbrev pub invariant-loop-site : goal.invariant-loop-site
invariant-loop-site l = l.out.items ++ map (λ (s : Site). marks_in l.mask l.function s.point) (sites_of (drop l.site-index l.site-items)) ≡ l.fn.out.items ++ map (λ (s : Site). marks_in l.mask l.function s.point) (sites_of l.site-items)
