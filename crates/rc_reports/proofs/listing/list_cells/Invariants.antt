use Rattle.std.proofs.Common.{◌≡◌, ◌++◌, drop, map}
use Rattle.rc_core.specs.Laid.{held_kind}
use Rattle.rc_core.specs.Layout.{Layout}
use Rattle.rc_rlang.specs.Sites.{cells_sites}
use Rattle.rc_reports.specs.Listed.{sites_of}
use Rattle.rc_reports.proofs.listing.list_cells.Given as goal

abbrev pub invariant-loop-i : goal.invariant-loop-i
invariant-loop-i l = (layout : Layout) → l.kinds ≡ map held_kind layout → sites_of l.out.items ++ cells_sites (drop l.i layout) l.line l.at ≡ sites_of l.fn.out.items ++ cells_sites layout l.line l.here
