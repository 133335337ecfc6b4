use Rattle.std.proofs.Common.{◌≡◌, ◌++◌, ◌+◌, List, drop}
use Rattle.rc_core.specs.Laid.{AreLaidOut}
use Rattle.rc_core.specs.Programs.{Struct}
use Rattle.rc_rlang.specs.RegionPoints.{codes_points}
use Rattle.rc_rlang.specs.Shapes.{codes_of}
use Rattle.rc_reports.specs.Listed.{sites_of}
use Rattle.rc_rlang.specs.Sites.{codes_sites}
use Rattle.rc_reports.proofs.listing.+code.Given as goal

abbrev pub invariant-list_codes-loop-i : goal.invariant-list_codes-loop-i
invariant-list_codes-loop-i l =
    ((structs : List Struct) → AreLaidOut structs l.layouts → sites_of l.out.items ++ codes_sites l.order (codes_of structs (drop l.i l.body)) l.at ≡ sites_of l.fn.out.items ++ codes_sites l.order (codes_of structs l.body) l.here)
    × ((structs : List Struct) → AreLaidOut structs l.layouts → l.at + codes_points (codes_of structs (drop l.i l.body)) ≡ l.here + codes_points (codes_of structs l.body))
