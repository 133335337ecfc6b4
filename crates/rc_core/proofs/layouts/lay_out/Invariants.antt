use Rattle.std.proofs.Common.{List, map, take}
use Rattle.rc_core.specs.Layout.{Layout}
use Rattle.rc_core.specs.Shapes.{field_of}
use Rattle.rc_core.specs.Laid.{HaveCells}
use Rattle.rc_core.proofs.Laying.{Laying}
use Rattle.rc_core.proofs.layouts.lay_out.Given as goal

abbrev pub invariant-loop-field : goal.invariant-loop-field
invariant-loop-field l =
    (of : List Layout) → HaveCells of l.layouts → Laying of (map field_of (take l.field-index l.fields)) l.kinds.items l.places.items
