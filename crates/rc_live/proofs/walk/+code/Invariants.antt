use Rattle.std.proofs.Common.{List, take, drop}
use Rattle.rc_core.specs.Types.{Ty}
use Rattle.rc_core.specs.Live.{Ways}
use Rattle.rc_rlang.specs.Shapes.{codes_of}
use Rattle.rc_live.specs.declared.effects.Effect.{Effect}
use Rattle.rc_live.specs.Effects.{Found, loops_among}
use Rattle.rc_live.specs.Rows.{ShowWays}
use Rattle.rc_live.specs.Walking.{structs_in, Serves, CodesDone}
use Rattle.rc_live.proofs.walk.+code.Given as goal

abbrev pub invariant-codes-loop-i : goal.invariant-codes-loop-i
invariant-codes-loop-i l = (types : List Ty) (k : Ways) (before : List Effect) → Serves l.context types → ShowWays l.context.names.now l.fn.ways k →
    Found l.context.names.now (loops_among (codes_of (structs_in l.context.parts.now) l.body)) before l.fn.effects.items →
    CodesDone l.context types (codes_of (structs_in l.context.parts.now) (drop l.i l.body)) k l.next l.fn.walk l.walk
    × Found l.context.names.now (loops_among (codes_of (structs_in l.context.parts.now) (take l.i l.body))) before l.effects.items
