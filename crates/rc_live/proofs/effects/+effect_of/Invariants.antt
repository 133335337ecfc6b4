use Rattle.std.proofs.Common.{List, drop}
use Rattle.rc_core.specs.Programs.{Struct}
use Rattle.rc_rlang.specs.Shapes.{codes_of}
use Rattle.rc_live.proofs.Doing.{UpTo}
use Rattle.rc_live.proofs.effects.+effect_of.Given as goal

abbrev pub invariant-effect_of_all-loop-one : goal.invariant-effect_of_all-loop-one
invariant-effect_of_all-loop-one l = (structs : List Struct) → UpTo l.names (codes_of structs l.body) (codes_of structs (drop l.one-index l.body)) l.all l.fn.listed.items l.listed.items
