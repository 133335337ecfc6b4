use Rattle.std.proofs.Common.{◌<◌, ◌≤◌, ◌-◌, ℕ, length, map, Result}
use Rattle.std.specs.declared.vec.Vec.{Vec}
use Rattle.std.specs.declared.alloc.Global.{Global}
use Rattle.rc_syntax.specs.declared.fault.ParseFault.{ParseFault}
use Rattle.rc_syntax.specs.declared.tree.Param.{Param}
use Rattle.rc_syntax.specs.Grammar.{Params}
use Rattle.rc_syntax.specs.reader.Todo.{build}
use Rattle.rc_syntax.specs.Shape.{param_of}
use Rattle.rc_stmt.specs.Along.{Parses, Proceeds}
use Rattle.rc_parser.proofs.params.params.Given as goal

abbrev pub invariant-loop-alloc : goal.invariant-loop-alloc
invariant-loop-alloc l =
    ((r : Result (Vec Param Global × ℕ) ParseFault) → Proceeds Params l.depth l.tokens l.at l.place (build (map param_of l.params.items)) (λ v. map param_of v.items) r →
    Parses Params l.depth l.tokens l.at (λ v. map param_of v.items) r) × (l.at < l.place) × (l.place ≤ length l.tokens)

abbrev pub decreases-loop-alloc : goal.decreases-loop-alloc
decreases-loop-alloc l = length l.tokens - l.place
