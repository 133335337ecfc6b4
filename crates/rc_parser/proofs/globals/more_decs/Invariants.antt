use Rattle.std.proofs.Common.{◌<◌, ◌≤◌, ◌-◌, ℕ, [], ◌∷◌, length, map, Result}
use Rattle.std.specs.declared.vec.Vec.{Vec}
use Rattle.std.specs.declared.alloc.Global.{Global}
use Rattle.rc_syntax.specs.declared.fault.ParseFault.{ParseFault}
use Rattle.rc_parser.specs.declared.globals.GlobalDeclarator.{GlobalDeclarator}
use Rattle.rc_syntax.specs.Grammar.{Decs}
use Rattle.rc_syntax.specs.reader.Todo.{build}
use Rattle.rc_parser.specs.Shapes.{global_of}
use Rattle.rc_stmt.specs.Along.{Proceeds}
use Rattle.rc_parser.proofs.globals.more_decs.Given as goal

abbrev pub invariant-loop-alloc : goal.invariant-loop-alloc
invariant-loop-alloc l =
    ((r : Result (Vec GlobalDeclarator Global × ℕ) ParseFault) → Proceeds Decs l.depth l.tokens l.at l.place (build (map global_of l.declarators.items)) (λ v. map global_of v.items) r →
    Proceeds Decs l.depth l.tokens l.at l.fn.after (build (global_of l.fn.first ∷ [])) (λ v. map global_of v.items) r) × (l.at < l.place) × (l.fn.after ≤ l.place) × (l.place ≤ length l.tokens)

abbrev pub decreases-loop-alloc : goal.decreases-loop-alloc
decreases-loop-alloc l = length l.tokens - l.place
