use Rattle.std.proofs.Common.{◌<◌, ◌≤◌, ◌-◌, ℕ, length, map, Result}
use Rattle.std.specs.declared.vec.Vec.{Vec}
use Rattle.std.specs.declared.alloc.Global.{Global}
use Rattle.rc_syntax.specs.declared.fault.ParseFault.{ParseFault}
use Rattle.rc_stmt.specs.declared.locals.LocalDeclarator.{LocalDeclarator}
use Rattle.rc_syntax.specs.Grammar.{LocalDecs}
use Rattle.rc_syntax.specs.reader.Todo.{build}
use Rattle.rc_stmt.specs.Shapes.{local_declarator_of}
use Rattle.rc_stmt.specs.Along.{Parses, Proceeds}
use Rattle.rc_stmt.proofs.locals.local_decs.Given as goal

abbrev pub invariant-loop-alloc : goal.invariant-loop-alloc
invariant-loop-alloc l =
    ((r : Result (Vec LocalDeclarator Global × ℕ) ParseFault) → Proceeds LocalDecs l.depth l.tokens l.at l.place (build (map local_declarator_of l.declarators.items)) (λ v. map local_declarator_of v.items) r →
    Parses LocalDecs l.depth l.tokens l.at (λ v. map local_declarator_of v.items) r) × (l.at < l.place) × (l.place ≤ length l.tokens)

abbrev pub decreases-loop-alloc : goal.decreases-loop-alloc
decreases-loop-alloc l = length l.tokens - l.place
