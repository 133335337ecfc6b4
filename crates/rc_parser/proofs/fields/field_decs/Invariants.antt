use Rattle.std.proofs.Common.{◌<◌, ◌≤◌, ◌-◌, ℕ, length, map, Result}
use Rattle.std.specs.declared.vec.Vec.{Vec}
use Rattle.std.specs.declared.alloc.Global.{Global}
use Rattle.rc_syntax.specs.declared.fault.ParseFault.{ParseFault}
use Rattle.rc_parser.specs.declared.fields.Declarator.{Declarator}
use Rattle.rc_syntax.specs.Grammar.{FieldDecs}
use Rattle.rc_syntax.specs.reader.Todo.{build}
use Rattle.rc_parser.specs.Shapes.{declarator_of}
use Rattle.rc_stmt.specs.Along.{Parses, Proceeds}
use Rattle.rc_parser.proofs.fields.field_decs.Given as goal

abbrev pub invariant-loop-alloc : goal.invariant-loop-alloc
invariant-loop-alloc l =
    ((r : Result (Vec Declarator Global × ℕ) ParseFault) → Proceeds FieldDecs l.depth l.tokens l.at l.place (build (map declarator_of l.declarators.items)) (λ v. map declarator_of v.items) r →
    Parses FieldDecs l.depth l.tokens l.at (λ v. map declarator_of v.items) r) × (l.at < l.place) × (l.place ≤ length l.tokens)

abbrev pub decreases-loop-alloc : goal.decreases-loop-alloc
decreases-loop-alloc l = length l.tokens - l.place
