use Rattle.std.proofs.Common.{◌<◌, ◌≤◌, ◌-◌, ℕ, length, map, Result}
use Rattle.std.specs.declared.vec.Vec.{Vec}
use Rattle.std.specs.declared.alloc.Global.{Global}
use Rattle.rc_syntax.specs.declared.fault.ParseFault.{ParseFault}
use Rattle.rc_syntax.specs.declared.tree.Field.{Field}
use Rattle.rc_syntax.specs.Grammar.{Fields}
use Rattle.rc_syntax.specs.reader.Todo.{build}
use Rattle.rc_syntax.specs.Shape.{field_of}
use Rattle.rc_stmt.specs.Along.{Parses, Proceeds}
use Rattle.rc_parser.proofs.fields.fields.Given as goal

abbrev pub invariant-loop-alloc : goal.invariant-loop-alloc
invariant-loop-alloc l =
    ((r : Result (Vec Field Global × ℕ) ParseFault) → Proceeds Fields l.depth l.tokens l.at l.place (build (map field_of l.fields.items)) (λ v. map field_of v.items) r →
    Parses Fields l.depth l.tokens l.at (λ v. map field_of v.items) r) × (l.at < l.place) × (l.place ≤ length l.tokens)

abbrev pub decreases-loop-alloc : goal.decreases-loop-alloc
decreases-loop-alloc l = length l.tokens - l.place
