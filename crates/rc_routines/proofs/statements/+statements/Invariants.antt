use Rattle.std.proofs.Common.{◌≡◌, ◌+◌, ◌*◌, drop, map}
use Rattle.std.specs.Prelude.{max, option_map}
use Rattle.rc_core.specs.declared.stmt.Stmt.{size-Stmt}
use Rattle.rc_core.specs.Shapes.{stmts_of, program_of, ty_of}
use Rattle.rc_rlang.specs.Shapes.{codes_of}
use Rattle.rc_translation.specs.Translation.{body_code}
use Rattle.rc_routines.proofs.Codes.{joined}
use Rattle.rc_routines.specs.Bodies.{with_locals}
use Rattle.rc_routines.proofs.statements.+statements.Given as goal

-- a statement is above its parts, and the walk over a part above the part

abbrev pub decreases-statement : goal.decreases-statement
decreases-statement l = 4 * goal.size-statement l

abbrev pub decreases-body : goal.decreases-body
decreases-body l = 4 * goal.size-body l + 1

abbrev pub decreases-block : goal.decreases-block
decreases-block l = 4 * goal.size-block l + 2

abbrev pub decreases-branch : goal.decreases-branch
decreases-branch l = 4 * max (size-Stmt l.yes.now) (size-Stmt l.no.now) + 2

abbrev pub decreases-repeat_while : goal.decreases-repeat_while
decreases-repeat_while l = 4 * size-Stmt l.body.now + 2

abbrev pub decreases-repeat_do : goal.decreases-repeat_do
decreases-repeat_do l = 4 * size-Stmt l.body.now + 2

abbrev pub decreases-repeat_for : goal.decreases-repeat_for
decreases-repeat_for l = 4 * max (size-Stmt l.first.now) (max (size-Stmt l.third.now) (size-Stmt l.body.now)) + 2

abbrev pub invariant-body-loop-s : goal.invariant-body-loop-s
invariant-body-loop-s l =
    joined (codes_of (program_of l.scope.parts.now).structs l.codes.items) (body_code (program_of l.scope.parts.now) (with_locals (map ty_of l.scope.locals.now) (option_map ty_of l.given)) (stmts_of (drop l.s-index l.statements)))
    ≡ body_code (program_of l.scope.parts.now) (with_locals (map ty_of l.scope.locals.now) (option_map ty_of l.given)) (stmts_of l.statements)
