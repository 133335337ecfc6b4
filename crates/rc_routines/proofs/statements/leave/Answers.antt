use Rattle.std.proofs.Common.{◌≡◌, None, IfOk, map, sym, subst}
use Rattle.std.specs.Prelude.{option_map}
use Rattle.rc_core.specs.Programs as from
use Rattle.rc_core.specs.Shapes.{expr_of, ty_of, program_of}
use Rattle.rc_rlang.specs.RegionCode as rlang
use Rattle.rc_rlang.specs.Shapes.{code_of, steps_of}
use Rattle.rc_translation.specs.Translation.{statement_code}
use Rattle.rc_routines.specs.Bodies.{with_locals}
use Rattle.rc_routines.proofs.statements.leave.Goals as goal

pub returns-in-None : goal.returns-in-None
returns-in-None c =
    let program = program_of c.args.scope.now.parts.now in
    let f = with_locals (map ty_of c.args.scope.now.locals.now) (option_map ty_of c.args.given.now) in
    subst (λ v. IfOk c.simple.result (λ b. code_of program.structs b.value ≡ statement_code program f (from.return c.args.line (option_map expr_of v)))) (sym c.in-None.is)
    (subst (λ xs. IfOk c.simple.result (λ b. code_of program.structs b.value ≡ rlang.simple (steps_of program.structs xs) (rlang.leave c.args.line None))) c.new-steps.ensures.items (c.simple.ensures program.structs))
