use Rattle.std.proofs.Common.{Some, ap}
use Rattle.rc_core.specs.Shapes.{program_of}
use Rattle.rc_routines.proofs.Codes.{for_on, loop_on}
use Rattle.rc_routines.proofs.statements.+statements.Goals as goal

pub repeat_for-returns : goal.repeat_for-returns
repeat_for-returns t c =
    let structs = (program_of c.args.scope.now.parts.now).structs in
    for_on c.pair.result structs c.args.line _ _ _ _ _ _ _ _ _ _ _ c.in_ok-first.ensures (c.in_ok-rest.ensures structs) c.in_ok-steps.ensures c.in_ok-test.ensures c.in_ok-third.ensures c.in_ok-body.ensures (c.pair.ensures structs)

pub repeat_while-returns : goal.repeat_while-returns
repeat_while-returns t c =
    let structs = (program_of c.args.scope.now.parts.now).structs in
    loop_on c.looped.result structs c.args.line _ _ _ _ _ _ _ _ c.in_ok-steps.ensures (ap Some c.in_ok-test.ensures) (c.in_ok-third.ensures structs) c.in_ok-body.ensures (c.looped.ensures structs)
