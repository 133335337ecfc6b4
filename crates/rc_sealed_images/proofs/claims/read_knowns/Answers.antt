use Rattle.std.proofs.lemmas.Result.{err_from_is_err_and}
use Rattle.rc_sealed_images.specs.Reading.{knowns_at}
use Rattle.rc_sealed_images.proofs.Loops.{knowns_go_on, knowns_end, knowns_are_done}
use Rattle.rc_sealed_images.proofs.claims.read_knowns.Goals as goal

pub returns-in_err-known : goal.returns-in_err-known
returns-in_err-known c =
    let p = err_from_is_err_and c.from_residual.result c.from_residual.ensures.1 in
    rw (p.1, p.2) (knowns_end c.loop-function.knowns.items c.args.functions.now c.loop-function.function-index c.loop-function.rest.now (knowns_at c.args.functions.now c.args.bytes.now) c.loop-function.invariant c.function-item.result c.in_err-known.field-0.0 c.loop-function-test.true
    c.function-item.is c.in_err-known.ensures)

pub loop-function-preserved : goal.loop-function-preserved
loop-function-preserved c =
    rw c.in_ok-push.ensures.items (knowns_go_on c.loop-function.knowns.items c.args.functions.now c.loop-function.function-index c.loop-function.rest.now (knowns_at c.args.functions.now c.args.bytes.now) c.loop-function.invariant c.function-item.result c.in_ok-known.known
    c.in_ok-known.after.now c.loop-function-test.true c.function-item.is c.in_ok-known.ensures)

pub returns : goal.returns
returns c = knowns_are_done c.loop-function.knowns.items c.args.functions.now c.loop-function.function-index c.loop-function.rest.now (knowns_at c.args.functions.now c.args.bytes.now) c.loop-function.invariant c.loop-function-test.false
