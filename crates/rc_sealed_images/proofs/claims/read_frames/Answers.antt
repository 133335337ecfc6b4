use Rattle.std.proofs.Common.{◌+◌, arith}
use Rattle.std.proofs.lemmas.Result.{err_from_is_err_and}
use Rattle.rc_sealed_images.specs.Reading.{frames_at}
use Rattle.rc_sealed_images.proofs.Loops.{frames_go_on, frames_end, frames_are_done}
use Rattle.rc_sealed_images.proofs.claims.read_frames.Goals as goal

pub returns-in_err-frame : goal.returns-in_err-frame
returns-in_err-frame c =
    let p = err_from_is_err_and c.from_residual.result c.from_residual.ensures.1 in
    rw (p.1, p.2) (frames_end c.args.function.now c.loop.frames.items c.args.count c.loop.counter c.loop.least c.loop.rest.now (frames_at c.args.function.now c.args.count 0 c.args.bytes.now) c.loop.invariant c.in_err-frame.field-0.0 c.loop-test.true c.in_err-frame.ensures.gives)

pub loop-preserved : goal.loop-preserved
loop-preserved c =
    rw c.in_ok-push.ensures.items (frames_go_on c.args.function.now c.loop.frames.items c.args.count c.loop.counter c.loop.least c.loop.rest.now (frames_at c.args.function.now c.args.count 0 c.args.bytes.now) c.loop.invariant (c.in_ok-frame.frame.at + 1) c.in_ok-frame.frame
    c.in_ok-frame.after.now c.loop-test.true c.in_ok-frame.ensures.gives (omega arith))

pub returns : goal.returns
returns c =
    frames_are_done c.args.function.now c.loop.frames.items c.args.count c.loop.counter c.loop.least c.loop.rest.now (frames_at c.args.function.now c.args.count 0 c.args.bytes.now) c.loop.invariant c.loop-test.false
