use Rattle.std.proofs.Common.{◌+◌, ◌-◌, ◌<◌, ◌/◌, length, arith}
use Rattle.std.proofs.lemmas.Option.{slice_get-get_or}
use Rattle.rc_image_claims.proofs.Searching.{from_start, upper, lower, splits}
use Rattle.rc_image_claims.proofs.frames.first_from.Goals as goal

pub loop-low-init : goal.loop-low-init
loop-low-init c = from_start c.args.frames.now c.args.at

pub loop-low-preserved-then-frames-middle : goal.loop-low-preserved-then-frames-middle
loop-low-preserved-then-frames-middle c =
    let low = c.loop-low.low in
    let high = c.loop-low.high in
    let i = c.loop-low.invariant.inside in
    let t = c.loop-low-test.true in
    let m : low + (high - low) / 2 < length c.args.frames.now = omega (arith, i, t) in
    upper c.args.frames.now c.args.at low high (low + (high - low) / 2) _ c.requires c.loop-low.invariant (omega (arith, t)) (omega (arith, t)) (slice_get-get_or c.args.frames.now (low + (high - low) / 2) c.index-frames-middle.result m) c.if-frames-middle.true

pub loop-low-preserved : goal.loop-low-preserved
loop-low-preserved c =
    let low = c.loop-low.low in
    let high = c.loop-low.high in
    let i = c.loop-low.invariant.inside in
    let t = c.loop-low-test.true in
    let m : low + (high - low) / 2 < length c.args.frames.now = omega (arith, i, t) in
    lower c.args.frames.now c.args.at low high (low + (high - low) / 2) _ c.requires c.loop-low.invariant (omega (arith, t)) (omega (arith, t)) (slice_get-get_or c.args.frames.now (low + (high - low) / 2) c.index-frames-middle.result m) c.if-frames-middle.false

pub returns : goal.returns
returns c = let t = c.loop-low-test.false in splits c.args.frames.now c.args.at c.loop-low.low c.loop-low.high t c.loop-low.invariant
