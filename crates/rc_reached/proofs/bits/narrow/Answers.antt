use Rattle.std.proofs.Common.{rules, ◌≡◌, ◌<◌, length, arith}
use Rattle.rc_reached.proofs.Rows.{narrow_none, narrow_more}
use Rattle.rc_reached.proofs.bits.narrow.Goals as goal

pub loop-at-init : goal.loop-at-init
loop-at-init c = narrow_none c.args.words.now c.args.distance

pub loop-at-preserved : goal.loop-at-preserved
loop-at-preserved c =
    let long : length c.loop-at.words ≡ length c.args.words.now = search rules in
    let within : c.loop-at.at < length c.loop-at.words = omega (arith, long, c.requires.room, c.loop-at-test.true) in
    narrow_more c.args.words.now c.loop-at.words c.args.distance c.loop-at.at c.loop-at.invariant c.word_from-further.result within c.word_from-further.ensures
