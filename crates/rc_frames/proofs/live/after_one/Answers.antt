use Rattle.std.proofs.Common.{◌≡◌, arith, ◌<◌, length, drop, ap, ◌∙◌}
use Rattle.rc_core.specs.Live.{before_all}
use Rattle.rc_core.specs.Shapes.{stmts_of}
use Rattle.rc_frames.proofs.LiveFrames.{one_listed, one_past, range_to_end}
use Rattle.rc_frames.proofs.live.after_one.Goals as goal

pub returns-in-None : goal.returns-in-None
returns-in-None c = λ k2 a.
    let past : length c.deref.result.now < c.args.begun = omega (arith, c.in-None.ensures.lookup.0) in
    rw (one_past c.args.s.now c.in-Block.body c.deref.result.now c.in-Block.is c.deref.ensures.value c.args.begun k2 past)
    (record { next = a.next; broken = a.broken; continued = a.continued })

pub returns-in-Some : goal.returns-in-Some
returns-in-Some c = λ k2 a.
    let rest : c.in-Some.rest.now ≡ drop c.args.begun c.deref.result.now = c.in-Some.ensures.lookup.0.2 ∙ range_to_end c.deref.result.now c.args.begun in
    let live = c.then_live.ensures in
    let next = live.next ∙ c.before_all.ensures k2 a ∙ ap (λ body. before_all (stmts_of body) k2 c.args.x) rest in
    rw (one_listed c.args.s.now c.in-Block.body c.deref.result.now c.in-Block.is c.deref.ensures.value c.args.begun k2)
    (record { next = next; broken = live.broken ∙ a.broken; continued = live.continued ∙ a.continued })
