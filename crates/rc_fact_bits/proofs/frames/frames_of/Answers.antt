use Rattle.std.proofs.Common.{◌≤◌, ◌+◌, refl, ap, subst, arith}
use Rattle.std.specs.declared.vec.Vec.{Vec}
use Rattle.std.specs.declared.alloc.Global.{Global}
use Rattle.rc_facts.specs.Facts.{Known}
use Rattle.rc_claims.specs.declared.proofs.Frame.{Frame}
use Rattle.rc_fact_bits.proofs.Framing.{frame_none, frames_are, next_there, set_found, put_on, skip_on}
use Rattle.rc_fact_bits.proofs.frames.frames_of.Goals as goal
use Rattle.rc_fact_bits.proofs.frames.frames_of.Goals.{then-so+in_ok-put_frame, else-so}

pub loop-at-init : goal.loop-at-init
loop-at-init c = frame_none c.args.n c.args.sets.now c.args.targets.now c.in_ok-frames.frames.items c.in_ok-frames.ensures.items

pub bounds-sets-next : goal.bounds-sets-next
bounds-sets-next c = next_there c.args.n c.args.sets.now c.args.targets.now c.loop-at.at c.loop-at.next c.loop-at.frames.items c.is_target-so.result c.requires.enough c.loop-at-test.true c.is_target-so.ensures c.if-so.true c.loop-at.invariant

pub offset_bounds-sets-next : goal.offset_bounds-sets-next
offset_bounds-sets-next c = let f = c.loop-at.invariant.few in let t = c.loop-at-test.true in let s = c.requires.small in omega (arith, f, t, s)

pub overflow_add-next : goal.overflow_add-next
overflow_add-next c = let f = c.loop-at.invariant.few in let t = c.loop-at-test.true in let s = c.requires.small in omega (arith, f, t, s)

pub put_frame-requires-clause-room : goal.put_frame-requires-clause-room
put_frame-requires-clause-room c =
    let lt = next_there c.args.n c.args.sets.now c.args.targets.now c.loop-at.at c.loop-at.next c.loop-at.frames.items c.is_target-so.result c.requires.enough c.loop-at-test.true c.is_target-so.ensures c.if-so.true c.loop-at.invariant in
    subst (λ (s : Known). c.args.n ≤ s.variables) (set_found c.args.n c.args.sets.now c.args.targets.now c.loop-at.next c.index-sets-next.result lt c.index-sets-next.is) (c.requires.room c.loop-at.next lt)

pub loop-at-preserved : goal.loop-at-preserved
loop-at-preserved c =
    elim c.if-so.branch [
      | then-so+in_ok-put_frame w ↦ put_on c.args.n c.args.sets.now c.args.targets.now c.loop-at.at (c.loop-at.at + 1) c.loop-at.next c.if-so.next c.loop-at.frames.items w.put_frame.new.frames.items c.if-so.frames.items c.is_target-so.result w.index-sets-next.result c.is_target-so.ensures w.if-so.true refl w.next-is (ap (λ (v : Vec Frame Global). v.items) w.frames-is) (next_there c.args.n c.args.sets.now c.args.targets.now c.loop-at.at c.loop-at.next c.loop-at.frames.items c.is_target-so.result c.requires.enough c.loop-at-test.true c.is_target-so.ensures w.if-so.true c.loop-at.invariant) w.index-sets-next.is c.loop-at.invariant w.in_ok-put_frame.ensures
      | else-so w ↦ skip_on c.args.n c.args.sets.now c.args.targets.now c.loop-at.at (c.loop-at.at + 1) c.loop-at.next c.if-so.next c.loop-at.frames.items c.if-so.frames.items c.is_target-so.result c.is_target-so.ensures w.if-so.false refl w.next-is (ap (λ (v : Vec Frame Global). v.items) w.frames-is) c.loop-at.invariant
    ]

pub returns : goal.returns
returns c =
    let f = c.loop-at-test.false in
    let e = c.loop-at.auto.at-end in
    frames_are c.args.n c.args.sets.now c.args.targets.now c.loop-at.at c.loop-at.next c.loop-at.frames.items (omega (arith, f, e)) c.loop-at.invariant
