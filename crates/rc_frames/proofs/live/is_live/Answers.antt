use Rattle.rc_frames.proofs.live.is_live.Goals as goal

pub loop-frame-init : goal.loop-frame-init
loop-frame-init c = c.at_end-k.ensures c.args.x
