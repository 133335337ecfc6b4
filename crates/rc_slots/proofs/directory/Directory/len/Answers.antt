use Rattle.rc_slots.proofs.Listed.{shown_length}
use Rattle.rc_slots.proofs.directory.Directory.len.Goals as goal

pub returns : goal.returns
returns c = shown_length c.self.inside.chunks.items c.self.inside.len c.self.invariant.0 c.args.self.now c.self.view_is
