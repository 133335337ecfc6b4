use Rattle.std.proofs.Common.{◌∙◌, ap, sym}
use Rattle.rc_slots.specs.Entries.{slot_of}
use Rattle.rc_slots.proofs.Listed.{shown}
use Rattle.rc_slots.proofs.directory.Directory.remember.Goals as goal

pub invariant_of-self : goal.invariant_of-self
invariant_of-self c = (c.self.invariant.0, λ below. ap slot_of (sym (shown c.self.inside.chunks.items c.self.inside.len c.self.invariant.0 c.args.self.now c.self.view_is c.args.number)) ∙ c.requires)
