use Rattle.std.proofs.Common.{◌∙◌, ap, sym}
use Rattle.rc_slots.specs.Chunks.{entry_in}
use Rattle.rc_slots.proofs.Listed.{shown}
use Rattle.rc_slots.proofs.directory.Directory.get.Goals as goal

pub returns : goal.returns
returns c = c.entry_in.ensures ∙ ap (λ cs. entry_in cs c.args.number) c.deref.ensures.value ∙ sym (shown c.self.inside.chunks.items c.self.inside.len c.self.invariant.0 c.args.self.now c.self.view_is c.args.number)
