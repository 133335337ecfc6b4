use Rattle.std.proofs.Common.{◌<◌, ◌∙◌, ap, sym, arith}
use Rattle.rc_slots.specs.Entries.{slot_of}
use Rattle.rc_slots.specs.Chunks.{entry_in}
use Rattle.rc_slots.proofs.Listed.{shown}
use Rattle.rc_slots.proofs.directory.Directory.slot_if_live.Goals as goal

pub returns-then-number-self : goal.returns-then-number-self
returns-then-number-self c =
    let below : c.self.inside.recent < 4294967296 = omega (arith, c.ranges.number.fits, c.if-number-self.true) in
    sym (ap slot_of (shown c.self.inside.chunks.items c.self.inside.len c.self.invariant.0 c.args.self.now c.self.view_is c.args.number) ∙ ap (λ n. slot_of (entry_in c.self.inside.chunks.items n)) c.if-number-self.true ∙ c.self.invariant.1 below)

pub returns : goal.returns
returns c = c.slot_if_live.ensures ∙ ap slot_of (sym (shown c.self.inside.chunks.items c.self.inside.len c.self.invariant.0 c.args.self.now c.self.view_is c.args.number ∙ ap (λ cs. entry_in cs c.args.number) (sym c.deref.ensures.value)))
