use Rattle.std.proofs.Common.{◌<◌, ◌∙◌, ap, sym, arith}
use Rattle.rc_slots.specs.Entries.{slot_of}
use Rattle.rc_slots.specs.Chunks.{entry_in}
use Rattle.rc_slots.proofs.Listed.{shown}
use Rattle.rc_slots.proofs.directory.Directory.find_if_live.Goals as goal

pub returns-then-number-self-clause-slot : goal.returns-then-number-self-clause-slot
returns-then-number-self-clause-slot c =
    let below : c.self.inside.recent < 4294967296 = omega (arith, c.ranges.number.fits, c.if-number-self.true) in
    sym (ap slot_of (shown c.self.inside.chunks.items c.self.inside.len c.self.invariant.0 c.args.self.now c.self.view_is c.args.number) ∙ ap (λ n. slot_of (entry_in c.self.inside.chunks.items n)) c.if-number-self.true ∙ c.self.invariant.1 below)

pub returns-in-None-clause-slot : goal.returns-in-None-clause-slot
returns-in-None-clause-slot c = sym c.in-None.is ∙ c.slot_if_live.ensures ∙ ap slot_of (sym (shown c.self.inside.chunks.items c.self.inside.len c.self.invariant.0 c.args.self.now c.self.view_is c.args.number ∙ ap (λ cs. entry_in cs c.args.number) (sym c.deref.ensures.value)))

pub remember-requires : goal.remember-requires
remember-requires c = ap slot_of (shown c.self.inside.chunks.items c.self.inside.len c.self.invariant.0 c.args.self.now c.self.view_is c.args.number ∙ ap (λ cs. entry_in cs c.args.number) (sym c.deref.ensures.value)) ∙ sym c.slot_if_live.ensures ∙ c.in-Some.is

pub returns-in-Some-clause-slot : goal.returns-in-Some-clause-slot
returns-in-Some-clause-slot c = sym c.in-Some.is ∙ c.slot_if_live.ensures ∙ ap slot_of (sym (shown c.self.inside.chunks.items c.self.inside.len c.self.invariant.0 c.args.self.now c.self.view_is c.args.number ∙ ap (λ cs. entry_in cs c.args.number) (sym c.deref.ensures.value)))
