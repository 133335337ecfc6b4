use Rattle.std.proofs.Common.{◌<◌, ◌∙◌, ap, sym, subst, arith}
use Rattle.rc_slots.specs.Entries.{IsEntry, slot_of}
use Rattle.rc_slots.specs.Chunks.{entry_in}
use Rattle.rc_slots.proofs.Listed.{shown}
use Rattle.rc_slots.proofs.directory.Directory.find.Goals as goal

pub returns-then-number-self-clause-slot : goal.returns-then-number-self-clause-slot
returns-then-number-self-clause-slot c =
    let below : c.self.inside.recent < 4294967296 = omega (arith, c.ranges.number.fits, c.if-number-self.true) in
    ap slot_of (shown c.self.inside.chunks.items c.self.inside.len c.self.invariant.0 c.args.self.now c.self.view_is c.args.number) ∙ ap (λ n. slot_of (entry_in c.self.inside.chunks.items n)) c.if-number-self.true ∙ c.self.invariant.1 below

pub slot-slot-requires : goal.slot-slot-requires
slot-slot-requires c = subst IsEntry (shown c.self.inside.chunks.items c.self.inside.len c.self.invariant.0 c.args.self.now c.self.view_is c.args.number ∙ ap (λ cs. entry_in cs c.args.number) (sym c.deref.ensures.value)) c.requires

pub remember-requires : goal.remember-requires
remember-requires c = ap slot_of (shown c.self.inside.chunks.items c.self.inside.len c.self.invariant.0 c.args.self.now c.self.view_is c.args.number ∙ ap (λ cs. entry_in cs c.args.number) (sym c.deref.ensures.value)) ∙ c.slot-slot.ensures

pub returns-clause-slot : goal.returns-clause-slot
returns-clause-slot c = ap slot_of (shown c.self.inside.chunks.items c.self.inside.len c.self.invariant.0 c.args.self.now c.self.view_is c.args.number ∙ ap (λ cs. entry_in cs c.args.number) (sym c.deref.ensures.value)) ∙ c.slot-slot.ensures
