use Rattle.std.proofs.Common.{◌≡◌, ◌<◌, ◌∙◌, ap, sym, subst, refl, Option, None, Some}
use Rattle.std.proofs.lemmas.List.{with_items_is}
use Rattle.rc_slots.specs.Entries.{IsEntry, counted, entry_at, raised, slot_of}
use Rattle.rc_slots.specs.declared.entry.Entry.{Entry}
use Rattle.rc_slots.specs.Chunks.{entry_in}
use Rattle.rc_slots.proofs.Listed.{recent_changed, settled, shown}
use Rattle.rc_slots.proofs.directory.Directory.raise.Goals as goal

-- what the chunks have
was : (c : goal.After-deref_mut) → entry_at c.args.self.now c.args.number ≡ entry_in c.deref_mut.result.now c.args.number
was c = shown c.self.inside.chunks.items c.self.inside.len c.self.invariant.0 c.args.self.now c.self.view_is c.args.number ∙ ap (λ cs. entry_in cs c.args.number) (sym c.deref_mut.ensures.value)

pub raise-requires-clause-live : goal.raise-requires-clause-live
raise-requires-clause-live c = subst IsEntry (shown c.self.inside.chunks.items c.self.inside.len c.self.invariant.0 c.args.self.now c.self.view_is c.args.number ∙ ap (λ cs. entry_in cs c.args.number) (sym c.deref_mut.ensures.value)) c.requires.live

pub raise-requires-clause-few : goal.raise-requires-clause-few
raise-requires-clause-few c = subst (λ e. counted e < 18446744073709551615) (was c) c.requires.few

-- the count alone changes
slot_kept : (e : Option Entry) → slot_of (raised e) ≡ slot_of e
slot_kept None = refl
slot_kept (Some e) = refl

pub invariant_of-self : goal.invariant_of-self
invariant_of-self c = (
  (settled c.self.inside.chunks.items c.self.inside.len c.self.invariant.0 c.args.self.now c.self.view_is c.deref_mut.result.now c.raise.new.chunks _ c.args.number raised c.deref_mut.ensures.value
      (with_items_is c.self.inside.chunks c.raise.new.chunks (c.raise.ensures.count ∙ c.deref_mut.ensures.len)) (subst IsEntry (shown c.self.inside.chunks.items c.self.inside.len c.self.invariant.0 c.args.self.now c.self.view_is c.args.number ∙ ap (λ cs. entry_in cs c.args.number) (sym c.deref_mut.ensures.value)) c.requires.live) c.raise.ensures).0,
  recent_changed c.self.inside.chunks.items c.deref_mut.result.now c.raise.new.chunks _ c.args.number raised c.deref_mut.ensures.value
      (with_items_is c.self.inside.chunks c.raise.new.chunks (c.raise.ensures.count ∙ c.deref_mut.ensures.len)) slot_kept c.raise.ensures c.self.inside.recent c.self.inside.recent_slot c.self.invariant.1,
)

pub returns : goal.returns
returns c =
    (settled c.self.inside.chunks.items c.self.inside.len c.self.invariant.0 c.args.self.now c.self.view_is c.deref_mut.result.now c.raise.new.chunks _ c.args.number raised c.deref_mut.ensures.value
    (with_items_is c.self.inside.chunks c.raise.new.chunks (c.raise.ensures.count ∙ c.deref_mut.ensures.len)) (subst IsEntry (shown c.self.inside.chunks.items c.self.inside.len c.self.invariant.0 c.args.self.now c.self.view_is c.args.number ∙ ap (λ cs. entry_in cs c.args.number) (sym c.deref_mut.ensures.value)) c.requires.live) c.raise.ensures).1
