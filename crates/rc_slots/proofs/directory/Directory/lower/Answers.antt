use Rattle.std.proofs.Common.{◌≡◌, ◌<◌, ◌∙◌, ap, sym, subst, refl, Option, None, Some}
use Rattle.std.proofs.lemmas.List.{with_items_is}
use Rattle.rc_slots.specs.Entries.{counted, entry_at, lowered, slot_of}
use Rattle.rc_slots.specs.declared.entry.Entry.{Entry}
use Rattle.rc_slots.specs.Chunks.{entry_in}
use Rattle.rc_slots.proofs.Listed.{recent_changed, counted_entry, settled, shown}
use Rattle.rc_slots.proofs.directory.Directory.lower.Goals as goal

-- what the chunks have
was : (c : goal.After-deref_mut) → entry_at c.args.self.now c.args.number ≡ entry_in c.deref_mut.result.now c.args.number
was c = shown c.self.inside.chunks.items c.self.inside.len c.self.invariant.0 c.args.self.now c.self.view_is c.args.number ∙ ap (λ cs. entry_in cs c.args.number) (sym c.deref_mut.ensures.value)

pub lower-requires : goal.lower-requires
lower-requires c = subst (λ e. 0 < counted e) (was c) c.requires

-- the count alone changes
slot_kept : (e : Option Entry) → slot_of (lowered e) ≡ slot_of e
slot_kept None = refl
slot_kept (Some e) = refl

pub invariant_of-self : goal.invariant_of-self
invariant_of-self c = (
  (settled c.self.inside.chunks.items c.self.inside.len c.self.invariant.0 c.args.self.now c.self.view_is c.deref_mut.result.now c.lower.new.chunks _ c.args.number lowered c.deref_mut.ensures.value
      (with_items_is c.self.inside.chunks c.lower.new.chunks (c.lower.ensures.count ∙ c.deref_mut.ensures.len)) (counted_entry (entry_in c.deref_mut.result.now c.args.number) (subst (λ e. 0 < counted e) (shown c.self.inside.chunks.items c.self.inside.len c.self.invariant.0 c.args.self.now c.self.view_is c.args.number ∙ ap (λ cs. entry_in cs c.args.number) (sym c.deref_mut.ensures.value)) c.requires)) c.lower.ensures).0,
  recent_changed c.self.inside.chunks.items c.deref_mut.result.now c.lower.new.chunks _ c.args.number lowered c.deref_mut.ensures.value
      (with_items_is c.self.inside.chunks c.lower.new.chunks (c.lower.ensures.count ∙ c.deref_mut.ensures.len)) slot_kept c.lower.ensures c.self.inside.recent c.self.inside.recent_slot c.self.invariant.1,
)

pub returns : goal.returns
returns c =
    (settled c.self.inside.chunks.items c.self.inside.len c.self.invariant.0 c.args.self.now c.self.view_is c.deref_mut.result.now c.lower.new.chunks _ c.args.number lowered c.deref_mut.ensures.value
    (with_items_is c.self.inside.chunks c.lower.new.chunks (c.lower.ensures.count ∙ c.deref_mut.ensures.len)) (counted_entry (entry_in c.deref_mut.result.now c.args.number) (subst (λ e. 0 < counted e) (shown c.self.inside.chunks.items c.self.inside.len c.self.invariant.0 c.args.self.now c.self.view_is c.args.number ∙ ap (λ cs. entry_in cs c.args.number) (sym c.deref_mut.ensures.value)) c.requires)) c.lower.ensures).1
