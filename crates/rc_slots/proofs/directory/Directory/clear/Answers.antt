use Rattle.std.proofs.Common.{refl, ◌∙◌, ap, sym, subst, set, None, arith}
use Rattle.std.specs.Vec.{with_items}
use Rattle.std.proofs.lemmas.List.{with_items_is}
use Rattle.rc_slots.specs.Entries.{IsEntry}
use Rattle.rc_slots.specs.Chunks.{entry_in}
use Rattle.rc_slots.proofs.Listed.{kept, settled, shown}
use Rattle.rc_slots.proofs.directory.Directory.clear.Goals as goal

pub clear-requires : goal.clear-requires
clear-requires c =
    subst IsEntry (shown c.self.inside.chunks.items c.self.inside.len c.self.invariant.0 c.args.self.now c.self.view_is c.args.number ∙ ap (λ cs. entry_in cs c.args.number) (sym c.deref_mut.ensures.value)) c.requires

pub invariant_of-self-else-index-len : goal.invariant_of-self-else-index-len
invariant_of-self-else-index-len c = (
  (settled c.self.inside.chunks.items c.self.inside.len c.self.invariant.0 c.args.self.now c.self.view_is c.deref_mut.result.now c.clear.new.chunks _ c.args.number (λ e. None) c.deref_mut.ensures.value
      (with_items_is c.self.inside.chunks c.clear.new.chunks (c.clear.ensures.count ∙ c.deref_mut.ensures.len)) (subst IsEntry (shown c.self.inside.chunks.items c.self.inside.len c.self.invariant.0 c.args.self.now c.self.view_is c.args.number ∙ ap (λ cs. entry_in cs c.args.number) (sym c.deref_mut.ensures.value)) c.requires) c.clear.ensures).0,
  (λ below. absurd (omega (arith, below))),
)

pub returns-else-index-len : goal.returns-else-index-len
returns-else-index-len c =
    (settled c.self.inside.chunks.items c.self.inside.len c.self.invariant.0 c.args.self.now c.self.view_is c.deref_mut.result.now c.clear.new.chunks _ c.args.number (λ e. None) c.deref_mut.ensures.value
    (with_items_is c.self.inside.chunks c.clear.new.chunks (c.clear.ensures.count ∙ c.deref_mut.ensures.len)) (subst IsEntry (shown c.self.inside.chunks.items c.self.inside.len c.self.invariant.0 c.args.self.now c.self.view_is c.args.number ∙ ap (λ cs. entry_in cs c.args.number) (sym c.deref_mut.ensures.value)) c.requires) c.clear.ensures).1

pub invariant_of-self : goal.invariant_of-self
invariant_of-self c = (
  let cleared = settled c.self.inside.chunks.items c.self.inside.len c.self.invariant.0 c.args.self.now c.self.view_is c.deref_mut.result.now c.clear.new.chunks c.clear.new.chunks c.args.number (λ e. None) c.deref_mut.ensures.value
      refl (subst IsEntry (shown c.self.inside.chunks.items c.self.inside.len c.self.invariant.0 c.args.self.now c.self.view_is c.args.number ∙ ap (λ cs. entry_in cs c.args.number) (sym c.deref_mut.ensures.value)) c.requires) c.clear.ensures in
      (kept c.clear.new.chunks c.self.inside.len cleared.0 (set c.args.self.now c.args.number None) cleared.1 c.deref_mut-then-index-len.result.now c.shut.new.chunks _
      (c.deref_mut-then-index-len.ensures.value ∙ with_items_is c.self.inside.chunks c.clear.new.chunks (c.clear.ensures.count ∙ c.deref_mut.ensures.len))
      (with_items_is (with_items c.self.inside.chunks c.clear.new.chunks) c.shut.new.chunks (c.shut.ensures.count ∙ c.deref_mut-then-index-len.ensures.len)) c.shut.ensures.same).0,
  (λ below. absurd (omega (arith, below))),
)

pub returns-then-index-len : goal.returns-then-index-len
returns-then-index-len c =
    let cleared = settled c.self.inside.chunks.items c.self.inside.len c.self.invariant.0 c.args.self.now c.self.view_is c.deref_mut.result.now c.clear.new.chunks c.clear.new.chunks c.args.number (λ e. None) c.deref_mut.ensures.value
    refl (subst IsEntry (shown c.self.inside.chunks.items c.self.inside.len c.self.invariant.0 c.args.self.now c.self.view_is c.args.number ∙ ap (λ cs. entry_in cs c.args.number) (sym c.deref_mut.ensures.value)) c.requires) c.clear.ensures in
    (kept c.clear.new.chunks c.self.inside.len cleared.0 (set c.args.self.now c.args.number None) cleared.1 c.deref_mut-then-index-len.result.now c.shut.new.chunks _
    (c.deref_mut-then-index-len.ensures.value ∙ with_items_is c.self.inside.chunks c.clear.new.chunks (c.clear.ensures.count ∙ c.deref_mut.ensures.len))
    (with_items_is (with_items c.self.inside.chunks c.clear.new.chunks) c.shut.new.chunks (c.shut.ensures.count ∙ c.deref_mut-then-index-len.ensures.len)) c.shut.ensures.same).1
