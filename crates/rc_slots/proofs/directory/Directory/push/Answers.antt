use Rattle.std.proofs.Common.{◌<◌, ◌/◌, ◌∙◌, ap, sym, subst, refl, length, Some, arith, rules}
use Rattle.std.proofs.lemmas.List.{with_items_is}
use Rattle.rc_slots.specs.Entries.{slot_of}
use Rattle.rc_slots.specs.Chunks.{entry_in}
use Rattle.rc_slots.proofs.Listed.{kept, pushed, shown_length}
use Rattle.rc_slots.proofs.directory.Directory.push.Goals as goal

pub overflow_add-self : goal.overflow_add-self
overflow_add-self c = omega (arith, shown_length c.self.inside.chunks.items c.self.inside.len c.self.invariant.0 c.args.self.now c.self.view_is, c.requires)

pub returns-in_err-make_room-clause-err : goal.returns-in_err-make_room-clause-err
returns-in_err-make_room-clause-err c =
    let chunks = c.self.inside.chunks.items in
    let new = c.make_room.new.chunks.items in
    let unchanged = kept chunks c.self.inside.len c.self.invariant.0 c.args.self.now c.self.view_is chunks new new refl refl c.in_err-make_room.ensures.same in
    search (rules, unchanged.1)

pub invariant_of-self-2 : goal.invariant_of-self-2
invariant_of-self-2 c = (
  let chunks = c.self.inside.chunks.items in
      let new = c.make_room.new.chunks.items in
      let unchanged = kept chunks c.self.inside.len c.self.invariant.0 c.args.self.now c.self.view_is chunks new new refl refl c.in_ok-make_room.ensures.same in
      (pushed new c.self.inside.len unchanged.0 c.args.self.now unchanged.1 c.deref_mut.result.now c.fill.new.chunks _ (Some (record { slot = c.args.slot; parent = c.args.parent; count = 0 })) c.deref_mut.ensures.value
      (with_items_is c.make_room.new.chunks c.fill.new.chunks (c.fill.ensures.count ∙ c.deref_mut.ensures.len))
      (subst (λ cs. c.self.inside.len / 256 < length cs) (sym c.deref_mut.ensures.value) c.in_ok-make_room.ensures.room) c.fill.ensures).0,
  (λ below. ap (λ cs. slot_of (entry_in cs c.self.inside.len)) (with_items_is c.make_room.new.chunks c.fill.new.chunks (c.fill.ensures.count ∙ c.deref_mut.ensures.len)) ∙ ap slot_of c.fill.ensures.there),
)

pub returns-clause-ok : goal.returns-clause-ok
returns-clause-ok c =
    let chunks = c.self.inside.chunks.items in
    let new = c.make_room.new.chunks.items in
    let unchanged = kept chunks c.self.inside.len c.self.invariant.0 c.args.self.now c.self.view_is chunks new new refl refl c.in_ok-make_room.ensures.same in
    (pushed new c.self.inside.len unchanged.0 c.args.self.now unchanged.1 c.deref_mut.result.now c.fill.new.chunks _ (Some (record { slot = c.args.slot; parent = c.args.parent; count = 0 })) c.deref_mut.ensures.value
    (with_items_is c.make_room.new.chunks c.fill.new.chunks (c.fill.ensures.count ∙ c.deref_mut.ensures.len))
    (subst (λ cs. c.self.inside.len / 256 < length cs) (sym c.deref_mut.ensures.value) c.in_ok-make_room.ensures.room) c.fill.ensures).1
