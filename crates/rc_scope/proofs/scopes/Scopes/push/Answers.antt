use Rattle.std.proofs.Common.{◌≡◌, ◌∙◌, ◌∷◌, refl, sym, ap, subst, length, Some, slice_set, arith}
use Rattle.rc_scope.specs.declared.entry.Entry.{Entry}
use Rattle.rc_scope.specs.Stack.{name_at, shown, slot_of, IsSound}
use Rattle.rc_scope.proofs.Stacks.{grown_sound, grown_shown, push_sound, on_err_always}
use Rattle.rc_scope.proofs.scopes.Scopes.push.Goals as goal

pub invariant_of-self : goal.invariant_of-self
invariant_of-self g c =
    grown_sound c.self.inside.entries c.self.inside.names c.numbered.new.names c.self.inside.slots.items c.self.inside.slots.items c.self.invariant c.numbered.ensures.grown (omega arith) (λ x. refl)

pub returns-in_err-number-clause-err : goal.returns-in_err-number-clause-err
returns-in_err-number-clause-err g c =
    on_err_always _ _ (grown_shown c.self.inside.entries c.self.inside.names c.numbered.new.names _ c.numbered.ensures.kept c.self.invariant.linked ∙ c.self.view_is)

pub invariant_of-self-in_err-make_room : goal.invariant_of-self-in_err-make_room
invariant_of-self-in_err-make_room g c =
    grown_sound c.self.inside.entries c.self.inside.names c.numbered.new.names c.self.inside.slots.items c.make_room.new.slots.items c.self.invariant c.numbered.ensures.grown c.make_room.ensures.grown c.make_room.ensures.same

pub returns-in_err-make_room-clause-err : goal.returns-in_err-make_room-clause-err
returns-in_err-make_room-clause-err g c =
    on_err_always _ _ (grown_shown c.self.inside.entries c.self.inside.names c.numbered.new.names _ c.numbered.ensures.kept c.self.invariant.linked ∙ c.self.view_is)

pub invariant_of-self-in_err-push : goal.invariant_of-self-in_err-push
invariant_of-self-in_err-push g c =
    subst (IsSound c.numbered.new.names c.make_room.new.slots.items) (sym c.in_err-push.ensures.err)
    (grown_sound c.self.inside.entries c.self.inside.names c.numbered.new.names c.self.inside.slots.items c.make_room.new.slots.items c.self.invariant c.numbered.ensures.grown c.make_room.ensures.grown c.make_room.ensures.same)

pub returns-in_err-push-clause-err : goal.returns-in_err-push-clause-err
returns-in_err-push-clause-err g c =
    on_err_always _ _ (ap (shown c.numbered.new.names) c.in_err-push.ensures.err ∙ grown_shown c.self.inside.entries c.self.inside.names c.numbered.new.names _ c.numbered.ensures.kept c.self.invariant.linked ∙ c.self.view_is)

pub invariant_of-self-2 : goal.invariant_of-self-2
invariant_of-self-2 g c =
    let sound = grown_sound c.self.inside.entries c.self.inside.names c.numbered.new.names c.self.inside.slots.items c.make_room.new.slots.items c.self.invariant c.numbered.ensures.grown c.make_room.ensures.grown c.make_room.ensures.same in
    let entry : Entry _ = record { name = c.in_ok-number.number; meaning = c.args.meaning; hidden = c.slot-hidden.result } in
    let pushed = push_sound entry c.self.inside.entries c.numbered.new.names c.make_room.new.slots.items sound c.in_ok-number.ensures.number.0 c.in_ok-make_room.ensures.room (c.slot-hidden.ensures ∙ ap (λ s. slot_of s c.in_ok-number.number) c.deref.ensures.value) in
    let at_place = subst (λ n. IsSound c.numbered.new.names (slice_set c.make_room.new.slots.items c.in_ok-number.number (Some n)) (entry ∷ c.self.inside.entries)) (sym c.len-place.ensures) pushed in
    subst (IsSound c.numbered.new.names (slice_set c.make_room.new.slots.items c.in_ok-number.number (Some c.len-place.result))) (sym c.in_ok-push.ensures.ok) at_place

pub returns-clause-ok : goal.returns-clause-ok
returns-clause-ok g c =
    let rest = grown_shown c.self.inside.entries c.self.inside.names c.numbered.new.names _ c.numbered.ensures.kept c.self.invariant.linked ∙ c.self.view_is in
    ap (shown c.numbered.new.names) c.in_ok-push.ensures.ok ∙ (λ j. (c.in_ok-number.ensures.number.1 j, c.args.meaning) ∷ rest j)
