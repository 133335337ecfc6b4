use Rattle.std.proofs.Common.{◌∙◌, arith, refl, subst, sym}
use Rattle.std.proofs.lemmas.List.{with_items_is}
use Rattle.rc_slots.specs.Chunks.{AreSame, Chunks}
use Rattle.rc_slots.proofs.Listed.{same_again}
use Rattle.rc_slots.proofs.directory.make_room.Goals as goal
use Rattle.rc_slots.proofs.directory.make_room.Goals.{then-index-len+in_ok-add_place, else-index-len}

same_itself : (chunks : Chunks) → AreSame chunks chunks
same_itself chunks = record { entries = λ number. refl; count = omega arith }

pub returns-clause-same : goal.returns-clause-same
returns-clause-same c =
    let old = c.args.chunks.now in
    let mid = c.if-index-len.chunks in
    let before : AreSame old.items mid.items = elim c.if-index-len.branch [
      | then-index-len+in_ok-add_place w ↦ subst (λ chunks. AreSame old.items chunks.items) (sym w.chunks-is) w.in_ok-add_place.ensures.same
      | else-index-len w ↦ subst (λ chunks. AreSame old.items chunks.items) (sym w.chunks-is) (same_itself old.items)
    ] in
    let opened = subst (λ chunks. AreSame chunks c.open.new.chunks) c.deref_mut.ensures.value c.open.ensures.same in
    subst (AreSame old.items) (sym (with_items_is mid c.open.new.chunks (c.open.auto.chunks ∙ c.deref_mut.ensures.len))) (same_again old.items mid.items c.open.new.chunks before opened)
