use Rattle.std.proofs.Common.{◌≡◌, ◌∙◌, [], Bool, length, get_or, set, true, sym, ap, subst}
use Rattle.std.proofs.lemmas.List.{map-set, with_items_is}
use Rattle.std.specs.declared.vec.Vec.{Vec}
use Rattle.std.specs.declared.alloc.Global.{Global as Alloc}
use Rattle.rc_elim.specs.Masks.{HasPoints, marks_in, rows_of}
use Rattle.rc_elim.proofs.Unmarked.{long_set, marked_too, row_read, same_points}
use Rattle.rc_elim.proofs.mask.Mask.mark.Goals as goal

pub returns-clause-points : goal.returns-clause-points
returns-clause-points c r has =
    let rows = c.self.inside.rows.items in
    let m = c.args.self.now in
    let h = c.args.function in
    let row = c.index_mut.result.now in
    let read : row.items ≡ get_or m h [] = row_read rows h c.args.point row c.index_mut.ensures.value m c.self.view_is c.requires in
    let bits : c.set.new.bits ≡ set (get_or m h []) c.args.point true = c.set.ensures ∙ ap (λ bs. set bs c.args.point true) (c.deref_mut.ensures.value ∙ read) in
    let kept = with_items_is row c.set.new.bits (ap length c.set.ensures ∙ long_set c.deref_mut.result.now c.args.point ∙ c.deref_mut.ensures.len) in
    let view = map-set (λ (v : Vec Bool Alloc). v.items) rows h (Rattle.std.specs.Vec.with_items row c.set.new.bits) ∙ ap (set (rows_of rows) h) (kept ∙ bits) ∙ ap (λ x. set x h (set (get_or m h []) c.args.point true)) c.self.view_is in
    subst (HasPoints r) (sym view) (same_points c.args.point r m h c.requires has)

pub returns-clause-marks : goal.returns-clause-marks
returns-clause-marks c g p =
    let rows = c.self.inside.rows.items in
    let m = c.args.self.now in
    let h = c.args.function in
    let row = c.index_mut.result.now in
    let read : row.items ≡ get_or m h [] = row_read rows h c.args.point row c.index_mut.ensures.value m c.self.view_is c.requires in
    let bits : c.set.new.bits ≡ set (get_or m h []) c.args.point true = c.set.ensures ∙ ap (λ bs. set bs c.args.point true) (c.deref_mut.ensures.value ∙ read) in
    let kept = with_items_is row c.set.new.bits (ap length c.set.ensures ∙ long_set c.deref_mut.result.now c.args.point ∙ c.deref_mut.ensures.len) in
    let view = map-set (λ (v : Vec Bool Alloc). v.items) rows h (Rattle.std.specs.Vec.with_items row c.set.new.bits) ∙ ap (set (rows_of rows) h) (kept ∙ bits) ∙ ap (λ x. set x h (set (get_or m h []) c.args.point true)) c.self.view_is in
    ap (λ x. marks_in x g p) view ∙ marked_too c.args.point m h g p c.requires
