use Rattle.std.proofs.Common.{◌<◌, ◌+◌, ◌∙◌, ap, sym, subst, get_or, set, length}
use Rattle.rc_core.specs.declared.layouts.Kind.TheVariants.{Number as NumberKind}
use Rattle.rc_store.specs.Values.{value_of}
use Rattle.rc_cells.specs.Codes.{decoded}
use Rattle.rc_areas.specs.Areas.{AreaState, objects_from, shape_of}
use Rattle.rc_areas.specs.declared.head.Head.{Head}
use Rattle.rc_areas.proofs.Objects.{before, shape_is}
use Rattle.rc_areas.proofs.Cells.{cell_read, cell_written, place_is, spot, within}
use Rattle.rc_areas.proofs.area.Area.replace.Goals as goal

pub get-requires : goal.get-requires
get-requires g c =
    subst (λ (h : Head). h.shape < length c.args.shapes.now)
    (sym (c.index-head.ensures ∙ ap (λ (a : AreaState). get_or a.heads c.args.object c.index-head.result.now) c.self.view_is))
    (shape_is c.args.shapes.now c.args.self.now.heads 0 c.args.object c.index-head.result.now c.requires.laid.heads c.requires.object)

pub kind_at-kind-requires : goal.kind_at-kind-requires
kind_at-kind-requires g c =
    subst (λ ks. c.args.cell < length ks) (sym (c.get.ensures ∙ ap (shape_of c.args.shapes.now) (c.index-head.ensures ∙ ap (λ (a : AreaState). get_or a.heads c.args.object c.index-head.result.now) c.self.view_is)))
    (within c.args.shapes.now c.args.self.now c.requires.laid c.args.object c.requires.object c.index-head.result.now c.args.index c.args.cell c.requires.cell)

pub returns-clause-before : goal.returns-clause-before
returns-clause-before g c =
    c.decode.ensures
    ∙ ap (λ k. decoded k c.get-before.result) (c.kind_at-kind.ensures ∙ ap (λ ks. get_or ks c.args.cell NumberKind) (c.get.ensures ∙ ap (shape_of c.args.shapes.now) (c.index-head.ensures ∙ ap (λ (a : AreaState). get_or a.heads c.args.object c.index-head.result.now) c.self.view_is)))
    ∙ ap (λ n. decoded (get_or (shape_of c.args.shapes.now (get_or c.args.self.now.heads c.args.object c.index-head.result.now)) c.args.cell NumberKind) n)
    (c.get-before.ensures.value ∙ ap (λ (a : AreaState). get_or a.codes c.place-place.result 0) c.self.view_is
    ∙ ap (λ n. get_or c.args.self.now.codes n 0) (c.place-place.ensures.is ∙ ap (λ n. before c.args.shapes.now c.args.object c.args.self.now.heads + n) (place_is c.args.shapes.now c.args.self.now c.requires.laid c.args.object c.requires.object c.index-head.result.now c.args.index c.args.cell c.requires.cell)))
    ∙ sym (cell_read c.args.shapes.now c.args.self.now c.requires.laid c.args.object c.requires.object c.index-head.result.now c.args.index c.args.cell c.requires.cell)

pub returns-clause-written : goal.returns-clause-written
returns-clause-written g c =
    let shapes = c.args.shapes.now in
    let now = c.args.self.now in
    let d : Head = record { start = 0; count = 0; shape = 0 } in
    let place = c.place-place.ensures.is ∙ ap (λ n. before shapes c.args.object now.heads + n) (place_is shapes now c.requires.laid c.args.object c.requires.object d c.args.index c.args.cell c.requires.cell) in
    ap (objects_from shapes c.self.inside.heads.items) (c.set.ensures ∙ ap (λ n. set c.self.inside.cells n c.encode-code.result) place)
    ∙ ap (λ (a : AreaState). objects_from shapes a.heads (set a.codes (before shapes c.args.object now.heads + spot shapes now c.requires.laid c.args.object c.requires.object d c.args.index c.args.cell c.requires.cell) c.encode-code.result)) c.self.view_is
    ∙ cell_written shapes now c.requires.laid c.args.object c.requires.object d c.args.index c.args.cell c.requires.cell c.encode-code.result (value_of c.args.value) (c.encode-code.ensures.back _ c.requires.suits)
