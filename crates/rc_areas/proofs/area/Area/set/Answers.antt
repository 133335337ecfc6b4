use Rattle.std.proofs.Common.{◌+◌, ◌∙◌, ap, set}
use Rattle.rc_store.specs.Values.{value_of}
use Rattle.rc_areas.specs.Areas.{AreaState, objects_from}
use Rattle.rc_areas.specs.declared.head.Head.{Head}
use Rattle.rc_areas.proofs.Objects.{before}
use Rattle.rc_areas.proofs.Cells.{cell_written, place_is, spot}
use Rattle.rc_areas.proofs.area.Area.set.Goals as goal

pub returns-clause-written : goal.returns-clause-written
returns-clause-written g c =
    let shapes = c.args.shapes.now in
    let now = c.args.self.now in
    let d : Head = record { start = 0; count = 0; shape = 0 } in
    let place = c.place-place.ensures.is ∙ ap (λ n. before shapes c.args.object now.heads + n) (place_is shapes now c.requires.laid c.args.object c.requires.object d c.args.index c.args.cell c.requires.cell) in
    ap (objects_from shapes c.self.inside.heads.items) (c.set.ensures ∙ ap (λ n. set c.self.inside.cells n c.encode.result) place)
    ∙ ap (λ (a : AreaState). objects_from shapes a.heads (set a.codes (before shapes c.args.object now.heads + spot shapes now c.requires.laid c.args.object c.requires.object d c.args.index c.args.cell c.requires.cell) c.encode.result)) c.self.view_is
    ∙ cell_written shapes now c.requires.laid c.args.object c.requires.object d c.args.index c.args.cell c.requires.cell c.encode.result (value_of c.args.value) (c.encode.ensures.back _ c.requires.suits)
