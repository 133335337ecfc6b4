use Rattle.std.proofs.Common.{◌∙◌, ap, sym, get_or}
use Rattle.rc_areas.specs.Areas.{AreaState}
use Rattle.rc_areas.specs.declared.head.Head.{Head}
use Rattle.rc_areas.proofs.Cells.{count_is}
use Rattle.rc_areas.proofs.area.Area.count.Goals as goal

pub returns : goal.returns
returns g c =
    ap (λ (h : Head). h.count) (c.index.ensures ∙ ap (λ (a : AreaState). get_or a.heads c.args.object c.index.result.now) c.self.view_is)
    ∙ sym (count_is c.args.shapes.now c.args.self.now c.requires.laid c.args.object c.requires.object c.index.result.now)
