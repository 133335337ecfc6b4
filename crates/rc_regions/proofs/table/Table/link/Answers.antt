use Rattle.std.proofs.Common.{◌∙◌, ap, Some}
use Rattle.rc_regions.specs.Columns.{columns_of}
use Rattle.rc_regions.specs.Lists.{placed, with_first, with_previous}
use Rattle.rc_regions.proofs.table.Table.link.Goals as goal

pub returns : goal.returns
returns c =
    let slot = c.args.slot in
    let list = c.args.list in
    c.set_first.ensures.columns
    ∙ ap (λ columns. with_first columns list (Some slot)) (c.place.ensures ∙ ap (λ columns. placed columns slot list c.first_of-next.result) c.set_previous.ensures.columns)
    ∙ ap (λ next. with_first (placed (with_previous (columns_of c.args.self.now) next (Some slot)) slot list next) list (Some slot)) c.first_of-next.ensures
