use Rattle.std.proofs.Common.{◌∙◌, sym, ap}
use Rattle.rc_regions.specs.Columns.{columns_of}
use Rattle.rc_regions.specs.Lists.{with_previous}
use Rattle.rc_regions.proofs.Stored.{columns-previous}
use Rattle.rc_regions.proofs.table.Table.set_previous.Goals as goal

pub returns-in-Some-clause-columns : goal.returns-in-Some-clause-columns
returns-in-Some-clause-columns c =
    let table = c.args.self.now in
    columns-previous table.records.items table.ways table.first_free c.in-Some.slot c.index_mut.result.now (c.requires c.in-Some.slot c.in-Some.is) c.index_mut.ensures.value c.args.previous
    ∙ ap (λ s. with_previous (columns_of table) s c.args.previous) (sym c.in-Some.is)
