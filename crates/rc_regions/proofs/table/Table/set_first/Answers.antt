use Rattle.std.proofs.Common.{◌∙◌, sym, ap}
use Rattle.rc_regions.specs.Columns.{columns_of}
use Rattle.rc_regions.specs.Lists.{with_first}
use Rattle.rc_regions.proofs.Stored.{columns-first_child}
use Rattle.rc_regions.proofs.table.Table.set_first.Goals as goal

pub returns-in-Child-clause-columns : goal.returns-in-Child-clause-columns
returns-in-Child-clause-columns c =
    let table = c.args.self.now in
    columns-first_child table.records.items table.ways table.first_free c.in-Child.parent c.index_mut.result.now (c.requires c.in-Child.parent c.in-Child.is) c.index_mut.ensures.value c.args.first
    ∙ ap (λ list. with_first (columns_of table) list c.args.first) (sym c.in-Child.is)
