use Rattle.std.proofs.Common.{◌∙◌, sym, ap}
use Rattle.rc_regions.specs.Columns.{columns_of}
use Rattle.rc_regions.specs.Lists.{spot, with_follower}
use Rattle.rc_regions.proofs.Stored.{columns-next}
use Rattle.rc_regions.proofs.table.Table.set_follower.Goals as goal

pub returns-in-Some-clause-columns : goal.returns-in-Some-clause-columns
returns-in-Some-clause-columns c =
    let table = c.args.self.now in
    columns-next table.records.items table.ways table.first_free c.in-Some.before c.index_mut.result.now (c.requires.before c.in-Some.before c.in-Some.is) c.index_mut.ensures.value c.args.follower
    ∙ ap (λ before. with_follower (columns_of table) (spot c.args.list before) c.args.follower) (sym c.in-Some.is)
