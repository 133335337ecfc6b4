use Rattle.std.proofs.Common.{◌<◌, length, sym, subst}
use Rattle.rc_regions.specs.Columns.{Columns, columns_of}
use Rattle.rc_regions.proofs.Stored.{columns-depth}
use Rattle.rc_regions.proofs.Linking.{ascended-relinked}
use Rattle.rc_regions.proofs.table.Table.set_ascent.Goals as goal

pub returns : goal.returns
returns c =
    let table = c.set_links.new.self in
    ascended-relinked (columns_of c.args.self.now) (columns_of table) _ c.args.slot c.args.parent c.args.depth c.set_links.ensures
    (columns-depth table.records.items table.ways table.first_free c.args.slot c.index_mut-record.result.now (subst (λ (x : Columns). c.args.slot < length x.slots) (sym c.set_links.ensures.is) c.requires.made) c.index_mut-record.ensures.value c.args.depth)
