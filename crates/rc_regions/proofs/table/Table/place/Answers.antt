use Rattle.rc_regions.proofs.Stored.{columns-placed}
use Rattle.rc_regions.proofs.table.Table.place.Goals as goal

pub returns : goal.returns
returns c =
    let table = c.args.self.now in
    columns-placed table.records.items table.ways table.first_free c.args.slot c.index_mut-record.result.now c.requires c.index_mut-record.ensures.value c.args.list c.args.next
