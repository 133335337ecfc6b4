use Rattle.std.proofs.Common.{◌∙◌, ap, arith}
use Rattle.rc_regions.specs.Columns.{Columns, columns_of, links_in}
use Rattle.rc_regions.proofs.WayLaws.{links-written}
use Rattle.rc_regions.proofs.table.Table.set_link.Goals as goal

pub returns-clause-links : goal.returns-clause-links
returns-clause-links c =
    let table = c.args.self.now in
    ap (λ links. let all : Columns = record (columns_of table) { links = links } in all) (ap links_in c.set_link.ensures.written ∙ links-written table.ways c.args.power (omega (arith, c.set_link.ensures.long, c.requires.power)) c.args.slot c.args.above c.requires.place)
