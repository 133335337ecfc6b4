use Rattle.rc_pages.proofs.CellLaws.{shown-read}
use Rattle.rc_pages.proofs.paged.Paged.get.Goals as goal

pub returns-clause-value : goal.returns-clause-value
returns-clause-value g c = shown-read c.self.inside.pages.pages c.self.inside.len c.args.self.now c.self.invariant.0 c.self.view_is c.args.at c.requires c.read.result c.read.ensures.value
