use Rattle.std.proofs.Common.{◌∙◌, sym, ap, length}
use Rattle.rc_pages.proofs.CellLaws.{held-length}
use Rattle.rc_pages.proofs.paged.Paged.len.Goals as goal

pub returns : goal.returns
returns g c = sym (held-length c.self.inside.pages.pages c.self.inside.len c.self.invariant.0) ∙ ap length c.self.view_is
