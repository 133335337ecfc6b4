use Rattle.std.proofs.Common.{◌∙◌, ◌++◌, ap, replicate}
use Rattle.rc_pages.proofs.Clean.{grown-shown}
use Rattle.rc_pages.proofs.paged.Paged.push_zeros.Goals as goal

pub returns-clause-ok : goal.returns-clause-ok
returns-clause-ok g c =
    let made = c.in_ok-self-inside.ensures in
    grown-shown c.add_clean.new.pages.pages c.self.inside.len c.in_ok-self-inside.field-0 c.args.n c.in-Some.len c.in-Some.len made.holds made.clean c.in-Some.ensures.1 made.enough
    ∙ ap (λ cells. cells ++ replicate c.args.n 0) (made.cells ∙ c.self.view_is)
