use Rattle.std.proofs.Common.{◌-◌, ◌∙◌, ap}
use Rattle.rc_pages.specs.Cells.{pages_under}
use Rattle.rc_pages.proofs.Clean.{cleared-cells, cleared-clean}
use Rattle.rc_pages.proofs.paged.add_clean.Goals as goal

pub returns-clause-clean : goal.returns-clause-clean
returns-clause-clean g c =
    let g = c.args.growth in
    cleared-clean c.args.pages.now.pages c.add_pages.new.pages.pages c.clear.new.pages.pages g.len g.clean g.total _ c.clean_to-clean.result c.requires.holds c.requires.clean c.requires.more (ap (λ k. k - c.len.result) c.pages_under.ensures ∙ ap (λ k. pages_under g.total - k) c.len.ensures) c.in_ok-add_pages.ensures.ok c.clear.ensures.count c.clean_to-clean.ensures.enough c.clean_to-clean.ensures.inside c.clear.ensures.cells

pub returns-clause-cells : goal.returns-clause-cells
returns-clause-cells g c =
    let g = c.args.growth in
    cleared-cells c.args.pages.now.pages c.add_pages.new.pages.pages c.clear.new.pages.pages g.len g.clean g.total _ c.clean_to-clean.result c.requires.holds c.requires.clean c.requires.more (ap (λ k. k - c.len.result) c.pages_under.ensures ∙ ap (λ k. pages_under g.total - k) c.len.ensures) c.in_ok-add_pages.ensures.ok c.clear.ensures.count c.clean_to-clean.ensures.enough c.clean_to-clean.ensures.inside c.clear.ensures.cells
