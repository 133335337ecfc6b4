use Rattle.std.proofs.Common.{◌≡◌, ◌+◌, ◌-◌, ◌∙◌, min, sym, ap, subst, arith, length, length-take}
use Rattle.rc_pages.specs.Cells.{Holds, IsClean, pages_under}
use Rattle.rc_pages.proofs.CellLaws.{held-length, no_cells}
use Rattle.rc_pages.proofs.Clean.{none-clean}
use Rattle.rc_pages.proofs.paged.Paged.give_back.Goals as goal

pub invariant_of-self : goal.invariant_of-self
invariant_of-self g c = subst (λ ps. Holds ps 0 × IsClean ps 0 0) (sym c.in_default.ensures.1) (no_cells, none-clean)

pub returns-clause-bank : goal.returns-clause-bank
returns-clause-bank g c =
    let all : c.self.inside.len ≡ length c.args.self.now = sym (held-length c.self.inside.pages.pages c.self.inside.len c.self.invariant.0) ∙ ap length c.self.view_is in
    let count : length c.self.inside.pages.pages ≡ pages_under (length c.args.self.now) = c.self.invariant.0.enough ∙ ap pages_under all in
    let none : length c.loop-page.pages.pages ≡ 0 = ap length c.in_default.ensures.0 in
    let kept : c.args.bank.now.kept + (length c.truncate.new.self.pages - length c.loop-page.pages.pages) ≡ min c.args.bank.now.places (c.args.bank.now.kept + pages_under (length c.args.self.now))
    = omega (arith, count, none, ap length c.truncate.ensures, length-take c.free_places.result c.self.inside.pages.pages, c.free_places.ensures) in
    c.loop-page.invariant.bank ∙ ap (λ k. record c.args.bank.now { kept = k }) kept
