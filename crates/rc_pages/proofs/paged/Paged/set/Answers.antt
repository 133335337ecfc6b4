use Rattle.std.proofs.Common.{◌<◌, ap, length, arith, sym, subst}
use Rattle.rc_pages.specs.Cells.{IsClean}
use Rattle.rc_pages.proofs.CellLaws.{held-length, shown-holds, shown-write}
use Rattle.rc_pages.proofs.Clean.{written-clean}
use Rattle.rc_pages.proofs.paged.Paged.set.Goals as goal

pub invariant_of-self : goal.invariant_of-self
invariant_of-self g c =
    let pages = c.self.inside.pages.pages in
    let len = c.self.inside.len in
    let held = c.self.invariant.0 in
    let inside : c.args.at < len = omega (arith, c.requires, ap length c.self.view_is, held-length pages len held) in (
      shown-holds pages len c.args.self.now held c.self.view_is c.args.at c.requires c.args.value c.write.new.self.pages c.write.ensures,
      subst (λ ps. IsClean ps len c.self.inside.clean) (sym c.write.ensures) (written-clean pages len c.self.inside.clean held c.self.invariant.1 c.args.at inside c.args.value),
    )

pub returns : goal.returns
returns g c = shown-write c.self.inside.pages.pages c.self.inside.len c.args.self.now c.self.invariant.0 c.self.view_is c.args.at c.requires c.args.value c.write.new.self.pages c.write.ensures
