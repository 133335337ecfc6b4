use Rattle.std.proofs.Common.{◌<◌, ◌≤◌, ◌*◌, ◌+◌, ◌∙◌, length, take, ap, sym, subst, arith}
use Rattle.std.specs.List.{concat}
use Rattle.rc_pages.specs.Cells.{AreWhole}
use Rattle.rc_pages.proofs.CellLaws.{cleared-whole, cleared-count, cleared-next, zeroed-whole, zeroed-count, zeroed-next}
use Rattle.rc_pages.proofs.paged.clear.Goals as goal

pub loop-at-preserved-then-to-at-ge-CELLS : goal.loop-at-preserved-then-to-at-ge-CELLS
loop-at-preserved-then-to-at-ge-CELLS g c =
    let now = c.loop-at.pages.pages in
    let at = c.loop-at.at in
    let fits : c.args.to ≤ 256 * length now = omega (arith, c.requires.inside, c.loop-at.invariant.count) in
    let room = c.if-to-at-ge-CELLS.true in
    let begins = c.if-place-eq0.true in
    record {
      whole = subst (λ pages. AreWhole pages) (sym c.zero.ensures) (zeroed-whole now at c.args.to c.loop-at.invariant.whole begins room fits);
      count = ap (λ pages. length pages) c.zero.ensures ∙ zeroed-count now at c.args.to c.loop-at.invariant.whole begins room fits ∙ c.loop-at.invariant.count;
      behind = omega (arith, c.loop-at.invariant.behind);
      before = omega (arith, room);
      cells = ap (λ pages. take (at + 256) (concat pages)) c.zero.ensures ∙ zeroed-next now at c.args.to c.loop-at.invariant.whole begins room fits (take c.args.from (concat c.args.pages.now.pages)) c.args.from c.loop-at.invariant.behind c.loop-at.invariant.cells;
    }

pub loop-at-preserved : goal.loop-at-preserved
loop-at-preserved g c =
    let now = c.loop-at.pages.pages in
    let at = c.loop-at.at in
    let inside : at < 256 * length now = omega (arith, c.requires.inside, c.loop-at-test.true, c.loop-at.invariant.count) in
    record {
      whole = subst (λ pages. AreWhole pages) (sym c.write.ensures) (cleared-whole now at c.loop-at.invariant.whole inside);
      count = ap (λ pages. length pages) c.write.ensures ∙ cleared-count now at c.loop-at.invariant.whole inside ∙ c.loop-at.invariant.count;
      behind = omega (arith, c.loop-at.invariant.behind);
      before = omega (arith, c.loop-at-test.true);
      cells = ap (λ pages. take (at + 1) (concat pages)) c.write.ensures ∙ cleared-next now at c.loop-at.invariant.whole inside (take c.args.from (concat c.args.pages.now.pages)) c.args.from c.loop-at.invariant.behind c.loop-at.invariant.cells;
    }
