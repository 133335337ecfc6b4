use Rattle.std.proofs.Common.{◌∙◌, ap, sym}
use Rattle.rc_replies.specs.Replies.{place}
use Rattle.rc_store.specs.Stores.{written}
use Rattle.rc_sets.proofs.Lines.{linked}
use Rattle.rc_sets.proofs.links.link.Goals as goal

pub returns : goal.returns
returns g c =
    let before = g.H.Heap.store c.args.heap.now in
    let e = c.args.element in
    linked before c.args.records.now c.requires e.region e.object e.index c.args.target (g.H.Heap.store c.write_counted.new.self) (sym c.has_cell.ensures ∙ c.if-not-has_cell.false) (sym c.is_target.ensures ∙ c.if-not-is_target.false)
    (c.write_counted.ensures.written ∙ ap (λ v. written (place e.region e.object e.index) v before) c.target_cell.ensures)
