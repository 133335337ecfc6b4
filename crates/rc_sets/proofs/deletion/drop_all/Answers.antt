use Rattle.std.proofs.Common.{◌∙◌, sym}
use Rattle.rc_sets.proofs.Lines.{dropped, set_is}
use Rattle.rc_sets.proofs.deletion.drop_all.Goals as goal

pub delete-requires : goal.delete-requires
delete-requires g c = set_is (g.H.Heap.store c.args.heap.now) c.args.records.now c.requires c.args.regions.now (sym c.are_live.ensures ∙ c.if-not-are_live.false) (sym c.in_ok-are_distinct.ensures ∙ c.if-not-branch.false)

pub returns : goal.returns
returns g c = dropped (g.H.Heap.store c.args.heap.now) c.args.records.now c.requires c.args.regions.now (g.H.Heap.store c.delete.new.heap) c.delete.result (sym c.are_live.ensures ∙ c.if-not-are_live.false) (sym c.in_ok-are_distinct.ensures ∙ c.if-not-branch.false) c.delete.ensures
