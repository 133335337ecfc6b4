use Rattle.std.proofs.Common.{◌∙◌, [], ap, arith, get_or, refl, set}
use Rattle.rc_regions.proofs.WayLaws.{seen-written}
use Rattle.rc_regions.proofs.ways.Ways.set_link.Goals as goal

pub returns-clause-written : goal.returns-clause-written
returns-clause-written c =
    seen-written (λ column. column.items) c.self.inside.columns.items c.args.power c.index_mut.result.now _ (omega (arith, c.requires.power, c.self.invariant)) c.index_mut.ensures.value c.args.slot c.args.above refl
    ∙ ap (λ ways. set ways c.args.power (set (get_or ways c.args.power []) c.args.slot c.args.above)) c.self.view_is
