use Rattle.std.proofs.Common.{◌≤◌, ◌∙◌, OnOk, ap, arith, map, set, subst, sym}
use Rattle.rc_regions.specs.Columns.{links_in}
use Rattle.rc_regions.specs.Ways.{NoneShorter}
use Rattle.rc_regions.proofs.WayLaws.{seen-length, seen-links, seen-longer}
use Rattle.rc_regions.proofs.ways.Ways.lengthen.Goals as goal

pub returns-clause-places : goal.returns-clause-places
returns-clause-places c =
    subst (λ n. OnOk c.add_places.result (c.args.slots ≤ n))
    (sym (seen-length (λ column. column.items) c.self.inside.columns.items c.args.power c.index_mut.result.now c.add_places.new.column (omega (arith, c.requires, c.self.invariant)) c.index_mut.ensures.value)) c.add_places.ensures.places

pub returns-clause-others : goal.returns-clause-others
returns-clause-others c =
    subst (λ ways. NoneShorter ways (map (λ column. column.items) (set c.self.inside.columns.items c.args.power c.add_places.new.column))) c.self.view_is
    (seen-longer (λ column. column.items) c.self.inside.columns.items c.args.power c.index_mut.result.now c.add_places.new.column (omega (arith, c.requires, c.self.invariant)) c.index_mut.ensures.value c.add_places.ensures.longer)

pub returns-clause-links : goal.returns-clause-links
returns-clause-links c =
    seen-links (λ column. column.items) c.self.inside.columns.items c.args.power c.index_mut.result.now c.add_places.new.column (omega (arith, c.requires, c.self.invariant)) c.index_mut.ensures.value c.add_places.ensures.links
    ∙ ap links_in c.self.view_is
