use Rattle.std.proofs.Common.{◌∙◌, sym, ap}
use Rattle.rc_store.specs.Stores.{objects_with, view_with}
use Rattle.rc_store.specs.Values.{value_of}
use Rattle.rc_scan.proofs.Written.{changed_there, live_by, objects_there}
use Rattle.rc_scan.proofs.regions.write_cell.Goals as goal

pub returns : goal.returns
returns g c =
    let regions = c.args.regions.now in
    let p = c.args.place.pointer in
    let v = c.in-Some.region in
    let live = live_by regions p.region p.object c.requires.object in
    let here = objects_there regions p.region _ v live c.in-Some.is in
    changed_there regions p.region _ v _ _ c.in-Some.is
    (c.set.ensures ∙ ap (λ os. view_with (objects_with p.object p.index c.args.place.cell (value_of c.args.value) os) v) (sym here))
