use Rattle.std.proofs.Common.{◌∙◌, ◌++◌, [], ◌∷◌, map, sym, ap}
use Rattle.std.proofs.lemmas.Result.{on_ok_weaker}
use Rattle.rc_core.specs.Laid.{held_kind}
use Rattle.rc_core.specs.Shapes.{kinds_in}
use Rattle.rc_store.specs.Kept.{blank}
use Rattle.rc_store.specs.Stores.{view_with}
use Rattle.rc_scan.proofs.Written.{changed_there, objects_there}
use Rattle.rc_scan.proofs.regions.push_object.Goals as goal

pub returns-clause-ok : goal.returns-clause-ok
returns-clause-ok g c =
    let regions = c.args.regions.now in
    let r = c.args.number in
    let v = c.in-Some.region in
    let here = objects_there regions r _ v c.requires c.in-Some.is in
    on_ok_weaker c.push.result (λ pushed.
    changed_there regions r _ v _ _ c.in-Some.is
    (pushed ∙ ap (λ os. view_with (os ++ blank (map held_kind (kinds_in c.args.layout.now)) c.args.n ∷ []) v) (sym here))) c.push.ensures.ok
