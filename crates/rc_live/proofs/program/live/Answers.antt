use Rattle.std.proofs.Common.{map, sym, ap, ◌∙◌, subst}
use Rattle.rc_rlang.specs.LiveLists.{functions_lists}
use Rattle.rc_rlang.specs.LiveMaps.{IsMap, point_in}
use Rattle.rc_rlang.specs.RegionRuns.{deletes}
use Rattle.rc_rlang.specs.Shapes.{rlang_of}
use Rattle.rc_live.proofs.Deleting.{all_seen, points_listed}
use Rattle.rc_live.proofs.program.live.Goals as goal

pub new-requires : goal.new-requires
new-requires c =
    let r = rlang_of c.args.code.now in
    subst IsMap (sym (c.in_ok-lists.ensures ∙ ap (λ fs. functions_lists (deletes r) fs 0) (all_seen r.functions))) (c.lists_are_maps.ensures r)

pub returns-clause-live : goal.returns-clause-live
returns-clause-live c =
    let r = rlang_of c.args.code.now in
    c.new.ensures ∙ c.in_ok-lists.ensures ∙ ap (λ fs. functions_lists (deletes r) fs 0) (all_seen r.functions)

pub returns-clause-points : goal.returns-clause-points
returns-clause-points c = ap (map point_in) (c.new.ensures ∙ c.in_ok-lists.ensures) ∙ points_listed (rlang_of c.args.code.now)
