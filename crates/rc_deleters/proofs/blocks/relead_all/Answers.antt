use Rattle.std.proofs.Common.{slice_set, get_or, ap, ◌∙◌, arith}
use Rattle.std.proofs.lemmas.List.{get_or_default}
use Rattle.std.proofs.lemmas.List.Edits.{map_over_more}
use Rattle.rc_stops.specs.Paths.{no_stop}
use Rattle.rc_deleters.specs.Calls.{first_in, releading}
use Rattle.rc_deleters.proofs.blocks.relead_all.Goals as goal

pub loop-at-preserved : goal.loop-at-preserved
loop-at-preserved c =
    ap (slice_set c.loop-at.stops c.loop-at.at) c.relead.ensures
    ∙ map_over_more (releading (first_in c.args.firsts.now)) c.args.stops.now c.loop-at.stops c.loop-at.at (get_or c.loop-at.stops c.loop-at.at no_stop) c.loop-at-test.true c.loop-at.invariant
    (get_or_default c.loop-at.stops c.loop-at.at no_stop _ (let l = c.loop-at-test.true in let e = c.loop-at.auto.stops in omega (arith, l, e)))
