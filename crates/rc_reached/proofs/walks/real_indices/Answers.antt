use Rattle.std.proofs.Common.{take, sym, ap, ◌∙◌}
use Rattle.std.proofs.lemmas.List.{take_more}
use Rattle.rc_reached.specs.Walks.{at_all}
use Rattle.rc_reached.proofs.Along.{walked_more}
use Rattle.rc_reached.proofs.walks.real_indices.Goals as goal

pub loop-index-preserved : goal.loop-index-preserved
loop-index-preserved c = λ holds place.
    c.in_ok-add_real.ensures holds place
    ∙ walked_more c.loop-index.real.items (take c.loop-index.index-index c.args.indices.now) _ c.loop-index.invariant holds place
    ∙ ap (λ is. at_all holds is place) (sym (take_more c.args.indices.now c.loop-index.index-index _ c.loop-index-test.true))
