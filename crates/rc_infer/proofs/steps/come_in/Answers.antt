use Rattle.std.proofs.Common.{get_or, sym, subst}
use Rattle.rc_facts.specs.Flow.{no_set}
use Rattle.rc_edges.specs.Reading.{Loses}
use Rattle.rc_infer.specs.Steps.{FollowsEntry}
use Rattle.rc_infer.proofs.Places.{if_ok, row_lost, stands}
use Rattle.rc_infer.proofs.steps.come_in.Goals as goal

pub returns : goal.returns
returns c =
    let graph = c.args.graph.now in
    let g = c.args.function in
    let facts = c.args.facts.now in
    if_ok c.begin.result _ _ (λ lost l. row_lost facts g c.index_mut.result.now lost c.as_mut_slice-sets.result.now c.begin.new.sets (FollowsEntry graph (get_or facts.entries.items g no_set)) c.requires.points c.index_mut.ensures.value c.as_mut_slice-sets.ensures.value
    (subst (λ e. Loses lost c.as_mut_slice-sets.result.now c.begin.new.sets (FollowsEntry graph e)) (sym (stands facts.entries.items g no_set c.index-entry.result.now c.requires.entries c.index-entry.ensures)) l)) c.begin.ensures
