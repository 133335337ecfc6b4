use Rattle.std.proofs.Common.{◌≡◌, refl}
use Rattle.rc_graph.specs.Nodes.{node_of}
use Rattle.rc_edges.specs.Boundaries.{NodeReturns}
use Rattle.rc_infer.proofs.Places.{vec_lost}
use Rattle.rc_infer.proofs.steps.leave_from.Goals as goal

pub returns : goal.returns
returns c = record {
  points = refl;
  entries = refl;
  loses = vec_lost c.args.facts.now.exits c.in_ok-lost.lost c.as_mut_slice.result.now c.leave_at.new.exits (λ h fact. h ≡ c.args.exit.function → NodeReturns (node_of c.args.node.now) c.args.work.now c.args.exit.copies c.args.exit.result fact) c.as_mut_slice.ensures.value c.in_ok-lost.ensures;
}
