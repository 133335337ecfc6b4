use Rattle.rc_annotations.proofs.Nodes.{nodes_are_points}
use Rattle.rc_annotations.proofs.points_are_nodes.Goals as goal

pub returns : goal.returns
returns c f = nodes_are_points f
