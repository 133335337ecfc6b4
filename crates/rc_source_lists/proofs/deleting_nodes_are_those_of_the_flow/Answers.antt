use Rattle.rc_source_lists.proofs.Flowing.{all_nodes_stand, nodes_are_all}
use Rattle.rc_source_lists.proofs.deleting_nodes_are_those_of_the_flow.Goals as goal

pub returns-clause-stand : goal.returns-clause-stand
returns-clause-stand c = all_nodes_stand

pub returns-clause-all : goal.returns-clause-all
returns-clause-all c = nodes_are_all
