use Rattle.std.proofs.Common.{sym, subst}
use Rattle.std.proofs.lemmas.Bool.{eqb-true}
use Rattle.rc_rlang.specs.RegionFlow.{Edge}
use Rattle.rc_graph.specs.Heads.{LeadsAlone}
use Rattle.rc_graph.specs.Nodes.{effect_of, node_of}
use Rattle.rc_graph.specs.declared.node.Node.{Node}
use Rattle.rc_graph.proofs.Headings.{goes_alone, forks_alone}
use Rattle.rc_graph.proofs.heads.leads_alone.Goals as goal

pub returns-in-Go : goal.returns-in-Go
returns-in-Go c is = subst (λ (n : Node). (edge : Edge) × LeadsAlone (node_of n) c.args.to edge) (sym c.in-Go.is) (goes_alone (effect_of c.in-Go.effect) c.in-Go.next c.args.to (eqb-true c.in-Go.next c.args.to is))

pub returns-in-Fork : goal.returns-in-Fork
returns-in-Fork c is = subst (λ (n : Node). (edge : Edge) × LeadsAlone (node_of n) c.args.to edge) (sym c.in-Fork.is) (forks_alone (effect_of c.in-Fork.left) (effect_of c.in-Fork.right) c.in-Fork.to_left c.in-Fork.to_right c.args.to is)
