-- A walk through a function, from head to head.
use Rattle.std.specs.Prelude.{◌≡◌, ℕ, suc, ◌<◌, List, [], ◌∷◌, Option, Some, None, cond, nat_eq, slice_get}
use Rattle.rc_facts.specs.Facts.{Known}
use Rattle.rc_rlang.specs.RegionFlow.{Edge, Effect, Node}
use Rattle.rc_graph.specs.declared.graph.Graph.{Graph}
use Rattle.rc_graph.specs.Heads.{AreHeads}
use Rattle.rc_graph.specs.Nodes.{nodes_of}
use Rattle.rc_facts.specs.Flow.{AreShut, HaveVariables}
use Rattle.rc_crossing.specs.Fitting.{CallFits}
use Rattle.rc_edges.specs.Edges.{EffectBelow}
use Rattle.rc_edges.specs.Heads.{Spread}
use Rattle.rc_elim.specs.Asking.{AsksOver}

-- what the first edge that leads to a point does
abbrev pub effect_to : List Edge → (to : ℕ) → Option Effect
effect_to [] to = None
effect_to (edge ∷ edges) to = cond (nat_eq edge.to to) (Some edge.effect) (effect_to edges to)

-- these are the sets of all points, of which those at heads are kept
pub record AreAll (graph : Graph) (exits kept all : List Known) : Type 0 where
  pub spread : Spread (nodes_of graph.nodes.items) graph.heads.items graph.result exits kept all
  pub variables : HaveVariables (suc graph.result) all
  pub shut : AreShut (suc graph.result) graph.result all

-- there are such sets, what nodes do may be carried, and what they ask may be asked
pub record Walkable (graph : Graph) (exits kept : List Known) : Type 0 where
  pub all : List Known
  pub are : AreAll graph exits kept all
  pub heads : AreHeads (nodes_of graph.nodes.items) graph.heads.items
  pub few : graph.result < 128
  pub fits : (p : ℕ) (node : Node) (k : ℕ) (edge : Edge) → slice_get (nodes_of graph.nodes.items) p ≡ Some node → slice_get node.edges k ≡ Some edge → CallFits exits edge.effect × EffectBelow graph.result edge.effect
  pub over : (p : ℕ) (node : Node) → slice_get (nodes_of graph.nodes.items) p ≡ Some node → AsksOver (suc graph.result) node
