-- What is inferred of region code, in code. Sets are kept at the heads of functions alone, where ways may meet: what is known at each other
-- point is what the one edge into it carries there, from the point before it.
use Rattle.std.specs.Prelude.{◌≡◌, ◌↔◌, ℕ, suc, List, [], Bool, true, false, IsTrue, length, get_or, slice_get, Some}
use Rattle.rc_facts.specs.declared.fact.Fact.{Fact}
use Rattle.rc_facts.specs.Facts.{Known}
use Rattle.rc_rlang.specs.RegionCode.{Routine}
use Rattle.rc_rlang.specs.RegionFlow.{Edge, Node}
use Rattle.rc_rlang.specs.Shapes.{rlang_of}
use Rattle.rc_rlang.specs.declared.code.RegionParts.{RegionParts}
use Rattle.rc_annotations.specs.Heights.{temporaries_of}
use Rattle.rc_graph.specs.Heads.{EdgeOf}
use Rattle.rc_graph.specs.Nodes.{AreGraphs, nodes_of}
use Rattle.rc_graph.specs.declared.graph.Graph.{Graph}
use Rattle.rc_facts.specs.Flow.{AreShut, no_set, set_at}
use Rattle.rc_edges.specs.Edges.{Crossed, kept, spare}
use Rattle.rc_edges.specs.Families.{Family, annotation_in}
use Rattle.rc_edges.specs.Inferred.{GreatestOf, Shaped, family_of}
use Rattle.rc_edges.specs.declared.facts.Facts.{Facts}

-- all sets of a function, of which those at heads are kept
pub record Spread (nodes : List Node) (heads : List Bool) (spare : ℕ) (exits : List Known) (kept all : List Known) : Type 0 where
  pub points : length all ≡ length nodes
  pub long : length kept ≡ length nodes
  pub here : (p : ℕ) → get_or heads p true ≡ true → get_or all p no_set ≡ get_or kept p no_set
  pub inner : (p : ℕ) (edge : Edge) (fact : Fact) → get_or heads (suc p) true ≡ false → EdgeOf nodes p edge → edge.to ≡ suc p → IsTrue (set_at all (suc p) fact) ↔ Crossed (set_at exits) spare edge.effect (set_at all p) fact

-- the sets are those at heads, entries and exits of a family of all points, which is the greatest consistent one
pub record Inferred (code : RegionParts) (facts : Facts) : Type 0 where
  pub family : Family
  pub graphs : AreGraphs (rlang_of code) (length (rlang_of code).functions) facts.graphs.items
  pub spread : (g : ℕ) (graph : Graph) → slice_get facts.graphs.items g ≡ Some graph → Spread (nodes_of graph.nodes.items) graph.heads.items graph.result family.exits (get_or (family_of facts).points g []) (get_or family.points g [])
  pub entries : family.entries ≡ (family_of facts).entries
  pub exits : family.exits ≡ (family_of facts).exits
  pub shaped : Shaped (rlang_of code) (temporaries_of (rlang_of code)) family
  pub shut : (g : ℕ) (f : Routine) → slice_get (rlang_of code).functions g ≡ Some f → AreShut (kept f (temporaries_of (rlang_of code) g)) (spare f (temporaries_of (rlang_of code) g)) (get_or family.points g [])
  pub greatest : GreatestOf (rlang_of code) (temporaries_of (rlang_of code)) (annotation_in family)
