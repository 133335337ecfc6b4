-- What a search keeps, at heads, entries and exits: the sets of a family of all points, which only a proof speaks of.
use Rattle.std.specs.Prelude.{◌≡◌, ℕ, suc, ◌+◌, ◌<◌, ◌≤◌, true, List, [], length, get_or, slice_get, Some}
use Rattle.std.specs.List.{sum_by}
use Rattle.rc_facts.specs.Facts.{Known}
use Rattle.rc_rlang.specs.RegionCode.{Rlang}
use Rattle.rc_rlang.specs.RegionFlow.{Node}
use Rattle.rc_rlang.specs.IsRlang.{IsRlang}
use Rattle.rc_facts.specs.Flow.{facts_in, no_set}
use Rattle.rc_graph.specs.declared.graph.Graph.{Graph}
use Rattle.rc_graph.specs.Heads.{AreHeads}
use Rattle.rc_graph.specs.Nodes.{AreGraphs, nodes_of}
use Rattle.rc_edges.specs.Boundaries.{NodeReady, ReturnReady}
use Rattle.rc_edges.specs.Families.{Family}
use Rattle.rc_edges.specs.Searching.{Searching}
use Rattle.rc_passing.specs.Leading.{GoesOnAlone, MayLead}

-- what is known before a point
abbrev pub known_at : Family → (g p : ℕ) → Known
known_at m g p = get_or (get_or m.points g []) p no_set

-- how many facts there are
abbrev pub facts_of : Family → ℕ
facts_of m = facts_in m.entries + (facts_in m.exits + sum_by facts_in m.points)

-- a search may go on from all sets, of which these are kept
pub record Covers (r : Rlang) (graphs : List Graph) (m all : Family) : Type 0 where
  pub searching : Searching r all
  pub entries : all.entries ≡ m.entries
  pub exits : all.exits ≡ m.exits
  pub points : length m.points ≡ length all.points
  pub long : (g : ℕ) → length (get_or m.points g []) ≡ length (get_or all.points g [])
  pub here : (g p : ℕ) (graph : Graph) → slice_get graphs g ≡ Some graph → get_or graph.heads.items p true ≡ true → known_at all g p ≡ known_at m g p

-- by the graphs of all functions
pub record Turning (r : Rlang) (graphs : List Graph) (m : Family) : Type 0 where
  pub code : IsRlang r
  pub own : AreGraphs r (length r.functions) graphs
  pub all : Family
  pub covers : Covers r graphs m all

-- the function's graph fits its sets, and those of the functions that it calls
pub record Ready (graph : Graph) (g : ℕ) (m : Family) : Type 0 where
  pub points : g < length m.points
  pub entries : g < length m.entries
  pub exits : g < length m.exits
  pub long : length (get_or m.points g []) ≡ length graph.nodes.items
  pub some : 0 < length (get_or m.points g [])
  pub heads : AreHeads (nodes_of graph.nodes.items) graph.heads.items
  pub variables : (p : ℕ) → p < length (get_or m.points g []) → get_or graph.heads.items p true ≡ true → (known_at m g p).variables ≡ suc graph.result
  pub entry : (get_or m.entries g no_set).variables ≡ graph.copies
  pub exit : (get_or m.exits g no_set).variables ≡ suc graph.copies
  pub hidden : graph.copies ≤ graph.result
  pub few : graph.result < 128
  pub may : (p : ℕ) (node : Node) → slice_get (nodes_of graph.nodes.items) p ≡ Some node → MayLead graph.heads.items m.exits graph.result node (get_or m.points g [])
  pub alone : (p : ℕ) (node : Node) → slice_get (nodes_of graph.nodes.items) p ≡ Some node → GoesOnAlone graph.heads.items node
  pub calls : (p : ℕ) (node : Node) → slice_get (nodes_of graph.nodes.items) p ≡ Some node → NodeReady node (suc graph.result) m.entries
  pub returns : (p : ℕ) (node : Node) → slice_get (nodes_of graph.nodes.items) p ≡ Some node → ReturnReady node graph.result
