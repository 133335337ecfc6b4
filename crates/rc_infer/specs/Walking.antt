-- Walks over the points of a function.
use Rattle.std.specs.Prelude.{◌≡◌, ℕ, suc, ◌<◌, ◌≤◌, Bool, true, false, IsTrue, MatchBool, List, [], length, get_or, slice_get, Some}
use Rattle.rc_facts.specs.declared.fact.Fact.{Fact}
use Rattle.rc_facts.specs.Facts.{Known, holds}
use Rattle.rc_rlang.specs.RegionCode.{Rlang}
use Rattle.rc_rlang.specs.RegionFlow.{Edge, Node}
use Rattle.rc_facts.specs.Flow.{no_set, set_at}
use Rattle.rc_graph.specs.declared.graph.Graph.{Graph}
use Rattle.rc_graph.specs.Heads.{EdgeOf}
use Rattle.rc_graph.specs.Nodes.{nodes_of}
use Rattle.rc_edges.specs.Boundaries.{NodeGives, NodeReturns}
use Rattle.rc_edges.specs.Edges.{Crossed}
use Rattle.rc_edges.specs.Families.{Family}
use Rattle.rc_infer.specs.Covering.{Covers, Turning, facts_of, known_at}
use Rattle.rc_infer.specs.Steps.{FollowsEntry}

-- nothing is dropped at a point, by the sets of its function and those of entries and exits; and what its edge carries to a point that is no
-- head is what is known there
pub record Done (graph : Graph) (g : ℕ) (row entries exits : List Known) (p : ℕ) : Type 0 where
  pub along : (edge : Edge) (fact : Fact) → EdgeOf (nodes_of graph.nodes.items) p edge → IsTrue (set_at row edge.to fact) → Crossed (set_at exits) graph.result edge.effect (set_at row p) fact
  pub back : (edge : Edge) (fact : Fact) → EdgeOf (nodes_of graph.nodes.items) p edge → get_or graph.heads.items edge.to true ≡ false → Crossed (set_at exits) graph.result edge.effect (set_at row p) fact → IsTrue (set_at row edge.to fact)
  pub calls : (node : Node) (h : ℕ) (fact : Fact) → slice_get (nodes_of graph.nodes.items) p ≡ Some node → IsTrue (set_at entries h fact) → NodeGives node (get_or row p no_set) h fact
  pub returns : (node : Node) (fact : Fact) → slice_get (nodes_of graph.nodes.items) p ≡ Some node → IsTrue (set_at exits g fact) → NodeReturns node (get_or row p no_set) graph.copies graph.result fact

abbrev pub DoneAt : Graph → (g : ℕ) → Family → (p : ℕ) → Type 0
DoneAt graph g m p = Done graph g (get_or m.points g []) m.entries m.exits p

-- a walk has come to a point with a working set, which is that of the point if it is no head
pub record Reached (r : Rlang) (graphs : List Graph) (graph : Graph) (g p : ℕ) (m all : Family) (work : Known) : Type 0 where
  pub covers : Covers r graphs m all
  pub inner : get_or graph.heads.items p true ≡ false → known_at all g p ≡ work

-- so it may go on
pub record Going (r : Rlang) (graphs : List Graph) (graph : Graph) (g p : ℕ) (m : Family) (work : Known) : Type 0 where
  pub turning : Turning r graphs m
  pub inner : get_or graph.heads.items p true ≡ false → known_at turning.all g p ≡ work
  pub wide : work.variables ≡ suc graph.result

-- it went over a point
pub record Stepped (r : Rlang) (graphs : List Graph) (graph : Graph) (g p : ℕ) (m m1 all : Family) (after : Known) (lost : Bool) : Type 0 where
  pub all1 : Family
  pub reached : Reached r graphs graph g (suc p) m1 all1 after
  pub others : (k : ℕ) → (k ≡ g → ⊥) → get_or all1.points k [] ≡ get_or all.points k []
  pub shrinks : MatchBool lost (facts_of m1 < facts_of m) (m1 ≡ m)
  pub stays : lost ≡ false → (q : ℕ) → (q ≡ suc p → get_or graph.heads.items q true ≡ true) → known_at all1 g q ≡ known_at all g q
  pub done : lost ≡ false → DoneAt graph g all1 p

-- it went over points, from one to before another
pub record Went (r : Rlang) (graphs : List Graph) (graph : Graph) (g from to : ℕ) (m m1 all : Family) (after : Known) (lost : Bool) : Type 0 where
  pub all1 : Family
  pub reached : Reached r graphs graph g to m1 all1 after
  pub others : (k : ℕ) → (k ≡ g → ⊥) → get_or all1.points k [] ≡ get_or all.points k []
  pub shrinks : MatchBool lost (facts_of m1 < facts_of m) (m1 ≡ m)
  pub head : lost ≡ false → known_at all1 g from ≡ known_at all g from
  pub done : lost ≡ false → (q : ℕ) → from ≤ q → q < to → DoneAt graph g all1 q

-- facts came in at the first point, if a walk begins there
pub record Begun (r : Rlang) (graphs : List Graph) (graph : Graph) (g from : ℕ) (m m1 all : Family) (lost : Bool) : Type 0 where
  pub all1 : Family
  pub covers : Covers r graphs m1 all1
  pub others : (k : ℕ) → (k ≡ g → ⊥) → get_or all1.points k [] ≡ get_or all.points k []
  pub shrinks : MatchBool lost (facts_of m1 < facts_of m) (m1 ≡ m)
  pub entry : from ≡ 0 → (fact : Fact) → IsTrue (holds (known_at all1 g 0) fact) → FollowsEntry graph (get_or m1.entries g no_set) 0 fact

-- a walk was made, from a head; where that is the first point, from the facts of the entry
pub record Walked (r : Rlang) (graphs : List Graph) (graph : Graph) (g from to : ℕ) (m m1 all : Family) (lost : Bool) : Type 0 where
  pub all1 : Family
  pub covers : Covers r graphs m1 all1
  pub others : (k : ℕ) → (k ≡ g → ⊥) → get_or all1.points k [] ≡ get_or all.points k []
  pub shrinks : MatchBool lost (facts_of m1 < facts_of m) (m1 ≡ m)
  pub entry : lost ≡ false → from ≡ 0 → (fact : Fact) → IsTrue (holds (known_at all1 g 0) fact) → FollowsEntry graph (get_or m1.entries g no_set) 0 fact
  pub done : lost ≡ false → (q : ℕ) → from ≤ q → q < to → DoneAt graph g all1 q

-- a function is done
pub record FunctionDone (graph : Graph) (g : ℕ) (row entries exits : List Known) : Type 0 where
  pub entry : (fact : Fact) → IsTrue (set_at row 0 fact) → FollowsEntry graph (get_or entries g no_set) 0 fact
  pub done : (q : ℕ) → q < length graph.nodes.items → Done graph g row entries exits q

-- rounds went over the functions before k
pub record Rounded (r : Rlang) (graphs : List Graph) (k : ℕ) (m m1 : Family) (lost : Bool) : Type 0 where
  pub all1 : Family
  pub covers : Covers r graphs m1 all1
  pub shrinks : MatchBool lost (facts_of m1 < facts_of m) (m1 ≡ m)
  pub done : lost ≡ false → (g : ℕ) (graph : Graph) → g < k → slice_get graphs g ≡ Some graph → FunctionDone graph g (get_or all1.points g []) all1.entries all1.exits

-- a search went on, in whatever order
pub record Swept (r : Rlang) (graphs : List Graph) (m m1 : Family) : Type 0 where
  pub all1 : Family
  pub covers : Covers r graphs m1 all1
  pub fewer : facts_of m1 ≤ facts_of m

-- until no set loses a fact
pub record Found (r : Rlang) (graphs : List Graph) (m1 : Family) : Type 0 where
  pub all1 : Family
  pub covers : Covers r graphs m1 all1
  pub done : (g : ℕ) (graph : Graph) → slice_get graphs g ≡ Some graph → FunctionDone graph g (get_or all1.points g []) all1.entries all1.exits
