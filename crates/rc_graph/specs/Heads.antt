-- Where ways may meet in a function: at its heads. At each other point one edge comes in, from the point before it; so what is known there
-- follows from what is known at the head before it.
use Rattle.std.specs.Prelude.{◌≡◌, ℕ, suc, List, Bool, true, false, length, get_or, slice_get, Some}
use Rattle.rc_rlang.specs.RegionFlow.{Edge, Node}

-- an edge of a list of nodes
pub record EdgeOf (nodes : List Node) (point : ℕ) (edge : Edge) : Type 0 where
  pub node : Node
  pub place : ℕ
  pub there : slice_get nodes point ≡ Some node
  pub is : slice_get node.edges place ≡ Some edge

-- the one edge of a node that leads to a point
pub record LeadsAlone (node : Node) (to : ℕ) (edge : Edge) : Type 0 where
  pub place : ℕ
  pub is : slice_get node.edges place ≡ Some edge
  pub leads : edge.to ≡ to
  pub alone : (k : ℕ) (other : Edge) → slice_get node.edges k ≡ Some other → other.to ≡ to → other ≡ edge

-- the one edge of all nodes that leads to the point behind this one
pub record ComesAlone (nodes : List Node) (point : ℕ) (edge : Edge) : Type 0 where
  pub of : EdgeOf nodes point edge
  pub leads : edge.to ≡ suc point
  pub alone : (from : ℕ) (other : Edge) → EdgeOf nodes from other → other.to ≡ suc point → (from ≡ point) × (other ≡ edge)

-- whether each point is a head, and one place behind the last
pub record AreHeads (nodes : List Node) (heads : List Bool) : Type 0 where
  pub long : length heads ≡ suc (length nodes)
  pub first : get_or heads 0 true ≡ true
  pub inner : (point : ℕ) → get_or heads (suc point) true ≡ false → (edge : Edge) × ComesAlone nodes point edge
