-- How heads are found: first those to which the point before doesn't lead alone, then those to which others lead.
use Rattle.std.specs.Prelude.{◌≡◌, ◌<◌, ℕ, suc, List, Bool, true, false, length, get_or, slice_get, Some}
use Rattle.rc_rlang.specs.RegionFlow.{Edge, Node}
use Rattle.rc_graph.specs.Heads.{EdgeOf, LeadsAlone}

-- no head was lost
pub record Grew (old new : List Bool) : Type 0 where
  pub long : length new ≡ length old
  pub kept : (p : ℕ) → get_or old p true ≡ true → get_or new p true ≡ true

-- the point is a head, unless it is the next one
abbrev pub IsMarked : (next to : ℕ) → List Bool → Type 0
IsMarked next to heads = (to ≡ next → ⊥) → get_or heads to true ≡ true

-- of the nodes before k: a point behind one is no head only where the node leads there by one edge alone
pub record AreBegun (nodes : List Node) (k : ℕ) (heads : List Bool) : Type 0 where
  pub long : length heads ≡ suc k
  pub first : get_or heads 0 true ≡ true
  pub inner : (point : ℕ) → get_or heads (suc point) true ≡ false → (node : Node) × (slice_get nodes point ≡ Some node) × ((edge : Edge) × LeadsAlone node (suc point) edge)

-- to whatever points the nodes before k lead, but for those behind them, these are heads
abbrev pub AreMarked : List Node → (k : ℕ) → List Bool → Type 0
AreMarked nodes k heads = (point : ℕ) (edge : Edge) → point < k → EdgeOf nodes point edge → IsMarked (suc point) edge.to heads
