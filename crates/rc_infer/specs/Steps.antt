-- What the steps of a walk at one point do to the sets of all functions.
use Rattle.std.specs.Prelude.{◌≡◌, ℕ, suc, ◌&&◌, Bool, false, List, [], get_or, slice_set}
use Rattle.rc_facts.specs.declared.fact.Fact.{Fact}
use Rattle.rc_facts.specs.Derivable.{Derivable}
use Rattle.rc_facts.specs.Facts.{Known, holds, is_over, names}
use Rattle.rc_rlang.specs.RegionFlow.{Node}
use Rattle.rc_facts.specs.Flow.{no_set}
use Rattle.rc_graph.specs.declared.graph.Graph.{Graph}
use Rattle.rc_edges.specs.Boundaries.{NodeGives, NodeReturns}
use Rattle.rc_edges.specs.Families.{Family}
use Rattle.rc_edges.specs.Reading.{Loses}

-- sets of one function lost facts
pub record RowLost (g : ℕ) (m m1 : Family) (lost : Bool) (stays : (p : ℕ) → Fact → Type 0) : Type 0 where
  pub row : List Known
  pub points : m1.points ≡ slice_set m.points g row
  pub entries : m1.entries ≡ m.entries
  pub exits : m1.exits ≡ m.exits
  pub loses : Loses lost (get_or m.points g []) row stays

-- its first one keeps what follows from its entry
abbrev pub FollowsEntry : Graph → (first : Known) → (p : ℕ) → Fact → Type 0
FollowsEntry graph first p fact = p ≡ 0 → Derivable (suc graph.result) (λ q. is_over graph.copies q && holds first q) fact × (names graph.result fact ≡ false)

abbrev pub CameIn : Graph → (g : ℕ) → (m m1 : Family) → (lost : Bool) → Type 0
CameIn graph g m m1 lost = RowLost g m m1 lost (FollowsEntry graph (get_or m.entries g no_set))

-- entries lost what the calls at a node don't give
pub record CalledFrom (node : Node) (known : Known) (m m1 : Family) (lost : Bool) : Type 0 where
  pub points : m1.points ≡ m.points
  pub exits : m1.exits ≡ m.exits
  pub loses : Loses lost m.entries m1.entries (NodeGives node known)

-- a function's exit lost what a return at a node doesn't give
pub record LeftFrom (node : Node) (known : Known) (copies result g : ℕ) (m m1 : Family) (lost : Bool) : Type 0 where
  pub points : m1.points ≡ m.points
  pub entries : m1.entries ≡ m.entries
  pub loses : Loses lost m.exits m1.exits (λ h fact. h ≡ g → NodeReturns node known copies result fact)
