-- Liveness as paths over the nodes of region code. A local is live at a point where some way on from it, along the edges and whatever
-- conditions say, comes to a point that reads the local, and no point before that sets it. It is live behind a point where it is live at
-- a point to which an edge leads from there. Points are those of one function, by their numbers in it.
use Rattle.std.specs.Prelude.{◌≡◌, ℕ, slice_get, Some}
use Rattle.rc_core.specs.Types.{Ty}
use Rattle.rc_rlang.specs.RegionCode.{regional, kind_of, Routine}
use Rattle.rc_rlang.specs.RegionFlow.{Edge, Node, routine_nodes}
use Rattle.rc_rlang.specs.Touches.{reads, sets, routine_touches}

-- an edge leads from one point to another
pub record Leads (f : Routine) (from to : ℕ) : Type 0 where
  pub node : Node
  pub number : ℕ
  pub edge : Edge
  pub there : slice_get (routine_nodes f) from ≡ Some node
  pub out : slice_get node.edges number ≡ Some edge
  pub leads : edge.to ≡ to

pub data IsLive (f : Routine) (x : ℕ) : (point : ℕ) → Type 0 where
  read : (point : ℕ) → slice_get (routine_touches f) point ≡ Some (reads x) → IsLive f x point
  later : (point next : ℕ) → (slice_get (routine_touches f) point ≡ Some (sets x) → ⊥) → Leads f point next → IsLive f x next → IsLive f x point

abbrev pub IsLiveBehind : (f : Routine) (x point : ℕ) → Type 0
IsLiveBehind f x point = (next : ℕ) × Leads f point next × IsLive f x next

-- the local is a region or a pointer
pub record IsReference (f : Routine) (x : ℕ) : Type 0 where
  pub ty : Ty
  pub there : slice_get f.locals x ≡ Some ty
  pub refers : kind_of ty ≡ regional
