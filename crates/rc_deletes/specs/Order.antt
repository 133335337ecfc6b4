-- The order of violations, and of annotations and deletions out of place: by the first words of their nodes, and at one node
-- by the refusal.
use Rattle.std.specs.Prelude.{◌≡◌, ◌⊎◌, ℕ, ◌<◌, ◌≤◌}
use Rattle.std.specs.List.{All, Contains}
use Rattle.rc_syntax.specs.declared.tree.Spot.{Spot}
use Rattle.rc_syntax.specs.Tree as t
use Rattle.rc_deletes.specs.declared.fault.Fault.{Fault}
use Rattle.rc_deletes.specs.declared.fault.Refusal.{Refusal}
use Rattle.rc_deletes.specs.declared.fault.Refusal.TheVariants.{Unknown, Twice, Mistyped, Arity, TooBig}
use Rattle.rc_deletes.specs.Items.{Violation}
use Rattle.rc_deletes.specs.PlacedFaults.{Misplaced, annotated, not_allowed, not_whole, PlacedFault, placed_faults}

-- the numbers by which refusals at one node are ordered
abbrev pub rank : Refusal → ℕ
rank Unknown = 6
rank Twice = 7
rank Mistyped = 8
rank Arity = 9
rank TooBig = 14

-- at an earlier place, or at the same place with no greater number
abbrev pub IsNotAfter : Spot → ℕ → Spot → ℕ → Type 0
IsNotAfter at m other n = (at.place < other.place) ⊎ ((at.place ≡ other.place) × (m ≤ n))

abbrev pub NotAfter : Fault → Fault → Type 0
NotAfter f g = IsNotAfter f.at (rank f.refusal) g.at (rank g.refusal)

-- a violation that no other one is before
pub record IsLeast (tree : t.Tree) (f : Fault) : Type 0 where
  pub there : Violation tree f.at f.refusal
  pub least : (at : Spot) (refusal : Refusal) → Violation tree at refusal → NotAfter f (record { at = at; refusal = refusal })

-- the same of annotations and deletions out of place
abbrev pub placed_rank : Misplaced → ℕ
placed_rank annotated = 10
placed_rank not_allowed = 11
placed_rank not_whole = 12

abbrev pub PlacedNotAfter : PlacedFault → PlacedFault → Type 0
PlacedNotAfter f g = IsNotAfter f.at (placed_rank f.what) g.at (placed_rank g.what)

-- one that no other one is before
pub record IsLeastPlaced (tree : t.Tree) (f : PlacedFault) : Type 0 where
  pub there : Contains (placed_faults tree) f
  pub least : All (PlacedNotAfter f) (placed_faults tree)
