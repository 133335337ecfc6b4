-- The lists of live locals, said on the source: at the deleting point of each node that deletes, the list has in increasing order exactly
-- the region and pointer locals that are live by the paths on the source's nodes behind that node, but for the local that the node assigns.
use Rattle.std.specs.Prelude.{◌≡◌, ◌↔◌, ℕ, List, [], ◌∷◌, Some, slice_get, IsFalse}
use Rattle.rc_core.specs.Types.{Ty}
use Rattle.rc_core.specs.Programs.{Function, Program}
use Rattle.rc_core.specs.WellTyped.{IsWellTyped}
use Rattle.rc_core.specs.Flow.{item_sets, IsLiveBehind}
use Rattle.rc_rlang.specs.RegionCode.{regional, kind_of}
use Rattle.rc_rlang.specs.LiveLists.{Held, live_lists}
use Rattle.rc_rlang.specs.LiveMaps.{IsIncreasing, list_at}
use Rattle.rc_translation.specs.Translation.{region_of_program}
use Rattle.rc_source_lists.specs.DeletingNodes.{Node, deleting_nodes}

-- the local is a region or a pointer
pub record IsReference (f : Function) (x : ℕ) : Type 0 where
  pub ty : Ty
  pub there : slice_get f.locals x ≡ Some ty
  pub refers : kind_of ty ≡ regional

-- it is live by the paths behind the node, and isn't the local that the node sets
pub record IsHeld (n : Node) (x : ℕ) : Type 0 where
  pub reference : IsReference n.function x
  pub kept : IsFalse (item_sets n.item x)
  pub live : IsLiveBehind x n.item n.rest

-- the list is the node's
pub record Lists (n : Node) (locals : List ℕ) : Type 0 where
  pub increases : IsIncreasing locals
  pub exact : (x : ℕ) → ((i : ℕ) × (slice_get locals i ≡ Some x)) ↔ IsHeld n x

pub record IsListOf (n : Node) (h : Held) : Type 0 where
  pub point : h.point ≡ n.point
  pub lists : Lists n h.locals

-- one to one, in their order
abbrev pub AreListsOf : List Node → List Held → Type 0
AreListsOf [] [] = Unit {0}
AreListsOf [] (h ∷ hs) = ⊥
AreListsOf (n ∷ ns) [] = ⊥
AreListsOf (n ∷ ns) (h ∷ hs) = IsListOf n h × AreListsOf ns hs

-- the lists of the region code are those of the nodes that delete, each at its point, and there are no others
abbrev pub ListsAreSourcePaths : Type 0
ListsAreSourcePaths = (program : Program) → IsWellTyped program → AreListsOf (deleting_nodes program) (live_lists (region_of_program program))

-- so each of these nodes has its list in the map
abbrev pub NodesHaveTheirLists : Type 0
NodesHaveTheirLists = (program : Program) → IsWellTyped program → (k : ℕ) (n : Node) → slice_get (deleting_nodes program) k ≡ Some n →
    (locals : List ℕ) × (list_at (live_lists (region_of_program program)) n.point ≡ Some locals) × Lists n locals
