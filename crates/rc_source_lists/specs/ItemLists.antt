-- Each item of a function that deletes has its list in the map: that of its node, with exactly the region and pointer locals that are live
-- behind it, but for the one that it sets.
use Rattle.std.specs.Prelude.{◌≡◌, ℕ, List, ◌∷◌, Some, slice_get, IsSome}
use Rattle.rc_core.specs.Programs.{Function, Program}
use Rattle.rc_core.specs.WellTyped.{IsWellTyped}
use Rattle.rc_core.specs.Flow.{Item, Point}
use Rattle.rc_rlang.specs.LiveLists.{live_lists}
use Rattle.rc_rlang.specs.LiveMaps.{list_at}
use Rattle.rc_translation.specs.Translation.{region_of_program}
use Rattle.rc_source_lists.specs.DeletingNodes.{Node, deleting_nodes}
use Rattle.rc_source_lists.specs.SourceLists.{Lists}
use Rattle.rc_source_lists.specs.FlowNodes.{Along, deletes_at}

pub record HasItsList (program : Program) (f : Function) (i : Item) (p : Point) : Type 0 where
  pub number : ℕ
  pub node : Node
  pub there : slice_get (deleting_nodes program) number ≡ Some node
  pub function : node.function ≡ f
  pub item : node.item ≡ i
  pub rest : node.rest ≡ p
  pub locals : List ℕ
  pub listed : list_at (live_lists (region_of_program program)) node.point ≡ Some locals
  pub lists : Lists node locals

abbrev pub ItemsHaveTheirLists : Type 0
ItemsHaveTheirLists = (program : Program) → IsWellTyped program → (k : ℕ) (f : Function) → slice_get program.functions k ≡ Some f →
    (item : Item) (rest : Point) → Along f (item ∷ rest) → IsSome (deletes_at program item) → HasItsList program f item rest
