-- The store model: what the heaps of compiled programs keep. The meaning of a program doesn't speak of it; the contract of a
-- heap does, and the law that joins machine and meaning. Of the regions that were made only the live ones have a parent and
-- objects; the values of waiting callers are pinned. What names a region from outside is counted, over cells that count alone.
use Rattle.std.specs.Prelude.{ℕ, suc, ◌+◌, ◌&&◌, nat_eq, List, [], ◌∷◌, zip, Option, Some, None, count_by, sum_by, if◌then◌else◌}
use Rattle.rc_core.specs.Types.{CellKind}
use Rattle.rc_core.specs.Layout.{is_counted}
use Rattle.rc_core.specs.Heap.{Value, Object, kinds_of, names}

pub record View : Type 0 where
  pub parent : ℕ
  pub objects : List Object

-- a view of each region that was made, region 0 first, and none of a dead one; the pinned values, and how many more can be
-- pinned without memory; how many regions may be made, and how many objects a region may have
pub record Store : Type 0 where
  pub regions : List (Option View)
  pub pins : List Value
  pub spare : ℕ
  pub region_limit : ℕ
  pub block_limit : ℕ

-- the counted cells of an object that name r
abbrev pub object_refs : (r : ℕ) → Object → ℕ
object_refs r o = count_by (λ (c : CellKind × Value). is_counted c.0 && names r c.1) (zip (kinds_of o) o.values)

abbrev pub view_refs : (r : ℕ) → Option View → ℕ
view_refs r None = 0
view_refs r (Some v) = sum_by (object_refs r) v.objects

-- those of live regions but r; `at` is the number of the first region
abbrev pub refs_outside : (r at : ℕ) → List (Option View) → ℕ
refs_outside r at [] = 0
refs_outside r at (v ∷ views) = (if nat_eq at r then 0 else view_refs r v) + refs_outside r (suc at) views

-- the counted cells of live regions but r that name r, and the pins that do
abbrev pub refs : Store → (r : ℕ) → ℕ
refs store r = refs_outside r 0 store.regions + count_by (names r) store.pins
