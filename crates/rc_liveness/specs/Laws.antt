-- The lists of live locals are those that paths tell: at each deleting point the list has exactly the locals that are regions or pointers
-- and live behind the point by some way on.
use Rattle.std.specs.Prelude.{◌≡◌, ◌↔◌, ℕ, ◌+◌, Bool, slice_get, Some}
use Rattle.std.specs.List.{AllByRecursion as Every}
use Rattle.rc_rlang.specs.RegionCode.{Routine, Rlang}
use Rattle.rc_rlang.specs.RegionFits.{CodeFits}
use Rattle.rc_rlang.specs.LiveLists.{Held, routine_lists, live_lists}
use Rattle.rc_rlang.specs.LiveMaps.{IsMap}
use Rattle.rc_rlang.specs.LivePaths.{IsLiveBehind, IsReference}

-- the function's first point has the number `first`
pub record TellsPaths (f : Routine) (first : ℕ) (e : Held) : Type 0 where
  pub point : ℕ
  pub is : e.point ≡ first + point
  pub lists : (x : ℕ) → ((i : ℕ) × (slice_get e.locals i ≡ Some x)) ↔ (IsReference f x × IsLiveBehind f x point)

abbrev pub ListsArePaths : Type 0
ListsArePaths = (deleting : ℕ → Bool) (f : Routine) (first : ℕ) → CodeFits f.body → Every (TellsPaths f first) (routine_lists deleting f first)

-- each point has one list, the points increase, and each list does
abbrev pub ListsAreMaps : Type 0
ListsAreMaps = (r : Rlang) → IsMap (live_lists r)
