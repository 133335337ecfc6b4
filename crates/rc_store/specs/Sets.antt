-- Several regions deleted at once: a reference from one of them to another is no hindrance, and neither is a child that goes too.
use Rattle.std.specs.Prelude.{◌≢◌, ℕ, ◌+◌, Bool, nat_eq, List, [], ◌∷◌, All, AllPairs, Option, Some, None, false, slice_set, count_by, sum_by}
use Rattle.std.specs.List.{list_any}
use Rattle.rc_core.specs.Heap.{names}
use Rattle.rc_store.specs.Kept.{KeptStore, KeptView, Regions, view_refs}
use Rattle.rc_store.specs.Stores.{IsLive, deleted}

abbrev pub is_in : List ℕ → ℕ → Bool
is_in set r = list_any (nat_eq r) set

-- live regions, none of them twice
pub record IsSet (s : KeptStore) (set : List ℕ) : Type 0 where
  pub live : All (IsLive s) set
  pub distinct : AllPairs (λ a b. a ≢ b) set

abbrev pub is_child_of : List ℕ → Option KeptView → Bool
is_child_of set None = false
is_child_of set (Some v) = is_in set v.parent

-- a list by numbers, with none at each number of the set
abbrev pub without : {A : Type 0} → (set : List ℕ) → List (Option A) → List (Option A)
without [] xs = xs
without (n ∷ set) xs = without set (slice_set xs n None)

-- a live region that isn't a member has a member as its parent
abbrev pub has_child_outside : List ℕ → Regions → Bool
has_child_outside set regions = list_any (is_child_of set) (without set regions)

-- the counted cells of live regions that aren't members, and the pins, that name r
abbrev pub refs_to : KeptStore → List ℕ → (r : ℕ) → ℕ
refs_to s set r = sum_by (view_refs r) (without set s.regions) + count_by (names r) s.pins

-- those that name a member
abbrev pub set_refs : KeptStore → List ℕ → ℕ
set_refs s set = sum_by (refs_to s set) set

abbrev pub deleted_all : List ℕ → KeptStore → KeptStore
deleted_all [] s = s
deleted_all (r ∷ set) s = deleted_all set (deleted r s)
