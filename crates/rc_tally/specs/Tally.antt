-- What values and cells add to the count of the region that they name, and what giving and taking back do to a directory.
use Rattle.std.specs.Prelude.{◌≡◌, ◌<◌, ◌≤◌, ◌+◌, ℕ, Bool, false, nat_eq, List, [], ◌∷◌, Option, Some, None, sum_by, if◌then◌else◌}
use Rattle.rc_core.specs.declared.layouts.Kind.{Kind}
use Rattle.rc_core.specs.Heap.{Value, names}
use Rattle.rc_store.specs.Kept.{KeptObject, object_refs}
use Rattle.rc_cells.specs.Codes.{decoded}
use Rattle.rc_cells.specs.Follow.{cell_refs}
use Rattle.rc_slots.specs.declared.entry.Entry.{Entry}
use Rattle.rc_slots.specs.Entries.{IsEntry, counted, entry_at, members_of}

abbrev pub is_target : ℕ → Option ℕ → Bool
is_target r None = false
is_target r (Some t) = nat_eq t r

-- one reference to r, if the value names it
abbrev pub pin_refs : (r : ℕ) → Value → ℕ
pin_refs r v = if names r v then 1 else 0

-- one reference to r, if the value names it and isn't held by r itself
abbrev pub value_refs : (r holder : ℕ) → Value → ℕ
value_refs r holder v = if nat_eq holder r then 0 else (if names r v then 1 else 0)

-- those of cells of these kinds, from their codes
abbrev pub codes_refs : (r holder : ℕ) → List Kind → List ℕ → ℕ
codes_refs r holder [] codes = 0
codes_refs r holder (k ∷ ks) [] = 0
codes_refs r holder (k ∷ ks) (c ∷ cs) = cell_refs r holder k (decoded k c) + codes_refs r holder ks cs

-- those of a holder's objects
abbrev pub held_refs : (r holder : ℕ) → List KeptObject → ℕ
held_refs r holder objects = if nat_eq holder r then 0 else sum_by (object_refs r) objects

-- so many references less to each region, and all else as it was
pub record IsTaken (old new : List (Option Entry)) (by : ℕ → ℕ) : Type 0 where
  pub counts : (r : ℕ) → counted (entry_at new r) + by r ≡ counted (entry_at old r)
  pub members : members_of new ≡ members_of old

-- so many more
pub record IsGiven (old new : List (Option Entry)) (by : ℕ → ℕ) : Type 0 where
  pub counts : (r : ℕ) → counted (entry_at new r) ≡ counted (entry_at old r) + by r
  pub members : members_of new ≡ members_of old

-- so many more can be given: to live regions alone, and no count passes 64 bits
pub record MayBeGiven (d : List (Option Entry)) (by : ℕ → ℕ) : Type 0 where
  pub live : (r : ℕ) → 0 < by r → IsEntry (entry_at d r)
  pub few : (r : ℕ) → counted (entry_at d r) + by r ≤ 18446744073709551615
