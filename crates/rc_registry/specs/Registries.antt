-- What a registry has of regions, by their numbers: the slot and the parent of each live one, and how many references to it are
-- counted; and how many slots there are.
use Rattle.std.specs.Prelude.{◌≡◌, ◌<◌, ◌+◌, ℕ, Bool, true, false, nat_eq, IsTrue, List, [], ◌∷◌, Option, Some, None, slice_index_or, slice_set}
use Rattle.std.specs.List.{list_any}
use Rattle.rc_slots.specs.Entries.{Member}

abbrev pub Members : Type 0
Members = List (Option Member)

pub record RegistryState : Type 0 where
  pub members : Members
  pub counts : List ℕ
  pub slots : ℕ

-- the references to a region; none to one that is dead or wasn't made
abbrev pub count_in : RegistryState → ℕ → ℕ
count_in s n = slice_index_or s.counts n 0

abbrev pub member_at : Members → ℕ → Option Member
member_at members n = slice_index_or members n None

-- a live region is a member; whether a region is in a set is told by `is_in` of rc_store
abbrev pub is_member : Option Member → Bool
is_member None = false
is_member (Some m) = true

abbrev pub IsMember : Members → ℕ → Type 0
IsMember members n = IsTrue (is_member (member_at members n))

abbrev pub root : Member
root = record { slot = 0; parent = 0 }

abbrev pub or_root : Option Member → Member
or_root None = root
or_root (Some m) = m

abbrev pub member_in : Members → ℕ → Member
member_in members n = or_root (member_at members n)

abbrev pub parent_among : Members → ℕ → ℕ
parent_among members n = (member_in members n).parent

abbrev pub is_child_of : ℕ → Option Member → Bool
is_child_of r None = false
is_child_of r (Some m) = nat_eq m.parent r

-- a live region has r as its parent
abbrev pub has_child : Members → ℕ → Bool
has_child members r = list_any (is_child_of r) members

-- each live region has a slot of its own
pub record IsApart (members : Members) (slots : ℕ) : Type 0 where
  pub below : (n : ℕ) → IsMember members n → (member_in members n).slot < slots
  pub apart : (n k : ℕ) → IsMember members n → IsMember members k → (member_in members n).slot ≡ (member_in members k).slot → n ≡ k

-- so many references more to each region, and all else as it was
pub record IsMore (old new : RegistryState) (by : ℕ → ℕ) : Type 0 where
  pub counts : (r : ℕ) → count_in new r ≡ count_in old r + by r
  pub members : new.members ≡ old.members
  pub slots : new.slots ≡ old.slots

-- so many less
pub record IsLess (old new : RegistryState) (by : ℕ → ℕ) : Type 0 where
  pub counts : (r : ℕ) → count_in new r + by r ≡ count_in old r
  pub members : new.members ≡ old.members
  pub slots : new.slots ≡ old.slots

-- a parent other than region 0 is older
abbrev pub AreOlder : Members → Type 0
AreOlder members = (n : ℕ) → IsMember members n → 0 < parent_among members n → parent_among members n < n

-- whether a live region has a mark; marks go by slots
abbrev pub mark_of : List Bool → Option Member → Bool
mark_of marks None = false
mark_of marks (Some m) = slice_index_or marks m.slot false

abbrev pub is_marked : Members → List Bool → ℕ → Bool
is_marked members marks n = mark_of marks (member_at members n)

-- a live region without a mark has r as its parent
abbrev pub HasUnmarkedChild : Members → (r : ℕ) → List Bool → Type 0
HasUnmarkedChild members r marks = (n : ℕ) × IsMember members n × (parent_among members n ≡ r) × (is_marked members marks n ≡ false)

-- a list by slots, with this item at the slot of each region of a set
abbrev pub at_slots : {A : Type 0} → Members → (item : A) → (set : List ℕ) → List A → List A
at_slots members item [] items = items
at_slots members item (n ∷ set) items = at_slots members item set (slice_set items (member_in members n).slot item)

-- the slot is that of a region of a set
abbrev pub is_slot_of : Members → (set : List ℕ) → (slot : ℕ) → Bool
is_slot_of members set slot = list_any (λ n. nat_eq (member_in members n).slot slot) set
