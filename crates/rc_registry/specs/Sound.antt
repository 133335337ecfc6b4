-- What holds of a registry at every moment: directory and tree agree on which slot is whose.
use Rattle.std.specs.Prelude.{◌≡◌, ◌<◌, ◌≤◌, ◌+◌, ℕ, List, map, Option, Some, length}
use Rattle.rc_regions.specs.declared.record.Slot.{Slot}
use Rattle.rc_regions.specs.declared.record.Slot.TheVariants.{Free, Child}
use Rattle.rc_regions.specs.Above.{IsTree}
use Rattle.rc_regions.specs.Slots.{IsLive, live_slots, slot_at}
use Rattle.rc_slots.specs.declared.entry.Entry.{Entry}
use Rattle.rc_slots.specs.Entries.{counted, members_of}
use Rattle.rc_registry.specs.Registries.{IsMember, Members, RegistryState, member_at, member_in, root}

pub record IsPlaced (members : Members) (slots : List Slot) : Type 0 where
  pub first : member_at members 0 ≡ Some root
  -- a parent is older, live, and stands above in the tree
  pub older : (n : ℕ) → 0 < n → IsMember members n → (member_in members n).parent < n
  pub parents : (n : ℕ) → 0 < n → IsMember members n → IsMember members (member_in members n).parent
  pub children : (n : ℕ) → 0 < n → IsMember members n → slot_at slots (member_in members n).slot ≡ Child (member_in members (member_in members n).parent).slot
  pub apart : (n k : ℕ) → IsMember members n → IsMember members k → (member_in members n).slot ≡ (member_in members k).slot → n ≡ k
  -- no other slot is live
  pub all : (s : ℕ) → IsLive slots s → (n : ℕ) × IsMember members n × ((member_in members n).slot ≡ s)
  pub few : live_slots slots ≤ length members

-- so many slots were handed out; where the tree has one slot more, it is free
pub record IsSoundRegistry (entries : List (Option Entry)) (slots : List Slot) (handed : ℕ) : Type 0 where
  pub placed : IsPlaced (members_of entries) slots
  pub tree : IsTree slots
  pub below : (n : ℕ) → IsMember (members_of entries) n → (member_in (members_of entries) n).slot < handed
  pub free : slot_at slots handed ≡ Free
  pub long : length slots ≤ handed + 1

abbrev pub state_of : List (Option Entry) → ℕ → RegistryState
state_of entries handed = record { members = members_of entries; counts = map counted entries; slots = handed }
