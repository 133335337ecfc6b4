-- The ways up that records keep: depths, and links to ancestors.
use Rattle.std.specs.Prelude.{◌≡◌, ◌≤◌, ◌-◌, ◌^◌, ℕ, zero, suc, List, length, slice_index}
use Rattle.rc_regions.specs.declared.record.Slot.{Slot}
use Rattle.rc_regions.specs.declared.record.Slot.TheVariants.{Free, Root, Child}
use Rattle.rc_regions.specs.Slots.{slot_at, IsLive}
use Rattle.rc_regions.specs.Above.{IsRooted}

-- the slot above this one; above the root is the root
abbrev pub parent_or_self : Slot → ℕ → ℕ
parent_or_self (Child parent) s = parent
parent_or_self Root s = s
parent_or_self Free s = s

-- the slot so many parents above
abbrev pub ancestor : List Slot → ℕ → ℕ → ℕ
ancestor slots zero s = s
ancestor slots (suc n) s = ancestor slots n (parent_or_self (slot_at slots s) s)

-- these are the slots' depths
pub record AreDepths (slots : List Slot) (depth : ℕ → ℕ) : Type 0 where
  pub root : depth 0 ≡ 0
  pub child : (s parent : ℕ) → slot_at slots s ≡ Child parent → depth s ≡ suc (depth parent)

-- each live slot's links are its ancestors 1, 2, 4, 8 and so on above, as far as it is deep; those beyond the root aren't kept
abbrev pub AreLinks : List Slot → (depth : ℕ → ℕ) → (links : ℕ → List ℕ) → Type 0
AreLinks slots depth links = (s k : ℕ) → IsLive slots s → 2 ^ k ≤ depth s → slice_index (links s) k ≡ ancestor slots (2 ^ k) s

-- each slot has room for 32
abbrev pub AreLong : (links : ℕ → List ℕ) → Type 0
AreLong links = (s : ℕ) → length (links s) ≡ 32

-- they are the links of a child of this slot, where it is so deep
abbrev pub AreWays : List Slot → (parent depth : ℕ) → (links : List ℕ) → Type 0
AreWays slots parent depth links = (k : ℕ) → 2 ^ k ≤ depth → slice_index links k ≡ ancestor slots (2 ^ k - 1) parent

-- what records keep of the ways up
pub record AreAscents (slots : List Slot) (depth : ℕ → ℕ) (links : ℕ → List ℕ) : Type 0 where
  pub rooted : IsRooted slots
  pub depths : AreDepths slots depth
  pub ways : AreLinks slots depth links
  pub long : AreLong links
