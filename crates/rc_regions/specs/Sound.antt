-- What holds of the records of a tree at every moment, and where a slot is about to be used.
use Rattle.std.specs.Prelude.{◌≡◌, ◌<◌, ◌≤◌, ◌+◌, ◌^◌, ℕ, List, length}
use Rattle.rc_regions.specs.declared.record.Slot.TheVariants.{Free}
use Rattle.rc_regions.specs.Above.{IsRooted}
use Rattle.rc_regions.specs.Ascents.{AreDepths, AreLinks, AreLong, AreWays}
use Rattle.rc_regions.specs.Columns.{Columns, ascended, relinked}
use Rattle.rc_regions.specs.Lists.{AllLinked, AllLinkedBut}
use Rattle.rc_regions.specs.Slots.{live_slots, slot_at}

pub record IsSoundTree (c : Columns) : Type 0 where
  pub linked : AllLinked c
  pub rooted : IsRooted c.slots
  pub depths : AreDepths c.slots c.depth
  pub links : AreLinks c.slots c.depth c.links
  pub long : AreLong c.links
  -- so that a number of 32 bits names each slot
  pub few : length c.slots ≤ 2 ^ 32

-- a slot was free, and now stands in no list; it has a new record only where no slot was free
pub record IsTaken (old new : Columns) (s : ℕ) : Type 0 where
  pub was_free : slot_at old.slots s ≡ Free
  pub made : s < length new.slots
  pub loose : AllLinkedBut s new
  pub slots : (t : ℕ) → slot_at new.slots t ≡ slot_at old.slots t
  pub depth : new.depth ≡ old.depth
  pub links : new.links ≡ old.links
  pub live : live_slots new.slots ≡ live_slots old.slots
  pub few : length new.slots ≤ 2 ^ 32
  pub used_again : live_slots old.slots < length old.slots → length new.slots ≡ length old.slots
  pub grown : live_slots old.slots ≡ length old.slots → length new.slots ≡ length old.slots + 1

-- a slot has the links of a child of this parent, and all else is as it was
pub record IsRelinked (old new : Columns) (s parent depth : ℕ) : Type 0 where
  pub ways : List ℕ
  pub long : length ways ≡ 32
  pub climbed : AreWays old.slots parent depth ways
  pub is : new ≡ relinked old s ways

-- and it has this depth too
pub record IsAscended (old new : Columns) (s parent depth : ℕ) : Type 0 where
  pub ways : List ℕ
  pub long : length ways ≡ 32
  pub climbed : AreWays old.slots parent depth ways
  pub is : new ≡ ascended old s depth ways
