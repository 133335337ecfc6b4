-- The lists in which slots stand: the children of each parent, and the free slots.
use Rattle.std.specs.Prelude.{◌≡◌, ◌≢◌, ◌<◌, ℕ, Option, Some, None, length, slice_set}
use Rattle.rc_regions.specs.declared.record.Slot.{Slot}
use Rattle.rc_regions.specs.declared.record.Slot.TheVariants.{Free, Root, Child}
use Rattle.rc_regions.specs.Slots.{slot_at}
use Rattle.rc_regions.specs.Columns.{Columns, written}

-- a place in a list: before all its slots, or behind a slot
pub data Spot : Type 0 where
  Head : Slot → Spot
  Behind : ℕ → Spot

-- the first of a list; the root stands in none
abbrev pub first_of : Columns → Slot → Option ℕ
first_of c Free = c.first_free
first_of c Root = None
first_of c (Child parent) = c.first_child parent

-- the slot that comes at a place
abbrev pub follower : Columns → Spot → Option ℕ
follower c (Head list) = first_of c list
follower c (Behind s) = c.next s

abbrev pub spot : Slot → Option ℕ → Spot
spot list None = Head list
spot list (Some s) = Behind s

-- where a slot stands
abbrev pub spot_of : Columns → ℕ → Spot
spot_of c s = spot (slot_at c.slots s) (c.previous s)

abbrev pub with_first : Columns → Slot → Option ℕ → Columns
with_first c Free first = record c { first_free = first }
with_first c Root first = c
with_first c (Child parent) first = record c { first_child = written c.first_child parent first }

-- another slot comes at a place
abbrev pub with_follower : Columns → Spot → Option ℕ → Columns
with_follower c (Head list) s = with_first c list s
with_follower c (Behind t) s = record c { next = written c.next t s }

-- a slot, if there is one, has this one before it
abbrev pub with_previous : Columns → Option ℕ → Option ℕ → Columns
with_previous c None previous = c
with_previous c (Some s) previous = record c { previous = written c.previous s previous }

-- a slot is taken out of its list
abbrev pub unlinked : Columns → ℕ → Columns
unlinked c s = with_previous (with_follower c (spot_of c s) (c.next s)) (c.next s) (c.previous s)

-- the slot's own part of putting it at the head of a list
abbrev pub placed : Columns → ℕ → Slot → Option ℕ → Columns
placed c s list next = record c { slots = slice_set c.slots s list; previous = written c.previous s None; next = written c.next s next }

-- a slot that stands in no list is put at the head of one
abbrev pub linked : Columns → ℕ → Slot → Columns
linked c s list = with_first (placed (with_previous c (first_of c list) (Some s)) s list (first_of c list)) list (Some s)

-- All slots stand in their lists. The ranks, which nothing stores, say that a list has an end.
pub record AllLinked (c : Columns) : Type 0 where
  pub rank : ℕ → ℕ
  -- what comes at a place stands there
  pub stands : (at : Spot) (s : ℕ) → follower c at ≡ Some s → (s < length c.slots) × (spot_of c s ≡ at)
  -- and each slot comes where it stands
  pub comes : (s : ℕ) → s < length c.slots → slot_at c.slots s ≢ Root → follower c (spot_of c s) ≡ Some s
  -- neighbours stand in one list
  pub neighbours : (s t : ℕ) → s < length c.slots → c.previous s ≡ Some t → (t < length c.slots) × (slot_at c.slots t ≡ slot_at c.slots s) × (rank t < rank s)

-- The same of all slots but one, which stands in none.
pub record AllLinkedBut (loose : ℕ) (c : Columns) : Type 0 where
  pub rank : ℕ → ℕ
  pub stands : (at : Spot) (s : ℕ) → at ≢ Behind loose → follower c at ≡ Some s → (s < length c.slots) × (s ≢ loose) × (spot_of c s ≡ at)
  pub comes : (s : ℕ) → s < length c.slots → s ≢ loose → slot_at c.slots s ≢ Root → follower c (spot_of c s) ≡ Some s
  pub neighbours : (s t : ℕ) → s < length c.slots → s ≢ loose → c.previous s ≡ Some t → (t < length c.slots) × (t ≢ loose) × (slot_at c.slots t ≡ slot_at c.slots s) × (rank t < rank s)
