-- The slots of a tree of regions: what stands at each.
use Rattle.std.specs.Prelude.{◌≡◌, ℕ, Bool, true, false, IsTrue, List, slice_index_or, count_by}
use Rattle.rc_regions.specs.declared.record.Slot.{Slot}
use Rattle.rc_regions.specs.declared.record.Slot.TheVariants.{Free, Root, Child}

-- what stands at a slot: one without a record is free
abbrev pub slot_at : List Slot → ℕ → Slot
slot_at slots s = slice_index_or slots s Free

abbrev pub is_live : Slot → Bool
is_live Free = false
is_live Root = true
is_live (Child parent) = true

abbrev pub IsLive : List Slot → ℕ → Type 0
IsLive slots s = IsTrue (is_live (slot_at slots s))

-- how many slots are live
abbrev pub live_slots : List Slot → ℕ
live_slots slots = count_by is_live slots

-- a live slot has this one as its parent
abbrev pub IsParent : List Slot → ℕ → Type 0
IsParent slots p = (s : ℕ) × (slot_at slots s ≡ Child p)

-- a slot has no mark; one beyond the marks has none
abbrev pub IsUnmarked : List Bool → ℕ → Type 0
IsUnmarked marks s = slice_index_or marks s false ≡ false

-- a live slot without a mark has this one as its parent
abbrev pub HasUnmarked : List Slot → (p : ℕ) → (marks : List Bool) → Type 0
HasUnmarked slots p marks = (s : ℕ) × (slot_at slots s ≡ Child p) × IsUnmarked marks s
