-- How entries stand in chunks of 256 numbers; a chunk that isn't there has no entry.
use Rattle.std.specs.Prelude.{◌≡◌, ◌≢◌, ◌≤◌, ◌<◌, ◌*◌, ◌/◌, ◌%◌, ℕ, List, [], map, length, slice_index_or, Bool, true, false, Option, Some, None}
use Rattle.std.specs.List.{range_with_len}
use Rattle.rc_slots.specs.declared.entry.Entry.{Entry}
use Rattle.rc_slots.specs.Entries.{entry_at, slot_of}

abbrev pub Chunks : Type 0
Chunks = List (Option (List (Option Entry)))

abbrev pub entries_in : Option (List (Option Entry)) → List (Option Entry)
entries_in None = []
entries_in (Some entries) = entries

abbrev pub chunk_at : Chunks → ℕ → Option (List (Option Entry))
chunk_at chunks index = slice_index_or chunks index None

abbrev pub entry_in : Chunks → ℕ → Option Entry
entry_in chunks number = entry_at (entries_in (chunk_at chunks (number / 256))) (number % 256)

-- those of the first numbers, so many
abbrev pub entries_of : Chunks → ℕ → List (Option Entry)
entries_of chunks numbers = map (entry_in chunks) (range_with_len 0 numbers)

abbrev pub is_chunk : Option (List (Option Entry)) → Bool
is_chunk None = false
is_chunk (Some entries) = true

-- chunks with room for so many numbers, and no entry for another one
pub record Holds (chunks : Chunks) (numbers : ℕ) : Type 0 where
  pub enough : numbers ≤ length chunks * 256
  pub none : (number : ℕ) → numbers ≤ number → entry_in chunks number ≡ None

-- one number has this entry, and the others have what they had
pub record IsChanged (old new : Chunks) (number : ℕ) (entry : Option Entry) : Type 0 where
  pub there : entry_in new number ≡ entry
  pub others : (other : ℕ) → other ≢ number → entry_in new other ≡ entry_in old other
  pub count : length new ≡ length old

-- all have what they had
pub record AreSame (old new : Chunks) : Type 0 where
  pub entries : (number : ℕ) → entry_in new number ≡ entry_in old number
  pub count : length old ≤ length new

-- where the number is one that a region may have, the region is live and has this slot
abbrev pub IsRecent : Chunks → (number slot : ℕ) → Type 0
IsRecent chunks number slot = number < 4294967296 → slot_of (entry_in chunks number) ≡ Some slot
