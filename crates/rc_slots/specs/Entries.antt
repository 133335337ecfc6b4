-- What a directory has of regions, by their numbers: an entry of each live one, and none of a dead one. The list is as long as
-- regions were made.
use Rattle.std.specs.Prelude.{ℕ, ◌+◌, ◌-◌, Bool, true, false, IsTrue, List, map, Option, Some, None, slice_index_or, option_map}
use Rattle.rc_slots.specs.declared.entry.Entry.{Entry}

abbrev pub is_entry : Option Entry → Bool
is_entry None = false
is_entry (Some e) = true

abbrev pub IsEntry : Option Entry → Type 0
IsEntry e = IsTrue (is_entry e)

abbrev pub counted : Option Entry → ℕ
counted None = 0
counted (Some e) = e.count

abbrev pub slot_of : Option Entry → Option ℕ
slot_of e = option_map (λ (e : Entry). e.slot) e

abbrev pub with_count : (ℕ → ℕ) → Entry → Entry
with_count change e = record e { count = change e.count }

abbrev pub raised : Option Entry → Option Entry
raised e = option_map (with_count (λ n. n + 1)) e

abbrev pub lowered : Option Entry → Option Entry
lowered e = option_map (with_count (λ n. n - 1)) e

abbrev pub entry_at : List (Option Entry) → ℕ → Option Entry
entry_at entries number = slice_index_or entries number None

-- of an entry all but the count
pub record Member : Type 0 where
  pub slot : ℕ
  pub parent : ℕ

abbrev pub member_of : Entry → Member
member_of e = record { slot = e.slot; parent = e.parent }

abbrev pub members_of : List (Option Entry) → List (Option Member)
members_of entries = map (option_map member_of) entries
