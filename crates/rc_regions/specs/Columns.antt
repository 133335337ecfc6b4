-- The records of all slots, column by column, and what a write does to a column.
use Rattle.std.specs.Prelude.{ℕ, List, [], ◌∷◌, ◌++◌, Option, None, map, slice_index_or, nat_eq, if◌then◌else◌}
use Rattle.rc_regions.specs.declared.record.Slot.{Slot}
use Rattle.rc_regions.specs.declared.record.Slot.TheVariants.{Free}
use Rattle.rc_regions.specs.declared.record.Record.{Record}
use Rattle.rc_regions.specs.declared.table.Table.{Table}

pub record Columns : Type 0 where
  pub slots : List Slot
  pub first_free : Option ℕ
  pub first_child : ℕ → Option ℕ
  pub previous : ℕ → Option ℕ
  pub next : ℕ → Option ℕ
  pub depth : ℕ → ℕ
  pub links : ℕ → List ℕ

-- a field of each record, and something else beyond the last record
abbrev pub column : {A : Type 0} → (Record → A) → A → List Record → ℕ → A
column field beyond records s = slice_index_or (map field records) s beyond

abbrev pub slots_of : List Record → List Slot
slots_of records = map (λ r. r.slot) records

-- the links of a slot, one in each column; behind the end of one is the root
abbrev pub links_in : List (List ℕ) → ℕ → List ℕ
links_in ways s = map (λ way. slice_index_or way s 0) ways

abbrev pub depth_of : List Record → ℕ → ℕ
depth_of records = column (λ r. r.depth) 0 records

abbrev pub columns : List Record → List (List ℕ) → Option ℕ → Columns
columns records ways first_free = record {
  slots = slots_of records;
  first_free = first_free;
  first_child = column (λ r. r.first_child) None records;
  previous = column (λ r. r.previous) None records;
  next = column (λ r. r.next) None records;
  depth = depth_of records;
  links = links_in ways;
}

abbrev pub columns_of : Table → Columns
columns_of table = columns table.records.items table.ways table.first_free

-- a column with another value at this slot
unfoldable pub written : {A : Type 0} → (ℕ → A) → ℕ → A → ℕ → A
written f s value t = if nat_eq t s then value else f t

-- a slot has these links
abbrev pub relinked : Columns → ℕ → List ℕ → Columns
relinked c s links = record c { links = written c.links s links }

-- a slot has this depth and these links
abbrev pub ascended : Columns → ℕ → ℕ → List ℕ → Columns
ascended c s depth links = record c { depth = written c.depth s depth; links = written c.links s links }

-- one more record, of a free slot in no list
abbrev pub grown : Columns → Columns
grown c = record c { slots = c.slots ++ Free ∷ [] }
