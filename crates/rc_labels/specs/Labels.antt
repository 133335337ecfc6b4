-- Labels. Region code may have in place of each line the number of a label, which tells the line and, of a store, at which cells it has a
-- mark. What the code does is then told apart store by store, though a world is told of a store no more than a line and a target.
use Rattle.std.specs.Prelude.{◌≡◌, ℕ, ◌-◌, Bool, false, List, [], get_or}

-- a store to cells from an offset on, each with or without a mark
pub record Label : Type 0 where
  pub line : ℕ
  pub base : ℕ
  pub marks : List Bool

abbrev pub mark_at : Label → (offset : ℕ) → Bool
mark_at l offset = get_or l.marks (offset - l.base) false

-- of what is no store
abbrev pub without_marks : (line : ℕ) → Label
without_marks line = record { line = line; base = 0; marks = [] }

-- numbers for labels, from which these are read again
pub record Numbering : Type 0 where
  pub number : Label → ℕ
  pub label : ℕ → Label
  pub read : (l : Label) → label (number l) ≡ l

abbrev pub plain : Numbering → (line : ℕ) → ℕ
plain n line = n.number (without_marks line)

abbrev pub line_in : Numbering → ℕ → ℕ
line_in n label = (n.label label).line
