-- Text made from templates. In a template `@` with a letter is a hole for a number, which is written in decimal.
use Rattle.std.specs.Prelude.{ℕ, ◌==◌, List, [], ◌∷◌, ◌++◌, decimal, if◌then◌else◌}
use Rattle.std.specs.List.{flat_map}
use Rattle.std.specs.Str.{byte}
use Rattle.rc_gen.specs.declared.template.Numbers.{Numbers}

-- the number for the hole of this letter: `@I`, `@A`, or else `@W`
abbrev pub number_at : Numbers → ℕ → ℕ
number_at numbers letter = if letter == byte "I" then numbers.index else (if letter == byte "A" then numbers.amount else numbers.weight)

-- the template with a number in each hole; an `@` at its end stands for nothing
abbrev mutual
  pub filled : Numbers → List ℕ → List ℕ
  filled numbers [] = []
  filled numbers (c ∷ rest) = if c == byte "@" then filled_from_letter numbers rest else (c ∷ filled numbers rest)

  pub filled_from_letter : Numbers → List ℕ → List ℕ
  filled_from_letter numbers [] = []
  filled_from_letter numbers (letter ∷ rest) = decimal (number_at numbers letter) ++ filled numbers rest

-- a line ends with a line feed
abbrev pub line_of : List ℕ → List ℕ
line_of line = line ++ byte "\n" ∷ []

abbrev pub text_of : List (List ℕ) → List ℕ
text_of lines = flat_map line_of lines
