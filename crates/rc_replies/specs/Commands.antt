-- A script of heap commands, as text: its lines, the words of a line, and the command that they spell. A line that spells none
-- is a bad one.
use Rattle.std.specs.Prelude.{ℕ, ◌==◌, ◌&&◌, nat_le, List, [], ◌∷◌, Option, Some, None, codes, if◌then◌else◌}
use Rattle.std.specs.List.{slice_split}
use Rattle.std.specs.Option.{option_and_then, option_map}
use Rattle.std.specs.Fmt.{decimal}
use Rattle.std.specs.Str.{bytes_eq}
use Rattle.std.specs.Str.Parse.{digits_value}

pub data Command : Type 0 where
  -- a region under another
  New : (parent : ℕ) → Command
  -- an object of so many cells, each of which holds a region
  Cells : (region count : ℕ) → Command
  -- a cell of an object is to name this region, or none
  Link : (region object index : ℕ) → (target : Option ℕ) → Command
  Pin : (region : ℕ) → Command
  Unpin : (region : ℕ) → Command
  -- all of them are to be deleted at once
  Drop : (regions : List ℕ) → Command

-- an empty line at the end is none
abbrev pub without_empty_end : List (List ℕ) → List (List ℕ)
without_empty_end [] = []
without_empty_end ([] ∷ []) = []
without_empty_end ((byte ∷ line) ∷ []) = (byte ∷ line) ∷ []
without_empty_end (line ∷ next ∷ lines) = line ∷ without_empty_end (next ∷ lines)

-- cut at line feeds
abbrev pub lines_of : List ℕ → List (List ℕ)
lines_of text = without_empty_end (slice_split (λ b. b == 10) text)

-- cut at spaces: between two of them there is an empty word
abbrev pub words_of : List ℕ → List (List ℕ)
words_of line = slice_split (λ b. b == 32) line

-- decimal digits without a leading zero
abbrev pub number_of : List ℕ → Option ℕ
number_of word = let n = digits_value 10 word in if bytes_eq (decimal n) word && nat_le n 4294967295 then Some n else None

abbrev pub numbers_of : List (List ℕ) → Option (List ℕ)
numbers_of [] = Some []
numbers_of (word ∷ words) = option_and_then (λ n. option_map (λ ns. n ∷ ns) (numbers_of words)) (number_of word)

-- a number, or a dash for no region
abbrev pub target_of : List ℕ → Option (Option ℕ)
target_of word = if bytes_eq word (codes "-") then Some None else option_map Some (number_of word)

-- what the words behind a verb spell, where they are as many as it asks
abbrev pub one : List (List ℕ) → Option ℕ
one (word ∷ []) = number_of word
one _ = None

abbrev pub two : List (List ℕ) → Option (ℕ × ℕ)
two (first ∷ second ∷ []) = option_and_then (λ n. option_map (λ m. (n, m)) (number_of second)) (number_of first)
two _ = None

abbrev pub link : List (List ℕ) → Option Command
link (r ∷ o ∷ i ∷ t ∷ []) =
    option_and_then (λ region.
    option_and_then (λ object.
    option_and_then (λ index.
    option_map (Link region object index) (target_of t)) (number_of i)) (number_of o)) (number_of r)
link _ = None

-- one number at least
abbrev pub drop : List (List ℕ) → Option Command
drop [] = None
drop (word ∷ words) = option_map Drop (numbers_of (word ∷ words))

abbrev pub command_of_verb : (verb : List ℕ) → List (List ℕ) → Option Command
command_of_verb verb words =
    if bytes_eq verb (codes "new") then option_map New (one words) else
    if bytes_eq verb (codes "cell") then option_map (λ n. Cells n.0 n.1) (two words) else
    if bytes_eq verb (codes "link") then link words else
    if bytes_eq verb (codes "pin") then option_map Pin (one words) else
    if bytes_eq verb (codes "unpin") then option_map Unpin (one words) else None

abbrev pub command_in : (verb : List ℕ) → List (List ℕ) → Option Command
command_in verb words = if bytes_eq verb (codes "drop") then drop words else command_of_verb verb words

abbrev pub spelled : List (List ℕ) → Option Command
spelled [] = None
spelled (verb ∷ words) = command_in verb words

abbrev pub command_of : List ℕ → Option Command
command_of line = spelled (words_of line)
