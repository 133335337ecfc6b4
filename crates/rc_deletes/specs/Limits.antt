-- What a tree keeps so that its program fits together, beside numbers as words have them: some field in every struct, and the limits
-- of strings.
use Rattle.std.specs.Prelude.{◌≡◌, ℕ, ◌≤◌, List, [], ◌∷◌, Some, length, slice_get}
use Rattle.rc_base.specs.Limits.{most_program_words, most_string_bytes}
use Rattle.rc_syntax.specs.Tokens as w
use Rattle.rc_syntax.specs.Tokens.{Word}
use Rattle.rc_syntax.specs.Tree as t
use Rattle.rc_syntax.specs.Grammar.{Placed}
use Rattle.rc_deletes.specs.Items.{context_of, at_the_start, behind_items}

abbrev pub HasFields : List t.Item → Type 0
HasFields [] = Unit {0}
HasFields (t.struct at name fields ∷ is) = (1 ≤ length fields) × HasFields is
HasFields (t.global at n name count c ∷ is) = HasFields is
HasFields (t.function at deletes result name params body ∷ is) = HasFields is

-- the string literals of a text, in its order
abbrev pub strings_of : t.Tree → List (List ℕ)
strings_of tree = (behind_items (context_of tree.items) at_the_start tree.items).strings

pub record IsLimited (tree : t.Tree) : Type 0 where
  pub fields : HasFields tree.items
  pub number_of_strings : length (strings_of tree) ≤ most_program_words
  pub strings : (k : ℕ) (bytes : List ℕ) → slice_get (strings_of tree) k ≡ Some bytes → length bytes ≤ most_string_bytes

-- the bytes of each string literal among the words are few enough
abbrev pub IsShort : Word → Type 0
IsShort (w.string bytes) = length bytes ≤ most_string_bytes
IsShort i = Unit {0}

abbrev pub AreShort : List Placed → Type 0
AreShort [] = Unit {0}
AreShort (p ∷ ps) = IsShort p.word × AreShort ps
