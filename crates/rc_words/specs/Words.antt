-- The words of a list: which stands at a place, and what a function answers that takes one.
use Rattle.std.specs.Prelude.{ℕ, ◌≡◌, ◌+◌, ◌<◌, ◌≤◌, List, [], ◌∷◌, Option, Some, None, Result, Ok, Err, drop, length, Bool, true, false}
use Rattle.rc_syntax.specs.declared.fault.ParseFault.{ParseFault}
use Rattle.rc_syntax.specs.declared.fault.ParseFault.TheVariants.{Syntax, Deep, Memory}
use Rattle.rc_syntax.specs.declared.word.Token.{Token as CodeToken}
use Rattle.rc_syntax.specs.declared.word.Key.{Key}
use Rattle.rc_syntax.specs.declared.word.Mark.{Mark}
use Rattle.rc_syntax.specs.declared.tree.Spot.{Spot}
use Rattle.rc_syntax.specs.declared.tree.Name.{Name}
use Rattle.rc_syntax.specs.Tokens as w
use Rattle.rc_syntax.specs.Tokens.{Word}
use Rattle.rc_syntax.specs.WordShapes.{tokens_of}
use Rattle.rc_syntax.specs.Place.{line_at}
use Rattle.rc_syntax.specs.Grammar.{Placed, placed}

-- the words from a place on
abbrev pub from : List CodeToken → ℕ → List Placed
from tokens i = placed i (tokens_of (drop i tokens))

-- the line of the word at a place, and where a node begins that begins there
abbrev pub line_of : List CodeToken → ℕ → ℕ
line_of tokens i = line_at (tokens_of tokens) (from tokens i)

abbrev pub spot_of : List CodeToken → ℕ → Spot
spot_of tokens i = record { place = i; line = line_of tokens i }

abbrev pub word_in : List Placed → Option Word
word_in [] = None
word_in (p ∷ ps) = Some p.word

-- the word at a place
abbrev pub word_at : List CodeToken → ℕ → Option Word
word_at tokens i = word_in (from tokens i)

abbrev pub mark_in : Option Word → Option Mark
mark_in (Some (w.mark m)) = Some m
mark_in _ = None

abbrev pub key_in : Option Word → Option Key
key_in (Some (w.key m)) = Some m
key_in _ = None

-- This word stands at a place.
pub record Stands (tokens : List CodeToken) (i : ℕ) (word : Word) : Type 0 where
  pub within : i < length tokens
  pub here : from tokens i ≡ record { word = word; spot = spot_of tokens i } ∷ from tokens (i + 1)

-- Another word than this stands at a place, or none.
abbrev pub Misses : List CodeToken → ℕ → Word → Type 0
Misses tokens i word = word_at tokens i ≡ Some word → ⊥

-- What a function that takes one word answers: the place after it.
abbrev pub Takes : List CodeToken → ℕ → ℕ → Word → Result ℕ ParseFault → Type 0
Takes tokens i far word (Ok e) = Stands tokens i word × (i < far) × (e ≡ i + 1)
Takes tokens i far word (Err (Syntax line)) = Misses tokens i word × (line ≡ line_of tokens i)
Takes tokens i far word (Err (Deep line)) = Stands tokens i word × (far ≤ i) × (line ≡ line_of tokens i)
Takes tokens i far word (Err Memory) = ⊥

abbrev pub is_name : Option Word → Bool
is_name (Some (w.name x)) = true
is_name _ = false

-- What a function that takes a name answers: the name where it stands, and the place after it.
abbrev pub TakesName : List CodeToken → ℕ → ℕ → Result (Name × ℕ) ParseFault → Type 0
TakesName tokens i far (Ok r) = Stands tokens i (w.name r.0.text) × (i < far) × (r.0.spot ≡ spot_of tokens i) × (r.1 ≡ i + 1)
TakesName tokens i far (Err (Syntax line)) = (is_name (word_at tokens i) ≡ false) × (line ≡ line_of tokens i)
TakesName tokens i far (Err (Deep line)) = ((x : List ℕ) × Stands tokens i (w.name x)) × (far ≤ i) × (line ≡ line_of tokens i)
TakesName tokens i far (Err Memory) = Unit {0}
