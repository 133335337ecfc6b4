-- What a parser answers: the tree of the longest stretch of words that begins a symbol, or the exact place where the words
-- stop to begin it, or are too deep.
use Rattle.std.specs.Prelude.{ℕ, ◌≡◌, ◌<◌, ◌≤◌, ◌+◌, List, [], ◌∷◌, ◌++◌, length, drop, ◌⊎◌, Result, Ok, Err}
use Rattle.rc_base.specs.Limits.{most_depth, most_reach}
use Rattle.rc_syntax.specs.declared.fault.ParseFault.{ParseFault}
use Rattle.rc_syntax.specs.declared.fault.ParseFault.TheVariants.{Syntax, Deep, Memory}
use Rattle.rc_syntax.specs.declared.tree.Expr as declared_expr
use Rattle.rc_syntax.specs.declared.tree.Tree as declared_tree
use Rattle.rc_syntax.specs.Tokens.{Token}
use Rattle.rc_syntax.specs.Grammar.{Symbol, Text, TreeOf, node, Placed, placed, Derives, Begins}
use Rattle.rc_syntax.specs.Shape.{tree_of}

-- The words are front and rest, and front is the longest that begins the symbol; the empty list begins each.
pub record Stretch (s : Symbol) (words front rest : List Placed) : Type 0 where
  pub cut : words ≡ front ++ rest
  pub begun : (front ≡ []) ⊎ ((d r : ℕ) × Begins front s d r)
  pub longest : (xs ys : List Placed) (d r : ℕ) → words ≡ xs ++ ys → Begins xs s d r → length xs ≤ length front

-- A word is too deep where its depth, with that of what is round all the words, or its reach is over the limit.
abbrev pub TooDeep : ℕ → ℕ → ℕ → Type 0
TooDeep round d r = (most_depth < round + d) ⊎ (most_reach < r)

-- No word of them is too deep.
abbrev pub Shallow : ℕ → Symbol → List Placed → Type 0
Shallow round s ws = (xs ys : List Placed) (d r : ℕ) → ws ≡ xs ++ ys → Begins xs s d r → (round + d ≤ most_depth) × (r ≤ most_reach)

-- The stretch is this tree, and rest follows it.
abbrev pub IsRead : ℕ → (s : Symbol) → List Placed → TreeOf s → List Placed → Type 0
IsRead round s words a rest = (front : List Placed) × Stretch s words front rest × Shallow round s front × Derives front (node s a)

-- The stretch is no tree, and rest follows it.
abbrev pub IsRefused : ℕ → Symbol → List Placed → List Placed → Type 0
IsRefused round s words rest = (front : List Placed) × Stretch s words front rest × Shallow round s front × ((a : TreeOf s) → Derives front (node s a) → ⊥)

-- The first word that is too deep begins rest.
abbrev pub IsTooDeep : ℕ → Symbol → List Placed → List Placed → Type 0
IsTooDeep round s words rest =
    (front : List Placed) × (p : Placed) × (more : List Placed) × (d : ℕ) × (r : ℕ) ×
    (words ≡ front ++ rest) × (rest ≡ p ∷ more) × Begins (front ++ p ∷ []) s d r × TooDeep round d r × Shallow round s front

-- The line of the first of these words, else of the last of all words, else 1.
abbrev pub last_line : List Token → ℕ
last_line [] = 1
last_line (a ∷ []) = a.line
last_line (a ∷ b ∷ more) = last_line (b ∷ more)

abbrev pub line_at : List Token → List Placed → ℕ
line_at tokens [] = last_line tokens
line_at tokens (p ∷ more) = p.spot.line

-- What a parser of a symbol answers at a place, without want of memory.
abbrev pub Answers : ℕ → (s : Symbol) → (declared_expr.Expr → TreeOf s) → List Token → ℕ → Result (declared_expr.Expr × ℕ) ParseFault → Type 0
Answers round s shape tokens at (Ok r) = IsRead round s (drop at (placed 0 tokens)) (shape r.0) (drop r.1 (placed 0 tokens)) × (r.1 ≤ length tokens)
Answers round s shape tokens at (Err (Syntax line)) = (rest : List Placed) × IsRefused round s (drop at (placed 0 tokens)) rest × (line ≡ line_at tokens rest)
Answers round s shape tokens at (Err (Deep line)) = (rest : List Placed) × IsTooDeep round s (drop at (placed 0 tokens)) rest × (line ≡ line_at tokens rest)
Answers round s shape tokens at (Err Memory) = Unit {0}

-- The longest front of the words that begins a text has no word that is too deep, the words are no text, and the first word behind that front,
-- else the last of all, is on this line.
pub record StopsAtLine (tokens : List Token) (line : ℕ) : Type 0 where
  pub front : List Placed
  pub rest : List Placed
  pub stretch : Stretch Text (placed 0 tokens) front rest
  pub shallow : Shallow 0 Text front
  pub no_tree : (items : TreeOf Text) → Derives (placed 0 tokens) (node Text items) → ⊥
  pub on_line : line ≡ line_at tokens rest

-- The first word that is too deep in a text is on this line.
pub record SinksAtLine (tokens : List Token) (line : ℕ) : Type 0 where
  pub rest : List Placed
  pub too_deep : IsTooDeep 0 Text (placed 0 tokens) rest
  pub on_line : line ≡ line_at tokens rest

-- What a parser of a whole text answers, without want of memory: all the words are its tree, or they are none.
abbrev pub AnswersAll : List Token → Result declared_tree.Tree ParseFault → Type 0
AnswersAll tokens (Ok r) = Derives (placed 0 tokens) (node Text (tree_of r).items) × Shallow 0 Text (placed 0 tokens)
AnswersAll tokens (Err (Syntax line)) = StopsAtLine tokens line
AnswersAll tokens (Err (Deep line)) = SinksAtLine tokens line
AnswersAll tokens (Err Memory) = Unit {0}
