-- How code that reads a symbol goes along with the reader of one word at a time, whatever is open round the symbol.
use Rattle.std.specs.Prelude.{ℕ, ◌≡◌, ◌+◌, ◌-◌, ◌≤◌, List, [], ◌∷◌, Option, Some, None, Result, Ok, Err, length, nat_lt, nat_le, cond, Bool, true, false}
use Rattle.rc_base.specs.Limits.{most_reach}
use Rattle.std.specs.declared.boxed.Box.{Box}
use Rattle.std.specs.declared.alloc.Global.{Global}
use Rattle.rc_syntax.specs.declared.fault.ParseFault.{ParseFault}
use Rattle.rc_syntax.specs.declared.fault.ParseFault.TheVariants.{Syntax, Deep, Memory}
use Rattle.rc_syntax.specs.declared.word.Token.{Token as CodeToken}
use Rattle.rc_syntax.specs.declared.word.Key.{Key}
use Rattle.rc_syntax.specs.declared.word.Key.TheVariants.{Null, Eof, Ralloc, RarrayAlloc, Int, Unsigned, Char, Region, Struct}
use Rattle.rc_syntax.specs.declared.word.Mark.{Mark}
use Rattle.rc_syntax.specs.declared.word.Mark.TheVariants as m
use Rattle.rc_syntax.specs.declared.tree.BinaryOp.{BinaryOp}
use Rattle.rc_syntax.specs.declared.tree.UnaryOp.{UnaryOp}
use Rattle.rc_syntax.specs.declared.tree.UnaryOp.TheVariants as u
use Rattle.rc_syntax.specs.declared.tree.Expr.{Expr}
use Rattle.rc_syntax.specs.declared.tree.Spot.{Spot}
use Rattle.rc_syntax.specs.declared.tree.CastType.{CastType}
use Rattle.rc_syntax.specs.declared.tree.CastType.TheVariants as c
use Rattle.rc_syntax.specs.Tokens as w
use Rattle.rc_syntax.specs.Tokens.{Word}
use Rattle.rc_syntax.specs.WordShapes.{tokens_of}
use Rattle.rc_syntax.specs.Place.{line_at}
use Rattle.rc_syntax.specs.Tree as t
use Rattle.rc_syntax.specs.Shape.{expr_of}
use Rattle.rc_syntax.specs.Grammar as g
use Rattle.rc_syntax.specs.Grammar.{Symbol, TreeOf, Placed, level_of}
use Rattle.rc_syntax.specs.reader.Todo.{Todo, build, stop, only, try, read, sees, enter}
use Rattle.rc_syntax.specs.reader.Reading.{tail, binary_of, is_comma, is_close, is_int, cast_to}
use Rattle.rc_syntax.specs.reader.Steps.{Stack, bottom, frame, State, about, amid as at, Answer, Accepts, Refuses, Sinks, run, opened, reached}
use Rattle.rc_words.specs.Words.{from, spot_of}

-- an expression in memory of its own, and what a parser of expressions answers without that memory
abbrev pub boxed_of : Box Expr Global → t.Expr
boxed_of b = expr_of b.value

abbrev pub unboxed : Result (Box Expr Global × ℕ) ParseFault → Result (Expr × ℕ) ParseFault
unboxed (Ok r) = Ok (r.0.value, r.1)
unboxed (Err f) = Err f

-- A symbol that began at a place and of which the words up to another were read.
abbrev pub amid : {root s : Symbol} → List CodeToken → ℕ → ℕ → Todo s → Stack root s → State root
amid tokens i q td k = at (spot_of tokens i) td (q - i) k

-- What is open round a symbol that begins at a place, inside one that began at another.
abbrev pub inside : {root s j : Symbol} → List CodeToken → ℕ → ℕ → (TreeOf j → Todo s) → Stack root s → Stack root j
inside tokens i q h k = frame (spot_of tokens i) (q - i) h k

-- The symbol begins at the place; what is open round it is so deep; its words are too far from a place on.
pub record Around (round depth far : ℕ) (tokens : List CodeToken) (i : ℕ) {root s : Symbol} (k : Stack root s) : Type 0 where
  pub nested : round + opened k ≡ depth
  pub reach : (n : ℕ) → i + n ≤ length tokens → nat_lt most_reach (reached k n 0) ≡ nat_lt far (i + n)

-- The same of a symbol inside an expression, whose words are counted whatever is inside the symbol.
pub record Within (round depth far : ℕ) (tokens : List CodeToken) (i : ℕ) {root s : Symbol} (k : Stack root s) : Type 0 where
  pub nested : round + opened k ≡ depth
  pub reach : (n r : ℕ) → i + n ≤ length tokens → nat_lt most_reach (reached k n r) ≡ nat_lt far (i + n)

-- The fault is what the reader answers.
abbrev pub Faults : {root : Symbol} → List CodeToken → Answer root → ParseFault → Type 0
Faults tokens a (Syntax line) = (rest : List Placed) × (a ≡ Refuses rest) × (line ≡ line_at (tokens_of tokens) rest)
Faults tokens a (Deep line) = (rest : List Placed) × (a ≡ Sinks rest) × (line ≡ line_at (tokens_of tokens) rest)
Faults tokens a Memory = Unit {0}

-- The reader comes to the state that belongs to what was read, or the fault is what it answers.
abbrev pub Goes : {A : Type 0} {root : Symbol} → ℕ → List CodeToken → (A → ℕ → State root) → Answer root → Result (A × ℕ) ParseFault → Type 0
Goes round tokens after a (Ok r) = a ≡ run round (after r.0 r.1) (from tokens r.1)
Goes round tokens after a (Err f) = Faults tokens a f

-- The next word, if any, doesn't go on with the complete symbol.
abbrev pub Quiet : (s : Symbol) → Spot → TreeOf s → List Placed → Type 0
Quiet s i a [] = Unit {0}
Quiet s i a (p ∷ ps) = tail s i a p ≡ only stop

-- An expression begins with the word.
abbrev pub starts : Word → Bool
starts (w.name x) = true
starts (w.number i unsigned) = true
starts (w.character i) = true
starts (w.string bytes) = true
starts (w.key Null) = true
starts (w.key Eof) = true
starts (w.key Ralloc) = true
starts (w.key RarrayAlloc) = true
starts (w.mark m.Minus) = true
starts (w.mark m.Plus) = true
starts (w.mark m.Exclamation) = true
starts (w.mark m.Tilde) = true
starts (w.mark m.Star) = true
starts (w.mark m.Ampersand) = true
starts (w.mark m.OpenParenthesis) = true
starts _ = false

abbrev pub prefix_in : Mark → Option UnaryOp
prefix_in m.Minus = Some u.Minus
prefix_in m.Plus = Some u.Plus
prefix_in m.Exclamation = Some u.Not
prefix_in m.Tilde = Some u.Complement
prefix_in m.Star = Some u.Dereference
prefix_in m.Ampersand = Some u.Address
prefix_in _ = None

-- the operator of a word that binds at least as tightly as this level
abbrev pub at_least : ℕ → Option BinaryOp → Option BinaryOp
at_least i (Some op) = cond (nat_le i (level_of op)) (Some op) None
at_least i None = None

abbrev pub operator_from : ℕ → Option Word → Option BinaryOp
operator_from i (Some word) = at_least i (binary_of word)
operator_from i None = None

-- The next word is neither an index nor a field.
abbrev pub no_postfix : Option Word → Bool
no_postfix (Some (w.mark m.OpenBracket)) = false
no_postfix (Some (w.mark m.Dot)) = false
no_postfix (Some (w.mark m.Arrow)) = false
no_postfix _ = true

-- Code that reads a symbol from its first word on, or from a state behind some of its words.
abbrev pub Reads : {A : Type 0} (s : Symbol) → ℕ → ℕ → List CodeToken → ℕ → (A → TreeOf s) → Result (A × ℕ) ParseFault → Type 0
Reads s depth far tokens i shape r =
    (root : Symbol) (round : ℕ) (k : Stack root s) → Within round depth far tokens i k →
    Goes round tokens (λ a q. amid tokens i q (build (shape a)) k) (run round (about k) (from tokens i)) r

abbrev pub Continues : {A : Type 0} (s : Symbol) → ℕ → ℕ → List CodeToken → ℕ → ℕ → Todo s → (A → TreeOf s) → Result (A × ℕ) ParseFault → Type 0
Continues s depth far tokens i q td shape r =
    (root : Symbol) (round : ℕ) (k : Stack root s) → Within round depth far tokens i k →
    Goes round tokens (λ a e. amid tokens i e (build (shape a)) k) (run round (amid tokens i q td k) (from tokens q)) r

-- The same of a symbol that may stand outside of expressions.
abbrev pub ReadsAnywhere : {A : Type 0} (s : Symbol) → ℕ → ℕ → List CodeToken → ℕ → (A → TreeOf s) → Result (A × ℕ) ParseFault → Type 0
ReadsAnywhere s depth far tokens i shape r =
    (root : Symbol) (round : ℕ) (k : Stack root s) → Around round depth far tokens i k →
    Goes round tokens (λ a q. amid tokens i q (build (shape a)) k) (run round (about k) (from tokens i)) r

abbrev pub ContinuesAnywhere : {A : Type 0} (s : Symbol) → ℕ → ℕ → List CodeToken → ℕ → ℕ → Todo s → (A → TreeOf s) → Result (A × ℕ) ParseFault → Type 0
ContinuesAnywhere s depth far tokens i q td shape r =
    (root : Symbol) (round : ℕ) (k : Stack root s) → Around round depth far tokens i k →
    Goes round tokens (λ a e. amid tokens i e (build (shape a)) k) (run round (amid tokens i q td k) (from tokens q)) r

-- The rest of an allocation, from the comma before its type on.
abbrev pub typed_rest : (t.TypeName → t.Expr) → Todo g.Unary
typed_rest f = read (sees is_comma (enter g.TypeName (λ ty. read (sees is_close (build (f ty))))))

abbrev pub begins_base : Option Word → Bool
begins_base (Some (w.key Int)) = true
begins_base (Some (w.key Unsigned)) = true
begins_base (Some (w.key Char)) = true
begins_base (Some (w.key Region)) = true
begins_base (Some (w.key Struct)) = true
begins_base _ = false

-- The rest of a cast to `unsigned`.
abbrev pub unsigned_rest : Spot → Todo g.Unary
unsigned_rest i = try (sees is_int (read (sees is_close (cast_to i c.Unsigned)))) (read (sees is_close (cast_to i c.Unsigned)))

-- The type of a cast that begins with the word, the word that a type begins with, and the rest of a cast to it.
abbrev pub cast_of : Option Word → Option CastType
cast_of (Some (w.key Int)) = Some c.Int
cast_of (Some (w.key Unsigned)) = Some c.Unsigned
cast_of (Some (w.key Char)) = Some c.Char
cast_of _ = None

abbrev pub key_of : CastType → Key
key_of c.Int = Int
key_of c.Unsigned = Unsigned
key_of c.Char = Char

-- Code that reads the type of a cast, and the parenthesis after it, from a state inside of them: its operand is left.
abbrev pub ReadsCast : ℕ → ℕ → List CodeToken → ℕ → ℕ → Todo g.Unary → Result (CastType × ℕ) ParseFault → Type 0
ReadsCast depth far tokens i q td r =
    (root : Symbol) (round : ℕ) (k : Stack root g.Unary) → Within round depth far tokens i k →
    Goes round tokens (λ to e. amid tokens i e (cast_to (spot_of tokens i) to) k) (run round (amid tokens i q td k) (from tokens q)) r

abbrev pub cast_rest : Spot → CastType → Todo g.Unary
cast_rest i c.Int = read (sees is_close (cast_to i c.Int))
cast_rest i c.Unsigned = unsigned_rest i
cast_rest i c.Char = read (sees is_close (cast_to i c.Char))

-- What a parser of a symbol answers, where nothing is open round it: what the reader answers to the words from the place on.
abbrev pub ReaderAnswers : {A : Type 0} (s : Symbol) → ℕ → List CodeToken → ℕ → (A → TreeOf s) → Result (A × ℕ) ParseFault → Type 0
ReaderAnswers s depth tokens i shape (Ok r) = run depth (about (bottom {root = s})) (from tokens i) ≡ Accepts (shape r.0) (from tokens r.1)
ReaderAnswers s depth tokens i shape (Err f) = Faults tokens (run depth (about (bottom {root = s})) (from tokens i)) f
