-- A reader of one word at a time, which the grammar is proved equal to.
use Rattle.std.specs.Prelude.{ℕ, ◌+◌, ◌-◌, nat_lt, ◌||◌, List, [], ◌∷◌, Option, Some, None, Bool, cond}
use Rattle.rc_base.specs.Limits.{most_depth, most_reach}
use Rattle.rc_syntax.specs.declared.tree.Spot.{Spot}
use Rattle.rc_syntax.specs.Grammar.{Symbol, Text, TreeOf, Placed, adds, reach}
use Rattle.rc_syntax.specs.reader.Todo.{Todo, stop, build, try, enter, peek, begin, resume, Deeper, only, within}
use Rattle.rc_syntax.specs.reader.Reading.{first, tail}

-- What is open, the innermost first: where it began, how many of its words were read before what is inside of it, and what
-- is left of it then.
pub data Stack : Symbol → Symbol → Type 0 where
  bottom : {root : Symbol} → Stack root root
  frame : {root s i : Symbol} → Spot → ℕ → (TreeOf i → Todo s) → Stack root s → Stack root i

-- A symbol is to begin; or so many words of a symbol were read, and this is left of it.
pub data State : Symbol → Type 0 where
  about : {root s : Symbol} → Stack root s → State root
  amid : {root s : Symbol} → Spot → Todo s → ℕ → Stack root s → State root

-- Before the first word; the words of a text may be none.
abbrev pub entry : (root : Symbol) → State root
entry Text = amid (record { place = 0; line = 0 }) (build []) 0 bottom
entry s = about bottom

abbrev pub first_of : {A : Type 0} → Option A → Option A → Option A
first_of (Some a) o = Some a
first_of None o = o

abbrev pub taken : {root s : Symbol} → Todo s → Spot → ℕ → Stack root s → Option (State root)
taken stop i n k = None
taken td i n k = Some (amid i td (n + 1) k)

abbrev pub place : {root s : Symbol} → Placed → Deeper s → Spot → ℕ → Stack root s → Option (State root)
place p (only td) i n k = taken td i n k
place p (within j h d) i n k = place p d p.spot 0 (frame i n h k)

-- What is left is offered a word; `back` is what the word does behind the complete symbol.
abbrev pub offer : {root s : Symbol} → Placed → Todo s → Spot → ℕ → Stack root s → (TreeOf s → Option (State root)) → Option (State root)
offer p stop i n k back = None
offer p (build a) i n k back = back a
offer p (try f td) i n k back = first_of (taken (f p) i n k) (offer p td i n k back)
offer p (enter j h) i n k back = place p (first j p) p.spot 0 (frame i n h k)
offer p (peek g) i n k back = offer p (g n p) i n k back
offer p (begin j a h) i n k back = first_of (place p (tail j p.spot a p) p.spot 0 (frame i n h k)) (offer p (h a) i n k back)
offer p (resume own m j h td) i n k back =
    offer p td own (n - m) (frame i m h k) (λ a. first_of (place p (tail j own a p) own (n - m) (frame i m h k)) (offer p (h a) i n k back))

-- The complete symbol is offered a word: it goes on, or what is open round it does.
abbrev pub give : {root s : Symbol} → Placed → Stack root s → ℕ → TreeOf s → Option (State root)
give p bottom n a = None
give p (frame {s = s} i m h k) n a = offer p (h a) i (m + n) k (λ c. first_of (place p (tail s i c p) i (m + n) k) (give p k (m + n) c))

abbrev pub closed : {root s : Symbol} → Placed → Spot → ℕ → Stack root s → TreeOf s → Option (State root)
closed {s = s} p i n k a = first_of (place p (tail s i a p) i n k) (give p k n a)

abbrev pub step : {root : Symbol} → State root → Placed → Option (State root)
step (about {s = s} k) p = place p (first s p) p.spot 0 k
step (amid i td n k) p = offer p td i n k (closed p i n k)

abbrev pub fed : {A B : Type 0} → (A → Option B) → Option A → Option B
fed on None = None
fed on (Some r) = on r

abbrev pub feed : {root : Symbol} → State root → List Placed → Option (State root)
feed s [] = Some s
feed s (p ∷ ps) = fed (λ r. feed r ps) (step s p)

-- The tree, where the words end here.
abbrev pub last : {s : Symbol} {A : Type 0} → Todo s → (TreeOf s → Option A) → Option A
last (build a) back = back a
last (try f td) back = last td back
last (begin j a h) back = last (h a) back
last (resume own m j h td) back = last td (λ a. last (h a) back)
last _ back = None

abbrev pub whole : {root s : Symbol} → Stack root s → TreeOf s → Option (TreeOf root)
whole bottom a = Some a
whole (frame i m h k) a = last (h a) (whole k)

abbrev pub finish : {root : Symbol} → State root → Option (TreeOf root)
finish (about k) = None
finish (amid i td n k) = last td (whole k)

-- The depth and the reach of the last word.
abbrev pub opened : {root s : Symbol} → Stack root s → ℕ
opened bottom = 0
opened (frame {s = s} i m h k) = opened k + adds s

abbrev pub depth : {root : Symbol} → State root → ℕ
depth (about k) = 0
depth (amid {s = s} i td n k) = opened k + adds s

abbrev pub reached : {root s : Symbol} → Stack root s → ℕ → ℕ → ℕ
reached {s = s} bottom n r = reach s n r
reached {s = s} (frame i m h k) n r = reached k (m + n) (reach s n r)

abbrev pub reach_of : {root : Symbol} → State root → ℕ
reach_of (about k) = 0
reach_of (amid i td n k) = reached k n 0

pub data Answer : Symbol → Type 0 where
  Accepts : {root : Symbol} → TreeOf root → List Placed → Answer root
  Refuses : {root : Symbol} → List Placed → Answer root
  Sinks : {root : Symbol} → List Placed → Answer root

abbrev pub verdict : {root : Symbol} → List Placed → Option (TreeOf root) → Answer root
verdict rest (Some a) = Accepts a rest
verdict rest None = Refuses rest

abbrev pub too_deep : {root : Symbol} → ℕ → State root → Bool
too_deep round s = nat_lt most_depth (round + depth s) || nat_lt most_reach (reach_of s)

abbrev pub next : {root : Symbol} → ℕ → List Placed → Option (TreeOf root) → (State root → Answer root) → Option (State root) → Answer root
next round rest tree on None = verdict rest tree
next round rest tree on (Some r) = cond (too_deep round r) (Sinks rest) (on r)

-- As far as words can be read, and none is too deep.
abbrev pub run : {root : Symbol} → ℕ → State root → List Placed → Answer root
run round s [] = verdict [] (finish s)
run round s (p ∷ ps) = next round (p ∷ ps) (finish s) (λ r. run round r ps) (step s p)
