-- Sets that are closed already, and what a fact or an assignment makes of them.
use Rattle.std.specs.Prelude.{◌≡◌, ◌<◌, ℕ, Bool, true, false, ◌||◌, ◌==◌, IsTrue, List, Option, Some, None, if◌then◌else◌}
use Rattle.std.specs.List.{list_any}
use Rattle.rc_facts.specs.declared.fact.Fact.{Fact}
use Rattle.rc_facts.specs.declared.fact.Fact.TheVariants.{In, Up, Trad, NonNull}
use Rattle.rc_facts.specs.Derivable.{Derivable}
use Rattle.rc_base.specs.BitSets.{marks}
use Rattle.rc_facts.specs.Facts.{names, same_fact}

-- the facts before, and new ones
abbrev pub together : (Fact → Bool) → List Fact → Fact → Bool
together before news fact = before fact || list_any (λ p. same_fact p fact) news

-- no rule gives more facts, save on the scratch variable
abbrev pub IsShut : (n scratch : ℕ) → (Fact → Bool) → Type 0
IsShut n scratch facts = (fact : Fact) → names scratch fact ≡ false → Derivable n facts fact → IsTrue (facts fact)

-- no fact names the scratch variable
abbrev pub IsClean : (scratch : ℕ) → (Fact → Bool) → Type 0
IsClean scratch facts = (fact : Fact) → IsTrue (facts fact) → names scratch fact ≡ false

-- what is derivable then, save on the scratch variable
abbrev pub IsBehind : (n scratch : ℕ) → (Fact → Bool) → List Fact → Fact → Type 0
IsBehind n scratch before news fact = Derivable n (together before news) fact × (names scratch fact ≡ false)

-- a variable, unless it is the one that is written
abbrev pub spot : ℕ → ℕ → Option ℕ
spot written x = if x == written then None else Some x

-- a test of pairs with a row and a column more
abbrev pub pair_by : (ℕ → ℕ → Bool) → (row column : ℕ → Bool) → Option ℕ → Option ℕ → Bool
pair_by test row column None None = true
pair_by test row column None (Some y) = row y
pair_by test row column (Some x) None = column x
pair_by test row column (Some x) (Some y) = test x y

abbrev pub one_by : (ℕ → Bool) → Bool → Option ℕ → Bool
one_by test flag None = flag
one_by test flag (Some x) = test x

-- the facts on one variable: what it is in and above, what is in it and above it, and whether it is traditional and not null
pub record Placed : Type 0 where
  pub row_in : ℕ → Bool
  pub row_up : ℕ → Bool
  pub into_in : ℕ → Bool
  pub into_up : ℕ → Bool
  pub trad : Bool
  pub present : Bool

-- what rows place
abbrev pub placed : (row_in row_up into_in into_up : ℕ) → (trad present : Bool) → Placed
placed row_in row_up into_in into_up trad present = record { row_in = marks row_in; row_up = marks row_up; into_in = marks into_in; into_up = marks into_up; trad = trad; present = present }

-- a row has variables below n alone
abbrev pub IsBelow : (n row : ℕ) → Type 0
IsBelow n row = (x : ℕ) → IsTrue (marks row x) → x < n

-- the facts with those on one variable replaced
abbrev pub extended : ℕ → Placed → (Fact → Bool) → Fact → Bool
extended v p c (In x y) = pair_by (λ a b. c (In a b)) p.row_in p.into_in (spot v x) (spot v y)
extended v p c (Up x y) = pair_by (λ a b. c (Up a b)) p.row_up p.into_up (spot v x) (spot v y)
extended v p c (Trad x) = one_by (λ a. c (Trad a)) p.trad (spot v x)
extended v p c (NonNull x) = one_by (λ a. c (NonNull a)) p.present (spot v x)
