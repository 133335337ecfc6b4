-- A row is a set of variables. A list of rows links x to what row x has.
use Rattle.std.specs.Prelude.{◌≡◌, ◌<◌, ℕ, Bool, false, List, length, ◌||◌, slice_index, IsTrue, MatchBool}
use Rattle.rc_base.specs.BitSets.{marks}

abbrev pub links : List ℕ → ℕ → ℕ → Bool
links rows x y = marks (slice_index rows x) y

-- each link leads to a variable that has a row
abbrev pub IsWithin : List ℕ → Type 0
IsWithin rows = (x y : ℕ) → IsTrue (links rows x y) → y < length rows

-- the answer whether some variable of a row isn't in another
abbrev pub TellsExcess : Bool → ℕ → ℕ → Type 0
TellsExcess answer row other = MatchBool answer ((x : ℕ) × IsTrue (marks row x) × (marks other x ≡ false)) ((x : ℕ) → IsTrue (marks row x) → IsTrue (marks other x))

-- the answer whether some link isn't one of other rows
abbrev pub TellsLost : Bool → List ℕ → List ℕ → Type 0
TellsLost answer rows others = MatchBool answer ((x : ℕ) × (y : ℕ) × IsTrue (links rows x y) × (links others x y ≡ false)) ((x y : ℕ) → IsTrue (links rows x y) → IsTrue (links others x y))

-- what one leads to by one or more steps
pub data Chain (step : ℕ → ℕ → Bool) : ℕ → ℕ → Type 0 where
  link : {x y : ℕ} → IsTrue (step x y) → Chain step x y
  join : {x y z : ℕ} → Chain step x y → Chain step y z → Chain step x z

-- what those at the start lead to by any number of steps
pub data Reached (start : ℕ → Bool) (step : ℕ → ℕ → Bool) : ℕ → Type 0 where
  here : {x : ℕ} → IsTrue (start x) → Reached start step x
  next : {x y : ℕ} → Reached start step x → IsTrue (step x y) → Reached start step y

-- a step of either
abbrev pub either_step : (ℕ → ℕ → Bool) → (ℕ → ℕ → Bool) → ℕ → ℕ → Bool
either_step one other x y = one x y || other x y
