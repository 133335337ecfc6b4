-- Runs: a value with the world after it, or a stop. What a language does to its world is a record of operations, so that
-- control is defined once for every world.
use Rattle.std.specs.Prelude.{ℕ, ℤ, Bool, true, false, List, Result, Ok, Err}
use Rattle.rc_base.specs.declared.ends.End.{End}
use Rattle.rc_base.specs.declared.ends.End.TheVariants.{Trapped, Spent}
use Rattle.rc_base.specs.declared.ends.Trap.{Trap}
use Rattle.rc_core.specs.Layout.{Layout}
use Rattle.rc_core.specs.Heap.{Value}

-- an end, or a deleted region was touched, at this line
pub data Stop : Type 0 where
  Ends : End → Stop
  Stale : (line : ℕ) → Stop

pub data Run (W A : Type 0) : Type 0 where
  Go : A → W → Run W A
  Stopped : Stop → W → Run W A

abbrev pub bind : {W A B : Type 0} → Run W A → (A → W → Run W B) → Run W B
bind (Go x w) next = next x w
bind (Stopped stop w) next = Stopped stop w

abbrev pub trap : {W A : Type 0} → Trap → (line : ℕ) → W → Run W A
trap t line w = Stopped (Ends (Trapped t line)) w

abbrev pub spent : {W A : Type 0} → W → Run W A
spent w = Stopped (Ends Spent) w

-- one of two ways
abbrev pub branching : {W A : Type 0} → Bool → (if_true if_false : W → Run W A) → W → Run W A
branching true if_true if_false w = if_true w
branching false if_true if_false w = if_false w

-- a test that traps where it fails
abbrev pub tested : {W A : Type 0} → Bool → Trap → (line : ℕ) → W → Run W A → Run W A
tested true t line w run = run
tested false t line w run = trap t line w

-- a region is touched: a deleted one stops the run
abbrev pub touching : {W A : Type 0} → (alive : Bool) → (line : ℕ) → W → Run W A → Run W A
touching true line w run = run
touching false line w run = Stopped (Stale line) w

abbrev pub computed : {W A : Type 0} → (line : ℕ) → Result A Trap → W → Run W A
computed line (Ok x) w = Go x w
computed line (Err t) w = trap t line w

-- an index that was evaluated, the length of its array field, and the cells of one element
pub record Chosen : Type 0 where
  pub index : ℤ
  pub count : ℕ
  pub stride : ℕ

-- a place whose pointer and indices were evaluated: the cells that stand before it in its element, but for the indices
pub record Target : Type 0 where
  pub pointer : Value
  pub shift : ℤ
  pub offset : ℕ
  pub chosen : List Chosen

-- what a call of a function comes to, by the function's number and the arguments
abbrev pub Calls : Type 0 → Type 0
Calls W = ℕ → List Value → W → Run W Value

-- what a language does to its world; the line is that of what is done
pub record Ops (W : Type 0) : Type 0 where
  pub turns_left : W → ℕ
  pub take_turn : W → Run W (Unit {0})
  -- the next byte, or EOF
  pub get_byte : W → Run W ℤ
  pub put_byte : ℕ → W → Run W (Unit {0})
  pub new_region : (line : ℕ) → W → Run W Value
  pub new_subregion : (line : ℕ) → (parent : Value) → W → Run W Value
  pub allocate : (line : ℕ) → (region : Value) → (count : ℤ) → Layout → W → Run W Value
  -- the pointer so many elements on
  pub step : (line : ℕ) → (pointer : Value) → ℤ → W → Run W Value
  pub load : (line : ℕ) → Target → W → Run W Value
  pub store : (line : ℕ) → Target → Value → W → Run W (Unit {0})
  -- so many cells from the target on, and these values to the cells from the target on
  pub load_all : (line : ℕ) → Target → (size : ℕ) → W → Run W (List Value)
  pub store_all : (line : ℕ) → Target → List Value → W → Run W (Unit {0})
  -- with the values of the live locals
  pub delete : (line : ℕ) → (held : List Value) → (region : Value) → W → Run W (Unit {0})
  -- these values wait while a function that deletes is called, and no longer than the world before had them
  pub enter : (held : List Value) → W → W
  pub leave : (before now : W) → W
