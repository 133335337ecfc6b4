-- Worlds in which turns are counted: a turn that is taken leaves fewer, and no other operation leaves more. Stack code counts the steps
-- back of a whole function, and region code those of each loop, so they agree in such worlds alone.
use Rattle.std.specs.Prelude.{◌<◌, ◌≤◌, ◌≡◌, ℕ, ℤ, List}
use Rattle.rc_core.specs.Layout.{Layout}
use Rattle.rc_core.specs.Heap.{Value}
use Rattle.rc_core.specs.Laws.{IfGoes}
use Rattle.rc_core.specs.Runs.{Run, Target, Calls, Ops}

-- no more turns are left than so many
pub record Within {W A : Type 0} (ops : Ops W) (b : ℕ) (m : Run W A) : Type 0 where
  pub holds : IfGoes (λ _ w. ops.turns_left w ≤ b) m

-- a turn is one less, and nothing else makes turns
pub record Turning {W : Type 0} (ops : Ops W) : Type 0 where
  pub take_turn : (w : W) (b : ℕ) → ops.turns_left w ≤ b → IfGoes (λ (_ : Unit {0}) w1. ops.turns_left w1 < b) (ops.take_turn w)
  pub get_byte : (w : W) (b : ℕ) → ops.turns_left w ≤ b → Within ops b (ops.get_byte w)
  pub put_byte : (n : ℕ) (w : W) (b : ℕ) → ops.turns_left w ≤ b → Within ops b (ops.put_byte n w)
  pub new_region : (line : ℕ) (w : W) (b : ℕ) → ops.turns_left w ≤ b → Within ops b (ops.new_region line w)
  pub new_subregion : (line : ℕ) (v : Value) (w : W) (b : ℕ) → ops.turns_left w ≤ b → Within ops b (ops.new_subregion line v w)
  pub allocate : (line : ℕ) (v : Value) (count : ℤ) (layout : Layout) (w : W) (b : ℕ) → ops.turns_left w ≤ b → Within ops b (ops.allocate line v count layout w)
  pub step : (line : ℕ) (v : Value) (n : ℤ) (w : W) (b : ℕ) → ops.turns_left w ≤ b → Within ops b (ops.step line v n w)
  pub load : (line : ℕ) (target : Target) (w : W) (b : ℕ) → ops.turns_left w ≤ b → Within ops b (ops.load line target w)
  pub store : (line : ℕ) (target : Target) (v : Value) (w : W) (b : ℕ) → ops.turns_left w ≤ b → Within ops b (ops.store line target v w)
  pub delete : (line : ℕ) (held : List Value) (v : Value) (w : W) (b : ℕ) → ops.turns_left w ≤ b → Within ops b (ops.delete line held v w)
  pub enter : (held : List Value) (w : W) → ops.turns_left (ops.enter held w) ≡ ops.turns_left w
  pub leave : (w w1 : W) → ops.turns_left (ops.leave w w1) ≡ ops.turns_left w1

-- and calls leave no more
module _ {W : Type 0} (ops : Ops W) where
  abbrev pub CallsWithin : Calls W → Type 0
  CallsWithin calls = (f : ℕ) (vs : List Value) (w : W) (b : ℕ) → ops.turns_left w ≤ b → Within ops b (calls f vs w)
