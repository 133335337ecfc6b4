-- Worlds in which calls give back what waits. Values wait from `enter` to `leave`; no other operation changes which wait, and where none are
-- entered and the same ones wait as before, both leave the world as it is. An image enters and leaves at every call, stack code only where
-- the function deletes, so they agree in such worlds alone. `waiting` is what waits, in whatever form a world keeps it.
use Rattle.std.specs.Prelude.{◌≡◌, ℕ, ℤ, List, []}
use Rattle.rc_core.specs.Layout.{Layout}
use Rattle.rc_core.specs.Heap.{Value}
use Rattle.rc_core.specs.Laws.{IfGoes}
use Rattle.rc_core.specs.Runs.{Run, Target, Ops}

-- the same values wait afterwards
pub record Keeps {W V A : Type 0} (waiting : W → V) (before : W) (m : Run W A) : Type 0 where
  pub holds : IfGoes (λ _ now. waiting now ≡ waiting before) m

pub record Waiting {W V : Type 0} (ops : Ops W) (waiting : W → V) : Type 0 where
  pub take_turn : (w : W) → Keeps waiting w (ops.take_turn w)
  pub get_byte : (w : W) → Keeps waiting w (ops.get_byte w)
  pub put_byte : (n : ℕ) (w : W) → Keeps waiting w (ops.put_byte n w)
  pub new_region : (line : ℕ) (w : W) → Keeps waiting w (ops.new_region line w)
  pub new_subregion : (line : ℕ) (v : Value) (w : W) → Keeps waiting w (ops.new_subregion line v w)
  pub allocate : (line : ℕ) (v : Value) (count : ℤ) (layout : Layout) (w : W) → Keeps waiting w (ops.allocate line v count layout w)
  pub step : (line : ℕ) (v : Value) (n : ℤ) (w : W) → Keeps waiting w (ops.step line v n w)
  pub load : (line : ℕ) (target : Target) (w : W) → Keeps waiting w (ops.load line target w)
  pub store : (line : ℕ) (target : Target) (v : Value) (w : W) → Keeps waiting w (ops.store line target v w)
  pub delete : (line : ℕ) (held : List Value) (v : Value) (w : W) → Keeps waiting w (ops.delete line held v w)
  pub enter_none : (w : W) → ops.enter [] w ≡ w
  pub leave_same : (w w1 : W) → waiting w1 ≡ waiting w → ops.leave w w1 ≡ w1
  pub left : (w w1 : W) → waiting (ops.leave w w1) ≡ waiting w
