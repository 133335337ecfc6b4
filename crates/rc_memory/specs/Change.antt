-- A change of world: what operations do in one world, they do in another, of which the first tells more.
use Rattle.std.specs.Prelude.{◌≡◌, ℕ, ℤ, List}
use Rattle.rc_core.specs.Layout.{Layout}
use Rattle.rc_core.specs.Heap.{Value}
use Rattle.rc_core.specs.Runs.{Run, Go, Stopped, Target, Ops}

abbrev pub mapped : {W V A : Type 0} → (W → V) → Run W A → Run V A
mapped change (Go x w) = Go x (change w)
mapped change (Stopped stop w) = Stopped stop (change w)

-- each operation gives the same in both worlds, and leaves worlds that belong together
pub record Agree {W V : Type 0} (change : W → V) (ops : Ops W) (others : Ops V) : Type 0 where
  pub turns_left : (w : W) → others.turns_left (change w) ≡ ops.turns_left w
  pub take_turn : (w : W) → mapped change (ops.take_turn w) ≡ others.take_turn (change w)
  pub get_byte : (w : W) → mapped change (ops.get_byte w) ≡ others.get_byte (change w)
  pub put_byte : (byte : ℕ) (w : W) → mapped change (ops.put_byte byte w) ≡ others.put_byte byte (change w)
  pub new_region : (line : ℕ) (w : W) → mapped change (ops.new_region line w) ≡ others.new_region line (change w)
  pub new_subregion : (line : ℕ) (v : Value) (w : W) → mapped change (ops.new_subregion line v w) ≡ others.new_subregion line v (change w)
  pub allocate : (line : ℕ) (v : Value) (count : ℤ) (layout : Layout) (w : W) → mapped change (ops.allocate line v count layout w) ≡ others.allocate line v count layout (change w)
  pub step : (line : ℕ) (v : Value) (n : ℤ) (w : W) → mapped change (ops.step line v n w) ≡ others.step line v n (change w)
  pub load : (line : ℕ) (t : Target) (w : W) → mapped change (ops.load line t w) ≡ others.load line t (change w)
  pub store : (line : ℕ) (t : Target) (v : Value) (w : W) → mapped change (ops.store line t v w) ≡ others.store line t v (change w)
  pub load_all : (line : ℕ) (t : Target) (size : ℕ) (w : W) → mapped change (ops.load_all line t size w) ≡ others.load_all line t size (change w)
  pub store_all : (line : ℕ) (t : Target) (vs : List Value) (w : W) → mapped change (ops.store_all line t vs w) ≡ others.store_all line t vs (change w)
  pub delete : (line : ℕ) (held : List Value) (v : Value) (w : W) → mapped change (ops.delete line held v w) ≡ others.delete line held v (change w)
  pub enter : (held : List Value) (w : W) → change (ops.enter held w) ≡ others.enter held (change w)
  pub leave : (before now : W) → change (ops.leave before now) ≡ others.leave (change before) (change now)
