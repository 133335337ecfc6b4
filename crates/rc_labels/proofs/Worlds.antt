-- The world of labels counts turns and gives back what waits, as the world does that it is made of.
use Rattle.std.proofs.Common.{◌≡◌, ◌<◌, ◌≤◌, ℕ}
use Rattle.rc_core.specs.Laws.{IfGoes}
use Rattle.rc_core.specs.Runs.{Run, Go, Stopped, Ops}
use Rattle.rc_emission.specs.Turns.{Within, Turning}
use Rattle.rc_numbering.specs.Waits.{Keeps, Waiting}
use Rattle.rc_along.specs.MarkedRuns.{Put}
use Rattle.rc_labels.specs.Labels.{Numbering, mark_at, plain, line_in}
use Rattle.rc_labels.specs.LabelledWorlds.{relined, encoded, labelled_ops}
use Rattle.rc_labels.specs.PutLaws.{MakesNoTurns, KeepsWaiting}

goes_relined : {W A : Type 0} (P : A → W → Type 0) (g : ℕ → ℕ) (m : Run W A) → IfGoes P m → IfGoes P (relined g m)
goes_relined P g (Go x w) h = h
goes_relined P g (Stopped stop w) h = tt

module _ (n : Numbering) {W : Type 0} (ops : Ops W) (put : Put W) where
  within : {A : Type 0} (b : ℕ) (m : Run W A) → Within ops b m → Within (labelled_ops n ops put) b (encoded n m)
  within b m h = record { holds = goes_relined (λ _ w. ops.turns_left w ≤ b) (plain n) m h.holds }

  pub counts : Turning ops → MakesNoTurns ops put → Turning (labelled_ops n ops put)
  counts turning put_within = record {
    take_turn = λ w b le. goes_relined (λ _ w1. ops.turns_left w1 < b) (plain n) (ops.take_turn w) (turning.take_turn w b le);
    get_byte = λ w b le. within b (ops.get_byte w) (turning.get_byte w b le);
    put_byte = λ k w b le. within b (ops.put_byte k w) (turning.put_byte k w b le);
    new_region = λ l w b le. within b (ops.new_region (line_in n l) w) (turning.new_region (line_in n l) w b le);
    new_subregion = λ l v w b le. within b (ops.new_subregion (line_in n l) v w) (turning.new_subregion (line_in n l) v w b le);
    allocate = λ l v count layout w b le. within b (ops.allocate (line_in n l) v count layout w) (turning.allocate (line_in n l) v count layout w b le);
    step = λ l v i w b le. within b (ops.step (line_in n l) v i w) (turning.step (line_in n l) v i w b le);
    load = λ l t w b le. within b (ops.load (line_in n l) t w) (turning.load (line_in n l) t w b le);
    store = λ l t v w b le. within b (put (mark_at (n.label l) t.offset) (line_in n l) t v w) (put_within (mark_at (n.label l) t.offset) (line_in n l) t v w b le);
    delete = λ l held v w b le. within b (ops.delete (line_in n l) held v w) (turning.delete (line_in n l) held v w b le);
    enter = turning.enter;
    leave = turning.leave;
  }

  module _ {V : Type 0} (waiting : W → V) where
    keeps : {A : Type 0} (w : W) (m : Run W A) → Keeps waiting w m → Keeps waiting w (encoded n m)
    keeps w m h = record { holds = goes_relined (λ _ now. waiting now ≡ waiting w) (plain n) m h.holds }

    pub waits : Waiting ops waiting → KeepsWaiting put waiting → Waiting (labelled_ops n ops put) waiting
    waits world put_keeps = record {
      take_turn = λ w. keeps w (ops.take_turn w) (world.take_turn w);
      get_byte = λ w. keeps w (ops.get_byte w) (world.get_byte w);
      put_byte = λ k w. keeps w (ops.put_byte k w) (world.put_byte k w);
      new_region = λ l w. keeps w (ops.new_region (line_in n l) w) (world.new_region (line_in n l) w);
      new_subregion = λ l v w. keeps w (ops.new_subregion (line_in n l) v w) (world.new_subregion (line_in n l) v w);
      allocate = λ l v count layout w. keeps w (ops.allocate (line_in n l) v count layout w) (world.allocate (line_in n l) v count layout w);
      step = λ l v i w. keeps w (ops.step (line_in n l) v i w) (world.step (line_in n l) v i w);
      load = λ l t w. keeps w (ops.load (line_in n l) t w) (world.load (line_in n l) t w);
      store = λ l t v w. keeps w (put (mark_at (n.label l) t.offset) (line_in n l) t v w) (put_keeps (mark_at (n.label l) t.offset) (line_in n l) t v w);
      delete = λ l held v w. keeps w (ops.delete (line_in n l) held v w) (world.delete (line_in n l) held v w);
      enter_none = world.enter_none;
      leave_same = world.leave_same;
      left = world.left;
    }
