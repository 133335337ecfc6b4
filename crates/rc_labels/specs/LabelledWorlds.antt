-- The world of labelled code. It does what a world does that is told lines, and what is done at a store with a mark or without it (`put`),
-- and where that stops the run, it names the line by a label. So the stop of a run, its labels read, is that of the code without labels.
use Rattle.std.specs.Prelude.{ℕ}
use Rattle.rc_base.specs.declared.ends.End.{End}
use Rattle.rc_base.specs.declared.ends.End.TheVariants.{Exit, Trapped, Spent}
use Rattle.rc_core.specs.Runs.{Stop, Ends, Stale, Run, Go, Stopped, Ops}
use Rattle.rc_along.specs.MarkedRuns.{Put}
use Rattle.rc_labels.specs.Labels.{Numbering, mark_at, plain, line_in}

-- an end, and a stop, at another line
abbrev pub end_at : (ℕ → ℕ) → End → End
end_at g (Exit v) = Exit v
end_at g (Trapped t line) = Trapped t (g line)
end_at g Spent = Spent

abbrev pub stop_at : (ℕ → ℕ) → Stop → Stop
stop_at g (Ends end) = Ends (end_at g end)
stop_at g (Stale line) = Stale (g line)

abbrev pub relined : {W A : Type 0} → (ℕ → ℕ) → Run W A → Run W A
relined g (Go x w) = Go x w
relined g (Stopped stop w) = Stopped (stop_at g stop) w

module _ (n : Numbering) where
  -- a run whose labels are read
  abbrev pub decoded : {W A : Type 0} → Run W A → Run W A
  decoded m = relined (line_in n) m

  abbrev pub encoded : {W A : Type 0} → Run W A → Run W A
  encoded m = relined (plain n) m

  abbrev pub labelled_ops : {W : Type 0} → Ops W → Put W → Ops W
  labelled_ops ops put = record {
    turns_left = ops.turns_left;
    take_turn = λ w. encoded (ops.take_turn w);
    get_byte = λ w. encoded (ops.get_byte w);
    put_byte = λ b w. encoded (ops.put_byte b w);
    new_region = λ l w. encoded (ops.new_region (line_in n l) w);
    new_subregion = λ l v w. encoded (ops.new_subregion (line_in n l) v w);
    allocate = λ l v count layout w. encoded (ops.allocate (line_in n l) v count layout w);
    step = λ l v i w. encoded (ops.step (line_in n l) v i w);
    load = λ l t w. encoded (ops.load (line_in n l) t w);
    store = λ l t v w. encoded (put (mark_at (n.label l) t.offset) (line_in n l) t v w);
    load_all = λ l t size w. encoded (ops.load_all (line_in n l) t size w);
    store_all = λ l t vs w. encoded (ops.store_all (line_in n l) t vs w);
    delete = λ l held v w. encoded (ops.delete (line_in n l) held v w);
    enter = ops.enter;
    leave = ops.leave;
  }
