-- Runs whose labels are read: what is done one after another, and what the world of labels does.
use Rattle.std.proofs.Common.{◌≡◌, ℕ, Bool, true, false, refl, ap, ◌∙◌}
use Rattle.std.specs.Prelude.{Result, Ok, Err}
use Rattle.rc_base.specs.declared.ends.End.{End}
use Rattle.rc_base.specs.declared.ends.End.TheVariants.{Exit, Trapped, Spent}
use Rattle.rc_base.specs.declared.ends.Trap.{Trap}
use Rattle.rc_core.specs.Heap.{Value, Number, Null, Handle, Pointer}
use Rattle.rc_core.specs.Evaluation.{region_named}
use Rattle.rc_core.specs.Runs.{Stop, Ends, Stale, Run, Go, Stopped, bind, branching, computed, Target, Ops}
use Rattle.rc_along.specs.MarkedRuns.{Put}
use Rattle.rc_labels.specs.Labels.{Label, mark_at, Numbering, without_marks, plain, line_in}
use Rattle.rc_labels.specs.LabelledWorlds.{end_at, stop_at, decoded, encoded, labelled_ops}

module _ (n : Numbering) where
  pub line_back : (line : ℕ) → line_in n (plain n line) ≡ line
  line_back line = ap (λ (l : Label). l.line) (n.read (without_marks line))

  end_back : (end : End) → end_at (line_in n) (end_at (plain n) end) ≡ end
  end_back (Exit v) = refl
  end_back (Trapped t line) = ap (Trapped t) (line_back line)
  end_back Spent = refl

  stop_back : (stop : Stop) → stop_at (line_in n) (stop_at (plain n) stop) ≡ stop
  stop_back (Ends end) = ap Ends (end_back end)
  stop_back (Stale line) = ap Stale (line_back line)

  pub read_back : {W A : Type 0} (m : Run W A) → decoded n (encoded n m) ≡ m
  read_back (Go x w) = refl
  read_back (Stopped stop w) = ap (λ s. Stopped s w) (stop_back stop)

  -- one run of labels and one of lines
  abbrev pub Reads : {W A : Type 0} → Run W A → Run W A → Type 0
  Reads m' m = decoded n m' ≡ m

  pub reads_bind : {W A B : Type 0} (m' m : Run W A) (f' f : A → W → Run W B) → Reads m' m → ((x : A) (w : W) → Reads (f' x w) (f x w)) → Reads (bind m' f') (bind m f)
  reads_bind (Go x w) m f' f e k = k x w ∙ ap (λ run. bind run f) e
  reads_bind (Stopped stop w) m f' f e k = ap (λ run. bind run f) e

  pub reads_branch : {W A : Type 0} (b : Bool) (a' c' a c : W → Run W A) (w : W) → Reads (a' w) (a w) → Reads (c' w) (c w) → Reads (branching b a' c' w) (branching b a c w)
  reads_branch true a' c' a c w of_a of_c = of_a
  reads_branch false a' c' a c w of_a of_c = of_c

  module _ (label line : ℕ) (told : line_in n label ≡ line) where
    pub reads_computed : {W A : Type 0} (r : Result A Trap) (w : W) → Reads (computed label r w) (computed line r w)
    reads_computed (Ok x) w = refl
    reads_computed (Err t) w = ap (λ l. Stopped (Ends (Trapped t l)) w) told

    pub reads_named : {W : Type 0} (v : Value) (w : W) → Reads (region_named label v w) (region_named line v w)
    reads_named (Number k) w = reads_computed (Err _) w
    reads_named Null w = reads_computed (Err _) w
    reads_named (Handle r) w = refl
    reads_named (Pointer a) w = refl

    -- what a world does at a line
    pub reads_at : {W A : Type 0} (does : ℕ → W → Run W A) (w : W) → Reads (encoded n (does (line_in n label) w)) (does line w)
    reads_at does w = read_back (does (line_in n label) w) ∙ ap (λ l. does l w) told

  -- a store by the label of its cells
  pub reads_put : {W : Type 0} (ops : Ops W) (put : Put W) (l : Label) (mark : Bool) (t : Target) (v : Value) (w : W) → mark_at l t.offset ≡ mark → Reads ((labelled_ops n ops put).store (n.number l) t v w) (put mark l.line t v w)
  reads_put ops put l mark t v w e =
      read_back (put (mark_at (n.label (n.number l)) t.offset) (line_in n (n.number l)) t v w)
      ∙ ap (λ (is : Label). put (mark_at is t.offset) is.line t v w) (n.read l)
      ∙ ap (λ is. put is l.line t v w) e
