-- Stack code gives back what waits.
use Rattle.std.proofs.Common.{ℕ, zero, suc, Bool, true, false, List, [], ◌∷◌, length, Option, Some, None, refl, ◌∙◌}
use Rattle.std.specs.Prelude.{Result, Ok, Err, slice_get}
use Rattle.rc_base.specs.declared.ends.Trap.{Trap}
use Rattle.rc_core.specs.Heap.{Value, Number, Null, Handle, Pointer}
use Rattle.rc_core.specs.Runs.{Run, Go, Stopped, bind, branching, computed, Calls, Ops}
use Rattle.rc_core.specs.Evaluation.{region_named, give_number, is_true}
use Rattle.rc_rlang.specs.RegionCode.{width}
use Rattle.rc_rlang.specs.RegionRuns.{kept, kept_all, pinned, sized}
use Rattle.rc_emission.specs.StackCode.{Instruction, Line, StackFunction, Onward, popped, takes, given, act, walk, run_code, run_function, stack_calls}
use Rattle.rc_emission.specs.StackCode as To
use Rattle.rc_numbering.specs.Waits.{Keeps, Waiting}

module _ {W V : Type 0} (ops : Ops W) (waiting : W → V) (waits : Waiting ops waiting) (deleting : ℕ → Bool) where
  abbrev KeepsOn : Onward W → Type 0
  KeepsOn next = (n : ℕ) (st env : List Value) (w : W) → Keeps waiting w (next n st env w)

  abbrev pub KeepCalls : Calls W → Type 0
  KeepCalls calls = (f : ℕ) (vs : List Value) (w : W) → Keeps waiting w (calls f vs w)

  then_keeps : {A B : Type 0} (w : W) (m : Run W A) (next : A → W → Run W B) → Keeps waiting w m → ((x : A) (w1 : W) → Keeps waiting w1 (next x w1)) → Keeps waiting w (bind m next)
  then_keeps {A} {B} w (Go x w1) next h k = by (next x w1) (k x w1)
    where
      by : (m : Run W B) → Keeps waiting w1 m → Keeps waiting w m
      by (Go y w2) r = record { holds = r.holds ∙ h.holds }
      by (Stopped s w2) r = record { holds = tt }
  then_keeps {A} {B} w (Stopped s w1) next h k = record { holds = tt }

  go_keeps : {A : Type 0} (x : A) (w : W) → Keeps waiting w (Go x w)
  go_keeps x w = record { holds = refl }

  computed_keeps : {A : Type 0} (line : ℕ) (r : Result A Trap) (w : W) → Keeps waiting w (computed line r w)
  computed_keeps line (Ok x) w = record { holds = refl }
  computed_keeps line (Err t) w = record { holds = tt }

  named_keeps : (line : ℕ) (v : Value) (w : W) → Keeps waiting w (region_named line v w)
  named_keeps line (Number n) w = record { holds = tt }
  named_keeps line Null w = record { holds = tt }
  named_keeps line (Handle r) w = record { holds = refl }
  named_keeps line (Pointer a) w = record { holds = refl }

  branch_keeps : {A : Type 0} (b : Bool) (yes no : W → Run W A) (w : W) → Keeps waiting w (yes w) → Keeps waiting w (no w) → Keeps waiting w (branching b yes no w)
  branch_keeps true y n w hy hn = hy
  branch_keeps false y n w hy hn = hn

  module _ (calls : Calls W) (called : KeepCalls calls) where
    call_keeps : (f : ℕ) (held vs : List Value) (w : W) → Keeps waiting w (bind (calls f vs (ops.enter held w)) (λ v w2. Go v (ops.leave w w2)))
    call_keeps f held vs w = by (calls f vs (ops.enter held w))
      where
        by : (m : Run W Value) → Keeps waiting w (bind m (λ v w2. Go v (ops.leave w w2)))
        by (Go v w2) = record { holds = waits.left w w2 }
        by (Stopped s w2) = record { holds = tt }

    given_keeps : (line : ℕ) (i : Instruction) (env vs : List Value) (w : W) → Keeps waiting w (given ops deleting line i calls env vs w)
    given_keeps line (To.number s n) env vs w = record { holds = refl }
    given_keeps line (To.null ty) env vs w = record { holds = refl }
    given_keeps line (To.global g) env vs w = record { holds = refl }
    given_keeps line (To.get x) env vs w = record { holds = refl }
    given_keeps line (To.set x ty) env vs w = record { holds = refl }
    given_keeps line (To.arithmetic operator s) env vs w = then_keeps w _ give_number (computed_keeps line _ w) (λ n w1. record { holds = refl })
    given_keeps line (To.unary operator s) env vs w = then_keeps w _ give_number (computed_keeps line _ w) (λ n w1. record { holds = refl })
    given_keeps line To.zero_test env vs w = record { holds = refl }
    given_keeps line (To.null_test ty) env vs w = record { holds = refl }
    given_keeps line (To.same ty) env vs w = record { holds = refl }
    given_keeps line (To.convert to) env vs w = record { holds = refl }
    given_keeps line (To.move ty s direction) env vs w = waits.step line _ _ w
    given_keeps line (To.load a) env vs w = waits.load line _ w
    given_keeps line (To.store a) env vs w = record { holds = refl }
    given_keeps line To.new_region env vs w = waits.new_region line w
    given_keeps line To.new_subregion env vs w = waits.new_subregion line _ w
    given_keeps line (To.region_of ty) env vs w = named_keeps line _ w
    given_keeps line (To.allocate ty layout) env vs w = waits.allocate line _ _ layout w
    given_keeps line (To.allocate_array ty layout) env vs w = waits.allocate line _ _ layout w
    given_keeps line (To.delete pins) env vs w = record { holds = refl }
    given_keeps line (To.call f tys pins) env vs w = branch_keeps (deleting f) _ _ w (call_keeps f (pinned pins env) (kept_all tys vs) w) (called f (kept_all tys vs) w)
    given_keeps line (To.perform f tys pins) env vs w = record { holds = refl }
    given_keeps line (To.leave tys) env vs w = record { holds = refl }
    given_keeps line To.putchar env vs w = then_keeps w _ _ (waits.put_byte _ w) (λ n w1. record { holds = refl })
    given_keeps line To.getchar env vs w = then_keeps w _ give_number (waits.get_byte w) (λ n w1. record { holds = refl })
    given_keeps line (To.jump n) env vs w = record { holds = refl }
    given_keeps line (To.jump_zero n) env vs w = record { holds = refl }
    given_keeps line (To.back to) env vs w = record { holds = refl }
    given_keeps line To.pop env vs w = record { holds = refl }

    module _ (next again : Onward W) (on : KeepsOn next) (back : KeepsOn again) where
      value_keeps : (line : ℕ) (i : Instruction) (st env : List Value) (w : W) → Keeps waiting w (popped (takes i) st [] (λ vs rest. bind (given ops deleting line i calls env vs w) (λ v. next 0 (v ∷ rest) env)) w)
      value_keeps line i st env w = by (takes i) st []
        where
          by : (n : ℕ) (st vs : List Value) → Keeps waiting w (popped n st vs (λ vs rest. bind (given ops deleting line i calls env vs w) (λ v. next 0 (v ∷ rest) env)) w)
          by zero st vs = then_keeps w _ _ (given_keeps line i env vs w) (λ v w1. on 0 (v ∷ st) env w1)
          by (suc n) [] vs = record { holds = refl }
          by (suc n) (v ∷ st) vs = by n st (v ∷ vs)

      -- each `go` here speaks of the world that the instruction began in
      taken_keeps : (n : ℕ) (st vs : List Value) (w : W) (go : List Value → List Value → Run W Value) → ((us rest : List Value) → Keeps waiting w (go us rest)) → Keeps waiting w (popped n st vs go w)
      taken_keeps zero st vs w go h = h vs st
      taken_keeps (suc n) [] vs w go h = record { holds = refl }
      taken_keeps (suc n) (v ∷ st) vs w go h = taken_keeps n st (v ∷ vs) w go h

      act_keeps : (line : ℕ) (i : Instruction) (st env : List Value) (w : W) → Keeps waiting w (act ops deleting (record { line = line; instruction = i }) calls next again st env w)
      act_keeps line (To.number s n) st env w = value_keeps line (To.number s n) st env w
      act_keeps line (To.null ty) st env w = value_keeps line (To.null ty) st env w
      act_keeps line (To.global g) st env w = value_keeps line (To.global g) st env w
      act_keeps line (To.get x) st env w = value_keeps line (To.get x) st env w
      act_keeps line (To.set x ty) st env w = taken_keeps 1 st [] w _ (λ vs rest. on 0 rest _ w)
      act_keeps line (To.arithmetic operator s) st env w = value_keeps line (To.arithmetic operator s) st env w
      act_keeps line (To.unary operator s) st env w = value_keeps line (To.unary operator s) st env w
      act_keeps line To.zero_test st env w = value_keeps line To.zero_test st env w
      act_keeps line (To.null_test ty) st env w = value_keeps line (To.null_test ty) st env w
      act_keeps line (To.same ty) st env w = value_keeps line (To.same ty) st env w
      act_keeps line (To.convert to) st env w = value_keeps line (To.convert to) st env w
      act_keeps line (To.move ty s direction) st env w = value_keeps line (To.move ty s direction) st env w
      act_keeps line (To.load a) st env w = value_keeps line (To.load a) st env w
      act_keeps line (To.store a) st env w =
          taken_keeps (suc (width a)) st [] w (λ vs rest. bind (ops.store line (To.target_of a a.shift vs) (kept a.cell (To.last_of vs)) w) (λ _. next 0 rest env))
          (λ vs rest. then_keeps w _ _ (waits.store line (To.target_of a a.shift vs) (kept a.cell (To.last_of vs)) w) (λ x w1. on 0 rest env w1))
      act_keeps line To.new_region st env w = value_keeps line To.new_region st env w
      act_keeps line To.new_subregion st env w = value_keeps line To.new_subregion st env w
      act_keeps line (To.region_of ty) st env w = value_keeps line (To.region_of ty) st env w
      act_keeps line (To.allocate ty layout) st env w = value_keeps line (To.allocate ty layout) st env w
      act_keeps line (To.allocate_array ty layout) st env w = value_keeps line (To.allocate_array ty layout) st env w
      act_keeps line (To.delete pins) st env w = taken_keeps 1 st [] w _ (λ vs rest. then_keeps w _ _ (waits.delete line _ _ w) (λ x w1. on 0 rest env w1))
      act_keeps line (To.call f tys pins) st env w = value_keeps line (To.call f tys pins) st env w
      act_keeps line (To.perform f tys pins) st env w = taken_keeps (length tys) st [] w _ (λ vs rest. then_keeps w _ _ (given_keeps line (To.call f tys pins) env vs w) (λ x w1. on 0 rest env w1))
      act_keeps line (To.leave tys) st env w = taken_keeps (length tys) st [] w _ (λ vs rest. record { holds = refl })
      act_keeps line To.putchar st env w = value_keeps line To.putchar st env w
      act_keeps line To.getchar st env w = value_keeps line To.getchar st env w
      act_keeps line (To.jump n) st env w = on n st env w
      act_keeps line (To.jump_zero n) st env w =
          taken_keeps 1 st [] w (λ vs rest. branching (is_true (To.nth_operand vs 0)) (next 0 rest env) (next n rest env) w) (λ vs rest. branch_keeps (is_true (To.nth_operand vs 0)) (next 0 rest env) (next n rest env) w (on 0 rest env w) (on n rest env w))
      act_keeps line (To.back to) st env w = then_keeps w _ _ (waits.take_turn w) (λ x w1. back to st env w1)
      act_keeps line To.pop st env w = taken_keeps 1 st [] w _ (λ vs rest. on 0 rest env w)

    walk_keeps : (code : List Line) (again : Onward W) → KeepsOn again → KeepsOn (walk ops deleting code calls again)
    walk_keeps [] again back n st env w = record { holds = refl }
    walk_keeps (i ∷ code) again back (suc n) st env w = walk_keeps code again back n st env w
    walk_keeps (i ∷ code) again back zero st env w = act_keeps (walk ops deleting code calls again) again (walk_keeps code again back) back i.line i.instruction st env w

    run_keeps : (code : List Line) (n : ℕ) → KeepsOn (run_code ops deleting code calls n)
    run_keeps code zero to st env w = record { holds = tt }
    run_keeps code (suc n) to st env w = walk_keeps code (run_code ops deleting code calls n) (run_keeps code n) to st env w

    function_keeps : (f : Option StackFunction) (vs : List Value) (w : W) → Keeps waiting w (run_function ops deleting calls f vs w)
    function_keeps None vs w = record { holds = refl }
    function_keeps (Some f) vs w = run_keeps f.code (suc (ops.turns_left w)) 0 [] (sized f.locals vs) w

  pub calls_keep : (fs : List StackFunction) (n : ℕ) → KeepCalls (stack_calls ops deleting fs n)
  calls_keep fs zero f vs w = record { holds = tt }
  calls_keep fs (suc n) f vs w = then_keeps w _ _ (waits.take_turn w) (λ x w1. function_keeps (stack_calls ops deleting fs n) (calls_keep fs n) (slice_get fs f) vs w1)
