-- No run of region code makes turns.
use Rattle.std.proofs.Common.{◌<◌, ◌≤◌, ℕ, zero, suc, ℤ, Bool, true, false, ◌||◌, ◌&&◌, List, [], ◌∷◌, Option, Some, None, arith}
use Rattle.std.specs.Prelude.{Result, Ok, Err, is_some, slice_get}
use Rattle.rc_base.specs.declared.ends.Trap.{Trap}
use Rattle.rc_core.specs.declared.stmt.Change.{Change}
use Rattle.rc_core.specs.declared.stmt.Change.TheVariants.{Compute, Step as Stepping}
use Rattle.rc_core.specs.Types.{Ty}
use Rattle.rc_core.specs.Layout.{Layout}
use Rattle.rc_core.specs.Heap.{Value, Number, Null, Handle, Pointer}
use Rattle.rc_core.specs.Live.{Ways, then_live, round, at_end}
use Rattle.rc_core.specs.Runs.{Stop, Run, Go, Stopped, bind, branching, computed, Target, Calls, Ops}
use Rattle.rc_core.specs.Laws.{IfGoes}
use Rattle.rc_emission.specs.Turns.{Within, Turning, CallsWithin}
use Rattle.rc_core.specs.Evaluation.{region_named, number_in}
use Rattle.rc_core.specs.Arithmetic.{type_of, calculate, calculate_one}
use Rattle.rc_rlang.specs.RegionCode as From
use Rattle.rc_rlang.specs.RegionCode.{Access, Operation, Step, Steps, set, fork, none, more, Act, Test, Code, simple, clear, block, branch, loop, repeat, break, continue, Codes, done, then, Routine, Rlang}
use Rattle.rc_rlang.specs.RegionRuns.{holds, Temporaries, temporary, right_number, convert_value, blank_temporaries, Way, Next, Broke, Continued, Returned, behind, behind_body, test_value, deletes, sized, operation_value, step_run, steps_run, cells_moved, new_value, act_run, rounds, rounds_first, code_run, codes_run, result_of, run_routine, calls_within}
use Rattle.rc_rlang.specs.RegionLive.{before_steps, before_act, before_code, before_codes, loop_head, repeat_tail}

pub goes_bind : {W A B : Type 0} (P : A → W → Type 0) (Q : B → W → Type 0) (m : Run W A) (f : A → W → Run W B) → IfGoes P m → ((x : A) (w : W) → P x w → IfGoes Q (f x w)) → IfGoes Q (bind m f)
goes_bind P Q (Go x w) f h k = k x w h
goes_bind P Q (Stopped e w) f h k = tt

pub stays : {W A : Type 0} (ops : Ops W) (b : ℕ) (x : A) (w : W) → ops.turns_left w ≤ b → Within ops b (Go x w)
stays ops b x w le = record { holds = le }

pub ends : {W A : Type 0} (ops : Ops W) (b : ℕ) (e : Stop) (w : W) → Within {A = A} ops b (Stopped e w)
ends ops b e w = record { holds = tt }

module _ {W : Type 0} (ops : Ops W) (turning : Turning ops) where
  computed_within : {A : Type 0} (line : ℕ) (r : Result A Trap) (w : W) (b : ℕ) → ops.turns_left w ≤ b → Within ops b (computed line r w)
  computed_within line (Ok x) w b h = stays ops b x w h
  computed_within line (Err t) w b h = record { holds = tt }

  number_within : (line : ℕ) (r : Result ℤ Trap) (g : ℤ → Value) (w : W) (b : ℕ) → ops.turns_left w ≤ b → Within ops b (bind (computed line r w) (λ n w1. Go (g n) w1))
  number_within line (Ok x) g w b h = record { holds = h }
  number_within line (Err t) g w b h = record { holds = tt }

  named_within : (line : ℕ) (v : Value) (w : W) (b : ℕ) → ops.turns_left w ≤ b → Within ops b (region_named line v w)
  named_within line (Number n) w b h = record { holds = tt }
  named_within line Null w b h = record { holds = tt }
  named_within line (Handle r) w b h = record { holds = h }
  named_within line (Pointer a) w b h = record { holds = h }

  branch_within : {A : Type 0} (c : Bool) (l r : W → Run W A) (w : W) (b : ℕ) → Within ops b (l w) → Within ops b (r w) → Within ops b (branching c l r w)
  branch_within true l r w b hy hn = hy
  branch_within false l r w b hy hn = hn

  next_within : {A B : Type 0} (b : ℕ) (m : Run W A) (f : A → W → Run W B) → Within ops b m → ((x : A) (w : W) → ops.turns_left w ≤ b → Within ops b (f x w)) → Within ops b (bind m f)
  next_within b (Go x w) f h k = k x w h.holds
  next_within b (Stopped e w) f h k = record { holds = tt }

  turned : {A : Type 0} (b : ℕ) (m : Run W (Unit {0})) (f : Unit {0} → W → Run W A) → IfGoes (λ _ w1. ops.turns_left w1 < b) m → ((x : Unit {0}) (w : W) → ops.turns_left w < b → Within ops b (f x w)) → Within ops b (bind m f)
  turned b (Go x w) f h k = k x w h
  turned b (Stopped e w) f h k = record { holds = tt }

  module _ (deleting : ℕ → Bool) (types : List Ty) (calls : Calls W) (calls_fine : CallsWithin ops calls) where
    entered_within : (f : ℕ) (held vs : List Value) (w : W) (b : ℕ) → ops.turns_left w ≤ b → Within ops b (bind (calls f vs (ops.enter held w)) (λ v w2. Go v (ops.leave w w2)))
    entered_within f held vs w b h =
        let e = turning.enter held w in
        next_within b (calls f vs (ops.enter held w)) _ (calls_fine f vs (ops.enter held w) b (omega (arith, h, e))) (λ v w2 h2. let l = turning.leave w w2 in record { holds = omega (arith, h2, l) })

    pub operation_within : (line : ℕ) (op : Operation) (live : ℕ → Bool) (env : List Value) (t : Temporaries) (h : ℕ) (w : W) (b : ℕ) → ops.turns_left w ≤ b → Within ops b (operation_value ops deleting types line op calls live env t h w)
    operation_within line (From.constant s n) live env t h w b le = record { holds = le }
    operation_within line From.null live env t h w b le = record { holds = le }
    operation_within line (From.static g) live env t h w b le = record { holds = le }
    operation_within line (From.copy x) live env t h w b le = record { holds = le }
    operation_within line (From.load a) live env t h w b le = turning.load line _ w b le
    operation_within line (From.step direction pointed n) live env t h w b le = turning.step line _ _ w b le
    operation_within line (From.step_from n pointed) live env t h w b le = turning.step line _ _ w b le
    operation_within line (From.unary operator s) live env t h w b le = number_within line (calculate_one operator s (number_in (t.numbers h))) (λ n. Number n) w b le
    operation_within line (From.binary operator s right) live env t h w b le = number_within line (calculate operator s (number_in (t.numbers h)) (right_number operator right (temporary right t (suc h)))) (λ n. Number n) w b le
    operation_within line (From.convert from to) live env t h w b le = record { holds = le }
    operation_within line (From.not_zero of) live env t h w b le = record { holds = le }
    operation_within line (From.truth of) live env t h w b le = record { holds = le }
    operation_within line (From.is_null wanted of) live env t h w b le = record { holds = le }
    operation_within line (From.same wanted of) live env t h w b le = record { holds = le }
    operation_within line (From.call f tys) live env t h w b le = branch_within (deleting f) _ _ w b (entered_within f _ _ w b le) (calls_fine f _ w b le)
    operation_within line From.new_region live env t h w b le = turning.new_region line w b le
    operation_within line From.new_subregion live env t h w b le = turning.new_subregion line _ w b le
    operation_within line (From.region_of of) live env t h w b le = named_within line _ w b le
    operation_within line (From.allocate made layout) live env t h w b le = turning.allocate line _ _ layout w b le
    operation_within line (From.allocate_array made layout) live env t h w b le = turning.allocate line _ _ layout w b le
    operation_within line From.putchar live env t h w b le = next_within b _ _ (turning.put_byte _ w b le) (λ _ w1 h1. record { holds = h1 })
    operation_within line From.getchar live env t h w b le = next_within b _ _ (turning.get_byte w b le) (λ n w1 h1. record { holds = h1 })

    mutual
      pub steps_within : (s : Steps) (live : ℕ → Bool) (env : List Value) (t : Temporaries) (w : W) (b : ℕ) → ops.turns_left w ≤ b → Within ops b (steps_run ops deleting types s calls live env t w)
      steps_within none live env t w b le = record { holds = le }
      steps_within (more s rest) live env t w b le = next_within b _ _ (step_within s (before_steps rest live) env t w b le) (λ t1 w1 h1. steps_within rest live env t1 w1 b h1)

      pub step_within : (s : Step) (live : ℕ → Bool) (env : List Value) (t : Temporaries) (w : W) (b : ℕ) → ops.turns_left w ≤ b → Within ops b (step_run ops deleting types s calls live env t w)
      step_within (set line h ty op) live env t w b le = next_within b _ _ (operation_within line op live env t h w b le) (λ v w1 h1. record { holds = h1 })
      step_within (fork line h ty to l r) live env t w b le = branch_within (holds ty (temporary ty t h)) (steps_run ops deleting types l calls live env t) (steps_run ops deleting types r calls live env t) w b (steps_within l live env t w b le) (steps_within r live env t w b le)

    pub cells_within : (line h : ℕ) (kinds : Layout) (from to : Target) (t : Temporaries) (w : W) (b : ℕ) → ops.turns_left w ≤ b → Within ops b (cells_moved ops deleting types line h kinds from to t w)
    cells_within line h [] from to t w b le = record { holds = le }
    cells_within line h (kind ∷ kinds) from to t w b le =
        next_within b _ _ (turning.load line _ w b le) (λ v w1 h1. next_within b _ _ (turning.store line _ _ w1 b h1) (λ _ w2 h2. cells_within line h kinds _ _ _ w2 b h2))

    pub new_within : (line : ℕ) (change : Change) (ty : Ty) (old operand : Value) (w : W) (b : ℕ) → ops.turns_left w ≤ b → Within ops b (new_value ops deleting types line change ty old operand w)
    new_within line (Compute from operator s) ty old v w b le = number_within line (calculate operator s (number_in (convert_value from (type_of s) old)) (right_number operator ty v)) (λ n. convert_value (type_of s) from (Number n)) w b le
    new_within line (Stepping direction) ty old v w b le = turning.step line _ _ w b le

    pub act_within : (act : Act) (live : ℕ → Bool) (env : List Value) (t : Temporaries) (w : W) (b : ℕ) → ops.turns_left w ≤ b → Within ops b (act_run ops deleting types act calls live env t w)
    act_within From.drop live env t w b le = record { holds = le }
    act_within (From.perform line f tys) live env t w b le = next_within b _ _ (operation_within line (From.call f tys) live env t 0 w b le) (λ _ w1 h1. record { holds = h1 })
    act_within (From.assign line x ty) live env t w b le = record { holds = le }
    act_within (From.store line a) live env t w b le = next_within b _ _ (turning.store line _ _ w b le) (λ _ w1 h1. record { holds = h1 })
    act_within (From.update line a change ty) live env t w b le =
        next_within b _ _ (turning.load line _ w b le) (λ old w1 h1. next_within b _ _ (new_within line change ty old _ w1 b h1) (λ new w2 h2. next_within b _ _ (turning.store line _ _ w2 b h2) (λ _ w3 h3. record { holds = h3 })))
    act_within (From.move line cells left right) live env t w b le = next_within b _ _ (cells_within line _ cells _ _ t w b le) (λ _ w1 h1. record { holds = h1 })
    act_within (From.delete line) live env t w b le = next_within b _ _ (turning.delete line _ _ w b le) (λ _ w1 h1. record { holds = h1 })
    act_within (From.leave line result) live env t w b le = record { holds = le }

    abbrev Fine : ℕ → (List Value → Temporaries → W → Run W Way) → Type 0
    Fine b go = (env : List Value) (t : Temporaries) (w : W) → ops.turns_left w ≤ b → Within ops b (go env t w)

    behind_within : (b : ℕ) (go : List Value → Temporaries → W → Run W Way) → Fine b go → (way : Way) (w : W) → ops.turns_left w ≤ b → Within ops b (behind go way w)
    behind_within b go f (Next env t) w le = f env t w le
    behind_within b go f (Broke env t) w le = record { holds = le }
    behind_within b go f (Continued env t) w le = record { holds = le }
    behind_within b go f (Returned v) w le = record { holds = le }

    body_within : (b : ℕ) (go : List Value → Temporaries → W → Run W Way) → Fine b go → (way : Way) (w : W) → ops.turns_left w ≤ b → Within ops b (behind_body go way w)
    body_within b go f (Next env t) w le = f env t w le
    body_within b go f (Broke env t) w le = record { holds = le }
    body_within b go f (Continued env t) w le = f env t w le
    body_within b go f (Returned v) w le = record { holds = le }

    turn_within : (b : ℕ) (go : List Value → Temporaries → W → Run W Way) → Fine b go → Fine b (λ env t w. bind (ops.take_turn w) (λ _ w1. go env t w1))
    turn_within b go f env t w le = turned b (ops.take_turn w) _ (turning.take_turn w b le) (λ _ w1 lt. f env t w1 (omega (arith, lt)))

    rounds_within : (n : ℕ) (head : List Value → Temporaries → W → Run W Temporaries) (test : Option Test) (body : (List Value → Temporaries → W → Run W Way) → List Value → Temporaries → W → Run W Way) (b : ℕ) →
        ((env : List Value) (t : Temporaries) (w : W) → ops.turns_left w ≤ b → Within ops b (head env t w)) → ((go : List Value → Temporaries → W → Run W Way) → Fine b go → Fine b (body go)) → Fine b (rounds ops deleting types n head test body)
    rounds_within zero head test body b hh hb env t w le = record { holds = tt }
    rounds_within (suc n) head test body b hh hb env t w le =
        next_within b (head env t w) _ (hh env t w le) (λ t1 w1 h1. branch_within (test_value test t1) (body (λ env2 t2 w2. bind (ops.take_turn w2) (λ _ w3. rounds ops deleting types n head test body env2 t2 w3)) env t1) (λ w1. Go (Next env t1) w1) w1 b (hb _ (turn_within b (rounds ops deleting types n head test body) (rounds_within n head test body b hh hb)) env t1 w1 h1) (record { holds = h1 }))

    first_within : (n : ℕ) (tail : List Value → Temporaries → W → Run W Temporaries) (test : Option Test) (body : (List Value → Temporaries → W → Run W Way) → List Value → Temporaries → W → Run W Way) (b : ℕ) →
        ((env : List Value) (t : Temporaries) (w : W) → ops.turns_left w ≤ b → Within ops b (tail env t w)) → ((go : List Value → Temporaries → W → Run W Way) → Fine b go → Fine b (body go)) → Fine b (rounds_first ops deleting types n tail test body)
    first_within zero tail test body b ht hb env t w le = record { holds = tt }
    first_within (suc n) tail test body b ht hb env t w le =
        hb (λ env1 t1 w1. bind (tail env1 t1 w1) (λ t2. branching (test_value test t2) (λ w2. bind (ops.take_turn w2) (λ _ w3. rounds_first ops deleting types n tail test body env1 t2 w3)) (Go (Next env1 t2))))
        (λ env1 t1 w1 h1. next_within b (tail env1 t1 w1) _ (ht env1 t1 w1 h1) (λ t2 w2 h2. branch_within (test_value test t2) (λ w2. bind (ops.take_turn w2) (λ _ w3. rounds_first ops deleting types n tail test body env1 t2 w3)) (λ w2. Go (Next env1 t2) w2) w2 b (turn_within b (rounds_first ops deleting types n tail test body) (first_within n tail test body b ht hb) env1 t2 w2 h2) (record { holds = h2 }))) env t w le

    mutual
      pub code_within : (c : Code) (k : Ways) (env : List Value) (t : Temporaries) (w : W) (b : ℕ) → ops.turns_left w ≤ b → Within ops b (code_run ops deleting types c calls k env t w)
      code_within (simple steps act) k env t w b le = next_within b _ _ (steps_within steps (before_act act k.next) env t w b le) (λ t1 w1 h1. act_within act k.next env t1 w1 b h1)
      code_within (clear line x ty) k env t w b le = record { holds = le }
      code_within (block codes) k env t w b le = codes_within codes k env t w b le
      code_within (branch steps test l r) k env t w b le =
          next_within b _ _ (steps_within steps _ env t w b le) (λ t1 w1 h1. branch_within (test_value (Some test) t1) (code_run ops deleting types l calls k env t1) (code_run ops deleting types r calls k env t1) w1 b (code_within l k env t1 w1 b h1) (code_within r k env t1 w1 b h1))
      code_within (loop line steps test third a) k env t w b le =
          rounds_within (suc (ops.turns_left w)) (steps_run ops deleting types steps calls (λ y. (is_some test && k.next y) || before_code a (round (before_code third (then_live (loop_head steps test third a k) k)) k) y)) test _ b (λ env1 t1 w1 h1. steps_within steps (λ y. (is_some test && k.next y) || before_code a (round (before_code third (then_live (loop_head steps test third a k) k)) k) y) env1 t1 w1 b h1)
          (λ go f env1 t1 w1 h1. next_within b _ _ (code_within a (round (before_code third (then_live (loop_head steps test third a k) k)) k) env1 t1 w1 b h1) (body_within b _ (λ env2 t2 w2 h2. next_within b _ _ (code_within third (then_live (loop_head steps test third a k) k) env2 t2 w2 b h2) (behind_within b go f)))) env t w le
      code_within (repeat line a steps test) k env t w b le =
          first_within (suc (ops.turns_left w)) (steps_run ops deleting types steps calls (λ y. k.next y || before_code (repeat 0 a steps test) k y)) (Some test) _ b (λ env1 t1 w1 h1. steps_within steps (λ y. k.next y || before_code (repeat 0 a steps test) k y) env1 t1 w1 b h1)
          (λ go f env1 t1 w1 h1. next_within b _ _ (code_within a (round (repeat_tail a steps test k) k) env1 t1 w1 b h1) (body_within b go f)) env t w le
      code_within (break line) k env t w b le = record { holds = le }
      code_within (continue line) k env t w b le = record { holds = le }

      pub codes_within : (cs : Codes) (k : Ways) (env : List Value) (t : Temporaries) (w : W) (b : ℕ) → ops.turns_left w ≤ b → Within ops b (codes_run ops deleting types cs calls k env t w)
      codes_within done k env t w b le = record { holds = le }
      codes_within (then c rest) k env t w b le = next_within b _ _ (code_within c (then_live (before_codes rest k) k) env t w b le) (behind_within b _ (λ env1 t1 w1 h1. codes_within rest k env1 t1 w1 b h1))

  result_within : (result : Option Ty) (way : Way) (w : W) (b : ℕ) → ops.turns_left w ≤ b → Within ops b (result_of result way w)
  result_within result (Next env t) w b le = record { holds = le }
  result_within result (Broke env t) w b le = record { holds = le }
  result_within result (Continued env t) w b le = record { holds = le }
  result_within result (Returned v) w b le = record { holds = le }

  routine_within : (deleting : ℕ → Bool) (calls : Calls W) → CallsWithin ops calls → (f : Option Routine) (vs : List Value) (w : W) (b : ℕ) → ops.turns_left w ≤ b → Within ops b (run_routine ops deleting calls f vs w)
  routine_within deleting calls fine None vs w b le = record { holds = le }
  routine_within deleting calls fine (Some f) vs w b le =
      next_within b _ _ (code_within deleting f.locals calls fine f.body at_end (sized f.locals vs) blank_temporaries w b le) (λ way w1 h1. result_within f.result way w1 b h1)

  pub all_within : (r : Rlang) (n : ℕ) → CallsWithin ops (calls_within ops r n)
  all_within r zero f vs w b le = record { holds = tt }
  all_within r (suc n) f vs w b le =
      turned b (ops.take_turn w) _ (turning.take_turn w b le) (λ _ w1 lt. routine_within (deletes r) (calls_within ops r n) (all_within r n) (slice_get r.functions f) vs w1 b (omega (arith, lt)))
