-- Facts hold along the steps of expressions.
use Rattle.std.proofs.Common.{◌≡◌, ℕ, suc, ◌+◌, ◌<◌, Bool, true, false, List, get_or, refl, sym, ◌∙◌, subst, arith}
use Rattle.rc_core.specs.Types.{Ty}
use Rattle.rc_core.specs.Heap.{Value, Number, Null}
use Rattle.rc_core.specs.Runs.{Run, Go, bind}
use Rattle.rc_core.specs.Evaluation.{number_in, toward}
use Rattle.rc_core.specs.Source.{World, source}
use Rattle.std.specs.Prelude.{pos}
use Rattle.rc_safety.proofs.Made.{live_is_made}
use Rattle.rc_rlang.specs.RegionCode.{Operation, Step, set, fork, Steps, none, more, Code}
use Rattle.rc_rlang.specs.RegionCode as Code
use Rattle.rc_rlang.specs.RegionPoints.{step_points, steps_points}
use Rattle.rc_rlang.specs.RegionLive.{before_steps}
use Rattle.rc_rlang.specs.RegionRuns.{Temporaries, temporary, with_temporary, target_at, holds, step_run, steps_run}
use Rattle.rc_rlang.specs.RegionFlow.{nothing, nulled, moved, fixed, beside, made, under, loaded, looked_at, is_regional, note_in, one_of, first_of, local_variable, operation_effect, yes_effect, no_effect, step_nodes, steps_nodes}
use Rattle.rc_annotations.specs.Holding.{is_present}
use Rattle.rc_annotations.specs.Worlds.{Loaded}
use Rattle.rc_along.specs.Along.{Stand, RightOperation, RightStep, RightSteps, StepMeets, StepsMeet}
use Rattle.rc_annotations.proofs.Variables as V
use Rattle.rc_annotations.proofs.WorldFacts.{Goes, goes_bind, goes_more, goes_both, goes_branching, gives, stays_itself, stays_heap, step_says, new_region_says, new_subregion_says, allocate_says, load_says}
use Rattle.rc_along.proofs.Naming.{load_named}
use Rattle.rc_annotations.proofs.Nodes.{step_count, steps_count}
use Rattle.rc_along.proofs.Standing.{stand_left, stand_right, positive}
use Rattle.rc_along.proofs.Settings.{Setting, Calling}
use Rattle.rc_along.proofs.Crossing.{n, all, temp_at, At, Leads, leads, cross, keep_values, regional_temp, sets, Counts, keeps, says_null, says_static, says_copy, says_beside, says_made, says_under, says_loaded, kind_regional, kind_numeric, says_yes, says_no, old_local, local_made, temp_made, Only, computed_says, region_named_says, get_byte_says, target_pointer, counts}
use Rattle.rc_along.proofs.CallsPass.{call_good}

module _ (frame : Setting) (around : Calling frame) where
  open frame use {r, temporaries, a, c, g, f, there, copied, whole, heap0}
  open around use {deleting, calls, inside, keeps_calls}

  abbrev pub Steps_to : ℕ → ℕ → (line h : ℕ) → Ty → Operation → (ℕ → Bool) → List Value → Temporaries → World → Type 0
  Steps_to p to line h ty op live env t w = Goes (At frame to env) (step_run source deleting f.locals (set line h ty op) calls live env t w)

  pub set_good : (p to line h : ℕ) (ty : Ty) (op : Operation) (live : ℕ → Bool) (env : List Value) (t : Temporaries) (w : World) → h < (n frame) → RightOperation r f (n frame) h ty op → Leads frame p (operation_effect f h ty op) to → At frame p env t w → StepMeets deleting f calls inside (set line h ty op) live env t w → Steps_to p to line h ty op live env t w
  set_good p to line h ty (Code.constant sign k) live env t w lt right l good meets = counts frame p to ty h _ env t w right l good (gives (Only frame w) (Number k) w (stays_itself w good.sane))
  set_good p to line h ty Code.null live env t w lt right l good meets = sets frame p to (nulled (temp_at frame h)) ty h _ env t w right refl l good (says_null frame env t w h good.sane)
  set_good p to line h ty (Code.static object) live env t w lt right l good meets = sets frame p to (fixed (temp_at frame h)) ty h _ env t w right refl l good (says_static frame env t w h object good.sane (live_is_made w.heap 0 good.sane.sound.root))
  set_good p to line h ty (Code.copy x) live env t w lt right l good meets = by (is_regional ty) refl l
    where
      by : (b : Bool) → is_regional ty ≡ b → Leads frame p (one_of b (moved (temp_at frame h) (local_variable f x)) nothing) to → Goes (At frame to env) (bind (Go (get_or env x Null) w) (λ v w1. Go (with_temporary ty t h v) w1))
      by true e l = sets frame p to (moved (temp_at frame h) (local_variable f x)) ty h (Go (get_or env x Null) w) env t w (kind_regional frame ty e) refl l good (says_copy frame env t w h (local_variable f x) (get_or env x Null) good.sane (old_local frame env t (get_or env x Null) x (right ∙ e)) (local_made frame p env t w x good (right ∙ e)))
      by false e l = counts frame p to ty h (Go (get_or env x Null) w) env t w (kind_numeric frame ty e) l good (gives (Only frame w) (get_or env x Null) w (stays_itself w good.sane))
  set_good p to line h ty (Code.load acc) live env t w lt right l good meets = by (is_regional ty) refl l
    where
      m : Run World Value
      m = source.load line (target_at acc t h) w

      at_s : (target_at acc t h).pointer ≡ t.regions h
      at_s = target_pointer frame acc t h

      by : (b : Bool) → is_regional ty ≡ b → Leads frame p (one_of b (loaded (temp_at frame h) (temp_at frame h) (note_in acc.cell)) (looked_at (temp_at frame h))) to → Goes (At frame to env) (bind m (λ v w1. Go (with_temporary ty t h v) w1))
      by true e l = sets frame p to (loaded (temp_at frame h) (temp_at frame h) (note_in acc.cell)) ty h m env t w (kind_regional frame ty e) refl l good (says_loaded frame env t w h h (note_in acc.cell) (target_at acc t h) m lt at_s (load_named line (target_at acc t h) (note_in acc.cell) w meets) (load_says line (target_at acc t h) w good.sane))
      by false e l = keeps frame p to (looked_at (temp_at frame h)) ty h m env t w (kind_numeric frame ty e) refl l good (λ v w1 q. subst is_present (sym (keep_values frame ty env t h v (kind_numeric frame ty e) (temp_at frame h))) q)
          (goes_more (Loaded w (target_at acc t h)) (Counts frame (looked_at (temp_at frame h)) env t w) m (λ v w1 b. (b.0, rw (V.temp_value f copied whole env t.regions h, ← at_s) b.2)) (load_says line (target_at acc t h) w good.sane))
  set_good p to line h ty (Code.step direction pointed k) live env t w lt right l good meets =
      sets frame p to (beside (temp_at frame h) (temp_at frame h)) ty h _ env t w right.0 refl l good (says_beside frame env t w h h _ lt (rw (regional_temp frame pointed t h right.1) (step_says line (t.regions h) (toward direction (number_in (temporary k t (suc h)))) w good.sane)))
  set_good p to line h ty (Code.step_from k pointed) live env t w lt right l good meets =
      sets frame p to (beside (temp_at frame h) (temp_at frame (suc h))) ty h _ env t w right.0 refl l good (says_beside frame env t w h (suc h) _ right.2 (rw (regional_temp frame pointed t (suc h) right.1) (step_says line (t.regions (suc h)) (number_in (temporary k t h)) w good.sane)))
  set_good p to line h ty (Code.unary operator sign) live env t w lt right l good meets = counts frame p to ty h _ env t w right l good (computed_says frame line _ w good.sane)
  set_good p to line h ty (Code.binary operator sign k) live env t w lt right l good meets = counts frame p to ty h _ env t w right l good (computed_says frame line _ w good.sane)
  set_good p to line h ty (Code.convert from aim) live env t w lt right l good meets = counts frame p to ty h _ env t w right l good (gives (Only frame w) _ w (stays_itself w good.sane))
  set_good p to line h ty (Code.not_zero of) live env t w lt right l good meets = counts frame p to ty h _ env t w right l good (gives (Only frame w) _ w (stays_itself w good.sane))
  set_good p to line h ty (Code.truth of) live env t w lt right l good meets = counts frame p to ty h _ env t w right l good (gives (Only frame w) _ w (stays_itself w good.sane))
  set_good p to line h ty (Code.is_null wanted of) live env t w lt right l good meets = counts frame p to ty h _ env t w right l good (gives (Only frame w) _ w (stays_itself w good.sane))
  set_good p to line h ty (Code.same wanted of) live env t w lt right l good meets = counts frame p to ty h _ env t w right l good (gives (Only frame w) _ w (stays_itself w good.sane))
  set_good p to line h ty (Code.call k tys) live env t w lt right l good meets = call_good frame deleting calls inside keeps_calls p to line h ty k tys live env t w lt right meets l good
  set_good p to line h ty Code.new_region live env t w lt right l good meets = sets frame p to (made (temp_at frame h)) ty h _ env t w right refl l good (says_made frame env t w h _ (new_region_says line w good.sane))
  set_good p to line h ty Code.new_subregion live env t w lt right l good meets = sets frame p to (under (temp_at frame h) (temp_at frame h)) ty h _ env t w right refl l good (says_under frame env t w h h _ lt (new_subregion_says line (t.regions h) w good.sane))
  set_good p to line h ty (Code.region_of of) live env t w lt right l good meets =
      sets frame p to (beside (temp_at frame h) (temp_at frame h)) ty h _ env t w right.0 refl l good (says_beside frame env t w h h _ lt (rw (regional_temp frame of t h right.1) (region_named_says frame line (t.regions h) w good.sane (temp_made frame p env t w h good))))
  set_good p to line h ty (Code.allocate made' layout) live env t w lt right l good meets =
      sets frame p to (beside (temp_at frame h) (temp_at frame h)) ty h _ env t w right refl l good (says_beside frame env t w h h _ lt (allocate_says line (t.regions h) (pos 1) layout w good.sane))
  set_good p to line h ty (Code.allocate_array made' layout) live env t w lt right l good meets =
      sets frame p to (beside (temp_at frame h) (temp_at frame h)) ty h _ env t w right refl l good (says_beside frame env t w h h _ lt (allocate_says line (t.regions h) (number_in (t.numbers (suc h))) layout w good.sane))
  set_good p to line h ty Code.putchar live env t w lt right l good meets = counts frame p to ty h _ env t w right l good (gives (Only frame w) _ _ (stays_heap w _ good.sane refl))
  set_good p to line h ty Code.getchar live env t w lt right l good meets = counts frame p to ty h _ env t w right l good (get_byte_says frame w.input w good.sane)

  pub steps_first : (x : Step) (rest : Steps) (here next : ℕ) → first_of (step_points x + steps_points rest) here next ≡ here
  steps_first (set line h ty op) rest here next = positive (1 + steps_points rest) here next (omega arith)
  steps_first (fork line h test result x y) rest here next = positive (1 + steps_points x + steps_points y + steps_points rest) here next (omega arith)

  mutual
    pub step_good : (x : Step) (here next : ℕ) (live : ℕ → Bool) (env : List Value) (t : Temporaries) (w : World) → Stand (all frame) here (step_nodes f x here next) → RightStep r f (n frame) x → StepMeets deleting f calls inside x live env t w → At frame here env t w → Goes (At frame next env) (step_run source deleting f.locals x calls live env t w)
    step_good (set line h ty op) here next live env t w st right meets good = set_good here next line h ty op live env t w right.0 right.1 (leads frame here (operation_effect f h ty op) next st.0) good meets
    step_good (fork line h test result x y) here next live env t w st right meets good =
        let at_y = suc here + steps_points x in
        goes_branching (At frame next env) (holds test (temporary test t h)) (steps_run source deleting f.locals x calls live env t) (steps_run source deleting f.locals y calls live env t) w
        (λ e. let q = says_yes frame env t w test h meets.0 (λ i. e) in
        (steps_good x (suc here) next live env t w (stand_left (all frame) (suc here) (steps_nodes f x (suc here) next) (steps_nodes f y at_y next) st.1) right.1 (meets.1 e)
        (cross frame here (first_of (steps_points x) (suc here) next) (yes_effect f test h) env env t t w w (record { node = _; e = 0; at = st.0; edge = refl }) good (stays_itself w good.sane) refl (λ u. refl) q.0 q.1)))
        (λ e. let q = says_no frame env t w test h (λ i. e) in
        (steps_good y at_y next live env t w (stand_right (all frame) (suc here) at_y (steps_nodes f x (suc here) next) (steps_nodes f y at_y next) (let k = steps_count f x (suc here) next in omega (arith, k)) st.1) right.2 (meets.2 e)
        (cross frame here (first_of (steps_points y) at_y next) (no_effect f test h) env env t t w w (record { node = _; e = 1; at = st.0; edge = refl }) good (stays_itself w good.sane) refl (λ u. refl) q.0 q.1)))

    pub steps_good : (x : Steps) (here next : ℕ) (live : ℕ → Bool) (env : List Value) (t : Temporaries) (w : World) → Stand (all frame) here (steps_nodes f x here next) → RightSteps r f (n frame) x → StepsMeet deleting f calls inside x live env t w → At frame (first_of (steps_points x) here next) env t w → Goes (At frame next env) (steps_run source deleting f.locals x calls live env t w)
    steps_good none here next live env t w st right meets good = gives (At frame next env) t w good
    steps_good (more x rest) here next live env t w st right meets good =
        let at_rest = here + step_points x in
        let to = first_of (steps_points rest) at_rest next in
        goes_bind (λ t1 w1. At frame to env t1 w1 × StepsMeet deleting f calls inside rest live env t1 w1) (At frame next env) (step_run source deleting f.locals x calls (before_steps rest live) env t w) (steps_run source deleting f.locals rest calls live env)
        (goes_both (At frame to env) (λ t1 w1. StepsMeet deleting f calls inside rest live env t1 w1) (step_run source deleting f.locals x calls (before_steps rest live) env t w)
        (step_good x here to (before_steps rest live) env t w (stand_left (all frame) here (step_nodes f x here to) (steps_nodes f rest at_rest next) st) right.0 meets.0 (subst (λ p. At frame p env t w) (steps_first x rest here next) good))
        (record { holds = meets.1 }))
        (λ t1 w1 q. steps_good rest at_rest next live env t1 w1 (stand_right (all frame) here at_rest (step_nodes f x here to) (steps_nodes f rest at_rest next) (let k = step_count f x here to in omega (arith, k)) st) right.1 q.1 q.0)
