-- Steps and acts do the same where stores are left to `put`.
use Rattle.std.proofs.Common.{◌≡◌, ℕ, suc, ◌+◌, ◌<◌, Bool, true, false, List, [], ◌∷◌, length, Option, Some, None, refl, sym, ap, ◌∙◌, subst, arith}
use Rattle.std.specs.Prelude.{slice_get}
use Rattle.rc_core.specs.declared.ty.Note.{Note}
use Rattle.rc_core.specs.Types.{Ty, int, unsigned, char, region, struct, pointer}
use Rattle.rc_core.specs.Heap.{Value, Number, Null, parent, fits}
use Rattle.rc_core.specs.Runs.{Run, Go, Stopped, bind, branching, computed, Target}
use Rattle.rc_core.specs.Evaluation.{number_in, toward}
use Rattle.rc_core.specs.Source.{World, at_spot, source}
use Rattle.std.specs.Prelude.{ℤ, Result, Ok, Err}
use Rattle.rc_base.specs.declared.ends.Trap.{Trap}
use Rattle.rc_core.specs.declared.ty.Signedness.{Signedness}
use Rattle.rc_facts.specs.declared.fact.Fact.{Fact}
use Rattle.rc_rlang.specs.RegionCode.{numeric, regional, Access, width, Operation, Step, set, fork, Steps, none, more, Act, Code, Routine}
use Rattle.rc_rlang.specs.RegionCode as Code
use Rattle.rc_rlang.specs.RegionPoints.{step_points, steps_points, act_points}
use Rattle.rc_rlang.specs.RegionLive.{before_steps}
use Rattle.rc_rlang.specs.RegionRuns.{new_value, cells_moved, kept_cell, convert_value, right_number, Next, act_run, kept, held, Temporaries, temporary, with_temporary, set_kind, cell_kind, with_cell, target_at, holds, operation_value, step_run, steps_run, temporaries_from, kept_all}
use Rattle.rc_rlang.specs.RegionFlow.{Effect, looked_at, stored, called, Node, going, is_regional, is_regional_cell, note_in, one_of, first_of, operation_effect, yes_effect, no_effect, step_nodes, steps_nodes, regional_arguments, routine_nodes, Ends, act_nodes, in_line, cell_effects}
use Rattle.rc_annotations.specs.Holding.{region_in, AllHold}
use Rattle.rc_annotations.specs.Variables.{past}
use Rattle.rc_annotations.specs.Worlds.{Made, note_at}
use Rattle.rc_along.specs.Along.{Named, Stand, given_to, CallRight, RightOperation, RightStep, RightSteps, StepMeets, StepsMeet, RightAct, ActMeets, MoveMeets, CallMeets}
use Rattle.rc_annotations.specs.Annotations.{asked_of, asked_by}
use Rattle.rc_along.specs.MarkedRuns.{before_store, cells_marked, act_marked}
use Rattle.rc_along.specs.MarkedLaws.{Fits}
use Rattle.rc_core.specs.declared.ty.Note.TheVariants.{Plain, SameRegion, ParentPtr, Traditional}
use Rattle.rc_annotations.proofs.Truths.{asked_fits}
use Rattle.rc_annotations.proofs.Effects.{changed_there, changed_else, not_eq}
use Rattle.std.specs.Prelude.{◌*◌}
use Rattle.rc_core.specs.declared.ty.NumberType.{NumberType}
use Rattle.rc_core.specs.declared.ty.NumberType.TheVariants.{Int, Unsigned, Char}
use Rattle.rc_core.specs.declared.operators.Operator.{Operator}
use Rattle.rc_core.specs.declared.operators.Direction.{Direction}
use Rattle.rc_core.specs.declared.stmt.Change.TheVariants.{Compute, Step as Stepping}
use Rattle.rc_core.specs.Types.{CellKind, int_cell, unsigned_cell, char_cell, region_cell, pointer_cell}
use Rattle.rc_core.specs.Layout.{Layout, note_of}
use Rattle.rc_core.specs.Arithmetic.{calculate, type_of}
use Rattle.rc_core.specs.Laws.{IfGoes}
use Rattle.rc_annotations.proofs.Variables as V
use Rattle.rc_annotations.proofs.WorldFacts.{Goes, goes_more, goes_both, stays_itself}
use Rattle.rc_annotations.proofs.Nodes.{step_count, steps_count}
use Rattle.rc_along.proofs.Standing.{stand_left, stand_right, twin, twin_branch}
use Rattle.rc_along.proofs.Settings.{Setting, Calling, Marking}
use Rattle.rc_along.proofs.Crossing.{n, all, temp_at, vals, At, Leads, leads, cross, regional_temp, kind_regional, says_yes, says_no, target_pointer}
use Rattle.rc_along.proofs.CallsPass.{kept_whole, call_passes}
use Rattle.rc_along.proofs.StepsHold.{steps_first, step_good}
use Rattle.rc_along.proofs.ActsHold.{Ready, Held, ready_good, kind_else, stored_leads, Carried, carried_good, cell_there, cell_stored}

module _ (frame : Setting) (around : Calling frame) (marking : Marking frame around) where
  open frame use {r, temporaries, a, c, g, f, there, copied, whole, heap0}
  open around use {deleting, calls, inside, keeps_calls}
  open marking use {calls', put, trusting, marked, proven, calls_same}

  -- steps: only calls differ

  abbrev pub Calls_same : (line h k : ℕ) → List Ty → (ℕ → Bool) → List Value → Temporaries → World → Type 0
  Calls_same line h k tys live env t w = operation_value source deleting f.locals line (Code.call k tys) calls' live env t h w ≡ operation_value source deleting f.locals line (Code.call k tys) calls live env t h w

  pub call_same : (line h : ℕ) (ty : Ty) (k : ℕ) (tys : List Ty) (live : ℕ → Bool) (env : List Value) (t : Temporaries) (w : World) (p to : ℕ) (x : Option ℕ) → CallRight r f (n frame) h ty k tys → CallMeets deleting f calls inside k tys live env t h w
      → Leads frame p (called x k (regional_arguments f tys h)) to → At frame p env t w → Calls_same line h k tys live env t w
  call_same line h ty k tys live env t w p to x right meets l good = by (deleting k) refl
    where
      xs : List Value
      xs = kept_all tys (temporaries_from tys t h)

      entered : World
      entered = source.enter (held source deleting f.locals live env) w

      passes : (length xs ≡ right.callee.parameters) × ((i : ℕ) → Made w.heap (past (given_to right.callee xs) (λ i. Null) i)) × AllHold (a.entry k) (past (given_to right.callee xs) (λ i. Null)) w.heap
      passes = call_passes frame h ty k tys env t w p to x right l good

      by : (b : Bool) → deleting k ≡ b → branching b (λ w1. bind (calls' k xs (source.enter (held source deleting f.locals live env) w1)) (λ v w2. Go v (source.leave w1 w2))) (calls' k xs) w ≡ branching b (λ w1. bind (calls k xs (source.enter (held source deleting f.locals live env) w1)) (λ v w2. Go v (source.leave w1 w2))) (calls k xs) w
      by true e = ap (λ m. bind m (λ v w2. Go v (source.leave w w2))) (calls_same k right.callee xs entered right.found passes.0 (meets.0 e) (record { sound = good.sane.sound; rooted = good.sane.rooted }) passes.1 passes.2)
      by false e = calls_same k right.callee xs w right.found passes.0 (meets.1 e) good.sane passes.1 passes.2

  pub set_same : (p to line h : ℕ) (ty : Ty) (op : Operation) (live : ℕ → Bool) (env : List Value) (t : Temporaries) (w : World) → RightOperation r f (n frame) h ty op → Leads frame p (operation_effect f h ty op) to → At frame p env t w → StepMeets deleting f calls inside (set line h ty op) live env t w
      → step_run source deleting f.locals (set line h ty op) calls' live env t w ≡ step_run source deleting f.locals (set line h ty op) calls live env t w
  set_same p to line h ty (Code.call k tys) live env t w right l good meets = ap (λ m. bind m (λ v w1. Go (with_temporary ty t h v) w1)) (call_same line h ty k tys live env t w p to (one_of (is_regional ty) (Some (temp_at frame h)) None) right meets l good)
  set_same p to line h ty (Code.constant sign k) live env t w right l good meets = refl
  set_same p to line h ty Code.null live env t w right l good meets = refl
  set_same p to line h ty (Code.static object) live env t w right l good meets = refl
  set_same p to line h ty (Code.copy x) live env t w right l good meets = refl
  set_same p to line h ty (Code.load acc) live env t w right l good meets = refl
  set_same p to line h ty (Code.step direction pointed k) live env t w right l good meets = refl
  set_same p to line h ty (Code.step_from k pointed) live env t w right l good meets = refl
  set_same p to line h ty (Code.unary operator sign) live env t w right l good meets = refl
  set_same p to line h ty (Code.binary operator sign k) live env t w right l good meets = refl
  set_same p to line h ty (Code.convert from aim) live env t w right l good meets = refl
  set_same p to line h ty (Code.not_zero of) live env t w right l good meets = refl
  set_same p to line h ty (Code.truth of) live env t w right l good meets = refl
  set_same p to line h ty (Code.is_null wanted of) live env t w right l good meets = refl
  set_same p to line h ty (Code.same wanted of) live env t w right l good meets = refl
  set_same p to line h ty Code.new_region live env t w right l good meets = refl
  set_same p to line h ty Code.new_subregion live env t w right l good meets = refl
  set_same p to line h ty (Code.region_of of) live env t w right l good meets = refl
  set_same p to line h ty (Code.allocate made' layout) live env t w right l good meets = refl
  set_same p to line h ty (Code.allocate_array made' layout) live env t w right l good meets = refl
  set_same p to line h ty Code.putchar live env t w right l good meets = refl
  set_same p to line h ty Code.getchar live env t w right l good meets = refl

  mutual
    pub step_same : (x : Step) (here next : ℕ) (live : ℕ → Bool) (env : List Value) (t : Temporaries) (w : World) → Stand (all frame) here (step_nodes f x here next) → RightStep r f (n frame) x → StepMeets deleting f calls inside x live env t w → At frame here env t w
        → step_run source deleting f.locals x calls' live env t w ≡ step_run source deleting f.locals x calls live env t w
    step_same (set line h ty op) here next live env t w st right meets good = set_same here next line h ty op live env t w right.1 (leads frame here (operation_effect f h ty op) next st.0) good meets
    step_same (fork line h test result x y) here next live env t w st right meets good =
        let at_y = suc here + steps_points x in
        twin_branch (holds test (temporary test t h)) (steps_run source deleting f.locals x calls live env t) (steps_run source deleting f.locals x calls' live env t) (steps_run source deleting f.locals y calls live env t) (steps_run source deleting f.locals y calls' live env t) w
        (λ e. let q = says_yes frame env t w test h meets.0 (λ i. e) in
        steps_same x (suc here) next live env t w (stand_left (all frame) (suc here) (steps_nodes f x (suc here) next) (steps_nodes f y at_y next) st.1) right.1 (meets.1 e)
        (cross frame here (first_of (steps_points x) (suc here) next) (yes_effect f test h) env env t t w w (record { node = _; e = 0; at = st.0; edge = refl }) good (stays_itself w good.sane) refl (λ u. refl) q.0 q.1))
        (λ e. let q = says_no frame env t w test h (λ i. e) in
        steps_same y at_y next live env t w (stand_right (all frame) (suc here) at_y (steps_nodes f x (suc here) next) (steps_nodes f y at_y next) (let k = steps_count f x (suc here) next in omega (arith, k)) st.1) right.2 (meets.2 e)
        (cross frame here (first_of (steps_points y) at_y next) (no_effect f test h) env env t t w w (record { node = _; e = 1; at = st.0; edge = refl }) good (stays_itself w good.sane) refl (λ u. refl) q.0 q.1))

    pub steps_same : (x : Steps) (here next : ℕ) (live : ℕ → Bool) (env : List Value) (t : Temporaries) (w : World) → Stand (all frame) here (steps_nodes f x here next) → RightSteps r f (n frame) x → StepsMeet deleting f calls inside x live env t w → At frame (first_of (steps_points x) here next) env t w
        → steps_run source deleting f.locals x calls' live env t w ≡ steps_run source deleting f.locals x calls live env t w
    steps_same none here next live env t w st right meets good = refl
    steps_same (more x rest) here next live env t w st right meets good =
        let at_rest = here + step_points x in
        let to = first_of (steps_points rest) at_rest next in
        let m = step_run source deleting f.locals x calls (before_steps rest live) env t w in
        let first = subst (λ p. At frame p env t w) (steps_first frame around x rest here next) good in
        let left = stand_left (all frame) here (step_nodes f x here to) (steps_nodes f rest at_rest next) st in
        twin (λ t1 w1. At frame to env t1 w1 × StepsMeet deleting f calls inside rest live env t1 w1) m (step_run source deleting f.locals x calls' (before_steps rest live) env t w) (steps_run source deleting f.locals rest calls live env) (steps_run source deleting f.locals rest calls' live env)
        (step_same x here to (before_steps rest live) env t w left right.0 meets.0 first)
        (goes_both (At frame to env) (λ t1 w1. StepsMeet deleting f calls inside rest live env t1 w1) m (step_good frame around x here to (before_steps rest live) env t w left right.0 meets.0 first) (record { holds = meets.1 }))
        (λ t1 w1 q. steps_same rest at_rest next live env t1 w1 (stand_right (all frame) here at_rest (step_nodes f x here to) (steps_nodes f rest at_rest next) (let k = step_count f x here to in omega (arith, k)) st) right.1 q.1 q.0)

  -- stores
  pub put_same : (p line : ℕ) (tg : Target) (v : Value) (w : World) → (marked p ≡ true → Fits line tg v w) → put (marked p) line tg v w ≡ source.store line tg v w
  put_same p line tg v w k = by (marked p) refl
    where
      by : (b : Bool) → marked p ≡ b → put b line tg v w ≡ source.store line tg v w
      by true e = trusting.marked line tg v w (k e)
      by false e = trusting.unmarked line tg v w

  abbrev pub asked_at : Option Node → Option Fact
  asked_at None = None
  asked_at (Some node) = asked_by node

  pub asks_there : (p : ℕ) (effect : Effect) (to : ℕ) → slice_get (all frame) p ≡ Some (going effect to) → (m : marked p ≡ true) → asked_of effect ≡ Some (proven p m).fact
  asks_there p effect to at m =
      let q = proven p m in
      let own : q.routine ≡ f = some_is (sym q.there ∙ there) in
      ap asked_at (sym at ∙ (ap (λ (x : Routine). slice_get (routine_nodes x) p) (sym own) ∙ q.at_point)) ∙ q.asks
    where
      some_is : {x y : Routine} → Some x ≡ Some y → x ≡ y
      some_is e = cc

  pub stored_fits : (p to z : ℕ) (note : Note) (env : List Value) (s : Temporaries) (w : World) → slice_get (all frame) p ≡ Some (going (stored (temp_at frame z) (temp_at frame 0) note) to) → marked p ≡ true → At frame p env s w → fits (parent w.heap) note (region_in (s.regions 0)) (s.regions z) ≡ true
  stored_fits p to z note env s w at m good =
      let q = proven p m in
      subst (λ x. fits (parent w.heap) note (region_in x) (s.regions z) ≡ true) (V.temp_value f copied whole env s.regions 0)
      (subst (λ x. fits (parent w.heap) note (region_in (vals frame env s (temp_at frame 0))) x ≡ true) (V.temp_value f copied whole env s.regions z)
      (asked_fits note (temp_at frame z) (temp_at frame 0) q.fact (vals frame env s) w.heap (asks_there p (stored (temp_at frame z) (temp_at frame 0) note) to at m) (good.facts q.fact q.has)))

  pub fits_named : (line : ℕ) (tg : Target) (note : Note) (v : Value) (w : World) → Named line tg note w → fits (parent w.heap) note (region_in tg.pointer) v ≡ true → Fits line tg v w
  fits_named line tg note v w named fit = (goes_more (λ spot w1. note_at w.heap tg ≡ note) (λ spot w1. fits (parent w.heap) (note_at w.heap tg) (region_in tg.pointer) v ≡ true) (at_spot line tg w (λ spot. Go spot w)) (λ spot w1 e. subst (λ m. fits (parent w.heap) m (region_in tg.pointer) v ≡ true) (sym e) fit) (record { holds = named })).holds

  -- of a value of a cell's type, by its variable
  pub cell_fits : (p to z line : ℕ) (cell : Ty) (tg : Target) (v : Value) (env : List Value) (s : Temporaries) (w : World) → slice_get (all frame) p ≡ Some (going (one_of (is_regional cell) (stored (temp_at frame z) (temp_at frame 0) (note_in cell)) (looked_at (temp_at frame 0))) to)
      → At frame p env s w → tg.pointer ≡ s.regions 0 → (is_regional cell ≡ true → v ≡ s.regions z) → Named line tg (note_in cell) w → marked p ≡ true → Fits line tg v w
  cell_fits p to z line cell tg v env s w at good e same named m = by (is_regional cell) refl at
    where
      by : (b : Bool) → is_regional cell ≡ b → slice_get (all frame) p ≡ Some (going (one_of b (stored (temp_at frame z) (temp_at frame 0) (note_in cell)) (looked_at (temp_at frame 0))) to) → Fits line tg v w
      by true q at = fits_named line tg (note_in cell) v w named (subst (λ x. fits (parent w.heap) (note_in cell) (region_in x) v ≡ true) (sym e) (subst (λ x. fits (parent w.heap) (note_in cell) (region_in (s.regions 0)) x ≡ true) (sym (same q)) (stored_fits p to z (note_in cell) env s w at m good)))
      by false q at = absurd (none_some (asks_there p (looked_at (temp_at frame 0)) to at m))
        where
          none_some : None ≡ Some (proven p m).fact → ⊥
          none_some e = cc

  pub number_fits : (parents : ℕ → ℕ) (note : Note) (holder : ℕ) (k : ℤ) → fits parents note holder (Number k) ≡ true
  number_fits parents Plain holder k = refl
  number_fits parents SameRegion holder k = refl
  number_fits parents ParentPtr holder k = refl
  number_fits parents Traditional holder k = refl

  pub all_go : {A : Type 0} (P : Type 0) (m : Run World A) → P → IfGoes (λ x w. P) m
  all_go P (Go x w) p = p
  all_go P (Stopped s w) p = tt

  pub kept_number : (cell : Ty) (k : ℤ) → (j : ℤ) × (kept cell (Number k) ≡ Number j)
  kept_number int k = (k, refl)
  kept_number unsigned k = (k, refl)
  kept_number char k = (_, refl)
  kept_number region k = (k, refl)
  kept_number (struct i) k = (k, refl)
  kept_number (pointer note target) k = (k, refl)

  pub converted_number : (from to : NumberType) (k : ℤ) → (j : ℤ) × (convert_value from to (Number k) ≡ Number j)
  converted_number Char Int k = (k, refl)
  converted_number Int Int k = (k, refl)
  converted_number Unsigned Unsigned k = (k, refl)
  converted_number Char Char k = (k, refl)
  converted_number Char Unsigned k = (_, refl)
  converted_number Int Unsigned k = (_, refl)
  converted_number Int Char k = (_, refl)
  converted_number Unsigned Int k = (_, refl)
  converted_number Unsigned Char k = (_, refl)

  abbrev pub ActSame : Code.Act → Type 0
  ActSame act = (here : ℕ) (k : Ends) (live : ℕ → Bool) (env : List Value) (t : Temporaries) (w : World) → Stand (all frame) here (act_nodes f act here k.next) → RightAct r f (n frame) act → ActMeets deleting f calls inside act live env t w → At frame (first_of (act_points act) here k.next) env t w
      → act_marked source put deleting f.locals marked act here calls' live env t w ≡ act_run source deleting f.locals act calls live env t w

  pub store_same : (line : ℕ) (acc : Access) → ActSame (Code.store line acc)
  store_same line acc here k live env t w st right meets good =
      ap (λ m. bind m (λ _ w1. Go (Next env t) w1)) (put_same here line (target_at acc t 0) (kept acc.cell (temporary acc.cell t (width acc))) w
      (cell_fits here k.next (width acc) line acc.cell (target_at acc t 0) (kept acc.cell (temporary acc.cell t (width acc))) env t w st.0 good (target_pointer frame acc t 0)
      (λ e. kept_whole frame acc.cell (temporary acc.cell t (width acc)) e ∙ regional_temp frame acc.cell t (width acc) (kind_regional frame acc.cell e)) meets))

  pub compute_same : (line : ℕ) (acc : Access) (from : NumberType) (operator : Operator) (sign : Signedness) (ty : Ty) → ActSame (Code.update line acc (Compute from operator sign) ty)
  compute_same line acc from operator sign ty here k live env t w st right meets good =
      let tg = target_at acc t 0 in
      let p = here + before_store (Compute from operator sign) in
      let left = λ (new : Value). set_kind numeric t (suc (width acc)) new in
      let finish = λ (new : Value) (w2 : World). bind (source.store line tg (kept acc.cell new) w2) (λ _ w3. Go (Next env (left new)) w3) in
      let finish' = λ (new : Value) (w2 : World). bind (put (marked p) line tg (kept acc.cell new) w2) (λ _ w3. Go (Next env (left new)) w3) in
      twin (λ x w1. Unit {0}) (source.load line tg w) (source.load line tg w) (λ old w1. bind (new_value source deleting f.locals line (Compute from operator sign) ty old (temporary ty t (width acc)) w1) finish) (λ old w1. bind (new_value source deleting f.locals line (Compute from operator sign) ty old (temporary ty t (width acc)) w1) finish') refl (goes_unit (source.load line tg w)) (λ old w1 u.
      twin (λ new w2. (j : ℤ) × (new ≡ Number j)) (new_value source deleting f.locals line (Compute from operator sign) ty old (temporary ty t (width acc)) w1) (new_value source deleting f.locals line (Compute from operator sign) ty old (temporary ty t (width acc)) w1) finish finish' refl
      (computed_number (calculate operator sign (number_in (convert_value from (type_of sign) old)) (right_number operator ty (temporary ty t (width acc)))) w1) (λ new w2 q.
      ap (λ m. bind m (λ _ w3. Go (Next env (left new)) w3)) (put_same p line tg (kept acc.cell new) w2 (λ e. any_fits new w2 q.0 q.1))))
    where
      goes_unit : {A : Type 0} (m : Run World A) → Goes (λ x w1. Unit {0}) m
      goes_unit (Go x w1) = record { holds = tt }
      goes_unit (Stopped e w1) = record { holds = tt }

      computed_number : (m : Result ℤ Trap) (w1 : World) → Goes (λ new w2. (j : ℤ) × (new ≡ Number j)) (bind (computed line m w1) (λ x w2. Go (convert_value (type_of sign) from (Number x)) w2))
      computed_number (Ok x) w1 = record { holds = converted_number (type_of sign) from x }
      computed_number (Err e) w1 = record { holds = tt }

      any_fits : (new : Value) (w2 : World) (j : ℤ) → new ≡ Number j → Fits line (target_at acc t 0) (kept acc.cell new) w2
      any_fits new w2 j e =
          let q = kept_number acc.cell j in
          let tg = target_at acc t 0 in
          all_go (fits (parent w2.heap) (note_at w2.heap tg) (region_in tg.pointer) (kept acc.cell new) ≡ true) (at_spot line tg w2 (λ spot. Go spot w2)) (subst (λ v. fits (parent w2.heap) (note_at w2.heap tg) (region_in tg.pointer) v ≡ true) (sym (ap (kept acc.cell) e ∙ q.1)) (number_fits (parent w2.heap) (note_at w2.heap tg) (region_in tg.pointer) q.0))

  pub step_by_same : (line : ℕ) (acc : Access) (direction : Direction) (ty : Ty) → ActSame (Code.update line acc (Stepping direction) ty)
  step_by_same line acc direction ty here k live env t w st right meets good =
      let tg = target_at acc t 0 in
      let z = suc (width acc) in
      let p = here + 2 in
      let shift = toward direction (number_in (temporary ty t (width acc))) in
      let left = λ (new : Value). set_kind regional t (suc (width acc)) new in
      let finish = λ (new : Value) (w2 : World). bind (source.store line tg (kept acc.cell new) w2) (λ _ w3. Go (Next env (left new)) w3) in
      let finish' = λ (new : Value) (w2 : World). bind (put (marked p) line tg (kept acc.cell new) w2) (λ _ w3. Go (Next env (left new)) w3) in
      let store_at = subst (λ i. slice_get (all frame) i ≡ Some (going (one_of (is_regional acc.cell) (stored (temp_at frame z) (temp_at frame 0) (note_in acc.cell)) (looked_at (temp_at frame 0))) k.next)) (let e : suc (suc here) ≡ p = omega arith in e) st.1.1.0 in
      twin (Held frame around line acc direction ty here env t) (source.load line tg w) (source.load line tg w) (λ old w1. bind (source.step line old shift w1) finish) (λ old w1. bind (source.step line old shift w1) finish') refl
      (ready_good frame around line acc direction ty here k live env t w st right meets good) (λ old w1 q1.
      twin (Ready frame around line acc here env t old) (source.step line old shift w1) (source.step line old shift w1) finish finish' refl q1.then (λ new w2 q2.
      ap (λ m. bind m (λ _ w3. Go (Next env (left new)) w3)) (put_same p line tg (kept acc.cell new) w2
      (cell_fits p k.next z line acc.cell tg (kept acc.cell new) env (left new) w2 store_at (subst (λ i. At frame i env (left new) w2) (let e : suc (suc here) ≡ p = omega arith in e) q2.at) (target_pointer frame acc t 0 ∙ sym (changed_else t.regions z new 0 (not_eq 0 z (λ e. cc)))) (λ e. kept_whole frame acc.cell new e ∙ sym (changed_there t.regions z new z refl)) q2.named))))

  pub fits_cell : (kind : CellKind) (parents : ℕ → ℕ) (holder : ℕ) (v : Value) → fits parents (note_of kind) holder v ≡ true → fits parents (note_of kind) holder (kept_cell kind v) ≡ true
  fits_cell int_cell parents holder v e = e
  fits_cell unsigned_cell parents holder v e = e
  fits_cell char_cell parents holder v e = refl
  fits_cell region_cell parents holder v e = e
  fits_cell (pointer_cell note target) parents holder v e = e

  -- a cell's value fits where its store is marked
  pub cell_put_fits : (p to z line : ℕ) (kind : CellKind) (tg : Target) (v : Value) (env : List Value) (t : Temporaries) (w : World) → slice_get (all frame) p ≡ Some (going (one_of (is_regional_cell kind) (stored (temp_at frame z) (temp_at frame 0) (note_of kind)) (looked_at (temp_at frame 0))) to)
      → At frame p env t w → tg.pointer ≡ t.regions 0 → (is_regional_cell kind ≡ true → t.regions z ≡ v) → (is_regional_cell kind ≡ true → Named line tg (note_of kind) w) → marked p ≡ true → Fits line tg (kept_cell kind v) w
  cell_put_fits p to z line kind tg v env t w at good e same named m = by (is_regional_cell kind) refl at
    where
      by : (b : Bool) → is_regional_cell kind ≡ b → slice_get (all frame) p ≡ Some (going (one_of b (stored (temp_at frame z) (temp_at frame 0) (note_of kind)) (looked_at (temp_at frame 0))) to) → Fits line tg (kept_cell kind v) w
      by true q at = fits_named line tg (note_of kind) (kept_cell kind v) w (named q) (fits_cell kind (parent w.heap) (region_in tg.pointer) v
          (subst (λ x. fits (parent w.heap) (note_of kind) (region_in x) v ≡ true) (sym e) (subst (λ x. fits (parent w.heap) (note_of kind) (region_in (t.regions 0)) x ≡ true) (same q) (stored_fits p to z (note_of kind) env t w at m good))))
      by false q at = absurd (none_some (asks_there p (looked_at (temp_at frame 0)) to at m))
        where
          none_some : None ≡ Some (proven p m).fact → ⊥
          none_some e = cc

  pub cells_same : (line z lw : ℕ) → lw < z → z < (n frame) → (kinds : Layout) (from to : Target) (here next : ℕ) (env : List Value) (t : Temporaries) (w : World) → Stand (all frame) here (in_line (cell_effects f z lw kinds) here next) → MoveMeets line kinds from to w → from.pointer ≡ t.regions lw → to.pointer ≡ t.regions 0 → At frame (first_of (2 * length kinds) here next) env t w
      → cells_marked source put deleting f.locals marked line z kinds from to here t w ≡ cells_moved source deleting f.locals line z kinds from to t w
  cells_same line z lw lz lt [] from to here next env t w st meets ef et good = refl
  cells_same line z lw lz lt (kind ∷ kinds) from to here next env t w st meets ef et good =
      let from1 : Target = record from { offset = suc from.offset } in
      let to1 : Target = record to { offset = suc to.offset } in
      let two = stored_leads frame around z lw kinds (one_of (is_regional_cell kind) (stored (temp_at frame z) (temp_at frame 0) (note_of kind)) (looked_at (temp_at frame 0))) (suc here) next st.1 in
      twin (Carried frame around line kind kinds from to z here env t) (source.load line from w) (source.load line from w) (λ v w1. bind (source.store line to (kept_cell kind v) w1) (λ _ w2. cells_moved source deleting f.locals line z kinds from1 to1 (with_cell kind t z v) w2))
      (λ v w1. bind (put (marked (suc here)) line to (kept_cell kind v) w1) (λ _ w2. cells_marked source put deleting f.locals marked line z kinds from1 to1 (suc (suc here)) (with_cell kind t z v) w2)) refl
      (carried_good frame around line z lw lz lt kind kinds from to here next env t w st meets ef good) (λ v w1 q1.
      let t1 = with_cell kind t z v in
      let et1 : to.pointer ≡ t1.regions 0 = et ∙ sym (kind_else frame around (cell_kind kind) t z v 0 (not_eq 0 z (λ e. omega (arith, e, lz)))) in
      let ef1 : from.pointer ≡ t1.regions lw = ef ∙ sym (kind_else frame around (cell_kind kind) t z v lw (not_eq lw z (λ e. omega (arith, e, lz)))) in
      twin (λ u w2. At frame (first_of (2 * length kinds) (suc (suc here)) next) env t1 w2 × MoveMeets line kinds from1 to1 w2) (source.store line to (kept_cell kind v) w1) (put (marked (suc here)) line to (kept_cell kind v) w1) (λ _ w2. cells_moved source deleting f.locals line z kinds from1 to1 t1 w2) (λ _ w2. cells_marked source put deleting f.locals marked line z kinds from1 to1 (suc (suc here)) t1 w2)
      (put_same (suc here) line to (kept_cell kind v) w1 (cell_put_fits (suc here) _ z line kind to v env t1 w1 two.0 q1.at et1 (cell_there frame around kind t z v) q1.named))
      (cell_stored frame around line z lw lz kind kinds from to here next env t v w1 two.0 et1 q1)
      (λ u w2 q2. cells_same line z lw lz lt kinds from1 to1 (suc (suc here)) next env t1 w2 two.1 q2.1 ef1 et1 q2.0))

  pub act_same : (act : Code.Act) → ActSame act
  act_same Code.drop here k live env t w st right meets good = refl
  act_same (Code.perform line i tys) here k live env t w st right meets good = ap (λ m. bind m (λ _ w1. Go (Next env t) w1)) (call_same line 0 int i tys live env t w here k.next None right meets (leads frame here _ k.next st.0) good)
  act_same (Code.assign line x ty) here k live env t w st right meets good = refl
  act_same (Code.store line acc) here k live env t w st right meets good = store_same line acc here k live env t w st right meets good
  act_same (Code.update line acc (Compute from operator sign) ty) here k live env t w st right meets good = compute_same line acc from operator sign ty here k live env t w st right meets good
  act_same (Code.update line acc (Stepping direction) ty) here k live env t w st right meets good = step_by_same line acc direction ty here k live env t w st right meets good
  act_same (Code.move line kinds left right) here k live env t w st right' meets good =
      ap (λ m. bind m (λ t1 w1. Go (Next env t1) w1)) (cells_same line (width left + width right) (width left) (omega arith) right' kinds (target_at right t (width left)) (target_at left t 0) here k.next env t w st meets (target_pointer frame right t (width left)) (target_pointer frame left t 0) good)
  act_same (Code.delete line) here k live env t w st right meets good = refl
  act_same (Code.leave line result) here k live env t w st right meets good = refl
