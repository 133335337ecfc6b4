-- Facts hold along acts.
use Rattle.std.proofs.Common.{◌≡◌, ℕ, zero, suc, ◌+◌, ◌<◌, Bool, true, false, ◌||◌, nat_eq, List, [], ◌∷◌, ◌++◌, length, map, replicate, Option, Some, None, inl, inr, refl, sym, ap, ◌∙◌, subst, arith}
use Rattle.std.specs.Prelude.{slice_get}
use Rattle.std.proofs.lemmas.Bool.{or_cases, eqb-true}
use Rattle.rc_core.specs.declared.ty.Note.{Note}
use Rattle.rc_core.specs.Types.{Ty, int}
use Rattle.rc_core.specs.Heap.{Value, Number, parent, fits}
use Rattle.rc_core.specs.Runs.{Run, Go, bind, computed, Target}
use Rattle.rc_core.specs.Evaluation.{number_in, toward}
use Rattle.rc_core.specs.Source.{World, source}
use Rattle.std.specs.Prelude.{ℤ, Result, Ok, Err}
use Rattle.rc_base.specs.declared.ends.Trap.{Trap}
use Rattle.rc_core.specs.declared.ty.Signedness.{Signedness}
use Rattle.rc_facts.specs.declared.fact.Fact.{Fact}
use Rattle.rc_facts.specs.declared.fact.Fact.TheVariants.{In}
use Rattle.rc_rlang.specs.RegionCode.{Kind, numeric, regional, Access, width, none, Act, Code}
use Rattle.rc_rlang.specs.RegionCode as Code
use Rattle.rc_rlang.specs.RegionPoints.{act_points}
use Rattle.rc_core.specs.Execution.{with_local}
use Rattle.rc_rlang.specs.RegionRuns.{new_value, cells_moved, kept_cell, convert_value, right_number, Way, Next, Broke, Continued, Returned, returned, act_run, kept, held, Temporaries, temporary, set_kind, cell_kind, with_cell, changed_at, target_at, operation_value}
use Rattle.rc_rlang.specs.RegionFlow.{Effect, nothing, moved, beside, loaded, looked_at, stored, called, going, is_regional, is_regional_cell, note_in, one_of, first_of, copies, local_variable, result_variable, variables, regional_arguments, Ends, act_nodes, returning, returned_variable, in_line, change_effects, cell_effects}
use Rattle.rc_annotations.specs.Annotations.{renamed, returned_facts}
use Rattle.rc_annotations.specs.Holding.{is_present, region_in, Holds, AllHold}
use Rattle.rc_annotations.specs.Effects.{Says}
use Rattle.rc_annotations.specs.Variables.{picked, past, picks}
use Rattle.rc_annotations.specs.Worlds.{Grown, Made, Sane, Stays, note_at, Beside, Loaded, Stored, Deleted}
use Rattle.rc_along.specs.Along.{Named, GivesBack, Stand, MadeResult, Called, RightAct, ActMeets, MoveMeets}
use Rattle.rc_annotations.proofs.Truths.{derivable_holds, holds_same}
use Rattle.rc_annotations.proofs.Effects.{changed_there, changed_else, not_eq, with_name}
use Rattle.std.specs.Prelude.{◌*◌, ◌-◌}
use Rattle.rc_core.specs.declared.ty.NumberType.{NumberType}
use Rattle.rc_core.specs.declared.ty.NumberType.TheVariants.{Int, Unsigned, Char}
use Rattle.rc_core.specs.declared.ty.Signedness.TheVariants.{Signed, Unsigned as Wrapping}
use Rattle.rc_core.specs.declared.operators.Operator.{Operator}
use Rattle.rc_core.specs.declared.operators.Direction.{Direction}
use Rattle.rc_core.specs.declared.stmt.Change.TheVariants.{Compute, Step as Stepping}
use Rattle.rc_core.specs.Types.{CellKind, int_cell, unsigned_cell, char_cell, region_cell, pointer_cell}
use Rattle.rc_core.specs.Layout.{Layout, note_of}
use Rattle.rc_core.specs.Arithmetic.{calculate, type_of}
use Rattle.rc_core.specs.Laws.{IfGoes}
use Rattle.rc_rlang.specs.Points.{change_points}
use Rattle.rc_annotations.proofs.Effects.{is as is_fact_holds}
use Rattle.rc_annotations.proofs.Variables.{past_there}
use Rattle.rc_facts.specs.Facts.{same_fact}
use Rattle.rc_annotations.proofs.Variables as V
use Rattle.rc_annotations.proofs.WorldFacts.{Goes, goes_bind, goes_more, goes_both, gives, stays_itself, stays_trans, step_says, load_says, store_says, delete_says}
use Rattle.rc_along.proofs.Naming.{load_named, store_named}
use Rattle.rc_along.proofs.Standing.{past_front, not_last, positive}
use Rattle.rc_along.proofs.Settings.{Setting, Calling}
use Rattle.rc_along.proofs.Crossing.{n, all, temp_at, vals, At, exits, leads, again, cross, cross_assigned, old_temp, new_temp, regional_temp, Leaves, says_beside, says_loaded, kind_regional, temp_made, Only, target_pointer}
use Rattle.rc_along.proofs.CallsPass.{kept_whole, passed, exit_holds, call_says}

module _ (frame : Setting) (around : Calling frame) where
  open frame use {r, temporaries, a, c, g, f, there, copied, whole, heap0}
  open around use {deleting, calls, inside, keeps_calls}

  -- what holds where a call returns
  pub record Left (v : Value) (w : World) : Type 0 where
    pub facts : AllHold (a.exit g) (past copied (λ u. v)) w.heap
    pub made : MadeResult f.result w.heap v
    pub sane : Sane w
    pub grown : Grown heap0 w.heap

  abbrev pub GoodWay : Ends → Way → World → Type 0
  GoodWay k (Next env t) w = At frame k.next env t w
  GoodWay k (Broke env t) w = At frame k.broken env t w
  GoodWay k (Continued env t) w = At frame k.continued env t w
  GoodWay k (Returned v) w = Left v w

  pub long_update : (env : List Value) (x : ℕ) (v : Value) → length (with_local env x v) ≡ length env
  long_update [] x v = refl
  long_update (u ∷ env) zero v = refl
  long_update (u ∷ env) (suc x) v = ap suc (long_update env x v)

  pub long_map : (tys : List Ty) → length (map is_regional tys) ≡ length tys
  long_map [] = refl
  long_map (ty ∷ tys) = ap suc (long_map tys)

  -- an act, from its point on
  abbrev pub ActGood : Act → Type 0
  ActGood act = (here : ℕ) (k : Ends) (live : ℕ → Bool) (env : List Value) (t : Temporaries) (w : World) → Stand (all frame) here (act_nodes f act here k.next) → RightAct r f (n frame) act → ActMeets deleting f calls inside act live env t w → At frame (first_of (act_points act) here k.next) env t w
      → Goes (GoodWay k) (act_run source deleting f.locals act calls live env t w)

  pub perform_good : (line k : ℕ) (tys : List Ty) → ActGood (Code.perform line k tys)
  perform_good line i tys here k live env t w st right meets good =
      goes_bind (Called a right.callee.result i (passed frame tys t 0) w) (GoodWay k) (operation_value source deleting f.locals line (Code.call i tys) calls live env t 0 w) (λ _ w1. Go (Next env t) w1)
      (call_says frame deleting calls inside keeps_calls line 0 int i tys live env t w here k.next None right meets (leads frame here _ k.next st.0) good) (λ v w1 q.
      gives (GoodWay k) (Next env t) w1
      (cross frame here k.next (called None i (regional_arguments f tys 0)) env env t t w w1 (leads frame here _ k.next st.0) good q.0 refl (λ u. refl) refl
      (exit_holds frame i tys 0 None (vals frame env t) t v w1.heap (λ j lt2. V.temp_value f copied whole env t.regions j) (λ y e2. cc) q.2)))

  pub assign_good : (line x : ℕ) (ty : Ty) → ActGood (Code.assign line x ty)
  assign_good line x ty here k live env t w st right meets good = by (is_regional ty) refl st.0
    where
      by : (b : Bool) → is_regional ty ≡ b → slice_get (all frame) here ≡ Some (going (one_of b (moved (local_variable f x) (temp_at frame 0)) nothing) k.next) → Goes (GoodWay k) (Go (Next (with_local env x (kept ty (temporary ty t 0))) t) w)
      by true e q =
          let v : Value = kept ty (temporary ty t 0) in
          let same : v ≡ t.regions 0 = kept_whole frame ty (temporary ty t 0) e ∙ regional_temp frame ty t 0 (kind_regional frame ty e) in
          gives (GoodWay k) (Next (with_local env x v) t) w
          (cross_assigned frame here k.next (moved (local_variable f x) (temp_at frame 0)) (local_variable f x) v env (with_local env x v) t t w w (leads frame here _ k.next q) good (stays_itself w good.sane) (long_update env x v)
          (λ u. V.local_set f copied whole env t.regions x v u (good.long ∙ sym (long_map f.locals)) (right.0 ∙ e)) refl
          (subst (Made w.heap) (sym same) (temp_made frame here env t w 0 good)) (new_temp frame env t v ∙ same ∙ sym (old_temp frame env t v 0 right.1)))
      by false e q =
          let v : Value = kept ty (temporary ty t 0) in
          gives (GoodWay k) (Next (with_local env x v) t) w
          (cross frame here k.next nothing env (with_local env x v) t t w w (leads frame here nothing k.next q) good (stays_itself w good.sane) (long_update env x v)
          (λ u. V.other_set f copied whole env t.regions x v u (good.long ∙ sym (long_map f.locals)) (right.0 ∙ e)) refl tt)

  -- a value v is stored, which the variable z has if it is a region or a pointer
  pub store_says_for : (target : Target) (v : Value) (z : ℕ) (note : Note) (env : List Value) (s : Temporaries) (w w1 : World) → target.pointer ≡ s.regions 0 → note_at w.heap target ≡ note → s.regions z ≡ v → Stored w target v tt w1 → Says (exits frame) (stored (temp_at frame z) (temp_at frame 0) note) (vals frame env s) w1.heap
  store_says_for target v z note env s w w1 e named same q = rw (V.temp_value f copied whole env s.regions 0, V.temp_value f copied whole env s.regions z, same, ← e, ← named) (q.1, q.2)

  pub store_good : (line : ℕ) (acc : Access) → ActGood (Code.store line acc)
  store_good line acc here k live env t w st right meets good = by (is_regional acc.cell) refl st.0
    where
      v : Value
      v = kept acc.cell (temporary acc.cell t (width acc))

      m : Run World (Unit {0})
      m = source.store line (target_at acc t 0) v w

      at_s : (target_at acc t 0).pointer ≡ t.regions 0
      at_s = target_pointer frame acc t 0

      by : (b : Bool) → is_regional acc.cell ≡ b → slice_get (all frame) here ≡ Some (going (one_of b (stored (temp_at frame (width acc)) (temp_at frame 0) (note_in acc.cell)) (looked_at (temp_at frame 0))) k.next) → Goes (GoodWay k) (bind m (λ _ w1. Go (Next env t) w1))
      by true e q =
          let same : v ≡ t.regions (width acc) = kept_whole frame acc.cell (temporary acc.cell t (width acc)) e ∙ regional_temp frame acc.cell t (width acc) (kind_regional frame acc.cell e) in
          goes_bind (λ u w1. Stored w (target_at acc t 0) v u w1 × (note_at w.heap (target_at acc t 0) ≡ note_in acc.cell)) (GoodWay k) m (λ _ w1. Go (Next env t) w1)
          (goes_both (Stored w (target_at acc t 0) v) (λ u w1. note_at w.heap (target_at acc t 0) ≡ note_in acc.cell) m (store_says line (target_at acc t 0) v w good.sane) (store_named line (target_at acc t 0) v (note_in acc.cell) w meets)) (λ u w1 p.
          gives (GoodWay k) (Next env t) w1
          (cross frame here k.next (stored (temp_at frame (width acc)) (temp_at frame 0) (note_in acc.cell)) env env t t w w1 (leads frame here _ k.next q) good p.0.0 refl (λ u. refl) refl
          (store_says_for (target_at acc t 0) v (width acc) (note_in acc.cell) env t w w1 at_s p.1 (sym same) p.0)))
      by false e q =
          goes_bind (Stored w (target_at acc t 0) v) (GoodWay k) m (λ _ w1. Go (Next env t) w1) (store_says line (target_at acc t 0) v w good.sane) (λ u w1 p.
          gives (GoodWay k) (Next env t) w1
          (cross frame here k.next (looked_at (temp_at frame 0)) env env t t w w1 (leads frame here _ k.next q) good p.0 refl (λ u. refl) refl
          (rw (V.temp_value f copied whole env t.regions 0, ← at_s) p.1)))

  pub delete_good : (line : ℕ) → ActGood (Code.delete line)
  delete_good line here k live env t w st right meets good =
      goes_bind (Deleted w (t.regions 0)) (GoodWay k) (source.delete line (held source deleting f.locals live env) (t.regions 0) w) (λ _ w1. Go (Next env t) w1) (delete_says line (held source deleting f.locals live env) (t.regions 0) w good.sane) (λ u w1 q.
      gives (GoodWay k) (Next env t) w1
      (cross frame here k.next (looked_at (temp_at frame 0)) env env t t w w1 (leads frame here _ k.next st.0) good q.0 refl (λ u. refl) refl
      (subst is_present (sym (V.temp_value f copied whole env t.regions 0)) q.1)))

  -- a return: the facts of the exit, of the hidden copies and the result
  pub left_at : (result : Option Ty) → GivesBack f.result result × ((ty : Ty) → result ≡ Some ty → 0 < (n frame)) → (here : ℕ) (env : List Value) (t : Temporaries) (w : World) → Stand (all frame) here (returning (returned_variable f result) ∷ []) → At frame here env t w → Left (returned source deleting f.locals result t) w
  left_at result right here env t w st good = record { facts = holds_of; made = made_of result right; sane = good.sane; grown = good.grown }
    where
      v : Value
      v = returned source deleting f.locals result t

      b : ℕ
      b = result_variable f (n frame)

      values : ℕ → Value
      values = changed_at (vals frame env t) b v

      given : Option ℕ
      given = returned_variable f result

      result_is : (ty : Ty) → is_regional ty ≡ true → temporary ty t 0 ≡ t.regions 0
      result_is ty e = regional_temp frame ty t 0 (kind_regional frame ty e)

      made_of : (result : Option Ty) → GivesBack f.result result × ((ty : Ty) → result ≡ Some ty → 0 < (n frame)) → MadeResult f.result w.heap (returned source deleting f.locals result t)
      made_of result right ty e reg = by result (right.0 ty e reg).1
        where
          by : (result : Option Ty) → result ≡ Some (right.0 ty e reg).0 → Made w.heap (returned source deleting f.locals result t)
          by None e = cc
          by (Some u) same =
              let is : u ≡ (right.0 ty e reg).0 = cc in
              let reg' : is_regional u ≡ true = ap is_regional is ∙ (right.0 ty e reg).2 in
              subst (Made w.heap) (sym (result_is u reg')) (temp_made frame here env t w 0 good)

      gained_of : (result : Option Ty) → ((ty : Ty) → result ≡ Some ty → 0 < (n frame)) → (p : Fact) → returned_facts f (n frame) (returned_variable f result) p ≡ true → Holds p (changed_at (vals frame env t) b (returned source deleting f.locals result t)) w.heap
      gained_of None right p e = cc
      gained_of (Some ty) right p e = by (is_regional ty) refl e
        where
          by : (c : Bool) → is_regional ty ≡ c → returned_facts f (n frame) (one_of c (Some (temp_at frame 0)) None) p ≡ true → Holds p (changed_at (vals frame env t) b (temporary ty t 0)) w.heap
          by false q e = cc
          by true q e =
              let vs = changed_at (vals frame env t) b (temporary ty t 0) in
              let all' = right ty refl in
              let new : vs b ≡ temporary ty t 0 = changed_there (vals frame env t) b (temporary ty t 0) b refl in
              let old : vs (temp_at frame 0) ≡ t.regions 0 = changed_else (vals frame env t) b (temporary ty t 0) (temp_at frame 0) (not_eq (temp_at frame 0) b (λ x. omega (arith, x, all'))) ∙ V.temp_value f copied whole env t.regions 0 in
              let same : vs b ≡ vs (temp_at frame 0) = new ∙ result_is ty q ∙ sym old in
              elim (or_cases (same_fact p (In b (temp_at frame 0))) (same_fact p (In (temp_at frame 0) b)) e) [
                | inl x ↦ is_fact_holds p (In b (temp_at frame 0)) vs w.heap (λ there. (subst is_present same there, ap region_in same)) x
                | inr x ↦ is_fact_holds p (In (temp_at frame 0) b) vs w.heap (λ there. (subst is_present (sym same) there, ap region_in (sym same))) x
              ]

      given_of : AllHold (λ q. a.before g here q || returned_facts f (n frame) given q) values w.heap
      given_of q e = elim (or_cases (a.before g here q) (returned_facts f (n frame) given q) e) [
        | inl old ↦ holds_same b q (vals frame env t) values w.heap (c.at_points g f here q there old) (λ u lt. changed_else (vals frame env t) b v u (not_eq u b (λ x. omega (arith, x, lt)))) (good.facts q old)
        | inr new ↦ gained_of result right.1 q new
      ]

      named_value : (u : ℕ) → u < suc (copies f) → past copied (λ i. v) u ≡ values (renamed (copies f) b u)
      named_value u lt = by (nat_eq u (copies f)) refl
        where
          by : (e : Bool) → nat_eq u (copies f) ≡ e → past copied (λ i. v) u ≡ values (renamed (copies f) b u)
          by true e = rw e (past_there copied (λ i. v) 0 u (let x : u ≡ copies f = eqb-true u (copies f) e in omega (arith, x, whole)) ∙ sym (changed_there (vals frame env t) b v b refl))
          by false e =
              let below : u < copies f = not_last u (copies f) lt e in
              rw e (past_front copied (λ i. v) (past (picked (picks f) env) t.regions) u (omega (arith, below, whole)) ∙ sym (changed_else (vals frame env t) b v u (not_eq u b (λ x. omega (arith, x, below)))))

      holds_of : AllHold (a.exit g) (past copied (λ u. v)) w.heap
      holds_of fact is =
          let d = c.follows.exit g f here given fact there (record { node = returning given; there = st.0; returns = refl }) is in
          holds_same (suc (copies f)) fact (λ u. values (renamed (copies f) b u)) (past copied (λ u. v)) w.heap (c.at_exits g f fact there is) named_value
          (with_name (renamed (copies f) b) fact values w.heap (derivable_holds (variables f (n frame)) (λ q. a.before g here q || returned_facts f (n frame) given q) values w.heap good.sane.rooted given_of d))

  pub leave_good : (line : ℕ) (result : Option Ty) → ActGood (Code.leave line result)
  leave_good line result here k live env t w st right meets good = gives (GoodWay k) (Returned (returned source deleting f.locals result t)) w (left_at result right here env t w st good)

  -- an update of a number: the cell is looked at, numbers are computed, and the cell is looked at again
  pub line_good : (n here next : ℕ) (env : List Value) (s : Temporaries) (w : World) → Stand (all frame) here (in_line (replicate n nothing ++ looked_at (temp_at frame 0) ∷ []) here next) → is_present (s.regions 0) → At frame here env s w → At frame next env s w
  line_good zero here next env s w st p good = cross frame here next (looked_at (temp_at frame 0)) env env s s w w (leads frame here _ next st.0) good (stays_itself w good.sane) refl (λ u. refl) refl (subst is_present (sym (V.temp_value f copied whole env s.regions 0)) p)
  line_good (suc zero) here next env s w st p good = line_good zero (suc here) next env s w st.1 p (cross frame here (suc here) nothing env env s s w w (leads frame here _ (suc here) st.0) good (stays_itself w good.sane) refl (λ u. refl) refl tt)
  line_good (suc (suc n)) here next env s w st p good = line_good (suc n) (suc here) next env s w st.1 p (cross frame here (suc here) nothing env env s s w w (leads frame here _ (suc here) st.0) good (stays_itself w good.sane) refl (λ u. refl) refl tt)

  pub number_good : (n here next : ℕ) (env : List Value) (s : Temporaries) (w w1 : World) → Stand (all frame) here (in_line (looked_at (temp_at frame 0) ∷ (replicate n nothing ++ looked_at (temp_at frame 0) ∷ [])) here next) → is_present (s.regions 0) → Stays w w1 → At frame here env s w → At frame next env s w1
  number_good zero here next env s w w1 st p stays good = line_good zero (suc here) next env s w1 st.1 p (cross frame here (suc here) (looked_at (temp_at frame 0)) env env s s w w1 (leads frame here _ (suc here) st.0) good stays refl (λ u. refl) refl (subst is_present (sym (V.temp_value f copied whole env s.regions 0)) p))
  number_good (suc n) here next env s w w1 st p stays good = line_good (suc n) (suc here) next env s w1 st.1 p (cross frame here (suc here) (looked_at (temp_at frame 0)) env env s s w w1 (leads frame here _ (suc here) st.0) good stays refl (λ u. refl) refl (subst is_present (sym (V.temp_value f copied whole env s.regions 0)) p))

  pub number_says : (line : ℕ) (from : NumberType) (operator : Operator) (sign : Signedness) (ty : Ty) (old v : Value) (w : World) → Sane w → Goes (Only frame w) (new_value source deleting f.locals line (Compute from operator sign) ty old v w)
  number_says line from operator sign ty old v w sane = by (calculate operator sign (number_in (convert_value from (type_of sign) old)) (right_number operator ty v))
    where
      by : (m : Result ℤ Trap) → Goes (Only frame w) (bind (computed line m w) (λ x w1. Go (convert_value (type_of sign) from (Number x)) w1))
      by (Ok x) = gives (Only frame w) _ w (stays_itself w sane)
      by (Err e) = record { holds = tt }

  pub compute_first : (from : NumberType) (operator : Operator) (sign : Signedness) (here next : ℕ) → first_of (change_points (Compute from operator sign)) here next ≡ here
  compute_first Int operator Signed here next = refl
  compute_first Int operator Wrapping here next = refl
  compute_first Unsigned operator Signed here next = refl
  compute_first Unsigned operator Wrapping here next = refl
  compute_first Char operator Signed here next = refl
  compute_first Char operator Wrapping here next = refl

  pub compute_good : (line : ℕ) (acc : Access) (from : NumberType) (operator : Operator) (sign : Signedness) (ty : Ty) → ActGood (Code.update line acc (Compute from operator sign) ty)
  compute_good line acc from operator sign ty here k live env t w st right meets good =
      goes_bind (Loaded w tg) (GoodWay k) (source.load line tg w) (λ old w1. bind (next old w1) (λ new w2. finish new w2)) (load_says line tg w good.sane) (λ old w1 q1.
      goes_bind (Only frame w1) (GoodWay k) (next old w1) finish (number_says line from operator sign ty old (temporary ty t (width acc)) w1 q1.0.sane) (λ new w2 q2.
      goes_bind (Stored w2 tg (kept acc.cell new)) (GoodWay k) (source.store line tg (kept acc.cell new) w2) (λ _ w3. Go (Next env (left new)) w3) (store_says line tg (kept acc.cell new) w2 q2.sane) (λ u w3 q3.
      gives (GoodWay k) (Next env (left new)) w3 (again frame k.next env t (left new) w3 (λ u. refl) (number_good (change_points (Compute from operator sign) - 2) here k.next env t w w3 st (subst is_present at_s q1.2) (stays_trans w w1 w3 q1.0 (stays_trans w1 w2 w3 q2 q3.0)) (subst (λ p. At frame p env t w) (compute_first from operator sign here k.next) good))))))
    where
      tg : Target
      tg = target_at acc t 0

      left : Value → Temporaries
      left new = set_kind numeric t (suc (width acc)) new

      next : Value → World → Run World Value
      next old w1 = new_value source deleting f.locals line (Compute from operator sign) ty old (temporary ty t (width acc)) w1

      finish : Value → World → Run World Way
      finish new w2 = bind (source.store line tg (kept acc.cell new) w2) (λ _ w3. Go (Next env (left new)) w3)

      at_s : tg.pointer ≡ t.regions 0
      at_s = target_pointer frame acc t 0

  -- the temporary z has a new value
  abbrev pub with_value : ℕ → Temporaries → Value → Temporaries
  with_value z s v = record s { regions = changed_at s.regions z v }

  -- an update of a pointer: its old value is loaded, and stepped, and not yet stored
  pub record Ready (line : ℕ) (acc : Access) (here : ℕ) (env : List Value) (t : Temporaries) (old new : Value) (w2 : World) : Type 0 where
    pub at : At frame (suc (suc here)) env (with_value (suc (width acc)) t new) w2
    pub named : Named line (target_at acc t 0) (note_in acc.cell) w2

  -- of an update of a pointer: its nodes stand there
  pub stepping_nodes : (acc : Access) (direction : Direction) (here next : ℕ) → is_regional acc.cell ≡ true → Stand (all frame) here (in_line (change_effects f acc (Stepping direction)) here next)
      → Stand (all frame) here (in_line (loaded (temp_at frame (suc (width acc))) (temp_at frame 0) (note_in acc.cell) ∷ beside (temp_at frame (suc (width acc))) (temp_at frame (suc (width acc))) ∷ stored (temp_at frame (suc (width acc))) (temp_at frame 0) (note_in acc.cell) ∷ []) here next)
  stepping_nodes acc direction here next e st =
      let z = suc (width acc) in
      subst (λ b. Stand (all frame) here (in_line (one_of b (loaded (temp_at frame z) (temp_at frame 0) (note_in acc.cell)) (looked_at (temp_at frame 0)) ∷ beside (temp_at frame z) (temp_at frame z) ∷ one_of b (stored (temp_at frame z) (temp_at frame 0) (note_in acc.cell)) (looked_at (temp_at frame 0)) ∷ []) here next)) e st

  -- before the old value is stepped
  pub record Held (line : ℕ) (acc : Access) (direction : Direction) (ty : Ty) (here : ℕ) (env : List Value) (t : Temporaries) (old : Value) (w1 : World) : Type 0 where
    pub at : At frame (suc here) env (with_value (suc (width acc)) t old) w1
    pub then : Goes (Ready line acc here env t old) (source.step line old (toward direction (number_in (temporary ty t (width acc)))) w1)

  pub ready_good : (line : ℕ) (acc : Access) (direction : Direction) (ty : Ty) (here : ℕ) (k : Ends) (live : ℕ → Bool) (env : List Value) (t : Temporaries) (w : World) → Stand (all frame) here (act_nodes f (Code.update line acc (Stepping direction) ty) here k.next) → RightAct r f (n frame) (Code.update line acc (Stepping direction) ty)
      → ActMeets deleting f calls inside (Code.update line acc (Stepping direction) ty) live env t w → At frame here env t w → Goes (Held line acc direction ty here env t) (source.load line (target_at acc t 0) w)
  ready_good line acc direction ty here k live env t w st' right meets good =
      goes_more (λ old w1. Leaves frame (loaded (temp_at frame z) (temp_at frame 0) note) env t w old w1 × IfGoes (λ new w2. Named line tg note w2) (source.step line old shift w1)) (Held line acc direction ty here env t) (source.load line tg w)
      (λ old w1 q1.
      let t1 = with_value z t old in
      let good1 : At frame (suc here) env t1 w1 = cross_assigned frame here (suc here) (loaded (temp_at frame z) (temp_at frame 0) note) (temp_at frame z) old env env t t1 w w1 (leads frame here _ (suc here) st.0) good q1.0.0 refl (λ u. V.temp_set f copied whole env t.regions z old u) refl q1.0.1 q1.0.2 in
      let is_old : t1.regions z ≡ old = changed_there t.regions z old z refl in
      record {
        at = good1;
        then = goes_more (λ new w2. Leaves frame (beside (temp_at frame z) (temp_at frame z)) env t1 w1 new w2 × Named line tg note w2) (Ready line acc here env t old) (source.step line old shift w1)
            (λ new w2 q2. record {
              at = again frame (suc (suc here)) env (with_value z t1 new) (with_value z t new) w2 (twice old new) (cross_assigned frame (suc here) (suc (suc here)) (beside (temp_at frame z) (temp_at frame z)) (temp_at frame z) new env env t1 (with_value z t1 new) w1 w2 (leads frame (suc here) _ (suc (suc here)) st.1.0) good1 q2.0.0 refl (λ u. V.temp_set f copied whole env t1.regions z new u) refl q2.0.1 q2.0.2);
              named = q2.1;
            })
            (goes_both (Leaves frame (beside (temp_at frame z) (temp_at frame z)) env t1 w1) _ (source.step line old shift w1)
            (says_beside frame env t1 w1 z z _ right.1 (subst (λ v. Goes (Beside w1 v) (source.step line old shift w1)) (sym is_old) (step_says line old shift w1 q1.0.0.sane))) (record { holds = q1.1 }));
      })
      (goes_both (Leaves frame (loaded (temp_at frame z) (temp_at frame 0) note) env t w) _ (source.load line tg w) (says_loaded frame env t w z 0 note tg (source.load line tg w) n0 (target_pointer frame acc t 0) (load_named line tg note w meets.0) (load_says line tg w good.sane)) (record { holds = meets.1 }))
    where
      tg : Target
      tg = target_at acc t 0

      z : ℕ
      z = suc (width acc)

      note : Note
      note = note_in acc.cell

      shift : ℤ
      shift = toward direction (number_in (temporary ty t (width acc)))

      n0 : 0 < (n frame)
      n0 = let lt = right.1 in omega (arith, lt)

      -- the second of two values is there
      twice : (old new : Value) (u : ℕ) → vals frame env (with_value z t new) u ≡ vals frame env (with_value z (with_value z t old) new) u
      twice old new u = V.temp_set f copied whole env t.regions z new u ∙ sym (V.temp_set f copied whole env (changed_at t.regions z old) z new u ∙ over (vals frame env t) (V.temp_set f copied whole env t.regions z old) u)
        where
          over : (v : ℕ → Value) → ((u : ℕ) → vals frame env (with_value z t old) u ≡ changed_at v (temp_at frame z) old u) → (u : ℕ) → changed_at (vals frame env (with_value z t old)) (temp_at frame z) new u ≡ changed_at v (temp_at frame z) new u
          over v h u = by (nat_eq u (temp_at frame z)) refl
            where
              by : (b : Bool) → nat_eq u (temp_at frame z) ≡ b → changed_at (vals frame env (with_value z t old)) (temp_at frame z) new u ≡ changed_at v (temp_at frame z) new u
              by true e = rw e refl
              by false e = changed_else (vals frame env (with_value z t old)) (temp_at frame z) new u e ∙ h u ∙ changed_else v (temp_at frame z) old u e ∙ sym (changed_else v (temp_at frame z) new u e)

      st : Stand (all frame) here (in_line (loaded (temp_at frame z) (temp_at frame 0) note ∷ beside (temp_at frame z) (temp_at frame z) ∷ stored (temp_at frame z) (temp_at frame 0) note ∷ []) here k.next)
      st = stepping_nodes acc direction here k.next right.0 st'

  pub step_good_by : (line : ℕ) (acc : Access) (direction : Direction) (ty : Ty) → ActGood (Code.update line acc (Stepping direction) ty)
  step_good_by line acc direction ty here k live env t w st right meets good =
      let tg = target_at acc t 0 in
      let z = suc (width acc) in
      let note = note_in acc.cell in
      let nodes = stepping_nodes acc direction here k.next right.0 st in
      goes_bind (Held line acc direction ty here env t) (GoodWay k) (source.load line tg w) _
      (ready_good line acc direction ty here k live env t w st right meets good) (λ old w1 q1.
      goes_bind (Ready line acc here env t old) (GoodWay k) (source.step line old (toward direction (number_in (temporary ty t (width acc)))) w1) _ q1.then (λ new w2 q2.
      goes_bind (λ u w3. Stored w2 tg (kept acc.cell new) u w3 × (note_at w2.heap tg ≡ note)) (GoodWay k) (source.store line tg (kept acc.cell new) w2) (λ _ w3. Go (Next env (with_value z t new)) w3)
      (goes_both (Stored w2 tg (kept acc.cell new)) (λ u w3. note_at w2.heap tg ≡ note) (source.store line tg (kept acc.cell new) w2) (store_says line tg (kept acc.cell new) w2 q2.at.sane) (store_named line tg (kept acc.cell new) note w2 q2.named)) (λ u w3 q3.
      gives (GoodWay k) (Next env (with_value z t new)) w3
      (cross frame (suc (suc here)) k.next (stored (temp_at frame z) (temp_at frame 0) note) env env (with_value z t new) (with_value z t new) w2 w3 (leads frame (suc (suc here)) _ k.next nodes.1.1.0) q2.at q3.0.0 refl (λ u. refl) refl
      (store_says_for tg (kept acc.cell new) z note env (with_value z t new) w2 w3 (holder t new) q3.1 (changed_there t.regions z new z refl ∙ sym (kept_whole frame acc.cell new right.0)) q3.0)))))
    where
      holder : (t : Temporaries) (new : Value) → (target_at acc t 0).pointer ≡ (with_value (suc (width acc)) t new).regions 0
      holder t new = target_pointer frame acc t 0 ∙ sym (changed_else t.regions (suc (width acc)) new 0 (not_eq 0 (suc (width acc)) (λ e. cc)))

  -- a struct copy, cell by cell
  pub fits_kept : (kind : CellKind) (parents : ℕ → ℕ) (holder : ℕ) (v : Value) → fits parents (note_of kind) holder (kept_cell kind v) ≡ true → fits parents (note_of kind) holder v ≡ true
  fits_kept int_cell parents holder v e = e
  fits_kept unsigned_cell parents holder v e = e
  fits_kept char_cell parents holder v e = refl
  fits_kept region_cell parents holder v e = e
  fits_kept (pointer_cell note target) parents holder v e = e

  pub cell_regional : (kind : CellKind) → is_regional_cell kind ≡ true → cell_kind kind ≡ regional
  cell_regional int_cell e = cc
  cell_regional unsigned_cell e = cc
  cell_regional char_cell e = cc
  cell_regional region_cell e = refl
  cell_regional (pointer_cell note target) e = refl

  pub cell_numeric : (kind : CellKind) → is_regional_cell kind ≡ false → cell_kind kind ≡ numeric
  cell_numeric int_cell e = refl
  cell_numeric unsigned_cell e = refl
  cell_numeric char_cell e = refl
  cell_numeric region_cell e = cc
  cell_numeric (pointer_cell note target) e = cc

  pub kind_else : (k : Kind) (t : Temporaries) (z : ℕ) (v : Value) (j : ℕ) → nat_eq j z ≡ false → (set_kind k t z v).regions j ≡ t.regions j
  kind_else numeric t z v j e = refl
  kind_else regional t z v j e = changed_else t.regions z v j e

  pub nowhere_first : (m here next : ℕ) → m ≡ 0 → first_of m here next ≡ next
  nowhere_first zero here next e = refl
  nowhere_first (suc m) here next e = cc

  pub stored_leads : (z lw : ℕ) (kinds : Layout) (effect : Effect) (here next : ℕ) → Stand (all frame) here (in_line (effect ∷ cell_effects f z lw kinds) here next)
      → (slice_get (all frame) here ≡ Some (going effect (first_of (2 * length kinds) (suc here) next))) × Stand (all frame) (suc here) (in_line (cell_effects f z lw kinds) (suc here) next)
  stored_leads z lw [] effect here next st = (subst (λ p. slice_get (all frame) here ≡ Some (going effect p)) (sym (nowhere_first (2 * 0) (suc here) next (omega arith))) st.0, tt)
  stored_leads z lw (kind ∷ kinds) effect here next st = (subst (λ p. slice_get (all frame) here ≡ Some (going effect p)) (sym (positive (2 * suc (length kinds)) (suc here) next (omega arith))) st.0, st.1)

  -- a cell's value is loaded, and not yet stored
  pub record Carried (line : ℕ) (kind : CellKind) (kinds : Layout) (from to : Target) (z here : ℕ) (env : List Value) (t : Temporaries) (v : Value) (w1 : World) : Type 0 where
    pub at : At frame (suc here) env (with_cell kind t z v) w1
    pub named : is_regional_cell kind ≡ true → Named line to (note_of kind) w1
    pub rest : IfGoes (λ _ w2. MoveMeets line kinds (record from { offset = suc from.offset }) (record to { offset = suc to.offset }) w2) (source.store line to (kept_cell kind v) w1)

  -- a cell is loaded
  pub cell_loaded : (line z lw : ℕ) → lw < z → z < (n frame) → (kind : CellKind) (from : Target) (here to : ℕ) (env : List Value) (t : Temporaries) (w : World) → slice_get (all frame) here ≡ Some (going (one_of (is_regional_cell kind) (loaded (temp_at frame z) (temp_at frame lw) (note_of kind)) (looked_at (temp_at frame lw))) to)
      → (is_regional_cell kind ≡ true → Named line from (note_of kind) w) → from.pointer ≡ t.regions lw → At frame here env t w → Goes (λ v w1. At frame to env (with_cell kind t z v) w1) (source.load line from w)
  cell_loaded line z lw lz lt kind from here to env t w node named ef good = by (is_regional_cell kind) refl node
    where
      note : Note
      note = note_of kind

      by : (b : Bool) → is_regional_cell kind ≡ b → slice_get (all frame) here ≡ Some (going (one_of b (loaded (temp_at frame z) (temp_at frame lw) note) (looked_at (temp_at frame lw))) to) → Goes (λ v w1. At frame to env (with_cell kind t z v) w1) (source.load line from w)
      by true e q =
          goes_more (Leaves frame (loaded (temp_at frame z) (temp_at frame lw) note) env t w) _ (source.load line from w)
          (λ v w1 q1. cross_assigned frame here to (loaded (temp_at frame z) (temp_at frame lw) note) (temp_at frame z) v env env t (with_cell kind t z v) w w1 (leads frame here _ to q) good q1.0 refl
          (λ u. subst (λ k. vals frame env (set_kind k t z v) u ≡ changed_at (vals frame env t) (temp_at frame z) v u) (sym (cell_regional kind e)) (V.temp_set f copied whole env t.regions z v u)) refl q1.1 q1.2)
          (says_loaded frame env t w z lw note from (source.load line from w) (omega (arith, lz, lt)) ef (load_named line from note w (named e)) (load_says line from w good.sane))
      by false e q =
          goes_more (Loaded w from) _ (source.load line from w)
          (λ v w1 q1. let same = kept_values v e in
          cross frame here to (looked_at (temp_at frame lw)) env env t (with_cell kind t z v) w w1 (leads frame here _ to q) good q1.0 refl same refl
          (subst is_present (ef ∙ sym (V.temp_value f copied whole env t.regions lw) ∙ sym (same (temp_at frame lw))) q1.2))
          (load_says line from w good.sane)
        where
          kept_values : (v : Value) → is_regional_cell kind ≡ false → (u : ℕ) → vals frame env (with_cell kind t z v) u ≡ vals frame env t u
          kept_values v e u = subst (λ k. vals frame env (set_kind k t z v) u ≡ vals frame env t u) (sym (cell_numeric kind e)) refl

  pub carried_good : (line z lw : ℕ) → lw < z → z < (n frame) → (kind : CellKind) (kinds : Layout) (from to : Target) (here next : ℕ) (env : List Value) (t : Temporaries) (w : World) → Stand (all frame) here (in_line (cell_effects f z lw (kind ∷ kinds)) here next) → MoveMeets line (kind ∷ kinds) from to w → from.pointer ≡ t.regions lw
      → At frame (first_of (2 * length (kind ∷ kinds)) here next) env t w → Goes (Carried line kind kinds from to z here env t) (source.load line from w)
  carried_good line z lw lz lt kind kinds from to here next env t w st meets ef good =
      goes_more (λ v w1. At frame (suc here) env (with_cell kind t z v) w1 × ((is_regional_cell kind ≡ true → Named line to (note_of kind) w1) × IfGoes (λ _ w2. MoveMeets line kinds (record from { offset = suc from.offset }) (record to { offset = suc to.offset }) w2) (source.store line to (kept_cell kind v) w1))) (Carried line kind kinds from to z here env t) (source.load line from w)
      (λ v w1 q1. record { at = q1.0; named = q1.1.0; rest = q1.1.1 })
      (goes_both (λ v w1. At frame (suc here) env (with_cell kind t z v) w1) _ (source.load line from w) (cell_loaded line z lw lz lt kind from here (suc here) env t w st.0 meets.0 ef (subst (λ p. At frame p env t w) (positive (2 * suc (length kinds)) here next (omega arith)) good)) (record { holds = meets.1 }))

  -- and then stored
  pub cell_put : (line z : ℕ) → (kind : CellKind) (goal : Target) (here to : ℕ) (env : List Value) (t : Temporaries) (v : Value) (w : World) → slice_get (all frame) here ≡ Some (going (one_of (is_regional_cell kind) (stored (temp_at frame z) (temp_at frame 0) (note_of kind)) (looked_at (temp_at frame 0))) to)
      → goal.pointer ≡ t.regions 0 → (is_regional_cell kind ≡ true → t.regions z ≡ v) → (is_regional_cell kind ≡ true → Named line goal (note_of kind) w) → At frame here env t w → Goes (λ u w1. At frame to env t w1) (source.store line goal (kept_cell kind v) w)
  cell_put line z kind goal here to env t v w node eg is named good = by (is_regional_cell kind) refl node
    where
      note : Note
      note = note_of kind

      by : (b : Bool) → is_regional_cell kind ≡ b → slice_get (all frame) here ≡ Some (going (one_of b (stored (temp_at frame z) (temp_at frame 0) note) (looked_at (temp_at frame 0))) to) → Goes (λ u w1. At frame to env t w1) (source.store line goal (kept_cell kind v) w)
      by true e q =
          goes_more (λ u w1. Stored w goal (kept_cell kind v) u w1 × (note_at w.heap goal ≡ note)) _ (source.store line goal (kept_cell kind v) w)
          (λ u w1 q2. cross frame here to (stored (temp_at frame z) (temp_at frame 0) note) env env t t w w1 (leads frame here _ to q) good q2.0.0 refl (λ u. refl) refl
          (store_says_for goal v z note env t w w1 eg q2.1 (is e) (q2.0.0, q2.0.1, subst (λ m. fits (parent w1.heap) m (region_in goal.pointer) v ≡ true) (sym q2.1) (fits_kept kind (parent w1.heap) (region_in goal.pointer) v (subst (λ m. fits (parent w1.heap) m (region_in goal.pointer) (kept_cell kind v) ≡ true) q2.1 q2.0.2)))))
          (goes_both (Stored w goal (kept_cell kind v)) (λ u w1. note_at w.heap goal ≡ note) (source.store line goal (kept_cell kind v) w) (store_says line goal (kept_cell kind v) w good.sane) (store_named line goal (kept_cell kind v) note w (named e)))
      by false e q =
          goes_more (Stored w goal (kept_cell kind v)) _ (source.store line goal (kept_cell kind v) w)
          (λ u w1 q2. cross frame here to (looked_at (temp_at frame 0)) env env t t w w1 (leads frame here _ to q) good q2.0 refl (λ u. refl) refl
          (subst is_present (eg ∙ sym (V.temp_value f copied whole env t.regions 0)) q2.1))
          (store_says line goal (kept_cell kind v) w good.sane)

  pub cell_there : (kind : CellKind) (t : Temporaries) (z : ℕ) (v : Value) → is_regional_cell kind ≡ true → (with_cell kind t z v).regions z ≡ v
  cell_there kind t z v e = subst (λ k. (set_kind k t z v).regions z ≡ v) (sym (cell_regional kind e)) (changed_there t.regions z v z refl)

  pub cell_stored : (line z lw : ℕ) → lw < z → (kind : CellKind) (kinds : Layout) (from to : Target) (here next : ℕ) (env : List Value) (t : Temporaries) (v : Value) (w1 : World)
      → slice_get (all frame) (suc here) ≡ Some (going (one_of (is_regional_cell kind) (stored (temp_at frame z) (temp_at frame 0) (note_of kind)) (looked_at (temp_at frame 0))) (first_of (2 * length kinds) (suc (suc here)) next))
      → to.pointer ≡ (with_cell kind t z v).regions 0 → Carried line kind kinds from to z here env t v w1
      → Goes (λ u w2. At frame (first_of (2 * length kinds) (suc (suc here)) next) env (with_cell kind t z v) w2 × MoveMeets line kinds (record from { offset = suc from.offset }) (record to { offset = suc to.offset }) w2) (source.store line to (kept_cell kind v) w1)
  cell_stored line z lw lz kind kinds from to here next env t v w1 node et q1 =
      goes_both (λ u w2. At frame (first_of (2 * length kinds) (suc (suc here)) next) env (with_cell kind t z v) w2) _ (source.store line to (kept_cell kind v) w1)
      (cell_put line z kind to (suc here) _ env (with_cell kind t z v) v w1 node et (cell_there kind t z v) q1.named q1.at) (record { holds = q1.rest })

  pub cells_good : (line z lw : ℕ) → lw < z → z < (n frame) → (kinds : Layout) (from to : Target) (here next : ℕ) (env : List Value) (t : Temporaries) (w : World) → Stand (all frame) here (in_line (cell_effects f z lw kinds) here next) → MoveMeets line kinds from to w → from.pointer ≡ t.regions lw → to.pointer ≡ t.regions 0 → At frame (first_of (2 * length kinds) here next) env t w
      → Goes (λ t1 w1. At frame next env t1 w1) (cells_moved source deleting f.locals line z kinds from to t w)
  cells_good line z lw lz lt [] from to here next env t w st meets ef et good = gives (λ t1 w1. At frame next env t1 w1) t w (subst (λ p. At frame p env t w) (nowhere_first (2 * 0) here next (omega arith)) good)
  cells_good line z lw lz lt (kind ∷ kinds) from to here next env t w st meets ef et good =
      let two = stored_leads z lw kinds (one_of (is_regional_cell kind) (stored (temp_at frame z) (temp_at frame 0) (note_of kind)) (looked_at (temp_at frame 0))) (suc here) next st.1 in
      goes_bind (Carried line kind kinds from to z here env t) (λ t1 w1. At frame next env t1 w1) (source.load line from w) _ (carried_good line z lw lz lt kind kinds from to here next env t w st meets ef good) (λ v w1 q1.
      let ef1 : from.pointer ≡ (with_cell kind t z v).regions lw = ef ∙ sym (kind_else (cell_kind kind) t z v lw (not_eq lw z (λ e. omega (arith, e, lz)))) in
      let et1 : to.pointer ≡ (with_cell kind t z v).regions 0 = et ∙ sym (kind_else (cell_kind kind) t z v 0 (not_eq 0 z (λ e. omega (arith, e, lz)))) in
      goes_bind (λ u w2. At frame (first_of (2 * length kinds) (suc (suc here)) next) env (with_cell kind t z v) w2 × MoveMeets line kinds (record from { offset = suc from.offset }) (record to { offset = suc to.offset }) w2) (λ t1 w1. At frame next env t1 w1) (source.store line to (kept_cell kind v) w1) _
      (cell_stored line z lw lz kind kinds from to here next env t v w1 two.0 et1 q1)
      (λ u w2 q2. cells_good line z lw lz lt kinds (record from { offset = suc from.offset }) (record to { offset = suc to.offset }) (suc (suc here)) next env (with_cell kind t z v) w2 two.1 q2.1 ef1 et1 q2.0))

  pub drop_good : ActGood Code.drop
  drop_good here k live env t w st right meets good = gives (GoodWay k) (Next env t) w good

  pub move_good : (line : ℕ) (kinds : Layout) (left right : Access) → ActGood (Code.move line kinds left right)
  move_good line kinds left right here k live env t w st right' meets good =
      goes_bind (λ t1 w1. At frame k.next env t1 w1) (GoodWay k) (cells_moved source deleting f.locals line (width left + width right) kinds (target_at right t (width left)) (target_at left t 0) t w) (λ t1 w1. Go (Next env t1) w1)
      (cells_good line (width left + width right) (width left) (omega arith) right' kinds (target_at right t (width left)) (target_at left t 0) here k.next env t w st meets (target_pointer frame right t (width left)) (target_pointer frame left t 0) good)
      (λ t1 w1 q. gives (GoodWay k) (Next env t1) w1 q)

  pub act_good : (act : Act) → ActGood act
  act_good Code.drop = drop_good
  act_good (Code.perform line i tys) = perform_good line i tys
  act_good (Code.assign line x ty) = assign_good line x ty
  act_good (Code.store line acc) = store_good line acc
  act_good (Code.update line acc (Compute from operator sign) ty) = compute_good line acc from operator sign ty
  act_good (Code.update line acc (Stepping direction) ty) = step_good_by line acc direction ty
  act_good (Code.move line kinds left right) = move_good line kinds left right
  act_good (Code.delete line) = delete_good line
  act_good (Code.leave line result) = leave_good line result

  pub first_sum : (i j here next : ℕ) → first_of (i + j) here next ≡ first_of i here (first_of j (here + i) next)
  first_sum zero j here next = let e : 0 + j ≡ j = omega arith in let e1 : here + 0 ≡ here = omega arith in rw (e, e1) refl
  first_sum (suc i) j here next = positive (suc i + j) here next (omega arith)

  -- where there is something behind
  pub first_more : (i j here next : ℕ) → 0 < j → first_of (i + j) here next ≡ first_of i here (here + i)
  first_more i j here next lt = first_sum i j here next ∙ ap (first_of i here) (positive j (here + i) next lt)
