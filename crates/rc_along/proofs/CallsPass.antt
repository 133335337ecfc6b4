-- A call is given the facts of its function's entry, and gives those of its exit.
use Rattle.std.proofs.Common.{◌≡◌, ℕ, zero, suc, ◌+◌, ◌<◌, Bool, true, false, List, [], ◌∷◌, length, map, get_or, Option, Some, None, inl, inr, refl, sym, ap, ◌∙◌, subst, arith}
use Rattle.std.specs.Prelude.{slice_get, cond, count_by}
use Rattle.std.proofs.lemmas.Bool.{or_cases, and_parts, eqb-true}
use Rattle.rc_core.specs.Types.{Ty, int, unsigned, char, region, struct, pointer}
use Rattle.rc_core.specs.Heap.{Value, Null, Heap}
use Rattle.rc_core.specs.Runs.{Run, Go, bind, Calls}
use Rattle.rc_core.specs.Source.{World, source}
use Rattle.rc_facts.specs.declared.fact.Fact.{Fact}
use Rattle.rc_facts.specs.declared.fact.Fact.TheVariants.{In, Up, Trad, NonNull}
use Rattle.rc_rlang.specs.RegionCode.{set, Code, Routine}
use Rattle.rc_rlang.specs.RegionCode as Code
use Rattle.rc_rlang.specs.RegionRuns.{kept, held, Temporaries, temporary, with_temporary, changed_at, operation_value, step_run, temporaries_from, kept_all}
use Rattle.rc_rlang.specs.RegionFlow.{called, is_regional, one_of, copies, variables, operation_effect, regional_arguments}
use Rattle.rc_annotations.specs.Annotations.{is_place, place_in, some_below, pair_fact}
use Rattle.rc_annotations.specs.Holding.{Holds, AllHold}
use Rattle.rc_annotations.specs.Effects.{Says}
use Rattle.rc_annotations.specs.Variables.{picked, past}
use Rattle.rc_annotations.specs.Worlds.{Made, Sane}
use Rattle.rc_along.specs.Along.{given_to, Called, Keeps, CallRight, CallDemand, CallMeets}
use Rattle.rc_annotations.proofs.Truths.{derivable_holds, holds_same}
use Rattle.rc_annotations.proofs.Effects.{with_name}
use Rattle.rc_annotations.proofs.Variables as V
use Rattle.rc_annotations.proofs.WorldFacts.{Goes, goes_bind, goes_more, goes_branching, gives}
use Rattle.rc_along.proofs.Settings.{Setting}
use Rattle.rc_along.proofs.Crossing.{n, fresh, temp_at, vals, At, exits, Leads, cross, old_temp, new_temp, keep_values, regional_temp, Leaves, sets, kind_regional, kind_numeric, temp_made}

module _ (frame : Setting) where
  open frame use {r, temporaries, a, c, g, f, there, copied, whole, heap0}

  -- a call

  pub some_of : (test : ℕ → Bool) (m : ℕ) → some_below test m ≡ true → (i : ℕ) × (test i ≡ true)
  some_of test zero e = cc
  some_of test (suc m) e = elim (or_cases (test m) (some_below test m) e) [ inl x ↦ (m, x) | inr y ↦ some_of test m y ]

  pub place_of : (o : Option ℕ) (u : ℕ) → is_place o u ≡ true → o ≡ Some u
  place_of None u e = cc
  place_of (Some v) u e = ap Some (eqb-true v u e)

  pub kept_whole : (ty : Ty) (v : Value) → is_regional ty ≡ true → kept ty v ≡ v
  kept_whole int v e = cc
  kept_whole unsigned v e = cc
  kept_whole char v e = cc
  kept_whole region v e = refl
  kept_whole (struct i) v e = cc
  kept_whole (pointer note target) v e = refl

  -- the regions and pointers among the arguments
  abbrev pub passed : List Ty → Temporaries → ℕ → List Value
  passed tys t h = picked (map is_regional tys) (kept_all tys (temporaries_from tys t h))

  -- what stands at a place of the call, the result being v
  pub place_value : (tys : List Ty) (h : ℕ) (x : Option ℕ) (i u : ℕ) (values : ℕ → Value) (t : Temporaries) (v : Value) → ((j : ℕ) → j < h + length tys → values (temp_at frame j) ≡ t.regions j) → ((y : ℕ) → x ≡ Some y → values y ≡ v)
      → place_in (regional_arguments f tys h) x i ≡ Some u → values u ≡ past (passed tys t h) (λ k. v) i
  place_value [] h None i u values t v old new e = cc
  place_value [] h (Some y) zero u values t v old new e = let k : y ≡ u = cc in ap values (sym k) ∙ new y refl
  place_value [] h (Some y) (suc i) u values t v old new e = cc
  place_value (ty ∷ tys) h x i u values t v old new e = by (is_regional ty) refl i e (λ k q. place_value tys (suc h) x k u values t v (λ j lt. old j (omega (arith, lt))) new q)
    where
      by : (b : Bool) → is_regional ty ≡ b → (i : ℕ) → place_in (one_of b (temp_at frame h ∷ regional_arguments f tys (suc h)) (regional_arguments f tys (suc h))) x i ≡ Some u
          → ((k : ℕ) → place_in (regional_arguments f tys (suc h)) x k ≡ Some u → values u ≡ past (passed tys t (suc h)) (λ k. v) k)
          → values u ≡ past (picked (b ∷ map is_regional tys) (kept ty (temporary ty t h) ∷ kept_all tys (temporaries_from tys t (suc h)))) (λ k. v) i
      by true q zero e next = let k : temp_at frame h ≡ u = cc in ap values (sym k) ∙ old h (omega arith) ∙ sym (kept_whole ty (temporary ty t h) q ∙ regional_temp frame ty t h (kind_regional frame ty q))
      by true q (suc i) e next = next i e
      by false q i e next = next i e

  -- the facts of an exit, of the call's variables
  pub exit_holds : (k : ℕ) (tys : List Ty) (h : ℕ) (x : Option ℕ) (values : ℕ → Value) (t : Temporaries) (v : Value) (heap : Heap) → ((j : ℕ) → j < h + length tys → values (temp_at frame j) ≡ t.regions j) → ((y : ℕ) → x ≡ Some y → values y ≡ v)
      → AllHold (a.exit k) (past (passed tys t h) (λ i. v)) heap → Says (exits frame) (called x k (regional_arguments f tys h)) values heap
  exit_holds k tys h x values t v heap old new hold p e =
      let arguments = regional_arguments f tys h in
      let one = some_of (λ i. some_below (pair_fact (a.exit k) arguments x p i) (suc (length arguments))) (suc (length arguments)) e in
      let two = some_of (pair_fact (a.exit k) arguments x p one.0) (suc (length arguments)) one.1 in
      by p one.0 two.0 two.1
    where
      same : (i u : ℕ) → is_place (place_in (regional_arguments f tys h) x i) u ≡ true → values u ≡ past (passed tys t h) (λ k. v) i
      same i u e = place_value tys h x i u values t v old new (place_of (place_in (regional_arguments f tys h) x i) u e)

      by : (p : Fact) (i j : ℕ) → pair_fact (a.exit k) (regional_arguments f tys h) x p i j ≡ true → Holds p values heap
      by (In y z) i j e = let b = and_parts (is_place (place_in (regional_arguments f tys h) x i) y) _ e in let d = and_parts (is_place (place_in (regional_arguments f tys h) x j) z) _ b.1 in rw (same i y b.0, same j z d.0) (hold (In i j) d.1)
      by (Up y z) i j e = let b = and_parts (is_place (place_in (regional_arguments f tys h) x i) y) _ e in let d = and_parts (is_place (place_in (regional_arguments f tys h) x j) z) _ b.1 in rw (same i y b.0, same j z d.0) (hold (Up i j) d.1)
      by (Trad y) i j e = let b = and_parts (is_place (place_in (regional_arguments f tys h) x i) y) _ e in rw (same i y b.0) (hold (Trad i) b.1)
      by (NonNull y) i j e = let b = and_parts (is_place (place_in (regional_arguments f tys h) x i) y) _ e in rw (same i y b.0) (hold (NonNull i) b.1)

  -- the facts of an entry hold of what is passed
  pub argument_place : (tys : List Ty) (h i : ℕ) → i < length (regional_arguments f tys h) → place_in (regional_arguments f tys h) None i ≡ Some (get_or (regional_arguments f tys h) i 0)
  argument_place tys h i lt = by (regional_arguments f tys h) i lt
    where
      by : (ys : List ℕ) (i : ℕ) → i < length ys → place_in ys None i ≡ Some (get_or ys i 0)
      by [] i lt = absurd (omega (arith, lt))
      by (y ∷ ys) zero lt = refl
      by (y ∷ ys) (suc i) lt = by ys i (omega (arith, lt))

  pub entry_holds : (p to k : ℕ) (fk : Routine) (x : Option ℕ) (tys : List Ty) (h : ℕ) (env : List Value) (t : Temporaries) (w : World) → slice_get r.functions k ≡ Some fk → copies fk ≡ length (regional_arguments f tys h)
      → Leads frame p (called x k (regional_arguments f tys h)) to → At frame p env t w → AllHold (a.entry k) (past (passed tys t h) (λ i. Null)) w.heap
  entry_holds p to k fk x tys h env t w found same l good fact is =
      let arguments = regional_arguments f tys h in
      let d = c.follows.calls g f p (record { effect = called x k arguments; to = to }) x k arguments fact there (record { node = l.node; place = l.e; there = l.at; is = l.edge }) refl is in
      holds_same (copies fk) fact (λ i. vals frame env t (get_or arguments i 0)) (past (passed tys t h) (λ i. Null)) w.heap (c.at_entries k fk fact found is)
      (λ i lt. sym (place_value tys h None i (get_or arguments i 0) (vals frame env t) t Null (λ j lt2. V.temp_value f copied whole env t.regions j) (λ y e. cc) (argument_place tys h i (omega (arith, lt, same)))))
      (with_name (λ v. get_or arguments v 0) fact (vals frame env t) w.heap (derivable_holds (variables f (n frame)) (a.before g p) (vals frame env t) w.heap good.sane.rooted good.facts d))

  pub passed_made : (tys : List Ty) (h i : ℕ) (t : Temporaries) (heap : Heap) → ((j : ℕ) → Made heap (t.regions j)) → Made heap (past (passed tys t h) (λ k. Null) i)
  passed_made [] h i t heap m = λ p. absurd p
  passed_made (ty ∷ tys) h i t heap m = by (is_regional ty) refl i (λ k. passed_made tys (suc h) k t heap m)
    where
      by : (b : Bool) → is_regional ty ≡ b → (i : ℕ) → ((k : ℕ) → Made heap (past (passed tys t (suc h)) (λ k. Null) k)) → Made heap (past (picked (b ∷ map is_regional tys) (kept ty (temporary ty t h) ∷ kept_all tys (temporaries_from tys t (suc h)))) (λ k. Null) i)
      by true q zero next = subst (Made heap) (sym (kept_whole ty (temporary ty t h) q ∙ regional_temp frame ty t h (kind_regional frame ty q))) (m h)
      by true q (suc i) next = next i
      by false q i next = next i

  pub length_arguments : (tys : List Ty) (h : ℕ) → length (regional_arguments f tys h) ≡ count_by is_regional tys
  length_arguments [] h = refl
  length_arguments (ty ∷ tys) h = by (is_regional ty) (length_arguments tys (suc h)) ∙ sym (V.count_first tys ty)
    where
      by : (b : Bool) → length (regional_arguments f tys (suc h)) ≡ count_by is_regional tys → length (one_of b (temp_at frame h ∷ regional_arguments f tys (suc h)) (regional_arguments f tys (suc h))) ≡ cond b 1 0 + count_by is_regional tys
      by true k = omega (arith, k)
      by false k = omega (arith, k)

  pub kept_long : (us : List Ty) (t : Temporaries) (j : ℕ) → length (kept_all us (temporaries_from us t j)) ≡ length us
  kept_long [] t j = refl
  kept_long (u ∷ us) t j = ap suc (kept_long us t (suc j))

  -- a call of a function is given the facts of its entry, and what is passed is made
  pub call_passes : (h : ℕ) (ty : Ty) (k : ℕ) (tys : List Ty) (env : List Value) (t : Temporaries) (w : World) (p to : ℕ) (x : Option ℕ) → (right : CallRight r f (n frame) h ty k tys) → Leads frame p (called x k (regional_arguments f tys h)) to → At frame p env t w
      → (length (kept_all tys (temporaries_from tys t h)) ≡ right.callee.parameters) × ((i : ℕ) → Made w.heap (past (given_to right.callee (kept_all tys (temporaries_from tys t h))) (λ j. Null) i)) × AllHold (a.entry k) (past (given_to right.callee (kept_all tys (temporaries_from tys t h))) (λ i. Null)) w.heap
  call_passes h ty k tys env t w p to x right l good =
      let given : given_to right.callee (kept_all tys (temporaries_from tys t h)) ≡ passed tys t h = ap (λ us. picked (map is_regional us) (kept_all tys (temporaries_from tys t h))) right.parameters in
      let entry : AllHold (a.entry k) (past (passed tys t h) (λ i. Null)) w.heap = entry_holds p to k right.callee x tys h env t w right.found (ap (count_by is_regional) right.parameters ∙ sym (length_arguments tys h)) l good in
      (kept_long tys t h ∙ right.count, (λ i. subst (λ vs. Made w.heap (past vs (λ j. Null) i)) (sym given) (passed_made tys h i t w.heap (λ j. temp_made frame p env t w j good))), subst (λ vs. AllHold (a.entry k) (past vs (λ i. Null)) w.heap) (sym given) entry)

  pub call_says : (deleting : ℕ → Bool) (calls : Calls World) (inside : CallDemand) → Keeps r a calls inside → (line h : ℕ) (ty : Ty) (k : ℕ) (tys : List Ty) (live : ℕ → Bool) (env : List Value) (t : Temporaries) (w : World) (p to : ℕ) (x : Option ℕ) → (right : CallRight r f (n frame) h ty k tys) → CallMeets deleting f calls inside k tys live env t h w → Leads frame p (called x k (regional_arguments f tys h)) to → At frame p env t w
      → Goes (Called a right.callee.result k (passed tys t h) w) (operation_value source deleting f.locals line (Code.call k tys) calls live env t h w)
  call_says deleting calls inside keeps_calls line h ty k tys live env t w p to x right meets l good =
      goes_branching (Called a right.callee.result k (passed tys t h) w) (deleting k) (λ w1. bind (calls k xs (source.enter (held source deleting f.locals live env) w1)) (λ v w2. Go v (source.leave w1 w2))) (calls k xs) w
      (λ e. goes_bind (Called a right.callee.result k (passed tys t h) (source.enter (held source deleting f.locals live env) w)) (Called a right.callee.result k (passed tys t h) w) (calls k xs (source.enter (held source deleting f.locals live env) w)) (λ v w2. Go v (source.leave w w2))
      (inner (source.enter (held source deleting f.locals live env) w) (record { sound = good.sane.sound; rooted = good.sane.rooted }) (temp_made frame p env t w) entry (meets.0 e))
      (λ v w2 q. gives (Called a right.callee.result k (passed tys t h) w) v (source.leave w w2) (record { sane = record { sound = q.0.sane.sound; rooted = q.0.sane.rooted }; grown = q.0.grown }, q.1, q.2)))
      (λ e. inner w good.sane (temp_made frame p env t w) entry (meets.1 e))
    where
      xs : List Value
      xs = kept_all tys (temporaries_from tys t h)

      passed_long : (us : List Ty) (j : ℕ) → length (kept_all us (temporaries_from us t j)) ≡ length us
      passed_long [] j = refl
      passed_long (u ∷ us) j = ap suc (passed_long us (suc j))

      entry : AllHold (a.entry k) (past (passed tys t h) (λ i. Null)) w.heap
      entry = entry_holds p to k right.callee x tys h env t w right.found (ap (count_by is_regional) right.parameters ∙ sym (length_arguments tys h)) l good

      given : given_to right.callee xs ≡ passed tys t h
      given = ap (λ us. picked (map is_regional us) xs) right.parameters

      inner : (w1 : World) → Sane w1 → ((j : ℕ) → At frame p env t w → Made w1.heap (t.regions j)) → AllHold (a.entry k) (past (passed tys t h) (λ i. Null)) w1.heap → inside k xs w1 → Goes (Called a right.callee.result k (passed tys t h) w1) (calls k xs w1)
      inner w1 sane m hold within = subst (λ vs. AllHold (a.entry k) (past vs (λ i. Null)) w1.heap → ((i : ℕ) → Made w1.heap (past vs (λ i. Null) i)) → Goes (Called a right.callee.result k vs w1) (calls k xs w1)) given
          (λ hold m. record { holds = keeps_calls k right.callee xs w1 right.found (passed_long tys h ∙ right.count) within sane m hold }) hold (λ i. passed_made tys h i t w1.heap (λ j. m j good))

  -- a call that is an operation
  pub call_good : (deleting : ℕ → Bool) (calls : Calls World) (inside : CallDemand) → Keeps r a calls inside → (p to line h : ℕ) (ty : Ty) (k : ℕ) (tys : List Ty) (live : ℕ → Bool) (env : List Value) (t : Temporaries) (w : World) → h < (n frame) → CallRight r f (n frame) h ty k tys → CallMeets deleting f calls inside k tys live env t h w → Leads frame p (operation_effect f h ty (Code.call k tys)) to → At frame p env t w
      → Goes (At frame to env) (step_run source deleting f.locals (set line h ty (Code.call k tys)) calls live env t w)
  call_good deleting calls inside keeps_calls p to line h ty k tys live env t w lt right meets l good = by (is_regional ty) refl l
    where
      m : Run World Value
      m = operation_value source deleting f.locals line (Code.call k tys) calls live env t h w

      by : (b : Bool) → is_regional ty ≡ b → Leads frame p (called (one_of b (Some (temp_at frame h)) None) k (regional_arguments f tys h)) to → Goes (At frame to env) (bind m (λ v w1. Go (with_temporary ty t h v) w1))
      by true e l = sets frame p to (called (Some (temp_at frame h)) k (regional_arguments f tys h)) ty h m env t w (kind_regional frame ty e) refl l good
          (goes_more (Called a right.callee.result k (passed tys t h) w) (Leaves frame (called (Some (temp_at frame h)) k (regional_arguments f tys h)) env t w) m (λ v w1 q. (
            q.0,
            (let u = right.gives_back e in q.1 u.0 u.1 u.2),
            exit_holds k tys h (Some (fresh frame)) (changed_at (vals frame env t) (fresh frame) v) t v w1.heap (λ j lt2. old_temp frame env t v j (let room = right.room in omega (arith, lt2, room))) (λ y e2. let e3 : fresh frame ≡ y = cc in ap (changed_at (vals frame env t) (fresh frame) v) (sym e3) ∙ new_temp frame env t v) q.2,
          ))
          (call_says deleting calls inside keeps_calls line h ty k tys live env t w p to (Some (temp_at frame h)) right meets l good))
      by false e l =
          let kind = kind_numeric frame ty e in
          goes_bind (Called a right.callee.result k (passed tys t h) w) (At frame to env) m (λ v w1. Go (with_temporary ty t h v) w1) (call_says deleting calls inside keeps_calls line h ty k tys live env t w p to None right meets l good) (λ v w1 q.
          gives (At frame to env) (with_temporary ty t h v) w1
          (cross frame p to (called None k (regional_arguments f tys h)) env env t (with_temporary ty t h v) w w1 l good q.0 refl (keep_values frame ty env t h v kind) refl
          (exit_holds k tys h None (vals frame env (with_temporary ty t h v)) t v w1.heap (λ j lt2. keep_values frame ty env t h v kind (temp_at frame j) ∙ V.temp_value f copied whole env t.regions j) (λ y e2. cc) q.2)))
