-- Facts hold in a whole call of a function.
use Rattle.std.proofs.Common.{◌≡◌, ℕ, zero, suc, ◌+◌, ◌<◌, ◌≤◌, Bool, true, false, List, [], ◌∷◌, length, map, get_or, Option, Some, None, refl, sym, ap, ◌∙◌, subst, arith}
use Rattle.std.specs.Prelude.{slice_get, take, count_by}
use Rattle.rc_core.specs.Types.{Ty, int, unsigned, char, region, struct, pointer}
use Rattle.rc_core.specs.Heap.{Value, Null, Heap, zero_of}
use Rattle.rc_core.specs.Source.{World, source}
use Rattle.rc_rlang.specs.RegionCode.{Kind, numeric, regional, kind_of}
use Rattle.rc_rlang.specs.RegionPoints.{code_points}
use Rattle.rc_core.specs.Execution.{zero_result}
use Rattle.rc_rlang.specs.RegionRuns.{blank_temporaries, sized, result_of, run_routine, code_run, Way, Next, Broke, Continued, Returned, Temporaries, at_kind, set_kind, with_temporary}
use Rattle.rc_rlang.specs.RegionFlow.{nothing, nulled, going, is_regional, one_of, first_of, copies, local_variable, variables, Ends, entered, entry_pairs, end_nodes, code_nodes}
use Rattle.rc_annotations.specs.Holding.{AllHold}
use Rattle.rc_annotations.specs.Effects.{Absent, EachIs}
use Rattle.rc_annotations.specs.Variables.{picked, past, picks}
use Rattle.rc_annotations.specs.Worlds.{Grown, Made, Sane}
use Rattle.rc_along.specs.Along.{Stand, given_to, RightRoutine, RoutineMeets}
use Rattle.rc_annotations.proofs.Truths.{derivable_holds, holds_same}
use Rattle.rc_core.specs.Live as L
use Rattle.rc_annotations.proofs.Variables as V
use Rattle.rc_annotations.proofs.WorldFacts.{Goes, goes_bind, gives, stays_itself}
use Rattle.rc_annotations.proofs.Nodes.{code_count}
use Rattle.rc_along.proofs.Standing.{stand_left, stand_right, past_front, stand_all, null_zero}
use Rattle.rc_along.proofs.Settings.{Setting, Calling}
use Rattle.rc_along.proofs.Crossing.{n, all, temp_at, vals, At, leads, cross, cross_assigned, new_temp, set_values, keep_values, kind_regional, kind_numeric}
use Rattle.rc_along.proofs.ActsHold.{Left, GoodWay, left_at}
use Rattle.rc_along.proofs.CodeHolds.{code_good}

module _ (frame : Setting) (around : Calling frame) where
  open frame use {r, temporaries, a, c, g, f, there, copied, whole, heap0}
  open around use {deleting, calls, inside, keeps_calls}

  -- behind the body a result is zero or null
  pub cleared_good : (at : ℕ) (env : List Value) (t : Temporaries) (w : World) (ty : Ty) → slice_get (all frame) at ≡ Some (going (one_of (is_regional ty) (nulled (temp_at frame 0)) nothing) (suc at)) → At frame at env t w → At frame (suc at) env (with_temporary ty t 0 (zero_of ty)) w
  cleared_good at env t w ty node good = cleared (is_regional ty) refl node
    where
      cleared : (b : Bool) → is_regional ty ≡ b → slice_get (all frame) at ≡ Some (going (one_of b (nulled (temp_at frame 0)) nothing) (suc at)) → At frame (suc at) env (with_temporary ty t 0 (zero_of ty)) w
      cleared true q p =
          let null' : Null ≡ zero_of ty = sym (null_zero ty q) in
          cross_assigned frame at (suc at) (nulled (temp_at frame 0)) (temp_at frame 0) (zero_of ty) env env t (with_temporary ty t 0 (zero_of ty)) w w (leads frame at _ (suc at) p) good (stays_itself w good.sane) refl (set_values frame ty env t 0 (zero_of ty) (kind_regional frame ty q)) refl
          (subst (Made w.heap) null' (λ m. absurd m)) (subst Absent (null' ∙ sym (new_temp frame env t (zero_of ty))) (λ m. m))
      cleared false q p = cross frame at (suc at) nothing env env t (with_temporary ty t 0 (zero_of ty)) w w (leads frame at nothing (suc at) p) good (stays_itself w good.sane) refl (keep_values frame ty env t 0 (zero_of ty) (kind_numeric frame ty q)) refl tt

  -- behind the body zero or null is returned
  pub end_good : (at : ℕ) (env : List Value) (t : Temporaries) (w : World) → ((ty : Ty) → f.result ≡ Some ty → 0 < (n frame)) → Stand (all frame) at (end_nodes f f.result at) → At frame at env t w → Left frame around (zero_result f.result) w
  end_good at env t w right st i = by f.result refl right st
    where
      set_there : (k : Kind) (s : Temporaries) (v : Value) → at_kind k (set_kind k s 0 v) 0 ≡ v
      set_there numeric s v = refl
      set_there regional s v = refl

      by : (result : Option Ty) → result ≡ f.result → ((ty : Ty) → result ≡ Some ty → 0 < (n frame)) → Stand (all frame) at (end_nodes f result at) → Left frame around (zero_result result) w
      by None e right st = left_at frame around None ((λ ty q reg. (ty, e ∙ q, reg)), λ ty q. cc) at env t w st i
      by (Some ty) e right st =
          let s1 : Temporaries = with_temporary ty t 0 (zero_of ty) in
          subst (λ v. Left frame around v w) (set_there (kind_of ty) t (zero_of ty)) (left_at frame around (Some ty) ((λ u q reg. (u, e ∙ q, reg)), right) (suc at) env s1 w st.1 (cleared (is_regional ty) refl st.0))
        where
          cleared : (b : Bool) → is_regional ty ≡ b → slice_get (all frame) at ≡ Some (going (one_of b (nulled (temp_at frame 0)) nothing) (suc at)) → At frame (suc at) env (with_temporary ty t 0 (zero_of ty)) w
          cleared true q p =
              let null' : Null ≡ zero_of ty = sym (null_zero ty q) in
              cross_assigned frame at (suc at) (nulled (temp_at frame 0)) (temp_at frame 0) (zero_of ty) env env t (with_temporary ty t 0 (zero_of ty)) w w (leads frame at _ (suc at) p) i (stays_itself w i.sane) refl (set_values frame ty env t 0 (zero_of ty) (kind_regional frame ty q)) refl
              (subst (Made w.heap) null' (λ m. absurd m)) (subst Absent (null' ∙ sym (new_temp frame env t (zero_of ty))) (λ m. m))
          cleared false q p = cross frame at (suc at) nothing env env t (with_temporary ty t 0 (zero_of ty)) w w (leads frame at nothing (suc at) p) i (stays_itself w i.sane) refl (keep_values frame ty env t 0 (zero_of ty) (kind_numeric frame ty q)) refl tt

  -- at the entry
  pub zero_absent : (ty : Ty) → Absent (zero_of ty)
  zero_absent int = λ p. p
  zero_absent unsigned = λ p. p
  zero_absent char = λ p. p
  zero_absent region = λ p. p
  zero_absent (struct i) = λ p. p
  zero_absent (pointer note target) = λ p. p

  pub past_made : (heap : Heap) (vs : List Value) (t : ℕ → Value) (u : ℕ) → ((i : ℕ) → Made heap (past vs (λ k. Null) i)) → ((k : ℕ) → Made heap (t k)) → Made heap (past vs t u)
  past_made heap [] t u m mt = mt u
  past_made heap (v ∷ vs) t zero m mt = m 0
  past_made heap (v ∷ vs) t (suc u) m mt = past_made heap vs t u (λ i. m (suc i)) mt

  pub zeros_made : (heap : Heap) (bs : List Bool) (tys : List Ty) (i : ℕ) → Made heap (past (picked bs (sized tys [])) (λ k. Null) i)
  zeros_made heap [] tys i = λ p. absurd p
  zeros_made heap (true ∷ bs) [] zero = λ p. absurd p
  zeros_made heap (true ∷ bs) [] (suc i) = zeros_made heap bs [] i
  zeros_made heap (true ∷ bs) (ty ∷ tys) zero = λ p. absurd (zero_absent ty p)
  zeros_made heap (true ∷ bs) (ty ∷ tys) (suc i) = zeros_made heap bs tys i
  zeros_made heap (false ∷ bs) [] i = zeros_made heap bs [] i
  zeros_made heap (false ∷ bs) (ty ∷ tys) i = zeros_made heap bs tys i

  pub firsts_made : (heap : Heap) (tys : List Ty) (p : ℕ) (xs : List Value) → length xs ≡ p → ((i : ℕ) → Made heap (past (picked (map is_regional (take p tys)) xs) (λ k. Null) i)) → (i : ℕ) → Made heap (past (picked (map is_regional tys) (sized tys xs)) (λ k. Null) i)
  firsts_made heap [] p xs l m i = λ q. absurd q
  firsts_made heap (ty ∷ tys) zero [] l m i = zeros_made heap (map is_regional (ty ∷ tys)) (ty ∷ tys) i
  firsts_made heap (ty ∷ tys) zero (x ∷ xs) l m i = absurd (omega (arith, l))
  firsts_made heap (ty ∷ tys) (suc p) [] l m i = absurd (omega (arith, l))
  firsts_made heap (ty ∷ tys) (suc p) (x ∷ xs) l m i = by (is_regional ty) m i (λ m k. firsts_made heap tys p xs (omega (arith, l)) m k)
    where
      by : (b : Bool) → ((i : ℕ) → Made heap (past (picked (b ∷ map is_regional (take p tys)) (x ∷ xs)) (λ k. Null) i)) → (i : ℕ)
          → (((i : ℕ) → Made heap (past (picked (map is_regional (take p tys)) xs) (λ k. Null) i)) → (k : ℕ) → Made heap (past (picked (map is_regional tys) (sized tys xs)) (λ k. Null) k))
          → Made heap (past (picked (b ∷ map is_regional tys) (x ∷ sized tys xs)) (λ k. Null) i)
      by true m zero next = m 0
      by true m (suc i) next = next (λ k. m (suc k)) i
      by false m i next = next m i

  pub sized_long : (tys : List Ty) (xs : List Value) → length (sized tys xs) ≡ length tys
  sized_long [] xs = refl
  sized_long (ty ∷ tys) [] = ap suc (sized_long tys [])
  sized_long (ty ∷ tys) (x ∷ xs) = ap suc (sized_long tys xs)

  pub sized_at : (tys : List Ty) (xs : List Value) (i : ℕ) → i < length xs → i < length tys → get_or (sized tys xs) i Null ≡ get_or xs i Null
  sized_at [] xs i lx lt = absurd (omega (arith, lt))
  sized_at (ty ∷ tys) [] i lx lt = absurd (omega (arith, lx))
  sized_at (ty ∷ tys) (x ∷ xs) zero lx lt = refl
  sized_at (ty ∷ tys) (x ∷ xs) (suc i) lx lt = sized_at tys xs i (omega (arith, lx)) (omega (arith, lt))

  pub first_kinds : (tys : List Ty) (p i : ℕ) → i < length (take p tys) → get_or (map is_regional tys) i false ≡ is_regional (get_or (take p tys) i int)
  first_kinds [] zero i lt = absurd (omega (arith, lt))
  first_kinds [] (suc p) i lt = absurd (omega (arith, lt))
  first_kinds (ty ∷ tys) zero i lt = absurd (omega (arith, lt))
  first_kinds (ty ∷ tys) (suc p) zero lt = refl
  first_kinds (ty ∷ tys) (suc p) (suc i) lt = first_kinds tys p i (omega (arith, lt))

  pub first_bits : (tys : List Ty) (p i : ℕ) → i < length (take p tys) → get_or (map is_regional (take p tys)) i false ≡ get_or (map is_regional tys) i false
  first_bits [] zero i lt = absurd (omega (arith, lt))
  first_bits [] (suc p) i lt = absurd (omega (arith, lt))
  first_bits (ty ∷ tys) zero i lt = absurd (omega (arith, lt))
  first_bits (ty ∷ tys) (suc p) zero lt = refl
  first_bits (ty ∷ tys) (suc p) (suc i) lt = first_bits tys p i (omega (arith, lt))

  pub first_trues : (tys : List Ty) (p i : ℕ) → i < length (take p tys) → V.trues (map is_regional (take p tys)) i ≡ V.trues (map is_regional tys) i
  first_trues [] zero i lt = absurd (omega (arith, lt))
  first_trues [] (suc p) i lt = absurd (omega (arith, lt))
  first_trues (ty ∷ tys) zero i lt = absurd (omega (arith, lt))
  first_trues (ty ∷ tys) (suc p) zero lt = refl
  first_trues (ty ∷ tys) (suc p) (suc i) lt = by (is_regional ty) (first_trues tys p i (omega (arith, lt)))
    where
      by : (b : Bool) → V.trues (map is_regional (take p tys)) i ≡ V.trues (map is_regional tys) i → V.trues (b ∷ map is_regional (take p tys)) (suc i) ≡ V.trues (b ∷ map is_regional tys) (suc i)
      by true e = ap suc e
      by false e = e

  pub take_short : (tys : List Ty) (p : ℕ) → length (take p tys) ≤ length tys
  take_short [] zero = omega arith
  take_short [] (suc p) = omega arith
  take_short (ty ∷ tys) zero = omega arith
  take_short (ty ∷ tys) (suc p) = let k = take_short tys p in omega (arith, k)

  pub take_few : (tys : List Ty) (p : ℕ) → length (take p tys) ≤ p
  take_few [] zero = omega arith
  take_few [] (suc p) = omega arith
  take_few (ty ∷ tys) zero = omega arith
  take_few (ty ∷ tys) (suc p) = let k = take_few tys p in omega (arith, k)

  pub each_is : (env : List Value) (t : Temporaries) (tys : List Ty) (x : ℕ) → ((i : ℕ) → i < length tys → get_or (picks f) (x + i) false ≡ is_regional (get_or tys i int))
      → ((i : ℕ) → i < length tys → get_or (picks f) (x + i) false ≡ true → vals frame env t (count_by is_regional (take (x + i) f.locals)) ≡ get_or env (x + i) Null) → EachIs (vals frame env t) (entry_pairs f tys x)
  each_is env t [] x kinds same = tt
  each_is env t (ty ∷ tys) x kinds same = by (is_regional ty) refl (each_is env t tys (suc x) (λ i lt. subst (λ j. get_or (picks f) j false ≡ is_regional (get_or tys i int)) (over i) (kinds (suc i) (omega (arith, lt))))
      (λ i lt. subst (λ j. get_or (picks f) j false ≡ true → vals frame env t (count_by is_regional (take j f.locals)) ≡ get_or env j Null) (over i) (same (suc i) (omega (arith, lt)))))
    where
      over : (i : ℕ) → x + suc i ≡ suc x + i
      over i = omega arith

      at_x : x + 0 ≡ x
      at_x = omega arith

      by : (b : Bool) → is_regional ty ≡ b → EachIs (vals frame env t) (entry_pairs f tys (suc x)) → EachIs (vals frame env t) (one_of b ((local_variable f x, count_by is_regional (take x f.locals)) ∷ entry_pairs f tys (suc x)) (entry_pairs f tys (suc x)))
      by false e rest = rest
      by true e rest =
          let k : get_or (picks f) x false ≡ true = subst (λ j. get_or (picks f) j false ≡ is_regional ty) at_x (kinds 0 (omega arith)) ∙ e in
          (V.local_value f copied whole env t.regions x k ∙ sym (subst (λ j. get_or (picks f) j false ≡ true → vals frame env t (count_by is_regional (take j f.locals)) ≡ get_or env j Null) at_x (same 0 (omega arith)) k), rest)

  -- what the entry's facts say of the copies holds before the first point
  pub entry_good : (env : List Value) (w : World) → Sane w → Grown heap0 w.heap → length env ≡ length f.locals → AllHold (a.entry g) (past copied (λ i. Null)) w.heap → ((i : ℕ) → Made w.heap (past copied (λ k. Null) i)) → ((i : ℕ) → Made w.heap (past (picked (picks f) env) (λ k. Null) i)) → At frame 0 env blank_temporaries w
  entry_good env w sane grown long hold mc me = record {
    facts = λ fact is. derivable_holds (variables f (n frame)) (a.entry g) (vals frame env blank_temporaries) w.heap sane.rooted (λ p e. holds_same (copies f) p (past copied (λ i. Null)) (vals frame env blank_temporaries) w.heap (c.at_entries g f p there e) (λ u lt. past_front copied (past (picked (picks f) env) blank_temporaries.regions) (λ i. Null) u (omega (arith, lt, whole))) (hold p e)) (c.follows.entry g f fact there is);
    made = λ u. past_made w.heap copied (past (picked (picks f) env) blank_temporaries.regions) u mc (λ k. past_made w.heap (picked (picks f) env) blank_temporaries.regions k me (λ j. λ p. absurd p));
    sane = sane;
    grown = grown;
    long = long;
  }

  -- what holds where the body begins
  pub begin_good : (xs : List Value) (w : World) → copied ≡ given_to f xs → length xs ≡ f.parameters → Sane w → Grown heap0 w.heap → AllHold (a.entry g) (past copied (λ i. Null)) w.heap → ((i : ℕ) → Made w.heap (past copied (λ k. Null) i))
      → At frame (first_of (code_points f.body) 1 (suc (code_points f.body))) (sized f.locals xs) blank_temporaries w
  begin_good xs w same long_xs sane grown hold made' =
      let env : List Value = sized f.locals xs in
      let to = first_of (code_points f.body) 1 (suc (code_points f.body)) in
      let me : (i : ℕ) → Made w.heap (past (picked (picks f) env) (λ k. Null) i) = firsts_made w.heap f.locals f.parameters xs long_xs (subst (λ vs. (i : ℕ) → Made w.heap (past vs (λ k. Null) i)) same made') in
      let first : At frame 0 env blank_temporaries w = entry_good env w sane grown (sized_long f.locals xs) hold made' me in
      cross frame 0 to (entered (entry_pairs f (take f.parameters f.locals) 0)) env env blank_temporaries blank_temporaries w w (leads frame 0 _ to (stand_all (all frame)).0) first (stays_itself w sane) refl (λ u. refl) refl (each env)
    where
      front : List Ty
      front = take f.parameters f.locals

      copy_is : (env : List Value) (i : ℕ) → i < length front → get_or (picks f) i false ≡ true → vals frame env blank_temporaries (count_by is_regional (take i f.locals)) ≡ get_or xs i Null
      copy_is env i lt e =
          let T : ℕ → Value = past (picked (picks f) env) blank_temporaries.regions in
          subst (λ vs. past vs T (count_by is_regional (take i f.locals)) ≡ get_or xs i Null) (sym same)
          (ap (past (given_to f xs) T) (V.trues_count f.locals i ∙ sym (first_trues f.locals f.parameters i lt)) ∙ V.picked_at (map is_regional front) xs i T (first_bits f.locals f.parameters i lt ∙ e))

      each : (env : List Value) → EachIs (vals frame (sized f.locals xs) blank_temporaries) (entry_pairs f front 0)
      each env = each_is (sized f.locals xs) blank_temporaries front 0 (λ i lt. subst (λ j. get_or (picks f) j false ≡ is_regional (get_or front i int)) (zero_left i) (first_kinds f.locals f.parameters i lt))
          (λ i lt. subst (λ j. get_or (picks f) j false ≡ true → vals frame (sized f.locals xs) blank_temporaries (count_by is_regional (take j f.locals)) ≡ get_or (sized f.locals xs) j Null) (zero_left i)
          (λ e. copy_is (sized f.locals xs) i lt e ∙ sym (sized_at f.locals xs i (let few = take_few f.locals f.parameters in omega (arith, lt, few, long_xs)) (let short = take_short f.locals f.parameters in omega (arith, lt, short)))))
        where
          zero_left : (i : ℕ) → i ≡ 0 + i
          zero_left i = omega arith

  -- the nodes of the body, and of its end
  pub body_stands : Stand (all frame) 1 (code_nodes f f.body 1 (record { next = suc (code_points f.body); broken = suc (code_points f.body); continued = suc (code_points f.body) })) × Stand (all frame) (suc (code_points f.body)) (end_nodes f f.result (suc (code_points f.body)))
  body_stands =
      let at_end' = suc (code_points f.body) in
      let k : Ends = record { next = at_end'; broken = at_end'; continued = at_end' } in
      let st : Stand (all frame) 0 (all frame) = stand_all (all frame) in
      let B = code_nodes f f.body 1 k in
      let E = end_nodes f f.result at_end' in
      (stand_left (all frame) 1 B E st.1, stand_right (all frame) 1 at_end' B E (let j = code_count f f.body 1 k in omega (arith, j)) st.1)

  -- a call of the routine
  pub routine_good : (xs : List Value) (w : World) → copied ≡ given_to f xs → length xs ≡ f.parameters → RightRoutine r f (n frame) → RoutineMeets deleting f calls inside xs w → Sane w → Grown heap0 w.heap → AllHold (a.entry g) (past copied (λ i. Null)) w.heap → ((i : ℕ) → Made w.heap (past copied (λ k. Null) i))
      → Goes (Left frame around) (run_routine source deleting calls (Some f) xs w)
  routine_good xs w same long_xs right meets sane grown hold made' =
      let at_end' = suc (code_points f.body) in
      let k : Ends = record { next = at_end'; broken = at_end'; continued = at_end' } in
      goes_bind (GoodWay frame around k) (Left frame around) (code_run source deleting f.locals f.body calls L.at_end (sized f.locals xs) blank_temporaries w) (result_of f.result)
      (code_good frame around f.body 1 k body_stands.0 right.body L.at_end (sized f.locals xs) blank_temporaries w meets (begin_good xs w same long_xs sane grown hold made'))
      (λ way w1 p. ending at_end' body_stands.1 way w1 p)
    where
      ending : (at : ℕ) → Stand (all frame) at (end_nodes f f.result at) → (way : Way) (w1 : World) → GoodWay frame around (record { next = at; broken = at; continued = at }) way w1 → Goes (Left frame around) (result_of f.result way w1)
      ending at ends (Next env t) w1 p = gives (Left frame around) (zero_result f.result) w1 (end_good at env t w1 right.result ends p)
      ending at ends (Broke env t) w1 p = gives (Left frame around) (zero_result f.result) w1 (end_good at env t w1 right.result ends p)
      ending at ends (Continued env t) w1 p = gives (Left frame around) (zero_result f.result) w1 (end_good at env t w1 right.result ends p)
      ending at ends (Returned v) w1 p = gives (Left frame around) v w1 p
