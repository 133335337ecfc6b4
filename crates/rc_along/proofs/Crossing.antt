-- Over an edge, facts that are allowed behind it hold behind it; and what operations say.
use Rattle.std.proofs.Common.{◌≡◌, ℕ, zero, suc, ◌<◌, ◌≤◌, Bool, true, false, nat_eq, List, [], ◌∷◌, length, map, get_or, Option, Some, None, refl, sym, ap, ◌∙◌, subst, arith}
use Rattle.std.specs.Prelude.{slice_get}
use Rattle.rc_core.specs.declared.ty.Note.{Note}
use Rattle.rc_core.specs.Types.{Ty, int, unsigned, char, region, struct, pointer}
use Rattle.rc_core.specs.Heap.{Value, Number, Null, Handle, Pointer, Heap}
use Rattle.rc_core.specs.Runs.{Run, Go, bind, computed, Target}
use Rattle.rc_core.specs.Evaluation.{is_true, region_named, give_number, static as static_value}
use Rattle.rc_core.specs.Source.{World, byte_from}
use Rattle.std.specs.Prelude.{ℤ, pos, negsuc, Result, Ok, Err}
use Rattle.rc_base.specs.declared.ends.Trap.{Trap}
use Rattle.rc_core.specs.declared.ty.Signedness.{Signedness}
use Rattle.rc_rlang.specs.RegionCode.{numeric, regional, kind_if, kind_of, Access}
use Rattle.rc_rlang.specs.RegionRuns.{Temporaries, at_kind, temporary, set_kind, with_temporary, changed_at, chosen_value, target_at, target_shifted, holds}
use Rattle.rc_rlang.specs.RegionFlow.{Effect, nothing, nulled, moved, fixed, beside, made, under, loaded, present, absent, assigned, Node, going, is_regional, one_of, local_variable, temporary_variable, result_variable, scratch, variables, yes_effect, no_effect, routine_nodes}
use Rattle.rc_annotations.specs.Annotations.{Facts, gained, exit_facts, allowed_where, assigning}
use Rattle.rc_annotations.specs.Holding.{is_present, region_in}
use Rattle.rc_annotations.specs.Effects.{Absent, Says}
use Rattle.rc_annotations.specs.Variables.{picked, picks, values_of}
use Rattle.rc_annotations.specs.Worlds.{Made, Sane, Stays, note_at, Beside, Anew, Under, Loaded}
use Rattle.rc_along.specs.Along.{NoNumber, Good}
use Rattle.rc_annotations.proofs.Effects.{changed_there, changed_else, not_eq, gained_holds, holds_behind, holds_assigned}
use Rattle.rc_annotations.proofs.Truths.{holds_same}
use Rattle.rc_annotations.proofs.Variables as V
use Rattle.rc_annotations.proofs.WorldFacts.{Goes, goes_bind, goes_more, goes_both, gives, stays_itself, stays_heap, grown_trans, made_grown}
use Rattle.rc_along.proofs.Settings.{Setting}

module _ (frame : Setting) where
  open frame use {r, temporaries, a, c, g, f, there, copied, whole, heap0}

  abbrev pub n : ℕ
  n = temporaries g

  abbrev pub all : List Node
  all = routine_nodes f

  abbrev pub fresh : ℕ
  fresh = scratch f n

  abbrev pub temp_at : ℕ → ℕ
  temp_at h = temporary_variable f h

  abbrev pub vals : List Value → Temporaries → ℕ → Value
  vals env t u = values_of f copied env t.regions u

  abbrev pub At : ℕ → List Value → Temporaries → World → Type 0
  At p env t w = Good a g f copied heap0 p env t w

  abbrev pub exits : ℕ → List ℕ → Option ℕ → Facts
  exits = exit_facts a

  pub record Leads (p : ℕ) (effect : Effect) (to : ℕ) : Type 0 where
    pub node : Node
    pub e : ℕ
    pub at : slice_get all p ≡ Some node
    pub edge : slice_get node.edges e ≡ Some (record { effect = effect; to = to })

  pub leads : (p : ℕ) (effect : Effect) (to : ℕ) → slice_get all p ≡ Some (going effect to) → Leads p effect to
  leads p effect to s = record { node = going effect to; e = 0; at = s; edge = refl }

  pub result_below : result_variable f n ≤ fresh
  result_below = omega arith

  -- over an edge that assigns nothing
  pub cross : (p to : ℕ) (effect : Effect) (env env1 : List Value) (t t1 : Temporaries) (w w1 : World) → Leads p effect to → At p env t w → Stays w w1 → length env1 ≡ length env → ((u : ℕ) → vals env1 t1 u ≡ vals env t u)
      → assigned effect ≡ None → Says exits effect (vals env1 t1) w1.heap → At to env1 t1 w1
  cross p to effect env env1 t t1 w w1 l good stays long same e says = record {
    facts = λ fact is. holds_behind (variables f n) (result_variable f n) (a.before g p) (gained exits effect) (vals env t) (vals env1 t1) w.heap w1.heap (λ q. c.at_points g f p q there) good.facts
        (record { rooted = good.sane.rooted; made = good.made }) stays.sane.rooted stays.grown (λ u lt. same u) (gained_holds exits effect (vals env1 t1) w1.heap says)
        (subst (λ x. allowed_where (variables f n) fresh (gained exits) x effect (a.before g p) fact) e (c.follows.along g f p (record { effect = effect; to = to }) fact there (record { node = l.node; place = l.e; there = l.at; is = l.edge }) is));
    made = λ u. subst (Made w1.heap) (sym (same u)) (made_grown w.heap w1.heap (vals env t u) stays.grown (good.made u));
    sane = stays.sane;
    grown = grown_trans heap0 w.heap w1.heap good.grown stays.grown;
    long = long ∙ good.long;
  }

  -- other temporaries with the same values of the variables
  pub again : (p : ℕ) (env : List Value) (t t1 : Temporaries) (w : World) → ((u : ℕ) → vals env t1 u ≡ vals env t u) → At p env t w → At p env t1 w
  again p env t t1 w same good = record {
    facts = λ fact is. holds_same (result_variable f n) fact (vals env t) (vals env t1) w.heap (c.at_points g f p fact there is) (λ u lt. same u) (good.facts fact is);
    made = λ u. subst (Made w.heap) (sym (same u)) (good.made u);
    sane = good.sane;
    grown = good.grown;
    long = good.long;
  }

  pub changed_made : (heap : Heap) (t : ℕ → Value) (x : ℕ) (v : Value) (u : ℕ) → Made heap v → Made heap (t u) → Made heap (changed_at t x v u)
  changed_made heap t x v u m k = by (nat_eq u x)
    where
      by : (b : Bool) → Made heap (chosen_value b v (t u))
      by true = m
      by false = k

  -- over an edge that assigns x
  pub cross_assigned : (p to : ℕ) (effect : Effect) (x : ℕ) (v : Value) (env env1 : List Value) (t t1 : Temporaries) (w w1 : World) → Leads p effect to → At p env t w → Stays w w1 → length env1 ≡ length env → ((u : ℕ) → vals env1 t1 u ≡ changed_at (vals env t) x v u)
      → assigned effect ≡ Some x → Made w1.heap v → Says exits (assigning fresh effect) (changed_at (vals env t) fresh v) w1.heap → At to env1 t1 w1
  cross_assigned p to effect x v env env1 t t1 w w1 l good stays long same e m says = record {
    facts = λ fact is. holds_assigned (variables f n) (result_variable f n) fresh x v (a.before g p) (gained exits (assigning fresh effect)) (vals env t) (vals env1 t1) w.heap w1.heap result_below (λ q. c.at_points g f p q there) good.facts
        (record { rooted = good.sane.rooted; made = good.made }) stays.sane.rooted stays.grown (λ u lt. same u) (gained_holds exits (assigning fresh effect) (changed_at (vals env t) fresh v) w1.heap says)
        fact (c.at_points g f to fact there is)
        (subst (λ x. allowed_where (variables f n) fresh (gained exits) x effect (a.before g p) fact) e (c.follows.along g f p (record { effect = effect; to = to }) fact there (record { node = l.node; place = l.e; there = l.at; is = l.edge }) is));
    made = λ u. subst (Made w1.heap) (sym (same u)) (changed_made w1.heap (vals env t) x v u m (made_grown w.heap w1.heap (vals env t u) stays.grown (good.made u)));
    sane = stays.sane;
    grown = grown_trans heap0 w.heap w1.heap good.grown stays.grown;
    long = long ∙ good.long;
  }

  -- with the scratch variable set, a temporary is as it was
  pub old_temp : (env : List Value) (t : Temporaries) (v : Value) (h : ℕ) → h < n → changed_at (vals env t) fresh v (temp_at h) ≡ t.regions h
  old_temp env t v h lt = changed_else (vals env t) fresh v (temp_at h) (not_eq (temp_at h) fresh (λ e. omega (arith, e, lt))) ∙ V.temp_value f copied whole env t.regions h

  pub new_temp : (env : List Value) (t : Temporaries) (v : Value) → changed_at (vals env t) fresh v fresh ≡ v
  new_temp env t v = changed_there (vals env t) fresh v fresh refl

  pub set_values : (ty : Ty) (env : List Value) (t : Temporaries) (h : ℕ) (v : Value) → kind_of ty ≡ regional → (u : ℕ) → vals env (with_temporary ty t h v) u ≡ changed_at (vals env t) (temp_at h) v u
  set_values ty env t h v e u = subst (λ k. vals env (set_kind k t h v) u ≡ changed_at (vals env t) (temp_at h) v u) (sym e) (V.temp_set f copied whole env t.regions h v u)

  pub keep_values : (ty : Ty) (env : List Value) (t : Temporaries) (h : ℕ) (v : Value) → kind_of ty ≡ numeric → (u : ℕ) → vals env (with_temporary ty t h v) u ≡ vals env t u
  keep_values ty env t h v e u = subst (λ k. vals env (set_kind k t h v) u ≡ vals env t u) (sym e) refl

  pub regional_temp : (ty : Ty) (t : Temporaries) (h : ℕ) → kind_of ty ≡ regional → temporary ty t h ≡ t.regions h
  regional_temp ty t h e = ap (λ k. at_kind k t h) e

  -- an operation that leaves a region or a pointer
  abbrev pub Leaves : Effect → List Value → Temporaries → World → Value → World → Type 0
  Leaves effect env t w v w1 = Stays w w1 × Made w1.heap v × Says exits (assigning fresh effect) (changed_at (vals env t) fresh v) w1.heap

  pub sets : (p to : ℕ) (effect : Effect) (ty : Ty) (h : ℕ) (m : Run World Value) (env : List Value) (t : Temporaries) (w : World) → kind_of ty ≡ regional → assigned effect ≡ Some (temp_at h) → Leads p effect to → At p env t w
      → Goes (Leaves effect env t w) m → Goes (At to env) (bind m (λ v w1. Go (with_temporary ty t h v) w1))
  sets p to effect ty h m env t w kind e l good k = goes_bind (Leaves effect env t w) (At to env) m (λ v w1. Go (with_temporary ty t h v) w1) k (λ v w1 q.
      gives (At to env) (with_temporary ty t h v) w1 (cross_assigned p to effect (temp_at h) v env env t (with_temporary ty t h v) w w1 l good q.0 refl (set_values ty env t h v kind) e q.1 q.2))

  -- and one that leaves a number
  abbrev pub Counts : Effect → List Value → Temporaries → World → Value → World → Type 0
  Counts effect env t w v w1 = Stays w w1 × Says exits effect (vals env t) w1.heap

  pub keeps : (p to : ℕ) (effect : Effect) (ty : Ty) (h : ℕ) (m : Run World Value) (env : List Value) (t : Temporaries) (w : World) → kind_of ty ≡ numeric → assigned effect ≡ None → Leads p effect to → At p env t w
      → ((v : Value) (w1 : World) → Says exits effect (vals env t) w1.heap → Says exits effect (vals env (with_temporary ty t h v)) w1.heap)
      → Goes (Counts effect env t w) m → Goes (At to env) (bind m (λ v w1. Go (with_temporary ty t h v) w1))
  keeps p to effect ty h m env t w kind e l good same k = goes_bind (Counts effect env t w) (At to env) m (λ v w1. Go (with_temporary ty t h v) w1) k (λ v w1 q.
      gives (At to env) (with_temporary ty t h v) w1 (cross p to effect env env t (with_temporary ty t h v) w w1 l good q.0 refl (keep_values ty env t h v kind) e (same v w1 q.1)))

  -- what operations say
  pub says_null : (env : List Value) (t : Temporaries) (w : World) (h : ℕ) → Sane w → Goes (Leaves (nulled (temp_at h)) env t w) (Go Null w)
  says_null env t w h sane = gives (Leaves (nulled (temp_at h)) env t w) Null w (stays_itself w sane, (λ p. absurd p), subst Absent (sym (new_temp env t Null)) (λ p. p))

  pub says_static : (env : List Value) (t : Temporaries) (w : World) (h object : ℕ) → Sane w → 0 < length w.heap → Goes (Leaves (fixed (temp_at h)) env t w) (Go (static_value object) w)
  says_static env t w h object sane some = gives (Leaves (fixed (temp_at h)) env t w) (static_value object) w (stays_itself w sane, (λ p. some), subst (λ v. is_present v × (region_in v ≡ 0)) (sym (new_temp env t (static_value object))) (tt, refl))

  pub says_copy : (env : List Value) (t : Temporaries) (w : World) (h y : ℕ) (v : Value) → Sane w → changed_at (vals env t) fresh v y ≡ v → Made w.heap v → Goes (Leaves (moved (temp_at h) y) env t w) (Go v w)
  says_copy env t w h y v sane e m = gives (Leaves (moved (temp_at h) y) env t w) v w (stays_itself w sane, m, new_temp env t v ∙ sym e)

  -- in the region of the temporary k
  pub says_beside : (env : List Value) (t : Temporaries) (w : World) (h k : ℕ) (m : Run World Value) → k < n → Goes (Beside w (t.regions k)) m → Goes (Leaves (beside (temp_at h) (temp_at k)) env t w) m
  says_beside env t w h k m lt s = goes_more (Beside w (t.regions k)) (Leaves (beside (temp_at h) (temp_at k)) env t w) m (λ v w1 b. (b.0, b.1, rw (old_temp env t v k lt, new_temp env t v) (b.2, b.3, b.4))) s

  pub says_made : (env : List Value) (t : Temporaries) (w : World) (h : ℕ) (m : Run World Value) → Goes (Anew w) m → Goes (Leaves (made (temp_at h)) env t w) m
  says_made env t w h m s = goes_more (Anew w) (Leaves (made (temp_at h)) env t w) m (λ v w1 b. (b.0, b.1, rw (new_temp env t v) b.2)) s

  pub says_under : (env : List Value) (t : Temporaries) (w : World) (h k : ℕ) (m : Run World Value) → k < n → Goes (Under w (t.regions k)) m → Goes (Leaves (under (temp_at h) (temp_at k)) env t w) m
  says_under env t w h k m lt s = goes_more (Under w (t.regions k)) (Leaves (under (temp_at h) (temp_at k)) env t w) m (λ v w1 b. (b.0, b.1, rw (old_temp env t v k lt, new_temp env t v) (b.2, b.3, b.4))) s

  pub says_loaded : (env : List Value) (t : Temporaries) (w : World) (h k : ℕ) (note : Note) (target : Target) (m : Run World Value) → k < n → target.pointer ≡ t.regions k → Goes (λ v w1. note_at w.heap target ≡ note) m → Goes (Loaded w target) m → Goes (Leaves (loaded (temp_at h) (temp_at k) note) env t w) m
  says_loaded env t w h k note target m lt e named s =
      goes_more (λ v w1. Loaded w target v w1 × (note_at w.heap target ≡ note)) (Leaves (loaded (temp_at h) (temp_at k) note) env t w) m
      (λ v w1 b. (b.0.0, b.0.1, rw (old_temp env t v k lt, new_temp env t v, ← e, ← b.1) (b.0.2, b.0.3))) (goes_both (Loaded w target) (λ v w1. note_at w.heap target ≡ note) m s named)

  -- the branches of a test
  pub holds_regional : (ty : Ty) (v : Value) → is_regional ty ≡ true → holds ty v ≡ is_true v
  holds_regional int v e = cc
  holds_regional unsigned v e = cc
  holds_regional char v e = cc
  holds_regional region v e = refl
  holds_regional (struct k) v e = cc
  holds_regional (pointer note target) v e = refl

  pub true_present : (v : Value) → NoNumber v → is_true v ≡ true → is_present v
  true_present (Number k) that e = absurd that
  true_present Null that e = cc
  true_present (Handle k) that e = tt
  true_present (Pointer b) that e = tt

  pub not_true_absent : (v : Value) → is_true v ≡ false → Absent v
  not_true_absent (Number n) e = λ p. p
  not_true_absent Null e = λ p. p
  not_true_absent (Handle k) e = cc
  not_true_absent (Pointer b) e = cc

  pub kind_regional : (ty : Ty) → is_regional ty ≡ true → kind_of ty ≡ regional
  kind_regional ty e = ap kind_if e

  pub kind_numeric : (ty : Ty) → is_regional ty ≡ false → kind_of ty ≡ numeric
  kind_numeric ty e = ap kind_if e

  abbrev pub Quiet : Effect → List Value → Temporaries → World → Type 0
  Quiet effect env t w = (assigned effect ≡ None) × Says exits effect (vals env t) w.heap

  pub says_yes : (env : List Value) (t : Temporaries) (w : World) (test : Ty) (h : ℕ) → (is_regional test ≡ true → NoNumber (t.regions h)) → (is_regional test ≡ true → holds test (temporary test t h) ≡ true) → Quiet (yes_effect f test h) env t w
  says_yes env t w test h typed is = by (is_regional test) refl
    where
      by : (b : Bool) → is_regional test ≡ b → Quiet (one_of b (present (temp_at h)) nothing) env t w
      by true e = (refl, subst is_present (sym (V.temp_value f copied whole env t.regions h)) (true_present (t.regions h) (typed e) (sym (holds_regional test (t.regions h) e) ∙ ap (holds test) (sym (regional_temp test t h (kind_regional test e))) ∙ is e)))
      by false e = (refl, tt)

  pub says_no : (env : List Value) (t : Temporaries) (w : World) (test : Ty) (h : ℕ) → (is_regional test ≡ true → holds test (temporary test t h) ≡ false) → Quiet (no_effect f test h) env t w
  says_no env t w test h is = by (is_regional test) refl
    where
      by : (b : Bool) → is_regional test ≡ b → Quiet (one_of b (absent (temp_at h)) nothing) env t w
      by true e = (refl, subst Absent (sym (V.temp_value f copied whole env t.regions h)) (not_true_absent (t.regions h) (sym (holds_regional test (t.regions h) e) ∙ ap (holds test) (sym (regional_temp test t h (kind_regional test e))) ∙ is e)))
      by false e = (refl, tt)

  pub trues_le : (bs : List Bool) (x : ℕ) → V.trues bs x ≤ length (picked bs [])
  trues_le [] x = omega arith
  trues_le (true ∷ bs) zero = omega arith
  trues_le (false ∷ bs) zero = omega arith
  trues_le (true ∷ bs) (suc x) = let k = trues_le bs x in omega (arith, k)
  trues_le (false ∷ bs) (suc x) = trues_le bs x

  pub local_below : (x : ℕ) → local_variable f x ≤ result_variable f n
  local_below x =
      let i = V.trues_count f.locals x in
      let j = trues_le (map is_regional f.locals) x in
      let k = V.picked_length f.locals [] in
      omega (arith, i, j, k)

  pub old_local : (env : List Value) (t : Temporaries) (v : Value) (x : ℕ) → get_or (picks f) x false ≡ true → changed_at (vals env t) fresh v (local_variable f x) ≡ get_or env x Null
  old_local env t v x e =
      changed_else (vals env t) fresh v (local_variable f x) (not_eq (local_variable f x) fresh (λ q. let k = local_below x in omega (arith, q, k)))
      ∙ V.local_value f copied whole env t.regions x e

  pub local_made : (p : ℕ) (env : List Value) (t : Temporaries) (w : World) (x : ℕ) → At p env t w → get_or (picks f) x false ≡ true → Made w.heap (get_or env x Null)
  local_made p env t w x good e = subst (Made w.heap) (V.local_value f copied whole env t.regions x e) (good.made (local_variable f x))

  pub temp_made : (p : ℕ) (env : List Value) (t : Temporaries) (w : World) (h : ℕ) → At p env t w → Made w.heap (t.regions h)
  temp_made p env t w h good = subst (Made w.heap) (V.temp_value f copied whole env t.regions h) (good.made (temp_at h))

  abbrev pub Only : World → Value → World → Type 0
  Only w v w1 = Stays w w1

  pub computed_says : (line : ℕ) (m : Result ℤ Trap) (w : World) → Sane w → Goes (Only w) (bind (computed line m w) give_number)
  computed_says line (Ok x) w sane = gives (Only w) (Number x) w (stays_itself w sane)
  computed_says line (Err e) w sane = record { holds = tt }

  pub region_named_says : (line : ℕ) (v : Value) (w : World) → Sane w → Made w.heap v → Goes (Beside w v) (region_named line v w)
  region_named_says line (Number k) w sane m = record { holds = tt }
  region_named_says line Null w sane m = record { holds = tt }
  region_named_says line (Handle k) w sane m = gives (Beside w (Handle k)) (Handle k) w (stays_itself w sane, m, tt, tt, refl)
  region_named_says line (Pointer b) w sane m = gives (Beside w (Pointer b)) (Handle b.region) w (stays_itself w sane, m, tt, tt, refl)

  pub get_byte_says : (input : List ℕ) (w : World) → Sane w → Goes (Only w) (bind (byte_from input w) give_number)
  get_byte_says [] w sane = gives (Only w) (Number (negsuc 0)) _ (stays_heap w _ sane refl)
  get_byte_says (b ∷ rest) w sane = gives (Only w) (Number (pos b)) _ (stays_heap w _ sane refl)

  pub target_pointer : (acc : Access) (t : Temporaries) (h : ℕ) → (target_at acc t h).pointer ≡ t.regions h
  target_pointer acc t h = by acc.shift
    where
      by : (s : Option Signedness) → (target_shifted s acc t h).pointer ≡ t.regions h
      by None = refl
      by (Some s) = refl

  -- an operation of a number without an effect
  pub counts : (p to : ℕ) (ty : Ty) (h : ℕ) (m : Run World Value) (env : List Value) (t : Temporaries) (w : World) → kind_of ty ≡ numeric → Leads p nothing to → At p env t w → Goes (Only w) m → Goes (At to env) (bind m (λ v w1. Go (with_temporary ty t h v) w1))
  counts p to ty h m env t w kind l good k = keeps p to nothing ty h m env t w kind refl l good (λ v w1 q. tt) (goes_more (Only w) (Counts nothing env t w) m (λ v w1 q. (q, tt)) k)
