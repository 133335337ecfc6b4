-- The values of the region variables: the hidden copies, the locals that are regions or pointers, and behind them the temporaries.
use Rattle.std.proofs.Common.{◌≡◌, ℕ, zero, suc, ◌+◌, Bool, true, false, cond, nat_eq, List, [], ◌∷◌, length, map, take, get_or, refl, sym, ap, ◌∙◌, arith, rules}
use Rattle.std.specs.Prelude.{count_by}
use Rattle.std.proofs.lemmas.List.Sums.{sum_by-cons}
use Rattle.rc_core.specs.Types.{Ty}
use Rattle.rc_core.specs.Heap.{Value, Null, update}
use Rattle.rc_rlang.specs.RegionCode.{Routine}
use Rattle.rc_rlang.specs.RegionFlow.{is_regional, copies, local_variable, temporary_variable}
use Rattle.rc_rlang.specs.RegionRuns.{changed_at}
use Rattle.rc_annotations.specs.Variables.{picked, past, picks, values_of}

-- how many there are below x
abbrev pub trues : List Bool → (x : ℕ) → ℕ
trues [] x = 0
trues (b ∷ bs) zero = 0
trues (true ∷ bs) (suc x) = suc (trues bs x)
trues (false ∷ bs) (suc x) = trues bs x

suc_zero : (b : ℕ) → nat_eq (suc b) 0 ≡ false
suc_zero b = search rules

zero_suc : (b : ℕ) → nat_eq 0 (suc b) ≡ false
zero_suc b = search rules

suc_suc : (a b : ℕ) → nat_eq (suc a) (suc b) ≡ nat_eq a b
suc_suc a b = search rules

pub past_there : (vs : List Value) (t : ℕ → Value) (h u : ℕ) → u ≡ length vs + h → past vs t u ≡ t h
past_there [] t h u e = ap t (omega (arith, e))
past_there (v ∷ vs) t h zero e = absurd (omega (arith, e))
past_there (v ∷ vs) t h (suc u) e = past_there vs t h u (omega (arith, e))

pub past_set : (vs : List Value) (t : ℕ → Value) (h m : ℕ) (v : Value) (u : ℕ) → m ≡ length vs + h → past vs (changed_at t h v) u ≡ changed_at (past vs t) m v u
past_set [] t h m v u e = let k : m ≡ h = omega (arith, e) in rw k refl
past_set (x ∷ vs) t h zero v u e = absurd (omega (arith, e))
past_set (x ∷ vs) t h (suc m) v zero e = rw (zero_suc m) refl
past_set (x ∷ vs) t h (suc m) v (suc u) e = rw (suc_suc u m) (past_set vs t h m v u (omega (arith, e)))

pub past_same : (vs : List Value) (t t1 : ℕ → Value) (u : ℕ) → ((k : ℕ) → t k ≡ t1 k) → past vs t u ≡ past vs t1 u
past_same [] t t1 u h = h u
past_same (v ∷ vs) t t1 zero h = refl
past_same (v ∷ vs) t t1 (suc u) h = past_same vs t t1 u h

pub picked_at : (bs : List Bool) (env : List Value) (x : ℕ) (t : ℕ → Value) → get_or bs x false ≡ true → past (picked bs env) t (trues bs x) ≡ get_or env x Null
picked_at [] env x t e = cc
picked_at (true ∷ bs) [] zero t e = refl
picked_at (true ∷ bs) [] (suc x) t e = picked_at bs [] x t e ∙ nothing_at x
  where
    nothing_at : (x : ℕ) → get_or {A = Value} [] x Null ≡ Null
    nothing_at x = refl
picked_at (true ∷ bs) (v ∷ env) zero t e = refl
picked_at (true ∷ bs) (v ∷ env) (suc x) t e = picked_at bs env x t e
picked_at (false ∷ bs) [] zero t e = cc
picked_at (false ∷ bs) [] (suc x) t e = picked_at bs [] x t e
picked_at (false ∷ bs) (v ∷ env) zero t e = cc
picked_at (false ∷ bs) (v ∷ env) (suc x) t e = picked_at bs env x t e

-- a picked one is set
pub picked_set : (bs : List Bool) (env : List Value) (x : ℕ) (v : Value) (t : ℕ → Value) (u : ℕ) → length env ≡ length bs → get_or bs x false ≡ true → past (picked bs (update env x (λ _. v))) t u ≡ changed_at (past (picked bs env) t) (trues bs x) v u
picked_set [] env x v t u l e = cc
picked_set (true ∷ bs) [] x v t u l e = absurd (omega (arith, l))
picked_set (true ∷ bs) (w ∷ env) zero v t zero l e = refl
picked_set (true ∷ bs) (w ∷ env) zero v t (suc u) l e = rw (suc_zero u) refl
picked_set (true ∷ bs) (w ∷ env) (suc x) v t zero l e = rw (zero_suc (trues bs x)) refl
picked_set (true ∷ bs) (w ∷ env) (suc x) v t (suc u) l e = rw (suc_suc u (trues bs x)) (picked_set bs env x v t u (omega (arith, l)) e)
picked_set (false ∷ bs) [] x v t u l e = absurd (omega (arith, l))
picked_set (false ∷ bs) (w ∷ env) zero v t u l e = cc
picked_set (false ∷ bs) (w ∷ env) (suc x) v t u l e = picked_set bs env x v t u (omega (arith, l)) e

-- another is set
pub others_set : (bs : List Bool) (env : List Value) (x : ℕ) (v : Value) → get_or bs x false ≡ false → length env ≡ length bs → picked bs (update env x (λ _. v)) ≡ picked bs env
others_set [] env x v e l = refl
others_set (true ∷ bs) [] x v e l = refl
others_set (false ∷ bs) [] x v e l = refl
others_set (true ∷ bs) (w ∷ env) zero v e l = cc
others_set (true ∷ bs) (w ∷ env) (suc x) v e l = ap (λ vs. w ∷ vs) (others_set bs env x v e (omega (arith, l)))
others_set (false ∷ bs) (w ∷ env) zero v e l = refl
others_set (false ∷ bs) (w ∷ env) (suc x) v e l = others_set bs env x v e (omega (arith, l))

pub count_first : (tys : List Ty) (ty : Ty) → count_by is_regional (ty ∷ tys) ≡ cond (is_regional ty) 1 0 + count_by is_regional tys
count_first tys ty = sum_by-cons (λ x. cond (is_regional x) 1 0) ty tys

pub trues_count : (tys : List Ty) (x : ℕ) → count_by is_regional (take x tys) ≡ trues (map is_regional tys) x
trues_count [] zero = refl
trues_count [] (suc x) = refl
trues_count (ty ∷ tys) zero = refl
trues_count (ty ∷ tys) (suc x) = count_first (take x tys) ty ∙ by (is_regional ty) (trues_count tys x)
  where
    by : (b : Bool) → count_by is_regional (take x tys) ≡ trues (map is_regional tys) x → cond b 1 0 + count_by is_regional (take x tys) ≡ trues (b ∷ map is_regional tys) (suc x)
    by true k = omega (arith, k)
    by false k = omega (arith, k)

pub picked_length : (tys : List Ty) (env : List Value) → length (picked (map is_regional tys) env) ≡ count_by is_regional tys
picked_length [] env = refl
picked_length (ty ∷ tys) env = by (is_regional ty) env (λ e. picked_length tys e) ∙ sym (count_first tys ty)
  where
    by : (b : Bool) (env : List Value) → ((e : List Value) → length (picked (map is_regional tys) e) ≡ count_by is_regional tys) → length (picked (b ∷ map is_regional tys) env) ≡ cond b 1 0 + count_by is_regional tys
    by true [] k = let q = k [] in omega (arith, q)
    by true (v ∷ env) k = let q = k env in omega (arith, q)
    by false [] k = let q = k [] in omega (arith, q)
    by false (v ∷ env) k = let q = k env in omega (arith, q)

-- of a routine, whose hidden copies are these
module _ (f : Routine) (copied : List Value) (whole : length copied ≡ copies f) where
  pub temp_value : (env : List Value) (t : ℕ → Value) (h : ℕ) → values_of f copied env t (temporary_variable f h) ≡ t h
  temp_value env t h =
      let l = picked_length f.locals env in
      past_there copied (past (picked (picks f) env) t) (count_by is_regional f.locals + h) _ (ap (λ c. c + (count_by is_regional f.locals + h)) (sym whole)) ∙ past_there (picked (picks f) env) t h _ (ap (λ c. c + h) (sym l))

  pub local_value : (env : List Value) (t : ℕ → Value) (x : ℕ) → get_or (picks f) x false ≡ true → values_of f copied env t (local_variable f x) ≡ get_or env x Null
  local_value env t x e =
      past_there copied (past (picked (picks f) env) t) (trues (picks f) x) _ (ap (λ c. c + count_by is_regional (take x f.locals)) (sym whole) ∙ ap (λ c. length copied + c) (trues_count f.locals x)) ∙ picked_at (picks f) env x t e

  pub temp_set : (env : List Value) (t : ℕ → Value) (h : ℕ) (v : Value) (u : ℕ) → values_of f copied env (changed_at t h v) u ≡ changed_at (values_of f copied env t) (temporary_variable f h) v u
  temp_set env t h v u =
      let l = picked_length f.locals env in
      past_same copied (past (picked (picks f) env) (changed_at t h v)) (changed_at (past (picked (picks f) env) t) (count_by is_regional f.locals + h) v) u (λ k. past_set (picked (picks f) env) t h _ v k (ap (λ c. c + h) (sym l)))
      ∙ past_set copied (past (picked (picks f) env) t) (count_by is_regional f.locals + h) _ v u (ap (λ c. c + (count_by is_regional f.locals + h)) (sym whole))

  pub local_set : (env : List Value) (t : ℕ → Value) (x : ℕ) (v : Value) (u : ℕ) → length env ≡ length (picks f) → get_or (picks f) x false ≡ true → values_of f copied (update env x (λ _. v)) t u ≡ changed_at (values_of f copied env t) (local_variable f x) v u
  local_set env t x v u l e =
      past_same copied (past (picked (picks f) (update env x (λ _. v))) t) (changed_at (past (picked (picks f) env) t) (trues (picks f) x) v) u (λ k. picked_set (picks f) env x v t k l e)
      ∙ past_set copied (past (picked (picks f) env) t) (trues (picks f) x) _ v u (ap (λ c. c + count_by is_regional (take x f.locals)) (sym whole) ∙ ap (λ c. length copied + c) (trues_count f.locals x))

  pub other_set : (env : List Value) (t : ℕ → Value) (x : ℕ) (v : Value) (u : ℕ) → length env ≡ length (picks f) → get_or (picks f) x false ≡ false → values_of f copied (update env x (λ _. v)) t u ≡ values_of f copied env t u
  other_set env t x v u l e = ap (λ vs. past copied (past vs t) u) (others_set (picks f) env x v e l)
