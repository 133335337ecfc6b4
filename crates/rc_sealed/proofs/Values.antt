-- The values of the variables of an image's function.
use Rattle.std.proofs.Common.{◌≡◌, ℕ, zero, suc, ◌+◌, ◌<◌, ◌≤◌, Bool, true, false, List, [], ◌∷◌, ◌++◌, length, map, take, drop, get_or, reverse, refl, sym, ap, ◌∙◌, arith}
use Rattle.std.proofs.lemmas.List.{reverse-append, length-reverse, get_or-append-add, take-append-drop}
use Rattle.std.proofs.Math.ListN.{get_or-append}
use Rattle.std.proofs.Math.Seq.{get_or-append_seam}
use Rattle.rc_core.specs.Heap.{Value, Null, update}
use Rattle.rc_rlang.specs.RegionRuns.{changed_at}
use Rattle.rc_annotations.specs.Variables.{picked, past}
use Rattle.rc_annotations.proofs.Variables as V
use Rattle.rc_code.specs.declared.image.Function.{Function}
use Rattle.rc_code.specs.Running.{value_at}
use Rattle.rc_code.specs.Soundness.{is_regional}
use Rattle.rc_claims.specs.Counts.{trues, regionals, copies, local_variable, place}
use Rattle.rc_sealed.specs.ImageVariables.{values_of}

-- ---- lists

past_at : (vs : List Value) (t : ℕ → Value) (u : ℕ) → u < length vs → past vs t u ≡ get_or vs u Null
past_at [] t u lt = absurd (omega (arith, lt))
past_at (v ∷ vs) t zero lt = refl
past_at (v ∷ vs) t (suc u) lt = past_at vs t u (omega (arith, lt))

-- it differs behind the list at most
past_zone : (vs : List Value) (t t1 : ℕ → Value) (u : ℕ) → ((k : ℕ) → u ≡ length vs + k → t k ≡ t1 k) → past vs t u ≡ past vs t1 u
past_zone [] t t1 u same = same u (omega arith)
past_zone (v ∷ vs) t t1 zero same = refl
past_zone (v ∷ vs) t t1 (suc u) same = past_zone vs t t1 u (λ k e. same k (omega (arith, e)))

pub trues_same : (bs : List Bool) (x : ℕ) → V.trues bs x ≡ trues bs x
trues_same [] x = refl
trues_same (true ∷ bs) zero = refl
trues_same (false ∷ bs) zero = refl
trues_same (true ∷ bs) (suc x) = ap suc (trues_same bs x)
trues_same (false ∷ bs) (suc x) = trues_same bs x

picked_length : (bs : List Bool) (env : List Value) → length (picked bs env) ≡ trues bs (length bs)
picked_length [] env = refl
picked_length (true ∷ bs) [] = ap suc (picked_length bs [])
picked_length (true ∷ bs) (v ∷ env) = ap suc (picked_length bs env)
picked_length (false ∷ bs) [] = picked_length bs []
picked_length (false ∷ bs) (v ∷ env) = picked_length bs env

length_mapped : {A B : Type 0} (f : A → B) (xs : List A) → length (map f xs) ≡ length xs
length_mapped f [] = refl
length_mapped f (x ∷ xs) = ap suc (length_mapped f xs)

none_beyond : (xs : List Value) (k : ℕ) → length xs ≤ k → get_or xs k Null ≡ Null
none_beyond [] k le = refl
none_beyond (x ∷ xs) zero le = absurd (omega (arith, le))
none_beyond (x ∷ xs) (suc k) le = none_beyond xs k (omega (arith, le))

-- ---- operands, from the bottom

-- of operands without the upper ones
pub below_same : (n : ℕ) (st : List Value) (j : ℕ) → j < length (drop n st) → value_at (reverse (drop n st)) j ≡ value_at (reverse st) j
below_same n st j lt =
    let whole : reverse st ≡ reverse (drop n st) ++ reverse (take n st) = ap reverse (sym (take-append-drop n st)) ∙ reverse-append (take n st) (drop n st) in
    sym (ap (λ vs. get_or vs j Null) whole ∙ get_or-append (reverse (drop n st)) (reverse (take n st)) Null j (let l = length-reverse (drop n st) in omega (arith, l, lt)))

-- the upper ones
pub upper_at : (n : ℕ) (st : List Value) (k : ℕ) → value_at (reverse st) (length (drop n st) + k) ≡ value_at (reverse (take n st)) k
upper_at n st k =
    let whole : reverse st ≡ reverse (drop n st) ++ reverse (take n st) = ap reverse (sym (take-append-drop n st)) ∙ reverse-append (take n st) (drop n st) in
    ap (λ vs. get_or vs (length (drop n st) + k) Null) whole
    ∙ ap (λ m. get_or (reverse (drop n st) ++ reverse (take n st)) (m + k) Null) (sym (length-reverse (drop n st)))
    ∙ get_or-append-add (reverse (drop n st)) (reverse (take n st)) k Null

-- with one more
pub pushed_same : (v : Value) (st : List Value) (j : ℕ) → j < length st → value_at (reverse (v ∷ st)) j ≡ value_at (reverse st) j
pushed_same v st j lt = ap (λ vs. get_or vs j Null) (reverse-append (v ∷ []) st) ∙ get_or-append (reverse st) (v ∷ []) Null j (let l = length-reverse st in omega (arith, l, lt))

pub pushed_at : (v : Value) (st : List Value) → value_at (reverse (v ∷ st)) (length st) ≡ v
pushed_at v st = ap (λ vs. get_or vs (length st) Null) (reverse-append (v ∷ []) st) ∙ ap (λ m. get_or (reverse st ++ v ∷ []) m Null) (sym (length-reverse st)) ∙ get_or-append_seam (reverse st) v [] Null

pub beyond : (st : List Value) (j : ℕ) → length st ≤ j → value_at (reverse st) j ≡ Null
beyond st j le = none_beyond (reverse st) j (let l = length-reverse st in omega (arith, l, le))

-- ---- of a function with these hidden copies

module _ (f : Function) (copied : List Value) (whole : length copied ≡ copies f) where
  abbrev locals_count : ℕ
  locals_count = trues (regionals f) (length f.locals)

  picked_count : (env : List Value) → length (picked (regionals f) env) ≡ locals_count
  picked_count env = picked_length (regionals f) env ∙ ap (trues (regionals f)) (length_mapped is_regional f.locals)

  pub place_value : (env st : List Value) (j : ℕ) → values_of f copied env st (place f j) ≡ value_at (reverse st) j
  place_value env st j =
      let l = picked_count env in
      V.past_there copied (past (picked (regionals f) env) (value_at (reverse st))) (locals_count + j) _ (ap (λ c. c + (locals_count + j)) (sym whole))
      ∙ V.past_there (picked (regionals f) env) (value_at (reverse st)) j _ (ap (λ c. c + j) (sym l))

  pub local_value : (env st : List Value) (x : ℕ) → get_or (regionals f) x false ≡ true → values_of f copied env st (local_variable f x) ≡ get_or env x Null
  local_value env st x e =
      V.past_there copied (past (picked (regionals f) env) (value_at (reverse st))) (trues (regionals f) x) _ (ap (λ c. c + trues (regionals f) x) (sym whole))
      ∙ ap (past (picked (regionals f) env) (value_at (reverse st))) (sym (trues_same (regionals f) x))
      ∙ V.picked_at (regionals f) env x (value_at (reverse st)) e

  pub copy_value : (env st : List Value) (u : ℕ) → u < copies f → values_of f copied env st u ≡ get_or copied u Null
  copy_value env st u lt = past_at copied _ u (omega (arith, lt, whole))

  -- the operands differ at places that the variable isn't
  pub stack_same : (env st st1 : List Value) (u : ℕ) → ((j : ℕ) → u ≡ place f j → value_at (reverse st) j ≡ value_at (reverse st1) j) → values_of f copied env st u ≡ values_of f copied env st1 u
  stack_same env st st1 u same =
      let l = picked_count env in
      past_zone copied (past (picked (regionals f) env) (value_at (reverse st))) (past (picked (regionals f) env) (value_at (reverse st1))) u (λ k e.
      past_zone (picked (regionals f) env) (value_at (reverse st)) (value_at (reverse st1)) k (λ j e1. same j (e ∙ ap (λ c. c + k) whole ∙ ap (λ m. copies f + m) (e1 ∙ ap (λ c. c + j) l))))

  pub local_set : (env st : List Value) (x : ℕ) (v : Value) (u : ℕ) → length env ≡ length f.locals → get_or (regionals f) x false ≡ true → values_of f copied (update env x (λ _. v)) st u ≡ changed_at (values_of f copied env st) (local_variable f x) v u
  local_set env st x v u l e =
      V.past_same copied (past (picked (regionals f) (update env x (λ _. v))) (value_at (reverse st))) (changed_at (past (picked (regionals f) env) (value_at (reverse st))) (trues (regionals f) x) v) u
      (λ k. V.picked_set (regionals f) env x v (value_at (reverse st)) k (l ∙ sym (length_mapped is_regional f.locals)) e ∙ ap (λ m. changed_at (past (picked (regionals f) env) (value_at (reverse st))) m v k) (trues_same (regionals f) x))
      ∙ V.past_set copied (past (picked (regionals f) env) (value_at (reverse st))) (trues (regionals f) x) _ v u (ap (λ c. c + trues (regionals f) x) (sym whole))

  pub other_set : (env st : List Value) (x : ℕ) (v : Value) → length env ≡ length f.locals → get_or (regionals f) x false ≡ false → values_of f copied (update env x (λ _. v)) st ≡ values_of f copied env st
  other_set env st x v l e = ap (λ vs. past copied (past vs (value_at (reverse st)))) (V.others_set (regionals f) env x v e (l ∙ sym (length_mapped is_regional f.locals)))
