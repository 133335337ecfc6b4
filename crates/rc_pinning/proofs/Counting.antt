-- A table of numbers of locals.
use Rattle.std.proofs.Common.{◌≡◌, ◌∙◌, ◌⊎◌, inl, inr, ℕ, zero, suc, ◌+◌, ◌<◌, List, [], ◌∷◌, ◌++◌, map, length, get_or, refl, sym, ap, arith}
use Rattle.rc_code.specs.declared.kind.Storage.{Storage}
use Rattle.rc_code.specs.Soundness.{is_regional}
use Rattle.rc_claims.specs.Counts.{trues}
use Rattle.rc_pinning.specs.Numbers.{AreNumbers}

-- ---- a table

get_left : (xs : List ℕ) (c x : ℕ) → x < length xs → get_or (xs ++ c ∷ []) x 0 ≡ get_or xs x 0
get_left [] c x lt = absurd (omega (arith, lt))
get_left (y ∷ xs) c zero lt = refl
get_left (y ∷ xs) c (suc x) lt = get_left xs c x (omega (arith, lt))

get_last : (xs : List ℕ) (c : ℕ) → get_or (xs ++ c ∷ []) (length xs) 0 ≡ c
get_last [] c = refl
get_last (y ∷ xs) c = get_last xs c

pub long_more : (xs more : List ℕ) (c i : ℕ) → more ≡ xs ++ c ∷ [] → length xs ≡ i → length more ≡ i + 1
long_more xs more c i e l = ap length e ∙ by xs ∙ ap (λ n. n + 1) l
  where
    by : (ys : List ℕ) → length (ys ++ c ∷ []) ≡ length ys + 1
    by [] = omega arith
    by (y ∷ ys) = let r = by ys in omega (arith, r)

pub each_more : (locals : List Storage) (i count : ℕ) (numbers more : List ℕ) → more ≡ numbers ++ count ∷ [] → length numbers ≡ i → count ≡ trues (map is_regional locals) i → ((x : ℕ) → x < i → get_or numbers x 0 ≡ trues (map is_regional locals) x)
    → (x : ℕ) → x < i + 1 → get_or more x 0 ≡ trues (map is_regional locals) x
each_more locals i count numbers more e long is each x lt = ap (λ (ns : List ℕ). get_or ns x 0) e ∙ by (order x i)
  where
    order : (a b : ℕ) → (a < b) ⊎ ((a ≡ b) ⊎ (b < a))
    order a b = grind arith

    by : (x < i) ⊎ ((x ≡ i) ⊎ (i < x)) → get_or (numbers ++ count ∷ []) x 0 ≡ trues (map is_regional locals) x
    by (inl l) = get_left numbers count x (omega (arith, l, long)) ∙ each x l
    by (inr (inl q)) = let r : x ≡ length numbers = q ∙ sym long in ap (λ n. get_or (numbers ++ count ∷ []) n 0) r ∙ get_last numbers count ∙ is ∙ ap (trues (map is_regional locals)) (sym q)
    by (inr (inr l)) = absurd (omega (arith, l, lt))

pub numbers_all : (locals : List Storage) (i : ℕ) (numbers : List ℕ) → i ≡ length locals → length numbers ≡ i → ((x : ℕ) → x < i → get_or numbers x 0 ≡ trues (map is_regional locals) x) → AreNumbers locals numbers
numbers_all locals i numbers e long each = record { long = long ∙ e; each = λ x lt. each x (omega (arith, e, lt)) }
