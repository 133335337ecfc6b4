-- Lists that are gone through from the first element on, and what is told of each.
use Rattle.std.proofs.Common.{◌≡◌, ◌≤◌, ℕ, zero, suc, ◌+◌, List, [], ◌∷◌, ◌++◌, length, drop, slice_get, Some, None, refl, sym, ap, ◌∙◌, arith, append_assoc}

pub here : {A : Type 0} (xs : List A) (at : ℕ) (x : A) → slice_get xs at ≡ Some x → drop at xs ≡ x ∷ drop (at + 1) xs
here {A = A} xs at x e = by xs at e ∙ ap (λ j. x ∷ drop j xs) (let k : suc at ≡ at + 1 = omega arith in k)
  where
    by : (xs : List A) (at : ℕ) → slice_get xs at ≡ Some x → drop at xs ≡ x ∷ drop (suc at) xs
    by [] at e = absurd (nothing e)
      where
        nothing : slice_get [] at ≡ Some x → ⊥
        nothing e = cc
    by (y ∷ ys) zero e = ap (λ z. z ∷ ys) (let k : Some y ≡ Some x = e in cc)
    by (y ∷ ys) (suc at) e = by ys at e

pub behind : {A : Type 0} (xs : List A) (at : ℕ) → slice_get xs at ≡ None → drop at xs ≡ []
behind [] zero e = refl
behind [] (suc at) e = refl
behind (x ∷ xs) zero e = absurd (some e)
  where
    some : Some x ≡ None → ⊥
    some e = cc
behind (x ∷ xs) (suc at) e = behind xs at e

pub past : {A : Type 0} (xs : List A) (at : ℕ) → length xs ≤ at → drop at xs ≡ []
past [] zero l = refl
past [] (suc at) l = refl
past (x ∷ xs) zero l = absurd (omega (arith, l))
past (x ∷ xs) (suc at) l = past xs at (omega (arith, l))

-- one piece more is told
pub told : {A : Type 0} (tell : List A → List ℕ) (rest left : List A) (piece before text whole : List ℕ) → tell rest ≡ piece ++ tell left → text ≡ before ++ piece → before ++ tell rest ≡ whole → text ++ tell left ≡ whole
told tell rest left piece before text whole is so e = ap (λ t. t ++ tell left) so ∙ append_assoc before piece (tell left) ∙ ap (λ t. before ++ t) (sym is) ∙ e
