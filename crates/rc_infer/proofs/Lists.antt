-- Lists of sets, some of which are of heads.
use Rattle.std.proofs.Common.{◌≡◌, ℕ, zero, suc, ◌+◌, ◌<◌, ◌≤◌, Bool, true, false, List, [], ◌∷◌, length, get_or, refl, sym, ap, ◌∙◌, arith, ◌⊎◌, inl, inr}
use Rattle.std.specs.Prelude.{slice_set}
use Rattle.rc_facts.specs.Facts.{Known}
use Rattle.rc_facts.specs.Flow.{no_set}

pub side : (a b : ℕ) → (a < b) ⊎ (b ≤ a)
side a b = grind arith

pub past_end : (xs : List Known) (g : ℕ) → length xs ≤ g → get_or xs g no_set ≡ no_set
past_end [] g le = refl
past_end (x ∷ xs) zero le = absurd (omega (arith, le))
past_end (x ∷ xs) (suc g) le = past_end xs g (omega (arith, le))

-- the kept set at a head, and else another
abbrev pub chosen : Bool → (kept other : Known) → Known
chosen true kept other = kept
chosen false kept other = other

abbrev pub merged_from : (p : ℕ) → List Bool → (kept all : List Known) → List Known
merged_from p heads [] all = []
merged_from p heads (k ∷ ks) all = chosen (get_or heads p true) k (get_or all p no_set) ∷ merged_from (suc p) heads ks all

pub merged_long : (p : ℕ) (heads : List Bool) (kept all : List Known) → length (merged_from p heads kept all) ≡ length kept
merged_long p heads [] all = refl
merged_long p heads (k ∷ ks) all = ap suc (merged_long (suc p) heads ks all)

merged_at : (p i : ℕ) (heads : List Bool) (kept all : List Known) → i < length kept → get_or (merged_from p heads kept all) i no_set ≡ chosen (get_or heads (p + i) true) (get_or kept i no_set) (get_or all (p + i) no_set)
merged_at p i heads [] all lt = absurd (omega (arith, lt))
merged_at p zero heads (k ∷ ks) all lt = ap (λ q. chosen (get_or heads q true) k (get_or all q no_set)) (let e : p ≡ p + 0 = omega arith in e)
merged_at p (suc i) heads (k ∷ ks) all lt = merged_at (suc p) i heads ks all (omega (arith, lt)) ∙ ap (λ q. chosen (get_or heads q true) (get_or ks i no_set) (get_or all q no_set)) (let e : suc p + i ≡ p + suc i = omega arith in e)

abbrev pub merged : List Bool → (kept all : List Known) → List Known
merged heads kept all = merged_from 0 heads kept all

merged_is : (heads : List Bool) (kept all : List Known) (i : ℕ) → i < length kept → get_or (merged heads kept all) i no_set ≡ chosen (get_or heads i true) (get_or kept i no_set) (get_or all i no_set)
merged_is heads kept all i lt = merged_at 0 i heads kept all lt ∙ ap (λ q. chosen (get_or heads q true) (get_or kept i no_set) (get_or all q no_set)) (let e : 0 + i ≡ i = omega arith in e)

pub merged_head : (heads : List Bool) (kept all : List Known) (i : ℕ) → get_or heads i true ≡ true → get_or (merged heads kept all) i no_set ≡ get_or kept i no_set
merged_head heads kept all i e = by (side i (length kept))
  where
    by : (i < length kept) ⊎ (length kept ≤ i) → get_or (merged heads kept all) i no_set ≡ get_or kept i no_set
    by (inl lt) = merged_is heads kept all i lt ∙ ap (λ b. chosen b (get_or kept i no_set) (get_or all i no_set)) e
    by (inr le) = past_end (merged heads kept all) i (let l = merged_long 0 heads kept all in omega (arith, l, le)) ∙ sym (past_end kept i le)

pub merged_inner : (heads : List Bool) (kept all : List Known) (i : ℕ) → i < length kept → get_or heads i true ≡ false → get_or (merged heads kept all) i no_set ≡ get_or all i no_set
merged_inner heads kept all i lt e = merged_is heads kept all i lt ∙ ap (λ b. chosen b (get_or kept i no_set) (get_or all i no_set)) e

-- one of a list is another
pub set_own : {A : Type 0} (xs : List A) (i : ℕ) (d : A) → slice_set xs i (get_or xs i d) ≡ xs
set_own [] i d = refl
set_own (x ∷ xs) zero d = refl
set_own (x ∷ xs) (suc i) d = ap (λ ys. x ∷ ys) (set_own xs i d)
