-- What holds at all places that indices lead to.
use Rattle.std.proofs.Common.{◌≡◌, ℕ, zero, suc, ◌+◌, ◌-◌, ◌*◌, ◌≤◌, ◌<◌, ◌⊎◌, inl, inr, Bool, true, false, ◌&&◌, List, [], ◌∷◌, ◌++◌, refl, sym, ap, ◌∙◌, arith}
use Rattle.std.proofs.lemmas.Bool.{cases_lt, and_parts, and_from}
use Rattle.std.proofs.Math.Nat.{mul-le-mul_right}
use Rattle.rc_code.specs.declared.image.Index.{Index}
use Rattle.rc_code.specs.Image.{InRange, reach}
use Rattle.rc_code.specs.Reached.{span}
use Rattle.rc_code.proofs.OneKind.{below_span}
use Rattle.rc_reached.specs.Walks.{at_each, at_all, IsWalkedAs}

pub same_answers : (a b : Bool) → (a ≡ true → b ≡ true) → (b ≡ true → a ≡ true) → a ≡ b
same_answers true true there back = refl
same_answers true false there back = sym (there refl)
same_answers false true there back = back refl
same_answers false false there back = refl

-- ---- along one index

pub each_at : (g : ℕ → Bool) (n s p : ℕ) → at_each g n s p ≡ true → (k : ℕ) → k < n → g (k * s + p) ≡ true
each_at g zero s p e k lt = absurd (omega (arith, lt))
each_at g (suc n) s p e zero lt = let none : 0 * s + p ≡ p = omega arith in ap g none ∙ (and_parts (g p) (at_each g n s (s + p)) e).0
each_at g (suc n) s p e (suc k) lt =
    let rest = (and_parts (g p) (at_each g n s (s + p)) e).1 in
    let far : suc k * s + p ≡ k * s + (s + p) = omega arith in
    ap g far ∙ each_at g n s (s + p) rest k (omega (arith, lt))

pub at_to_each : (g : ℕ → Bool) (n s p : ℕ) → ((k : ℕ) → k < n → g (k * s + p) ≡ true) → at_each g n s p ≡ true
at_to_each g zero s p h = refl
at_to_each g (suc n) s p h =
    and_from (g p) (at_each g n s (s + p)) (let none : 0 * s + p ≡ p = omega arith in ap g (sym none) ∙ h 0 (omega arith)) (at_to_each g n s (s + p) (λ k lt.
    (let far : k * s + (s + p) ≡ suc k * s + p = omega arith in ap g far ∙ h (suc k) (omega (arith, lt)))))

each_same : (g h : ℕ → Bool) (n s p : ℕ) → ((k : ℕ) → g k ≡ h k) → at_each g n s p ≡ at_each h n s p
each_same g h zero s p same = refl
each_same g h (suc n) s p same = rw (same p, each_same g h n s (s + p) same) refl

-- ---- along all of them

pub all_at : (g : ℕ → Bool) (is : List Index) (p : ℕ) → at_all g is p ≡ true → (ns : List ℕ) → InRange is ns → g (reach is ns + p) ≡ true
all_at g [] p e [] within = let none : 0 + p ≡ p = omega arith in ap g none ∙ e
all_at g [] p e (n ∷ ns) within = absurd within
all_at g (i ∷ is) p e [] within = absurd within
all_at g (i ∷ is) p e (n ∷ ns) within =
    let far : (n * i.stride + reach is ns) + p ≡ reach is ns + (n * i.stride + p) = omega arith in
    ap g far ∙ all_at g is (n * i.stride + p) (each_at (at_all g is) i.length i.stride p e n within.0) ns within.1

pub at_to_all : (g : ℕ → Bool) (is : List Index) (p : ℕ) → ((ns : List ℕ) → InRange is ns → g (reach is ns + p) ≡ true) → at_all g is p ≡ true
at_to_all g [] p h = let none : 0 + p ≡ p = omega arith in ap g (sym none) ∙ h [] tt
at_to_all g (i ∷ is) p h =
    at_to_each (at_all g is) i.length i.stride p (λ n lt. at_to_all g is (n * i.stride + p) (λ ns within.
    (let far : reach is ns + (n * i.stride + p) ≡ (n * i.stride + reach is ns) + p = omega arith in ap g far ∙ h (n ∷ ns) (lt, within))))

-- what is alike as far as the indices lead
pub all_same : (g h : ℕ → Bool) (is : List Index) (p q : ℕ) → ((k : ℕ) → k ≤ span is → g (k + p) ≡ h (k + q)) → at_all g is p ≡ at_all h is q
all_same g h is p q same =
    same_answers (at_all g is p) (at_all h is q)
    (λ e. at_to_all h is q (λ ns within. sym (same (reach is ns) (below_span is ns within)) ∙ all_at g is p e ns within))
    (λ e. at_to_all g is p (λ ns within. same (reach is ns) (below_span is ns within) ∙ all_at h is q e ns within))

-- the first index may be gone along before the others
pub first_taken : (g : ℕ → Bool) (i : Index) (is : List Index) (p : ℕ) → at_all (at_each g i.length i.stride) is p ≡ at_all g (i ∷ is) p
first_taken g i is p =
    same_answers (at_all (at_each g i.length i.stride) is p) (at_each (at_all g is) i.length i.stride p)
    (λ e. at_to_each (at_all g is) i.length i.stride p (λ n lt. at_to_all g is (n * i.stride + p) (λ ns within.
    (let far : reach is ns + (n * i.stride + p) ≡ n * i.stride + (reach is ns + p) = omega arith in
    ap g far ∙ each_at g i.length i.stride (reach is ns + p) (all_at (at_each g i.length i.stride) is p e ns within) n lt))))
    (λ e. at_to_all (at_each g i.length i.stride) is p (λ ns within. at_to_each g i.length i.stride (reach is ns + p) (λ n lt.
    (let far : n * i.stride + (reach is ns + p) ≡ reach is ns + (n * i.stride + p) = omega arith in
    ap g far ∙ all_at g is (n * i.stride + p) (each_at (at_all g is) i.length i.stride p e n lt) ns within))))

-- ---- indices of length 1

all_append : (g : ℕ → Bool) (is js : List Index) (p : ℕ) → at_all g (is ++ js) p ≡ at_all (at_all g js) is p
all_append g [] js p = refl
all_append g (i ∷ is) js p = each_same (at_all g (is ++ js)) (at_all (at_all g js) is) i.length i.stride p (all_append g is js)

-- an index of length 1 leads nowhere
pub walked_nowhere : (is : List Index) (i : Index) → i.length ≡ 1 → IsWalkedAs is (is ++ i ∷ [])
walked_nowhere is i one g p = all_same g (at_all g (i ∷ [])) is p p (λ k le. here (k + p)) ∙ sym (all_append g is (i ∷ []) p)
  where
    and_true : (b : Bool) → b ≡ b && true
    and_true true = refl
    and_true false = refl

    here : (at : ℕ) → g at ≡ at_all g (i ∷ []) at
    here at = rw one (and_true (g at))

-- what is added behind is walked in the same way
pub walked_more : (is js : List Index) (i : Index) → IsWalkedAs is js → IsWalkedAs (is ++ i ∷ []) (js ++ i ∷ [])
walked_more is js i same g p = all_append g is (i ∷ []) p ∙ same (at_all g (i ∷ [])) p ∙ sym (all_append g js (i ∷ []) p)

-- ---- loops

pub each_more : (g : ℕ → Bool) (n s p : ℕ) → 0 < n → at_each g n s p ≡ (g p && at_each g (n - 1) s (s + p))
each_more g zero s p lt = absurd (omega (arith, lt))
each_more g (suc n) s p lt = let e : suc n - 1 ≡ n = omega arith in rw e refl

pub each_none : (g : ℕ → Bool) (n s p : ℕ) → n ≤ 0 → at_each g n s p ≡ true
each_none g zero s p le = refl
each_none g (suc n) s p le = absurd (omega (arith, le))

pub times_most : (k n s : ℕ) → k < n → k * s ≤ (n - 1) * s
times_most k n s lt = mul-le-mul_right s (omega (arith, lt))

-- ---- half of the places

-- so many places along an index are marked where fewer are, together with those that are some further, and these are all
module _ (g w : ℕ → Bool) (half less left s reach rest : ℕ) (parts : half + less ≡ left) (enough : half ≤ less) (room : (less - 1) * s + rest ≡ reach)
    (pairs : (k : ℕ) → k ≤ reach → w k ≡ (g k && g (half * s + k))) where
  near : (p k : ℕ) → p ≤ rest → k < less → k * s + p ≤ reach
  near p k le lt = let far = times_most k less s lt in omega (arith, far, le, room)

  pair : (p : ℕ) → p ≤ rest → at_each w less s p ≡ true → (k : ℕ) → k < less → (g (k * s + p) ≡ true) × (g (half * s + (k * s + p)) ≡ true)
  pair p le e k lt = and_parts (g (k * s + p)) (g (half * s + (k * s + p))) (sym (pairs (k * s + p) (near p k le lt)) ∙ each_at w less s p e k lt)

  one : (p : ℕ) → p ≤ rest → at_each w less s p ≡ true → (k : ℕ) → k < left → (k < less) ⊎ (less ≤ k) → g (k * s + p) ≡ true
  one p le e k lt (inl below) = (pair p le e k below).0
  one p le e k lt (inr above) =
      let back : half + (k - half) ≡ k = omega (arith, above, enough) in
      let split : half * s + ((k - half) * s + p) ≡ (half + (k - half)) * s + p = omega arith in
      let there : half * s + ((k - half) * s + p) ≡ k * s + p = split ∙ ap (λ m. m * s + p) back in
      ap g (sym there) ∙ (pair p le e (k - half) (omega (arith, lt, parts, above, enough))).1

  pub halved : (p : ℕ) → p ≤ rest → at_each w less s p ≡ at_each g left s p
  halved p le =
      same_answers (at_each w less s p) (at_each g left s p)
      (λ e. at_to_each g left s p (λ k lt. one p le e k lt (cases_lt k less)))
      (λ e. at_to_each w less s p (λ k lt.
      (let there : half * s + (k * s + p) ≡ (half + k) * s + p = omega arith in
      pairs (k * s + p) (near p k le lt)
      ∙ and_from (g (k * s + p)) (g (half * s + (k * s + p))) (each_at g left s p e k (omega (arith, lt, parts))) (ap g there ∙ each_at g left s p e (half + k) (omega (arith, lt, parts))))))
