-- Counting the locals that are regions or pointers.
use Rattle.std.proofs.Common.{◌≡◌, ◌∙◌, ℕ, zero, suc, ◌+◌, ◌<◌, ◌≤◌, Bool, true, false, List, [], ◌∷◌, map, length, get_or, refl, sym, ap, subst, arith}
use Rattle.rc_code.specs.declared.kind.Storage.{Storage}
use Rattle.rc_code.specs.Soundness.{is_regional}
use Rattle.rc_claims.specs.Counts.{trues, one_if}

pub trues_none : (bs : List Bool) → trues bs 0 ≡ 0
trues_none [] = refl
trues_none (b ∷ bs) = refl

next_true : (b c : Bool) (bs : List Bool) (i : ℕ) → trues bs (suc i) ≡ trues bs i + one_if c → trues (b ∷ bs) (suc (suc i)) ≡ trues (b ∷ bs) (suc i) + one_if c
next_true true c bs i e = omega (arith, e)
next_true false c bs i e = e

first_true : (b : Bool) (bs : List Bool) → trues (b ∷ bs) 1 ≡ 0 + one_if b
first_true true bs = let t = trues_none bs in omega (arith, t)
first_true false bs = let t = trues_none bs in omega (arith, t)

pub more_trues : (locals : List Storage) (i : ℕ) (s d : Storage) → i < length locals → s ≡ get_or locals i d → trues (map is_regional locals) (suc i) ≡ trues (map is_regional locals) i + one_if (is_regional s)
more_trues [] i s d lt e = absurd (omega (arith, lt))
more_trues (x ∷ locals) zero s d lt e = subst (λ (y : Storage). trues (is_regional x ∷ map is_regional locals) 1 ≡ 0 + one_if (is_regional y)) (sym e) (first_true (is_regional x) (map is_regional locals))
more_trues (x ∷ locals) (suc i) s d lt e = next_true (is_regional x) (is_regional s) (map is_regional locals) i (more_trues locals i s d (omega (arith, lt)) e)

pub count_more : (locals : List Storage) (i count count1 : ℕ) (s d : Storage) → i < length locals → s ≡ get_or locals i d → count ≡ trues (map is_regional locals) i → count1 ≡ count + one_if (is_regional s) → count1 ≡ trues (map is_regional locals) (i + 1)
count_more locals i count count1 s d lt is old new =
    let next : suc i ≡ i + 1 = omega arith in
    new ∙ ap (λ n. n + one_if (is_regional s)) old ∙ sym (more_trues locals i s d lt is) ∙ ap (trues (map is_regional locals)) next

pub small_more : (count count1 i : ℕ) (b : Bool) → count ≤ i → count1 ≡ count + one_if b → count1 ≤ i + 1
small_more count count1 i true le e = omega (arith, le, e)
small_more count count1 i false le e = omega (arith, le, e)
