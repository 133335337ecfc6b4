-- Digits of a number, as a loop writes them.
use Rattle.std.proofs.Common.{◌≡◌, ℕ, zero, suc, ◌+◌, ◌-◌, ◌/◌, ◌%◌, ◌<◌, ◌≤◌, List, [], ◌∷◌, ◌++◌, refl, sym, ap, ◌∙◌, append_assoc, arith}
use Rattle.std.proofs.lemmas.Bool.{le-ltb, lt-ltb}
use Rattle.rc_fields.specs.Spelling.{digits}

pub digits_last : (k n : ℕ) → n < 128 → digits k n ≡ n ∷ []
unfolding digits
digits_last zero n lt = let e : n % 128 ≡ n = omega arith in rw e refl
digits_last (suc k) n lt = rw (lt-ltb n 128 lt) refl

pub digits_more : (k n : ℕ) → 128 ≤ n → digits (suc k) n ≡ (n % 128 + 128) ∷ digits k (n / 128)
unfolding digits
digits_more k n le = rw (le-ltb n 128 le) refl

pub last_one : (out now whole : List ℕ) (k n : ℕ) → n < 128 → now ≡ out ++ n ∷ [] → out ++ digits k n ≡ whole → now ≡ whole
last_one out now whole k n lt e h = e ∙ ap (λ (x : List ℕ). out ++ x) (sym (digits_last k n lt)) ∙ h

pub one_more : (out now whole : List ℕ) (i n : ℕ) → i < 9 → 128 ≤ n → now ≡ out ++ (n % 128 + 128) ∷ [] → out ++ digits (9 - i) n ≡ whole → now ++ digits (9 - (i + 1)) (n / 128) ≡ whole
one_more out now whole i n lt le e h =
    let k : 9 - i ≡ suc (9 - (i + 1)) = omega arith in
    let one : digits (9 - i) n ≡ (n % 128 + 128) ∷ digits (9 - (i + 1)) (n / 128) = rw k (digits_more (9 - (i + 1)) n le) in
    ap (λ (x : List ℕ). x ++ digits (9 - (i + 1)) (n / 128)) e ∙ append_assoc out ((n % 128 + 128) ∷ []) (digits (9 - (i + 1)) (n / 128)) ∙ ap (λ (x : List ℕ). out ++ x) (sym one) ∙ h

pub tenth : (out now whole : List ℕ) (i n : ℕ) → 9 ≤ i → now ≡ out ++ n % 128 ∷ [] → out ++ digits (9 - i) n ≡ whole → now ≡ whole
unfolding digits
tenth out now whole i n le e h =
    let k : 9 - i ≡ 0 = omega arith in
    let one : digits (9 - i) n ≡ n % 128 ∷ [] = rw k refl in
    e ∙ ap (λ (x : List ℕ). out ++ x) (sym one) ∙ h
