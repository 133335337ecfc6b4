-- What is read is what was spelled, and what was spelled is read again: numbers, lists, and steps one after the other.
use Rattle.std.proofs.Common.{◌≡◌, ℕ, zero, suc, ◌+◌, ◌-◌, ◌*◌, ◌/◌, ◌%◌, ◌<◌, ◌≤◌, Bool, true, false, cond, ltb, eqb, List, [], ◌∷◌, ◌++◌, length, get_or, Result, Ok, Err, refl, sym, ap, subst, ◌∙◌, ◌⊎◌, append_assoc, arith, inl, inr}
use Rattle.std.specs.List.{flat_map, AllByRecursion as Every}
use Rattle.std.proofs.lemmas.Bool.{cases_lt, ltb-false, ltb-true, le-ltb, lt-ltb, ne_eqb}
use Rattle.std.proofs.lemmas.List.Concat.{flat_map-cons}
use Rattle.rc_code.specs.Image.{IsNumber}
use Rattle.rc_fields.specs.Bounds.{tail_bound}
use Rattle.rc_fields.specs.Spelling.{digits, number, counted}
use Rattle.rc_fields.specs.Reading.{◌>>=◌, Fault, field, Read, tail_at, number_at, number_within, many, counted_at}
use Rattle.rc_fields.proofs.Bounds.{bound_least}
use Rattle.rc_fields.proofs.Digits.{digits_last, digits_more}

abbrev pub IsBytes : List ℕ → Type 0
IsBytes bytes = (i : ℕ) → get_or bytes i 0 < 256

IsBytes-rest : (b : ℕ) (bytes : List ℕ) → IsBytes (b ∷ bytes) → IsBytes bytes
IsBytes-rest b bytes h i = h (suc i)

-- the value of a step that did not fail
pub bind_ok : {A B : Type 0} (r : Result A Fault) (f : A → Result B Fault) (y : B) → (r >>= f) ≡ Ok y → (x : A) × (r ≡ Ok x) × (f x ≡ Ok y)
bind_ok (Ok x) f y e = (x, refl, e)
bind_ok (Err d) f y e = absurd cc

-- a test that did not fail
pub no_then : {A : Type 0} (b : Bool) (d : Fault) (r : Result A Fault) (y : A) → cond b (Err d) r ≡ Ok y → (b ≡ false) × (r ≡ Ok y)
no_then true d r y e = absurd cc
no_then false d r y e = (refl, e)

pub no_else : {A : Type 0} (b : Bool) (d : Fault) (r : Result A Fault) (y : A) → cond b r (Err d) ≡ Ok y → (b ≡ true) × (r ≡ Ok y)
no_else true d r y e = (refl, e)
no_else false d r y e = absurd cc

pub chosen : {A : Type 0} (b : Bool) (x y z : A) → cond b x y ≡ z → ((b ≡ true) × (x ≡ z)) ⊎ ((b ≡ false) × (y ≡ z))
chosen true x y z e = inl (refl, e)
chosen false x y z e = inr (refl, e)

abbrev done : {A : Type 0} → A → Result A Fault
done x = Ok x

pub ok_is : {A : Type 0} (x y : A) → done x ≡ done y → x ≡ y
ok_is x y e = cc

-- what a reader took from the front
pub record Takes (bytes text rest : List ℕ) : Type 0 where
  pub parts : bytes ≡ text ++ rest
  pub rest_fits : IsBytes rest

pub Takes-then : (a x b y c : List ℕ) → Takes a x b → Takes b y c → Takes a (x ++ y) c
Takes-then a x b y c p q = record { parts = p.parts ∙ ap (λ (t : List ℕ). x ++ t) q.parts ∙ sym (append_assoc x y c); rest_fits = q.rest_fits }

pub Takes-nothing : (a : List ℕ) → IsBytes a → Takes a [] a
Takes-nothing a fits = record { parts = refl; rest_fits = fits }

-- a field and its spelling: each way
pub record Law {A : Type 0} (item : List ℕ → Read A) (text : A → List ℕ) (Fits : A → Type 0) : Type 0 where
  pub takes : (bytes : List ℕ) (x : A × List ℕ) → IsBytes bytes → item bytes ≡ Ok x → Takes bytes (text x.0) x.1 × Fits x.0
  pub again : (a : A) (rest : List ℕ) → Fits a → item (text a ++ rest) ≡ Ok (a, rest)

-- ---- numbers

pub nonzero : (b : ℕ) → eqb b 0 ≡ false → 1 ≤ b
nonzero zero e = absurd cc
nonzero (suc b) e = omega arith

pub not_zero : (b : ℕ) → 1 ≤ b → eqb b 0 ≡ false
not_zero b le = ne_eqb b 0 (λ (e : b ≡ 0). omega arith)

tail_takes : (more extra left : ℕ) (bytes : List ℕ) (x : ℕ × List ℕ) → more ≤ extra → IsBytes bytes → tail_at more left bytes ≡ Ok x → Takes bytes (digits extra x.0) x.1 × (1 ≤ x.0) × (x.0 < tail_bound more)
unfolding tail_at
tail_takes zero extra left [] x le fits e = absurd cc
tail_takes (suc more) extra left [] x le fits e = absurd cc
tail_takes zero extra left (b ∷ bytes) x le fits e =
    let p = no_then (eqb b 0) (field left) (cond (ltb b 16) (Ok (b, bytes)) (Err (field left))) x e in
    let q = no_else (ltb b 16) (field left) (Ok (b, bytes)) x p.1 in
    let lt : b < 16 = ltb-true b 16 q.0 in
    let some : 1 ≤ b = nonzero b p.0 in
    let same : b ∷ bytes ≡ digits extra b ++ bytes = ap (λ (t : List ℕ). t ++ bytes) (sym (digits_last extra b (omega arith))) in
    subst (λ (y : ℕ × List ℕ). Takes (b ∷ bytes) (digits extra y.0) y.1 × (1 ≤ y.0) × (y.0 < 16)) (ok_is (b, bytes) x q.1) (record { parts = same; rest_fits = IsBytes-rest b bytes fits }, some, lt)
tail_takes (suc more) zero left (b ∷ bytes) x le fits e = absurd (omega arith)
tail_takes (suc more) (suc extra) left (b ∷ bytes) x le fits e =
    let p = no_then (eqb b 0) (field left) (cond (ltb b 128) (Ok (b, bytes)) (tail_at more left bytes >>= λ y. Ok (b - 128 + 128 * y.0, y.1))) x e in
    elim (chosen (ltb b 128) (Ok (b, bytes)) (tail_at more left bytes >>= λ y. Ok (b - 128 + 128 * y.0, y.1)) (Ok x) p.1) [
      | inl q ↦
          let lt : b < 128 = ltb-true b 128 q.0 in
          let some : 1 ≤ b = nonzero b p.0 in
          let least : 16 ≤ tail_bound more = bound_least more in
          let same : b ∷ bytes ≡ digits (suc extra) b ++ bytes = ap (λ (t : List ℕ). t ++ bytes) (sym (digits_last (suc extra) b lt)) in
          subst (λ (y : ℕ × List ℕ). Takes (b ∷ bytes) (digits (suc extra) y.0) y.1 × (1 ≤ y.0) × (y.0 < 128 * tail_bound more)) (ok_is (b, bytes) x q.1)
          (record { parts = same; rest_fits = IsBytes-rest b bytes fits }, some, omega arith)
      | inr q ↦
          let le128 : 128 ≤ b = ltb-false b 128 q.0 in
          let lt256 : b < 256 = fits 0 in
          let r = bind_ok (tail_at more left bytes) (λ y. Ok (b - 128 + 128 * y.0, y.1)) x q.1 in
          let t = tail_takes more extra left bytes r.0 (omega arith) (IsBytes-rest b bytes fits) r.1 in
          let made = b - 128 + 128 * r.0.0 in
          let rem : made % 128 + 128 ≡ b = omega arith in
          let quot : made / 128 ≡ r.0.0 = omega arith in
          let below : made < 128 * tail_bound more = omega (arith, t.2) in
          let some : 1 ≤ made = omega (arith, t.1) in
          let spelled : digits (suc extra) made ≡ b ∷ digits extra r.0.0 = digits_more extra made (omega (arith, t.1)) ∙ rw (rem, quot) refl in
          let same : b ∷ bytes ≡ digits (suc extra) made ++ r.0.1 = ap (λ (t : List ℕ). b ∷ t) t.0.parts ∙ ap (λ (t : List ℕ). t ++ r.0.1) (sym spelled) in
          subst (λ (y : ℕ × List ℕ). Takes (b ∷ bytes) (digits (suc extra) y.0) y.1 × (1 ≤ y.0) × (y.0 < 128 * tail_bound more)) (ok_is (made, r.0.1) x r.2)
          (record { parts = same; rest_fits = t.0.rest_fits }, some, below)
    ]

tail_again : (more extra left n : ℕ) (rest : List ℕ) → more ≤ extra → 1 ≤ n → n < tail_bound more → tail_at more left (digits extra n ++ rest) ≡ Ok (n, rest)
unfolding tail_at
tail_again zero extra left n rest le some lt =
    let spelled : digits extra n ++ rest ≡ n ∷ rest = ap (λ (t : List ℕ). t ++ rest) (digits_last extra n (omega arith)) in
    rw (spelled, not_zero n some, lt-ltb n 16 lt) refl
tail_again (suc more) zero left n rest le some lt = absurd (omega arith)
tail_again (suc more) (suc extra) left n rest le some lt =
    elim (cases_lt n 128) [
      | inl small ↦
          let spelled : digits (suc extra) n ++ rest ≡ n ∷ rest = ap (λ (t : List ℕ). t ++ rest) (digits_last (suc extra) n small) in
          rw (spelled, not_zero n some, lt-ltb n 128 small) refl
      | inr large ↦
          let spelled : digits (suc extra) n ++ rest ≡ (n % 128 + 128) ∷ (digits extra (n / 128) ++ rest) = ap (λ (t : List ℕ). t ++ rest) (digits_more extra n large) in
          let again : tail_at more left (digits extra (n / 128) ++ rest) ≡ Ok (n / 128, rest) = tail_again more extra left (n / 128) rest (omega arith) (omega arith) (omega arith) in
          let whole : n % 128 + 128 - 128 + 128 * (n / 128) ≡ n = omega arith in
          rw (spelled, not_zero (n % 128 + 128) (omega arith), le-ltb (n % 128 + 128) 128 (omega arith), again) (ap (λ (m : ℕ). Ok (m, rest)) whole)
    ]

number_takes : (bytes : List ℕ) (x : ℕ × List ℕ) → IsBytes bytes → number_at bytes ≡ Ok x → Takes bytes (number x.0) x.1 × IsNumber x.0
unfolding number_at
number_takes [] x fits e = absurd cc
number_takes (b ∷ bytes) x fits e =
    elim (chosen (ltb b 128) (Ok (b, bytes)) (tail_at 3 (suc (length bytes)) bytes >>= λ y. Ok (b - 128 + 128 * y.0, y.1)) (Ok x) e) [
      | inl q ↦
          let lt : b < 128 = ltb-true b 128 q.0 in
          let same : b ∷ bytes ≡ digits 9 b ++ bytes = ap (λ (t : List ℕ). t ++ bytes) (sym (digits_last 9 b lt)) in
          subst (λ (y : ℕ × List ℕ). Takes (b ∷ bytes) (digits 9 y.0) y.1 × (y.0 < 4294967296)) (ok_is (b, bytes) x q.1) (record { parts = same; rest_fits = IsBytes-rest b bytes fits }, omega arith)
      | inr q ↦
          let le128 : 128 ≤ b = ltb-false b 128 q.0 in
          let lt256 : b < 256 = fits 0 in
          let r = bind_ok (tail_at 3 (suc (length bytes)) bytes) (λ y. Ok (b - 128 + 128 * y.0, y.1)) x q.1 in
          let t = tail_takes 3 8 (suc (length bytes)) bytes r.0 (omega arith) (IsBytes-rest b bytes fits) r.1 in
          let made = b - 128 + 128 * r.0.0 in
          let rem : made % 128 + 128 ≡ b = omega arith in
          let quot : made / 128 ≡ r.0.0 = omega arith in
          let below : made < 4294967296 = omega (arith, t.2) in
          let spelled : digits 9 made ≡ b ∷ digits 8 r.0.0 = digits_more 8 made (omega (arith, t.1)) ∙ rw (rem, quot) refl in
          let same : b ∷ bytes ≡ digits 9 made ++ r.0.1 = ap (λ (t : List ℕ). b ∷ t) t.0.parts ∙ ap (λ (t : List ℕ). t ++ r.0.1) (sym spelled) in
          subst (λ (y : ℕ × List ℕ). Takes (b ∷ bytes) (digits 9 y.0) y.1 × (y.0 < 4294967296)) (ok_is (made, r.0.1) x r.2) (record { parts = same; rest_fits = t.0.rest_fits }, below)
    ]

number_again : (n : ℕ) (rest : List ℕ) → IsNumber n → number_at (number n ++ rest) ≡ Ok (n, rest)
unfolding number_at
number_again n rest lt =
    elim (cases_lt n 128) [
      | inl small ↦
          let spelled : digits 9 n ++ rest ≡ n ∷ rest = ap (λ (t : List ℕ). t ++ rest) (digits_last 9 n small) in
          rw (spelled, lt-ltb n 128 small) refl
      | inr large ↦
          let spelled : digits 9 n ++ rest ≡ (n % 128 + 128) ∷ (digits 8 (n / 128) ++ rest) = ap (λ (t : List ℕ). t ++ rest) (digits_more 8 n large) in
          let again : tail_at 3 (suc (length (digits 8 (n / 128) ++ rest))) (digits 8 (n / 128) ++ rest) ≡ Ok (n / 128, rest)
          = tail_again 3 8 (suc (length (digits 8 (n / 128) ++ rest))) (n / 128) rest (omega arith) (omega arith) (omega arith) in
          let whole : n % 128 + 128 - 128 + 128 * (n / 128) ≡ n = omega arith in
          rw (spelled, le-ltb (n % 128 + 128) 128 (omega arith), again) (ap (λ (m : ℕ). Ok (m, rest)) whole)
    ]

pub number_law : Law number_at number IsNumber
number_law = record { takes = number_takes; again = number_again }

pub within_law : (least bound : ℕ) → bound ≤ 4294967296 → Law (number_within least bound) number (λ n. (least ≤ n) × (n < bound))
unfolding number_within
within_law least bound most = record {
  takes = λ bytes x fits e.
      let a = bind_ok (number_at bytes) (λ n. cond (ltb n.0 least) (Err (field (length bytes))) (cond (ltb n.0 bound) (Ok n) (Err (field (length bytes))))) x e in
      let p = no_then (ltb a.0.0 least) (field (length bytes)) (cond (ltb a.0.0 bound) (Ok a.0) (Err (field (length bytes)))) x a.2 in
      let q = no_else (ltb a.0.0 bound) (field (length bytes)) (Ok a.0) x p.1 in
      let t = number_takes bytes a.0 fits a.1 in
      subst (λ (y : ℕ × List ℕ). Takes bytes (number y.0) y.1 × ((least ≤ y.0) × (y.0 < bound))) (ok_is a.0 x q.1) (t.0, (ltb-false a.0.0 least p.0, ltb-true a.0.0 bound q.0));
  again = λ n rest f. rw (number_again n rest (omega (arith, f.1)), le-ltb n least f.0, lt-ltb n bound f.1) refl;
}

-- ---- one after the other

pub takes_then : {A B : Type 0} (item : List ℕ → Read A) (text : A → List ℕ) (F : A → Type 0) (law : Law item text F) (k : A × List ℕ → Result B Fault) (bytes : List ℕ) (y : B) → IsBytes bytes → (item bytes >>= k) ≡ Ok y
    → (a : A × List ℕ) × Takes bytes (text a.0) a.1 × F a.0 × (k a ≡ Ok y)
takes_then item text F law k bytes y fits e =
    let b = bind_ok (item bytes) k y e in
    let t = law.takes bytes b.0 fits b.1 in
    (b.0, t.0, t.1, b.2)

-- ---- lists

many_takes : {A : Type 0} (item : List ℕ → Read A) (text : A → List ℕ) (F : A → Type 0) → Law item text F → (n : ℕ) (bytes : List ℕ) (x : List A × List ℕ) → IsBytes bytes → many item n bytes ≡ Ok x
    → Takes bytes (flat_map text x.0) x.1 × (length x.0 ≡ n) × Every F x.0
unfolding many
many_takes {A} item text F law zero bytes x fits e =
    subst (λ (y : List A × List ℕ). Takes bytes (flat_map text y.0) y.1 × (length y.0 ≡ 0) × Every F y.0) (ok_is ([], bytes) x e) (Takes-nothing bytes fits, refl, tt)
many_takes {A} item text F law (suc n) bytes x fits e =
    let a = bind_ok (item bytes) (λ first. many item n first.1 >>= λ others. Ok (first.0 ∷ others.0, others.1)) x e in
    let b = bind_ok (many item n a.0.1) (λ others. Ok (a.0.0 ∷ others.0, others.1)) x a.2 in
    let first = law.takes bytes a.0 fits a.1 in
    let second = many_takes item text F law n a.0.1 b.0 first.0.rest_fits b.1 in
    let both = Takes-then bytes (text a.0.0) a.0.1 (flat_map text b.0.0) b.0.1 first.0 second.0 in
    let made : List A × List ℕ = (a.0.0 ∷ b.0.0, b.0.1) in
    subst (λ (y : List A × List ℕ). Takes bytes (flat_map text y.0) y.1 × (length y.0 ≡ suc n) × Every F y.0) (ok_is made x b.2) (rw flat_map-cons both, ap suc second.1, (first.1, second.2))

many_again : {A : Type 0} (item : List ℕ → Read A) (text : A → List ℕ) (F : A → Type 0) → Law item text F → (xs : List A) (rest : List ℕ) → Every F xs → many item (length xs) (flat_map text xs ++ rest) ≡ Ok (xs, rest)
unfolding many
many_again item text F law [] rest fits = refl
many_again item text F law (a ∷ xs) rest fits =
    let regrouped : flat_map text (a ∷ xs) ++ rest ≡ text a ++ (flat_map text xs ++ rest) = ap (λ (x : List ℕ). x ++ rest) (flat_map-cons text a xs) ∙ append_assoc (text a) (flat_map text xs) rest in
    ap (many item (suc (length xs))) regrouped ∙ rw (law.again a (flat_map text xs ++ rest) fits.0, many_again item text F law xs rest fits.1) refl

pub many_law : {A : Type 0} (item : List ℕ → Read A) (text : A → List ℕ) (F : A → Type 0) → Law item text F → (n : ℕ) → Law (many item n) (flat_map text) (λ xs. (length xs ≡ n) × Every F xs)
many_law {A} item text F law n = record {
  takes = λ bytes x fits e. let t = many_takes item text F law n bytes x fits e in (t.0, (t.1, t.2));
  again = λ xs rest f. subst (λ (m : ℕ). many item m (flat_map text xs ++ rest) ≡ Ok (xs, rest)) f.0 (many_again item text F law xs rest f.1);
}

pub counted_law : {A : Type 0} (item : List ℕ → Read A) (text : A → List ℕ) (F : A → Type 0) → Law item text F → Law (counted_at item) (counted text) (λ xs. IsNumber (length xs) × Every F xs)
unfolding counted_at
counted_law {A} item text F law = record {
  takes = λ bytes x fits e.
      let a = bind_ok (number_at bytes) (λ count. many item count.0 count.1) x e in
      let t = number_takes bytes a.0 fits a.1 in
      let s = many_takes item text F law a.0.0 a.0.1 x t.0.rest_fits a.2 in
      let both = Takes-then bytes (number a.0.0) a.0.1 (flat_map text x.0) x.1 t.0 s.0 in
      (subst (λ (n : ℕ). Takes bytes (number n ++ flat_map text x.0) x.1) (sym s.1) both, (subst IsNumber (sym s.1) t.1, s.2));
  again = λ xs rest f.
      ap (counted_at item) (append_assoc (number (length xs)) (flat_map text xs) rest) ∙ rw (number_again (length xs) (flat_map text xs ++ rest) f.0) (many_again item text F law xs rest f.1);
}
