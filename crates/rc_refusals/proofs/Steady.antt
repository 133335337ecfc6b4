-- A reader goes on as it did where more bytes come behind: what it read stays, and so does each fault but that the bytes are too few.
use Rattle.std.proofs.Common.{◌≡◌, ℕ, zero, suc, ◌+◌, ◌-◌, ◌*◌, Bool, true, false, cond, eqb, ltb, List, [], ◌∷◌, ◌++◌, length, Result, Ok, Err, refl, sym, ap, subst, arith, length-append}
use Rattle.std.specs.Prelude.{⊤}
use Rattle.rc_fields.specs.Reading.{◌>>=◌, Fault, Read, extra, field, short, wrong_magic, wrong_version, tail_at, number_at, number_within, many, counted_at}

-- so many bytes more
abbrev pub Stays : {A : Type 0} → (n : ℕ) → Fault → Result A Fault → Type 0
Stays n wrong_magic r = r ≡ Err wrong_magic
Stays n wrong_version r = r ≡ Err wrong_version
Stays n short r = ⊤
Stays n extra r = ⊥
Stays n (field left) r = r ≡ Err (field (left + n))

abbrev pub Grown : {A : Type 0} → (grow : A → A) → (n : ℕ) → Result A Fault → Result A Fault → Type 0
Grown grow n (Ok x) r = r ≡ Ok (grow x)
Grown grow n (Err e) r = Stays n e r

pub record Longer {A : Type 0} (grow : A → A) (n : ℕ) (r s : Result A Fault) : Type 0 where
  pub is : Grown grow n r s

stays_then : {A B : Type 0} (n : ℕ) (e : Fault) (r : Result A Fault) (f : A → Result B Fault) → Stays n e r → Stays n e (r >>= f)
stays_then n wrong_magic r f e = ap (λ y. y >>= f) e
stays_then n wrong_version r f e = ap (λ y. y >>= f) e
stays_then n short r f e = tt
stays_then n extra r f e = absurd e
stays_then n (field left) r f e = ap (λ y. y >>= f) e

-- one step after another
pub steps : {A B : Type 0} (g : A → A) (h : B → B) (n : ℕ) (r s : Result A Fault) (f k : A → Result B Fault) → Longer g n r s → ((x : A) → Longer h n (f x) (k (g x))) → Longer h n (r >>= f) (s >>= k)
steps g h n (Ok x) s f k e next = subst (λ y. Longer h n (f x) (y >>= k)) (sym e.is) (next x)
steps g h n (Err e) s f k stays next = record { is = stays_then n e s k stays.is }

-- a test, whose answer stays
pub both : {A : Type 0} (g : A → A) (n : ℕ) (b : Bool) (r s t u : Result A Fault) → Longer g n r s → Longer g n t u → Longer g n (cond b r t) (cond b s u)
both g n true r s t u x y = x
both g n false r s t u x y = y

module _ (more : List ℕ) where
  abbrev pub grown : {A : Type 0} → A × List ℕ → A × List ℕ
  grown x = (x.0, x.1 ++ more)

  abbrev pub Grows : {A : Type 0} → Read A → Read A → Type 0
  Grows r s = Longer grown (length more) r s

  abbrev pub Steady : {A : Type 0} → (List ℕ → Read A) → Type 0
  Steady item = (bytes : List ℕ) → Grows (item bytes) (item (bytes ++ more))

  -- a field's place moves by so many
  pub far : {A : Type 0} (bytes : List ℕ) → Grows {A = A} (Err (field (length bytes))) (Err (field (length (bytes ++ more))))
  far bytes = record { is = ap (λ l. Err (field l)) (length-append bytes more) }

  pub then : {A B : Type 0} (r s : Read A) (f k : A × List ℕ → Read B) → Grows r s → ((x : A × List ℕ) → Grows (f x) (k (grown x))) → Grows (r >>= f) (s >>= k)
  then r s f k e next = steps grown grown (length more) r s f k e next

  pub test : {A : Type 0} (b : Bool) (r s t u : Read A) → Grows r s → Grows t u → Grows (cond b r t) (cond b s u)
  test b r s t u x y = both grown (length more) b r s t u x y

  -- a test that breaks the field where it holds, or where it doesn't
  pub guard : {A : Type 0} (b : Bool) (bytes : List ℕ) (r s : Read A) → Grows r s → Grows (cond b (Err (field (length bytes))) r) (cond b (Err (field (length (bytes ++ more)))) s)
  guard true bytes r s grows = far bytes
  guard false bytes r s grows = grows

  pub guard_else : {A : Type 0} (b : Bool) (bytes : List ℕ) (r s : Read A) → Grows r s → Grows (cond b r (Err (field (length bytes)))) (cond b s (Err (field (length (bytes ++ more)))))
  guard_else true bytes r s grows = grows
  guard_else false bytes r s grows = far bytes

  pub ok : {A : Type 0} (x : A × List ℕ) → Grows (Ok x) (Ok (grown x))
  ok x = record { is = refl }

  last_digit : (t u : Bool) (left b : ℕ) (rest : List ℕ)
      → Grows {A = ℕ} (cond t (Err (field left)) (cond u (Ok (b, rest)) (Err (field left)))) (cond t (Err (field (left + length more))) (cond u (Ok (b, rest ++ more)) (Err (field (left + length more)))))
  last_digit true u left b rest = record { is = refl }
  last_digit false true left b rest = record { is = refl }
  last_digit false false left b rest = record { is = refl }

  more_digits : (u : Bool) (b : ℕ) (rest : List ℕ) (r s : Read ℕ) → Grows {A = ℕ} r s
      → Grows {A = ℕ} (cond u (Ok (b, rest)) (r >>= λ x. Ok (b - 128 + 128 * x.0, x.1))) (cond u (Ok (b, rest ++ more)) (s >>= λ x. Ok (b - 128 + 128 * x.0, x.1)))
  more_digits true b rest r s grows = record { is = refl }
  more_digits false b rest r s grows = then r s (λ x. Ok (b - 128 + 128 * x.0, x.1)) (λ x. Ok (b - 128 + 128 * x.0, x.1)) grows (λ x. record { is = refl })

  next_digit : (t : Bool) (left : ℕ) (r s : Read ℕ) → Grows {A = ℕ} r s → Grows {A = ℕ} (cond t (Err (field left)) r) (cond t (Err (field (left + length more))) s)
  next_digit true left r s grows = record { is = refl }
  next_digit false left r s grows = grows

  tail_steady : (k left : ℕ) (bytes : List ℕ) → Grows (tail_at k left bytes) (tail_at k (left + length more) (bytes ++ more))
  unfolding tail_at
  tail_steady zero left [] = record { is = tt }
  tail_steady (suc k) left [] = record { is = tt }
  tail_steady zero left (b ∷ rest) = last_digit (eqb b 0) (ltb b 16) left b rest
  tail_steady (suc k) left (b ∷ rest) = next_digit (eqb b 0) left _ _ (more_digits (ltb b 128) b rest (tail_at k left rest) (tail_at k (left + length more) (rest ++ more)) (tail_steady k left rest))

  pub number_steady : Steady number_at
  unfolding number_at
  number_steady [] = record { is = tt }
  number_steady (b ∷ rest) = more_digits (ltb b 128) b rest (tail_at 3 (suc (length rest)) rest) (tail_at 3 (suc (length (rest ++ more))) (rest ++ more)) (subst (λ l. Grows (tail_at 3 (suc (length rest)) rest) (tail_at 3 l (rest ++ more))) is (tail_steady 3 (suc (length rest)) rest))
    where
      is : suc (length rest) + length more ≡ suc (length (rest ++ more))
      is = omega (arith, length-append rest more)

  pub within_steady : (least bound : ℕ) → Steady (number_within least bound)
  unfolding number_within
  within_steady least bound bytes = then _ _ _ _ (number_steady bytes) (λ x. guard (ltb x.0 least) bytes _ _ (guard_else (ltb x.0 bound) bytes _ _ (ok x)))

  pub many_steady : {A : Type 0} (item : List ℕ → Read A) → Steady item → (k : ℕ) → Steady (many item k)
  unfolding many
  many_steady item steady zero bytes = (record { is = refl })
  many_steady item steady (suc k) bytes = then _ _ _ _ (steady bytes) (λ first. then _ _ _ _ (many_steady item steady k first.1) (λ others. (record { is = refl })))

  pub counted_steady : {A : Type 0} (item : List ℕ → Read A) → Steady item → Steady (counted_at item)
  unfolding counted_at
  counted_steady item steady bytes = then _ _ _ _ (number_steady bytes) (λ count. many_steady item steady count.0 count.1)

  -- a number and what it picks, with the place of its first byte
  pub picked : {A : Type 0} (pick : (left n : ℕ) → List ℕ → Read A) → ((left n : ℕ) (rest : List ℕ) → Grows (pick left n rest) (pick (left + length more) n (rest ++ more)))
      → Steady (λ bytes. number_at bytes >>= λ n. pick (length bytes) n.0 n.1)
  picked pick steady bytes = then _ _ _ _ (number_steady bytes) (λ n. subst (λ l. Grows (pick (length bytes) n.0 n.1) (pick l n.0 (n.1 ++ more))) (sym (length-append bytes more)) (steady (length bytes) n.0 n.1))
