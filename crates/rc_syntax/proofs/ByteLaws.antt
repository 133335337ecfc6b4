-- Laws on lists of bytes: runs of bytes that pass a test, fronts, and what begins a list.
use Rattle.std.proofs.Common.{ℕ, zero, suc, ◌≡◌, ◌≤◌, ◌+◌, List, [], ◌∷◌, ◌++◌, length, take, drop, Bool, true, false, not, ◌||◌, ◌&&◌, cond, refl, ap, sym, ◌∙◌, arith, take-append-drop, length-take}
use Rattle.std.proofs.lemmas.Bool.Decides.{nat_tests}
use Rattle.std.specs.Prelude.{◌==◌, nat_eq, bytes_eq}
use Rattle.std.specs.List.{prefix_len, list_all, starts_with}
use Rattle.rc_syntax.specs.Bytes.{Each, begins}

pub byte_test : (b c : ℕ) → (b == c) ≡ true → b ≡ c
byte_test b c h = grind (arith, nat_tests)

pub byte_same : (c : ℕ) → (c == c) ≡ true
byte_same c = grind (arith, nat_tests)

pub byte_not : (c d : ℕ) → (c == d) ≡ false → c ≡ d → ⊥
byte_not c d f e = let g : true ≡ false = sym (ap (λ z. z == d) e ∙ byte_same d) ∙ f in cc

pub and_true : (x y : Bool) → (x && y) ≡ true → (x ≡ true) × (y ≡ true)
and_true true true e = (refl, refl)
and_true true false e = absurd (cc)
and_true false y e = absurd (cc)

pub or_false : (x y : Bool) → (x || y) ≡ false → (x ≡ false) × (y ≡ false)
or_false true y e = absurd (cc)
or_false false y e = (refl, e)

pub or_of : (x y : Bool) → x ≡ false → y ≡ false → (x || y) ≡ false
or_of true y e f = absurd (cc)
or_of false y e f = f

pub not_true : (x : Bool) → not x ≡ true → x ≡ false
not_true true e = absurd (cc)
not_true false e = refl

pub one_more : (n : ℕ) → 1 + n ≡ suc n
one_more n = omega arith

pub each_take : (p : ℕ → Bool) (xs : List ℕ) → Each p (take (prefix_len p xs) xs)
each_take p [] = tt
each_take p (x ∷ xs) = go (p x) refl (each_take p xs)
  where
    go : (v : Bool) → p x ≡ v → Each p (take (prefix_len p xs) xs) → Each p (take (cond v (1 + prefix_len p xs) 0) (x ∷ xs))
    go true e h = rw (one_more (prefix_len p xs)) (e, h)
    go false e h = tt

pub run_fits : (p : ℕ → Bool) (xs : List ℕ) → prefix_len p xs ≤ length xs
run_fits p [] = omega arith
run_fits p (x ∷ xs) = go (p x) (run_fits p xs)
  where
    go : (v : Bool) → prefix_len p xs ≤ length xs → cond v (1 + prefix_len p xs) 0 ≤ suc (length xs)
    go true h = omega arith
    go false h = omega arith

-- what passes at the front is within the run
pub each_within : (p : ℕ → Bool) (bs more : List ℕ) → Each p bs → length bs ≤ prefix_len p (bs ++ more)
each_within p [] more h = omega arith
each_within p (b ∷ bs) more h = let e : p b ≡ true = h.0 in rw e (omega (arith, each_within p bs more h.1))

-- and is the run where what follows doesn't pass
pub each_exact : (p : ℕ → Bool) (bs more : List ℕ) → Each p bs → begins p more ≡ false → prefix_len p (bs ++ more) ≡ length bs
each_exact p [] [] h f = refl
each_exact p [] (c ∷ more) h f = rw f refl
each_exact p (b ∷ bs) more h f = let e : p b ≡ true = h.0 in rw e (omega (arith, each_exact p bs more h.1 f))

-- what stands behind the run doesn't pass
pub run_ends : (p : ℕ → Bool) (xs : List ℕ) → begins p (drop (prefix_len p xs) xs) ≡ false
run_ends p [] = refl
run_ends p (x ∷ xs) = go (p x) refl (run_ends p xs)
  where
    go : (v : Bool) → p x ≡ v → begins p (drop (prefix_len p xs) xs) ≡ false → begins p (drop (cond v (1 + prefix_len p xs) 0) (x ∷ xs)) ≡ false
    go true e h = rw (one_more (prefix_len p xs)) h
    go false e h = e

pub drop_front : (bs more : List ℕ) → drop (length bs) (bs ++ more) ≡ more
drop_front [] more = refl
drop_front (b ∷ bs) more = drop_front bs more

pub take_front : (bs more : List ℕ) → take (length bs) (bs ++ more) ≡ bs
take_front [] more = refl
take_front (b ∷ bs) more = ap (λ z. b ∷ z) (take_front bs more)

pub front_length : (n : ℕ) (xs : List ℕ) → n ≤ length xs → length (take n xs) ≡ n
front_length n xs h = simp length-take (omega arith)

pub front_and : (n : ℕ) (xs : List ℕ) → xs ≡ take n xs ++ drop n xs
front_and n xs = sym (take-append-drop n xs)

pub begins_cons : (c : ℕ) (xs : List ℕ) → begins (λ z. z == c) xs ≡ true → (ys : List ℕ) × (xs ≡ c ∷ ys)
begins_cons c [] h = absurd (cc)
begins_cons c (x ∷ xs) h = let e = byte_test x c h in (xs, (cc))

pub cons_begins : (c : ℕ) (xs ys : List ℕ) → xs ≡ c ∷ ys → begins (λ z. z == c) xs ≡ true
cons_begins c xs ys e = ap (begins (λ z. z == c)) e ∙ byte_same c

pub each_of_all : (p : ℕ → Bool) (xs : List ℕ) → list_all p xs ≡ true → Each p xs
each_of_all p [] h = tt
each_of_all p (x ∷ xs) h = let e = and_true (p x) (list_all p xs) h in (e.0, each_of_all p xs e.1)

pub all_of_each : (p : ℕ → Bool) (xs : List ℕ) → Each p xs → list_all p xs ≡ true
all_of_each p [] h = refl
all_of_each p (x ∷ xs) h = let e : p x ≡ true = h.0 in rw e (all_of_each p xs h.1)

pub each_append : (p : ℕ → Bool) (xs ys : List ℕ) → Each p xs → Each p ys → Each p (xs ++ ys)
each_append p [] ys h i = i
each_append p (x ∷ xs) ys h i = (h.0, each_append p xs ys h.1 i)

pub each_mono : (p q : ℕ → Bool) → ((b : ℕ) → p b ≡ true → q b ≡ true) → (xs : List ℕ) → Each p xs → Each q xs
each_mono p q f [] h = tt
each_mono p q f (x ∷ xs) h = (f x h.0, each_mono p q f xs h.1)

pub same_bytes : (xs ys : List ℕ) → bytes_eq xs ys ≡ true → xs ≡ ys
same_bytes [] [] h = refl
same_bytes [] (y ∷ ys) h = absurd (cc)
same_bytes (x ∷ xs) [] h = absurd (cc)
same_bytes (x ∷ xs) (y ∷ ys) h = let e = and_true (x == y) (bytes_eq xs ys) h in let f = byte_test x y e.0 in let g = same_bytes xs ys e.1 in (cc)

pub bytes_same : (xs : List ℕ) → bytes_eq xs xs ≡ true
bytes_same [] = refl
bytes_same (x ∷ xs) = rw (byte_same x) (bytes_same xs)

-- a front that is tested for
pub starts_front : (xs p : List ℕ) → starts_with nat_eq xs p ≡ true → xs ≡ p ++ drop (length p) xs
starts_front xs [] h = refl
starts_front [] (b ∷ p) h = absurd (cc)
starts_front (x ∷ xs) (b ∷ p) h = let e = and_true (b == x) (starts_with nat_eq xs p) h in let f = byte_test b x e.0 in let g = starts_front xs p e.1 in (cc)

pub front_starts : (p rest : List ℕ) → starts_with nat_eq (p ++ rest) p ≡ true
front_starts [] rest = refl
front_starts (b ∷ p) rest = rw (byte_same b) (front_starts p rest)

pub same_length : (xs rs ys bs : List ℕ) → xs ++ rs ≡ ys ++ bs → length xs ≡ length ys → (xs ≡ ys) × (rs ≡ bs)
same_length [] rs [] bs e h = (refl, e)
same_length [] rs (y ∷ ys) bs e h = absurd (omega arith)
same_length (x ∷ xs) rs [] bs e h = absurd (omega arith)
same_length (x ∷ xs) rs (y ∷ ys) bs e h =
    let i : x ≡ y = cc in
    let j : xs ++ rs ≡ ys ++ bs = cc in
    let k = same_length xs rs ys bs j (omega arith) in
    ((let l : xs ≡ ys = k.0 in cc), k.1)

pub take_next : (n c : ℕ) (xs ys : List ℕ) → drop n xs ≡ c ∷ ys → take (suc n) xs ≡ take n xs ++ c ∷ []
take_next zero c [] ys e = absurd (cc)
take_next zero c (x ∷ xs) ys e = (cc)
take_next (suc n) c [] ys e = absurd (cc)
take_next (suc n) c (x ∷ xs) ys e = let i = take_next n c xs ys e in (cc)

pub longer : (n c : ℕ) (xs ys : List ℕ) → drop n xs ≡ c ∷ ys → suc n ≤ length xs
longer zero c [] ys e = absurd (cc)
longer zero c (x ∷ xs) ys e = omega arith
longer (suc n) c [] ys e = absurd (cc)
longer (suc n) c (x ∷ xs) ys e = omega (arith, longer n c xs ys e)

pub drop_next : (n c : ℕ) (xs ys : List ℕ) → drop n xs ≡ c ∷ ys → drop (suc n) xs ≡ ys
drop_next zero c [] ys e = absurd (cc)
drop_next zero c (x ∷ xs) ys e = (cc)
drop_next (suc n) c [] ys e = absurd (cc)
drop_next (suc n) c (x ∷ xs) ys e = drop_next n c xs ys e
