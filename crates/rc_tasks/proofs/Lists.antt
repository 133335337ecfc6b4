-- A list with one element more, and where the others stand then.
use Rattle.rc_tasks.proofs.Common.{◌≡◌, ℕ, zero, suc, ◌<◌, ◌≤◌, List, [], ◌∷◌, ◌++◌, length, map, get_or, nat_eq, refl, sym, ap, ◌∙◌, arith}
use Rattle.rc_core.specs.Heap.{update}

-- the element of this number, where one more stands at `n`
abbrev pub shift : (n : ℕ) → ℕ → ℕ
shift zero o = suc o
shift (suc n) zero = zero
shift (suc n) (suc o) = suc (shift n o)

abbrev pub insert : {A : Type 0} → ℕ → A → List A → List A
insert zero x os = x ∷ os
insert (suc n) x [] = x ∷ []
insert (suc n) x (o ∷ os) = o ∷ insert n x os

pub shift_eq : (n a b : ℕ) → nat_eq (shift n a) (shift n b) ≡ nat_eq a b
shift_eq zero a b = grind arith
shift_eq (suc n) zero zero = refl
shift_eq (suc n) zero (suc b) = grind arith
shift_eq (suc n) (suc a) zero = grind arith
shift_eq (suc n) (suc a) (suc b) = grind (arith, shift_eq n a b)

pub shift_below : (n o : ℕ) → o < n → shift n o ≡ o
shift_below zero o lt = absurd (omega (arith, lt))
shift_below (suc n) zero lt = refl
shift_below (suc n) (suc o) lt = ap suc (shift_below n o (omega (arith, lt)))

pub shift_from : (n o : ℕ) → n ≤ o → shift n o ≡ suc o
shift_from zero o le = refl
shift_from (suc n) zero le = absurd (omega (arith, le))
shift_from (suc n) (suc o) le = ap suc (shift_from n o (omega (arith, le)))

pub get_shifted : {A : Type 0} (n : ℕ) (x : A) (os : List A) (i : ℕ) (d : A) → n ≤ length os → get_or (insert n x os) (shift n i) d ≡ get_or os i d
get_shifted zero x os i d le = refl
get_shifted (suc n) x [] i d le = absurd (omega (arith, le))
get_shifted (suc n) x (o ∷ os) zero d le = refl
get_shifted (suc n) x (o ∷ os) (suc i) d le = get_shifted n x os i d (omega (arith, le))

pub get_inserted : {A : Type 0} (n : ℕ) (x : A) (os : List A) (d : A) → n ≤ length os → get_or (insert n x os) n d ≡ x
get_inserted zero x os d le = refl
get_inserted (suc n) x [] d le = absurd (omega (arith, le))
get_inserted (suc n) x (o ∷ os) d le = get_inserted n x os d (omega (arith, le))

-- in front of it
pub get_before : {A : Type 0} (n : ℕ) (x : A) (os : List A) (i : ℕ) (d : A) → i < n → n ≤ length os → get_or (insert n x os) i d ≡ get_or os i d
get_before zero x os i d lt le = absurd (omega (arith, lt))
get_before (suc n) x [] i d lt le = absurd (omega (arith, le))
get_before (suc n) x (o ∷ os) zero d lt le = refl
get_before (suc n) x (o ∷ os) (suc i) d lt le = get_before n x os i d (omega (arith, lt)) (omega (arith, le))

pub length_inserted : {A : Type 0} (n : ℕ) (x : A) (os : List A) → length (insert n x os) ≡ suc (length os)
length_inserted zero x os = refl
length_inserted (suc n) x [] = refl
length_inserted (suc n) x (o ∷ os) = ap suc (length_inserted n x os)

pub update_shifted : {A : Type 0} (n : ℕ) (x : A) (os : List A) (i : ℕ) (f : A → A) → n ≤ length os → update (insert n x os) (shift n i) f ≡ insert n x (update os i f)
update_shifted zero x os i f le = refl
update_shifted (suc n) x [] i f le = absurd (omega (arith, le))
update_shifted (suc n) x (o ∷ os) zero f le = refl
update_shifted (suc n) x (o ∷ os) (suc i) f le = ap (λ l. o ∷ l) (update_shifted n x os i f (omega (arith, le)))

pub update_inserted : {A : Type 0} (n : ℕ) (x : A) (os : List A) (f : A → A) → n ≤ length os → update (insert n x os) n f ≡ insert n (f x) os
update_inserted zero x os f le = refl
update_inserted (suc n) x [] f le = absurd (omega (arith, le))
update_inserted (suc n) x (o ∷ os) f le = ap (λ l. o ∷ l) (update_inserted n x os f (omega (arith, le)))

pub update_before : {A : Type 0} (n : ℕ) (x : A) (os : List A) (i : ℕ) (f : A → A) → i < n → n ≤ length os → update (insert n x os) i f ≡ insert n x (update os i f)
update_before n x os i f lt le = ap (λ j. update (insert n x os) j f) (sym (shift_below n i lt)) ∙ update_shifted n x os i f le

pub append_inserted : {A : Type 0} (n : ℕ) (x : A) (os ys : List A) → n ≤ length os → insert n x os ++ ys ≡ insert n x (os ++ ys)
append_inserted zero x os ys le = refl
append_inserted (suc n) x [] ys le = absurd (omega (arith, le))
append_inserted (suc n) x (o ∷ os) ys le = ap (λ l. o ∷ l) (append_inserted n x os ys (omega (arith, le)))

-- behind these
pub inserted_behind : {A : Type 0} (xs ys : List A) (x : A) → xs ++ x ∷ ys ≡ insert (length xs) x (xs ++ ys)
inserted_behind [] ys x = refl
inserted_behind (y ∷ xs) ys x = ap (λ l. y ∷ l) (inserted_behind xs ys x)

pub length_updated : {A : Type 0} (os : List A) (i : ℕ) (f : A → A) → length (update os i f) ≡ length os
length_updated [] i f = refl
length_updated (o ∷ os) zero f = refl
length_updated (o ∷ os) (suc i) f = ap suc (length_updated os i f)

pub map_updated : {A B : Type 0} (g : A → B) (os : List A) (i : ℕ) (f : A → A) (f' : B → B) → ((x : A) → f' (g x) ≡ g (f x)) → update (map g os) i f' ≡ map g (update os i f)
map_updated g [] i f f' h = refl
map_updated g (o ∷ os) zero f f' h = ap (λ y. y ∷ map g os) (h o)
map_updated g (o ∷ os) (suc i) f f' h = ap (λ l. g o ∷ l) (map_updated g os i f f' h)

pub get_mapped : {A B : Type 0} (g : A → B) (os : List A) (i : ℕ) (d : A) → get_or (map g os) i (g d) ≡ g (get_or os i d)
get_mapped g [] i d = refl
get_mapped g (o ∷ os) zero d = refl
get_mapped g (o ∷ os) (suc i) d = get_mapped g os i d
