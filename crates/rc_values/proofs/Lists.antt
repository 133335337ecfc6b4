-- Lists that are read, changed and searched at a place.
use Rattle.std.proofs.Common.{◌≡◌, ◌≢◌, ◌≤◌, ◌<◌, ℕ, zero, suc, ◌+◌, Bool, true, false, ◌||◌, List, [], ◌∷◌, ◌++◌, length, map, take, drop, replicate, get_or, set, Some, None, refl, sym, ap, ◌∙◌, arith, append_assoc, append-nil, add-one, subst}
use Rattle.std.proofs.lemmas.List.{length-map, reverse-append}
use Rattle.std.specs.Prelude.{reverse, slice_get, flat_map, not, ◌&&◌, nat_eq}
use Rattle.std.proofs.lemmas.List.Folds.{list_any_more, list_any_at}
use Rattle.std.specs.List.{list_any}
use Rattle.rc_core.specs.Heap.{Value, update}
use Rattle.rc_core.specs.Source.{overwritten}

pub set_mapped : {A B : Type 0} (f : A → B) (xs : List A) (i : ℕ) (v : A) → map f (set xs i v) ≡ update (map f xs) i (λ _. f v)
set_mapped f [] zero v = refl
set_mapped f [] (suc i) v = refl
set_mapped f (x ∷ xs) zero v = refl
set_mapped f (x ∷ xs) (suc i) v = ap (λ l. f x ∷ l) (set_mapped f xs i v)

pub update_past : {A : Type 0} (xs : List A) (i : ℕ) (change : A → A) → length xs ≤ i → update xs i change ≡ xs
update_past [] zero change past = refl
update_past [] (suc i) change past = refl
update_past (x ∷ xs) zero change past = absurd (omega (arith, past))
update_past (x ∷ xs) (suc i) change past = ap (λ l. x ∷ l) (update_past xs i change (omega (arith, past)))

pub update_set : {A : Type 0} (xs : List A) (i : ℕ) (change : A → A) (d : A) → i < length xs → update xs i change ≡ set xs i (change (get_or xs i d))
update_set [] i change d within = absurd (omega (arith, within))
update_set (x ∷ xs) zero change d within = refl
update_set (x ∷ xs) (suc i) change d within = ap (λ l. x ∷ l) (update_set xs i change d (omega (arith, within)))

pub overwritten_nothing : (at : ℕ) (xs : List Value) → overwritten at [] xs ≡ xs
overwritten_nothing zero [] = refl
overwritten_nothing (suc at) [] = refl
overwritten_nothing zero (x ∷ xs) = refl
overwritten_nothing (suc at) (x ∷ xs) = ap (λ l. x ∷ l) (overwritten_nothing at xs)

pub overwritten_past : (at : ℕ) (vs xs : List Value) → length xs ≤ at → overwritten at vs xs ≡ xs
overwritten_past zero vs [] past = refl
overwritten_past (suc at) vs [] past = refl
overwritten_past zero vs (x ∷ xs) past = absurd (omega (arith, past))
overwritten_past (suc at) vs (x ∷ xs) past = ap (λ l. x ∷ l) (overwritten_past at vs xs (omega (arith, past)))

overwritten_suc : (at : ℕ) (v : Value) (vs xs : List Value) → overwritten at (v ∷ vs) xs ≡ overwritten (suc at) vs (update xs at (λ _. v))
overwritten_suc zero v vs [] = refl
overwritten_suc (suc at) v vs [] = refl
overwritten_suc zero v vs (x ∷ xs) = refl
overwritten_suc (suc at) v vs (x ∷ xs) = ap (λ l. x ∷ l) (overwritten_suc at v vs xs)

pub overwritten_first : (at : ℕ) (v : Value) (vs xs : List Value) → overwritten at (v ∷ vs) xs ≡ overwritten (at + 1) vs (update xs at (λ _. v))
overwritten_first at v vs xs = overwritten_suc at v vs xs ∙ ap (λ n. overwritten n vs (update xs at (λ _. v))) (sym (add-one at))

pub take_mapped : {A B : Type 0} (f : A → B) (n : ℕ) (xs : List A) → map f (take n xs) ≡ take n (map f xs)
take_mapped f zero xs = refl
take_mapped f (suc n) [] = refl
take_mapped f (suc n) (x ∷ xs) = ap (λ l. f x ∷ l) (take_mapped f n xs)

pub drop_mapped : {A B : Type 0} (f : A → B) (n : ℕ) (xs : List A) → map f (drop n xs) ≡ drop n (map f xs)
drop_mapped f zero xs = refl
drop_mapped f (suc n) [] = refl
drop_mapped f (suc n) (x ∷ xs) = drop_mapped f n xs

pub read_mapped : {A B : Type 0} (f : A → B) (xs : List A) (i : ℕ) (d : A) → get_or (map f xs) i (f d) ≡ f (get_or xs i d)
read_mapped f [] zero d = refl
read_mapped f [] (suc i) d = refl
read_mapped f (x ∷ xs) zero d = refl
read_mapped f (x ∷ xs) (suc i) d = read_mapped f xs i d

pub any_mapped_more : {A B : Type 0} (p : B → Bool) (f : A → B) (xs : List A) (i : ℕ) (d : A) → i < length xs → list_any p (map f (take (i + 1) xs)) ≡ (list_any p (map f (take i xs)) || p (f (get_or xs i d)))
any_mapped_more p f xs i d within =
    ap (list_any p) (take_mapped f (i + 1) xs)
    ∙ list_any_more p (map f xs) i (f d) (subst (λ n. i < n) (sym (length-map xs f)) within)
    ∙ ap (λ l. list_any p l || p (get_or (map f xs) i (f d))) (sym (take_mapped f i xs))
    ∙ ap (λ y. list_any p (map f (take i xs)) || p y) (read_mapped f xs i d)

pub any_mapped_at : {A B : Type 0} (p : B → Bool) (f : A → B) (xs : List A) (i : ℕ) (d : A) → i < length xs → p (f (get_or xs i d)) ≡ true → list_any p (map f xs) ≡ true
any_mapped_at p f xs i d within is = list_any_at p (map f xs) i (f d) (subst (λ n. i < n) (sym (length-map xs f)) within) (ap p (read_mapped f xs i d) ∙ is)

blanks_suc : {A B : Type 0} (f : A → List B) (n : ℕ) (x : A) → flat_map f (replicate (suc n) x) ≡ flat_map f (replicate n x) ++ f x
blanks_suc f zero x = append-nil (f x)
blanks_suc f (suc n) x = ap (λ l. f x ++ l) (blanks_suc f n x) ∙ sym (append_assoc (f x) (flat_map f (replicate n x)) (f x))

pub blanks_more : {A B : Type 0} (f : A → List B) (n : ℕ) (x : A) → flat_map f (replicate (n + 1) x) ≡ flat_map f (replicate n x) ++ f x
blanks_more f n x = ap (λ m. flat_map f (replicate m x)) (add-one n) ∙ blanks_suc f n x

pub part_mapped : {A B : Type 0} (f : A → B) (n i : ℕ) (xs : List A) → map f (take n (drop i xs)) ≡ take n (drop i (map f xs))
part_mapped f n i xs = take_mapped f n (drop i xs) ∙ ap (take n) (drop_mapped f i xs)

pub part_past : {A : Type 0} (n i : ℕ) (xs : List A) → length xs ≤ i → take n (drop i xs) ≡ []
part_past zero i xs past = refl
part_past (suc n) zero [] past = refl
part_past (suc n) zero (x ∷ xs) past = absurd (omega (arith, past))
part_past (suc n) (suc i) [] past = refl
part_past (suc n) (suc i) (x ∷ xs) past = part_past (suc n) i xs (omega (arith, past))

pub changed_at : {A : Type 0} (xs : List A) (i : ℕ) (change : A → A) (x y : A) → i < length xs → x ≡ get_or xs i x → y ≡ change x → set xs i y ≡ update xs i change
changed_at xs i change x y within read new = ap (set xs i) (new ∙ ap change read) ∙ sym (update_set xs i change x within)

pub drop_past : {A : Type 0} (n : ℕ) (xs : List A) → length xs ≤ n → drop n xs ≡ []
drop_past zero [] past = refl
drop_past zero (x ∷ xs) past = absurd (omega (arith, past))
drop_past (suc n) [] past = refl
drop_past (suc n) (x ∷ xs) past = drop_past n xs (omega (arith, past))

pub reversed_more : {A : Type 0} (xs : List A) (x : A) → reverse (xs ++ x ∷ []) ≡ x ∷ reverse xs
reversed_more xs x = reverse-append xs (x ∷ [])
