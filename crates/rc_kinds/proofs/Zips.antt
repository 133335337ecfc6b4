-- Two lists, place by place.
use Rattle.std.proofs.Common.{◌≡◌, ◌<◌, ◌≤◌, ◌+◌, ◌*◌, ℕ, zero, suc, List, [], ◌∷◌, ◌++◌, length, take, drop, map, replicate, flat_map, slice_get, get_or, Some, refl, sym, ap, ◌∙◌, subst, arith, length-append}
use Rattle.std.specs.List.{AllZip}
use Rattle.rc_core.specs.Heap.{update}
use Rattle.rc_core.specs.Source.{overwritten}
use Rattle.rc_core.specs.Heap.{Value}

pub zip_at : {A B : Type 0} (R : A → B → Type 0) (xs : List A) (ys : List B) (i : ℕ) (x : A) (none : B) → AllZip R xs ys → slice_get xs i ≡ Some x → R x (get_or ys i none)
zip_at R [] [] i x none all e = cc
zip_at R [] (y ∷ ys) i x none all e = absurd all
zip_at R (a ∷ xs) [] i x none all e = absurd all
zip_at R (a ∷ xs) (y ∷ ys) zero x none all e = let q : a ≡ x = cc in subst (λ b. R b y) q all.0
zip_at R (a ∷ xs) (y ∷ ys) (suc i) x none all e = zip_at R xs ys i x none all.1 e

pub zip_length : {A B : Type 0} (R : A → B → Type 0) (xs : List A) (ys : List B) → AllZip R xs ys → length ys ≡ length xs
zip_length R [] [] all = refl
zip_length R [] (y ∷ ys) all = absurd all
zip_length R (x ∷ xs) [] all = absurd all
zip_length R (x ∷ xs) (y ∷ ys) all = ap suc (zip_length R xs ys all.1)

-- one of the second list is changed
pub zip_change : {A B : Type 0} (R : A → B → Type 0) (xs : List A) (ys : List B) (i : ℕ) (change : B → B) → ((x : A) (y : B) → slice_get xs i ≡ Some x → y ≡ get_or ys i y → R x y → R x (change y)) → AllZip R xs ys → AllZip R xs (update ys i change)
zip_change R [] [] i change k all = tt
zip_change R [] (y ∷ ys) i change k all = absurd all
zip_change R (x ∷ xs) [] i change k all = absurd all
zip_change R (x ∷ xs) (y ∷ ys) zero change k all = (k x y refl refl all.0, all.1)
zip_change R (x ∷ xs) (y ∷ ys) (suc i) change k all = (all.0, zip_change R xs ys i change k all.1)

-- one of each
pub zip_both : {A B : Type 0} (R : A → B → Type 0) (xs : List A) (ys : List B) (i : ℕ) (f : A → A) (g : B → B) → ((x : A) (y : B) → R x y → R (f x) (g y)) → AllZip R xs ys → AllZip R (update xs i f) (update ys i g)
zip_both R [] [] i f g k all = tt
zip_both R [] (y ∷ ys) i f g k all = absurd all
zip_both R (x ∷ xs) [] i f g k all = absurd all
zip_both R (x ∷ xs) (y ∷ ys) zero f g k all = (k x y all.0, all.1)
zip_both R (x ∷ xs) (y ∷ ys) (suc i) f g k all = (all.0, zip_both R xs ys i f g k all.1)

pub zip_map : {A B C : Type 0} (R : A → B → Type 0) (f : C → A) (g : C → B) → (xs : List C) → ((i : ℕ) (x : C) → slice_get xs i ≡ Some x → R (f x) (g x)) → AllZip R (map f xs) (map g xs)
zip_map R f g [] k = tt
zip_map R f g (x ∷ xs) k = (k 0 x refl, zip_map R f g xs (λ i y e. k (suc i) y e))

-- the part that stands behind some
pub zip_part : {A B : Type 0} (R : A → B → Type 0) (before part rest : List A) (ys : List B) → AllZip R (before ++ (part ++ rest)) ys → AllZip R part (take (length part) (drop (length before) ys))
zip_part R [] [] rest ys all = tt
zip_part R [] (x ∷ part) rest [] all = absurd all
zip_part R [] (x ∷ part) rest (y ∷ ys) all = (all.0, zip_part R [] part rest ys all.1)
zip_part R (b ∷ before) part rest [] all = absurd all
zip_part R (b ∷ before) part rest (y ∷ ys) all = zip_part R before part rest ys all.1

pub zip_overwritten : {A : Type 0} (R : A → Value → Type 0) (before part rest : List A) (new ys : List Value) → AllZip R (before ++ (part ++ rest)) ys → AllZip R part new → AllZip R (before ++ (part ++ rest)) (overwritten (length before) new ys)
zip_overwritten R [] [] rest [] [] all more = all
zip_overwritten R [] [] rest [] (y ∷ ys) all more = all
zip_overwritten R [] [] rest (v ∷ new) ys all more = absurd more
zip_overwritten R [] (x ∷ part) rest [] ys all more = absurd more
zip_overwritten R [] (x ∷ part) rest (v ∷ new) [] all more = absurd all
zip_overwritten R [] (x ∷ part) rest (v ∷ new) (y ∷ ys) all more = (more.0, zip_overwritten R [] part rest new ys all.1 more.1)
zip_overwritten R (b ∷ before) part rest new [] all more = absurd all
zip_overwritten R (b ∷ before) part rest new (y ∷ ys) all more = (all.0, zip_overwritten R before part rest new ys all.1 more)

pub take_all : {A : Type 0} (n : ℕ) (xs : List A) → length xs ≤ n → take n xs ≡ xs
take_all zero [] h = refl
take_all (suc n) [] h = refl
take_all zero (x ∷ xs) h = absurd (omega (arith, h))
take_all (suc n) (x ∷ xs) h = ap (λ ys. x ∷ ys) (take_all n xs (omega (arith, h)))

pub append_assoc : {A : Type 0} (a b c : List A) → (a ++ b) ++ c ≡ a ++ (b ++ c)
append_assoc [] b c = refl
append_assoc (x ∷ a) b c = ap (λ xs. x ∷ xs) (append_assoc a b c)

-- a part stands in a whole, behind so many
pub record Stands {A : Type 0} (whole part : List A) (at : ℕ) : Type 0 where
  pub before : List A
  pub rest : List A
  pub whole_is : whole ≡ before ++ (part ++ rest)
  pub at_is : length before ≡ at

pub stands_itself : {A : Type 0} (xs : List A) → (n : ℕ) → n ≡ 0 → Stands xs xs n
stands_itself xs n e = record { before = []; rest = []; whole_is = by xs; at_is = sym e }
  where
    by : {A : Type 0} (xs : List A) → xs ≡ xs ++ []
    by [] = refl
    by (x ∷ xs) = ap (λ ys. x ∷ ys) (by xs)

pub stands_within : {A : Type 0} (a b c : List A) (m n k : ℕ) → m + n ≡ k → Stands a b m → Stands b c n → Stands a c k
stands_within a b c m n k e p q = record {
  before = p.before ++ q.before;
  rest = q.rest ++ p.rest;
  whole_is = p.whole_is ∙ ap (λ xs. p.before ++ (xs ++ p.rest)) q.whole_is ∙ ap (λ xs. p.before ++ xs) (append_assoc q.before (c ++ q.rest) p.rest ∙ ap (λ xs. q.before ++ xs) (append_assoc c q.rest p.rest)) ∙ sym (append_assoc p.before q.before (c ++ (q.rest ++ p.rest)));
  at_is = let l : length (p.before ++ q.before) ≡ k = omega (arith, length-append p.before q.before, p.at_is, q.at_is, e) in l;
}

-- one of so many copies
pub copy_stands : {A : Type 0} (layout : List A) (count element n : ℕ) → element < count → element * length layout ≡ n → Stands (flat_map (λ copy. copy) (replicate count layout)) layout n
copy_stands layout zero element n below e = absurd (omega (arith, below))
copy_stands layout (suc count) zero n below e = record { before = []; rest = flat_map (λ copy. copy) (replicate count layout); whole_is = refl; at_is = let q : 0 ≡ n = omega (arith, e) in q }
copy_stands layout (suc count) (suc element) n below e =
    let p = copy_stands layout count element (element * length layout) (omega (arith, below)) refl in
    record { before = layout ++ p.before; rest = p.rest; whole_is = ap (λ xs. layout ++ xs) p.whole_is ∙ sym (append_assoc layout p.before (layout ++ p.rest)); at_is = let q : length (layout ++ p.before) ≡ n = omega (arith, length-append layout p.before, p.at_is, e) in q }

pub slice_append : {A : Type 0} (xs ys : List A) (i : ℕ) (x : A) → slice_get xs i ≡ Some x → slice_get (xs ++ ys) i ≡ Some x
slice_append [] ys i x e = cc
slice_append (a ∷ xs) ys zero x e = e
slice_append (a ∷ xs) ys (suc i) x e = slice_append xs ys i x e

pub slice_last : {A : Type 0} (xs : List A) (x : A) (n : ℕ) → length xs ≡ n → slice_get (xs ++ x ∷ []) n ≡ Some x
slice_last [] x zero e = refl
slice_last [] x (suc n) e = absurd (omega (arith, e))
slice_last (a ∷ xs) x zero e = absurd (omega (arith, e))
slice_last (a ∷ xs) x (suc n) e = slice_last xs x n (omega (arith, e))

pub slice_below : {A : Type 0} (xs : List A) (i : ℕ) → i < length xs → (x : A) × (slice_get xs i ≡ Some x)
slice_below [] i h = absurd (omega (arith, h))
slice_below (x ∷ xs) zero h = (x, refl)
slice_below (x ∷ xs) (suc i) h = slice_below xs i (omega (arith, h))

pub below_slice : {A : Type 0} (xs : List A) (i : ℕ) (x : A) → slice_get xs i ≡ Some x → i < length xs
below_slice [] i x e = cc
below_slice (a ∷ xs) zero x e = omega arith
below_slice (a ∷ xs) (suc i) x e = let h = below_slice xs i x e in omega (arith, h)

-- the part of a list before an element, it, and the part behind
pub stands_at : {A B : Type 0} (f : A → List B) (xs : List A) (i : ℕ) (x : A) → slice_get xs i ≡ Some x → Stands (flat_map f xs) (f x) (length (flat_map f (take i xs)))
stands_at f [] i x e = cc
stands_at f (a ∷ xs) zero x e = let q : a ≡ x = cc in record { before = []; rest = flat_map f xs; whole_is = ap (λ b. f b ++ flat_map f xs) q; at_is = refl }
stands_at f (a ∷ xs) (suc i) x e =
    let p = stands_at f xs i x e in
    record { before = f a ++ p.before; rest = p.rest; whole_is = ap (λ ys. f a ++ ys) p.whole_is ∙ sym (append_assoc (f a) p.before (f x ++ p.rest)); at_is = let q : length (f a ++ p.before) ≡ length (f a ++ flat_map f (take i xs)) = omega (arith, length-append (f a) p.before, length-append (f a) (flat_map f (take i xs)), p.at_is) in q }
