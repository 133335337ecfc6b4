-- On lists.
use Rattle.std.proofs.Common.{◌≡◌, ℕ, zero, suc, List, [], ◌∷◌, ◌++◌, take, drop, map, get_or, refl}
use Rattle.std.specs.List.{AllByRecursion as Every, AllZip}
use Rattle.rc_core.specs.Heap.{update}

pub every_more : {A : Type 0} (P Q : A → Type 0) → ((x : A) → P x → Q x) → (xs : List A) → Every P xs → Every Q xs
every_more P Q more [] all = tt
every_more P Q more (x ∷ xs) all = (more x all.0, every_more P Q more xs all.1)

pub every_append : {A : Type 0} (P : A → Type 0) (xs ys : List A) → Every P xs → Every P ys → Every P (xs ++ ys)
every_append P [] ys all rest = rest
every_append P (x ∷ xs) ys all rest = (all.0, every_append P xs ys all.1 rest)

pub every_split : {A : Type 0} (P : A → Type 0) (xs ys : List A) → Every P (xs ++ ys) → Every P xs × Every P ys
every_split P [] ys all = (tt, all)
every_split P (x ∷ xs) ys all = let parts = every_split P xs ys all.1 in ((all.0, parts.0), parts.1)

pub every_take : {A : Type 0} (P : A → Type 0) (n : ℕ) (xs : List A) → Every P xs → Every P (take n xs)
every_take P zero xs all = tt
every_take P (suc n) [] all = tt
every_take P (suc n) (x ∷ xs) all = (all.0, every_take P n xs all.1)

pub every_drop : {A : Type 0} (P : A → Type 0) (n : ℕ) (xs : List A) → Every P xs → Every P (drop n xs)
every_drop P zero xs all = all
every_drop P (suc n) [] all = tt
every_drop P (suc n) (x ∷ xs) all = every_drop P n xs all.1

pub every_map : {A B : Type 0} (P : B → Type 0) (f : A → B) → ((x : A) → P (f x)) → (xs : List A) → Every P (map f xs)
every_map P f each [] = tt
every_map P f each (x ∷ xs) = (each x, every_map P f each xs)

pub every_get_or : {A : Type 0} (P : A → Type 0) (xs : List A) (i : ℕ) (none : A) → P none → Every P xs → P (get_or xs i none)
every_get_or P [] i none p all = p
every_get_or P (x ∷ xs) zero none p all = all.0
every_get_or P (x ∷ xs) (suc i) none p all = every_get_or P xs i none p all.1

-- which element is changed is known
pub every_update : {A : Type 0} (P : A → Type 0) (xs : List A) (i : ℕ) (change : A → A) (none : A) → ((x : A) → x ≡ get_or xs i none → P x → P (change x)) → Every P xs → Every P (update xs i change)
every_update P [] i change none k all = tt
every_update P (x ∷ xs) zero change none k all = (k x refl all.0, all.1)
every_update P (x ∷ xs) (suc i) change none k all = (all.0, every_update P xs i change none k all.1)

pub zip_more : {A B : Type 0} (R S : A → B → Type 0) → ((a : A) (b : B) → R a b → S a b) → (xs : List A) (ys : List B) → AllZip R xs ys → AllZip S xs ys
zip_more R S more [] [] all = tt
zip_more R S more [] (y ∷ ys) all = all
zip_more R S more (x ∷ xs) [] all = all
zip_more R S more (x ∷ xs) (y ∷ ys) all = (more x y all.0, zip_more R S more xs ys all.1)

pub zip_append : {A B : Type 0} (R : A → B → Type 0) (xs vs : List A) (ys us : List B) → AllZip R xs ys → AllZip R vs us → AllZip R (xs ++ vs) (ys ++ us)
zip_append R [] vs [] us all rest = rest
zip_append R [] vs (y ∷ ys) us all rest = absurd all
zip_append R (x ∷ xs) vs [] us all rest = absurd all
zip_append R (x ∷ xs) vs (y ∷ ys) us all rest = (all.0, zip_append R xs vs ys us all.1 rest)
