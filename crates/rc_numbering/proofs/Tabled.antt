-- Tables: what was seen is there, and is found again by its number.
use Rattle.std.proofs.Common.{◌≡◌, ◌<◌, ◌≤◌, ℕ, zero, suc, ◌+◌, Bool, true, false, ◌&&◌, List, [], ◌∷◌, ◌++◌, length, map, flat_map, get_or, Option, Some, None, refl, ap, ◌∙◌, subst, arith, rules, length-append}
use Rattle.std.specs.Prelude.{nat_eq, slice_get}
use Rattle.std.specs.List.{AllByRecursion as Every}
use Rattle.rc_core.specs.declared.ty.Signedness.{Signedness}
use Rattle.rc_core.specs.declared.ty.Signedness.TheVariants.{Signed, Unsigned}
use Rattle.rc_core.specs.Types.{Ty}
use Rattle.rc_safety.proofs.Lists.{every_append}
use Rattle.rc_kinds.proofs.InRange.{less_is}
use Rattle.rc_emission.specs.KeptOperands.{counted_on, place_in, same_type, Kept, kept_at}
use Rattle.rc_emission.proofs.SameOperands.{kept_is, kept_self}
use Rattle.rc_code.specs.declared.image.Index.{Index}
use Rattle.rc_code.specs.declared.image.Path.{Path}
use Rattle.rc_numbering.specs.Names.{same_kind, same_shift, same_index, same_indices, same_path}
use Rattle.rc_numbering.specs.Tables.{has, IsIn, with_new, seen_behind}

pub type_is : (a b : Ty) → same_type a b ≡ true → a ≡ b
type_is a b e = ap (λ (k : Kept). k.ty) (kept_is (kept_at 0 a) (kept_at 0 b) e)

pub type_self : (a : Ty) → same_type a a ≡ true
type_self a = kept_self (kept_at 0 a)

-- ---- paths are the same where the comparison says so

both_true : (a b : Bool) → (a && b) ≡ true → (a ≡ true) × (b ≡ true)
both_true true true e = (refl, refl)
both_true true false e = absurd cc
both_true false b e = absurd cc

number_is : (a b : ℕ) → nat_eq a b ≡ true → a ≡ b
number_is a b e = search (rules, e)

number_self : (a : ℕ) → nat_eq a a ≡ true
number_self a = search rules

kind_is : (a b : Signedness) → same_kind a b ≡ true → a ≡ b
kind_is Signed Signed e = refl
kind_is Signed Unsigned e = absurd (cc e)
kind_is Unsigned Signed e = absurd (cc e)
kind_is Unsigned Unsigned e = refl

kind_self : (a : Signedness) → same_kind a a ≡ true
kind_self Signed = refl
kind_self Unsigned = refl

shift_is : (a b : Option Signedness) → same_shift a b ≡ true → a ≡ b
shift_is None None e = refl
shift_is None (Some t) e = absurd (cc e)
shift_is (Some s) None e = absurd (cc e)
shift_is (Some s) (Some t) e = ap Some (kind_is s t e)

shift_self : (a : Option Signedness) → same_shift a a ≡ true
shift_self None = refl
shift_self (Some s) = kind_self s

index_made : ℕ → ℕ → Signedness → Index
index_made n s k = record { length = n; stride = s; kind = k }

index_is : (i j : Index) → same_index i j ≡ true → i ≡ j
unfolding index_made
index_is i j e =
    let a = both_true (nat_eq i.length j.length) (nat_eq i.stride j.stride && same_kind i.kind j.kind) e in
    let b = both_true (nat_eq i.stride j.stride) (same_kind i.kind j.kind) a.1 in
    ap (λ n. index_made n i.stride i.kind) (number_is i.length j.length a.0) ∙ ap (λ n. index_made j.length n i.kind) (number_is i.stride j.stride b.0) ∙ ap (index_made j.length j.stride) (kind_is i.kind j.kind b.1)

index_self : (i : Index) → same_index i i ≡ true
index_self i = ap (λ b. b && (nat_eq i.stride i.stride && same_kind i.kind i.kind)) (number_self i.length) ∙ ap (λ b. b && same_kind i.kind i.kind) (number_self i.stride) ∙ kind_self i.kind

indices_are : (is js : List Index) → same_indices is js ≡ true → is ≡ js
indices_are [] [] e = refl
indices_are [] (j ∷ js) e = absurd (cc e)
indices_are (i ∷ is) [] e = absurd (cc e)
indices_are (i ∷ is) (j ∷ js) e = let b = both_true (same_index i j) (same_indices is js) e in ap (λ x. x ∷ is) (index_is i j b.0) ∙ ap (λ xs. j ∷ xs) (indices_are is js b.1)

indices_self : (is : List Index) → same_indices is is ≡ true
indices_self [] = refl
indices_self (i ∷ is) = ap (λ b. b && same_indices is is) (index_self i) ∙ indices_self is

path_made : ℕ → Option Signedness → ℕ → List Index → Path
path_made t s o is = record { type_number = t; shift = s; offset = o; indices = is }

pub path_is : (p q : Path) → same_path p q ≡ true → p ≡ q
unfolding path_made
path_is p q e =
    let a = both_true (nat_eq p.type_number q.type_number) (same_shift p.shift q.shift && (nat_eq p.offset q.offset && same_indices p.indices q.indices)) e in
    let b = both_true (same_shift p.shift q.shift) (nat_eq p.offset q.offset && same_indices p.indices q.indices) a.1 in
    let c = both_true (nat_eq p.offset q.offset) (same_indices p.indices q.indices) b.1 in
    ap (λ n. path_made n p.shift p.offset p.indices) (number_is p.type_number q.type_number a.0)
    ∙ ap (λ s. path_made q.type_number s p.offset p.indices) (shift_is p.shift q.shift b.0)
    ∙ ap (λ o. path_made q.type_number q.shift o p.indices) (number_is p.offset q.offset c.0)
    ∙ ap (path_made q.type_number q.shift q.offset) (indices_are p.indices q.indices c.1)

pub path_self : (p : Path) → same_path p p ≡ true
path_self p =
    ap (λ b. b && (same_shift p.shift p.shift && (nat_eq p.offset p.offset && same_indices p.indices p.indices))) (number_self p.type_number)
    ∙ ap (λ b. b && (nat_eq p.offset p.offset && same_indices p.indices p.indices)) (shift_self p.shift)
    ∙ ap (λ b. b && same_indices p.indices p.indices) (number_self p.offset)
    ∙ indices_self p.indices

-- ---- tables

module _ {A : Type 0} (equal : A → A → Bool) (self : (a : A) → equal a a ≡ true) where
  abbrev In : List A → A → Type 0
  In table a = IsIn equal table a

  counted_less : (b : Bool) (m n : ℕ) → m < n → counted_on b m < suc n
  counted_less true m n lt = omega arith
  counted_less false m n lt = omega (arith, lt)

  in_append : (table more : List A) (a : A) → In table a → In (table ++ more) a
  in_append [] more a lt = absurd (omega (arith, lt))
  in_append (x ∷ table) more a lt = by (equal x a) lt (λ l. in_append table more a l)
    where
      by : (b : Bool) → counted_on b (place_in equal table a) < suc (length table) → (place_in equal table a < length table → In (table ++ more) a) → counted_on b (place_in equal (table ++ more) a) < suc (length (table ++ more))
      by true lt rest = omega arith
      by false lt rest = let r = rest (omega (arith, lt)) in omega (arith, r)

  in_last : (table : List A) (a : A) → In (table ++ a ∷ []) a
  in_last [] a = ap_in (equal a a) (self a)
    where
      ap_in : (c : Bool) → c ≡ true → counted_on c 0 < 1
      ap_in true e = omega arith
      ap_in false e = absurd (cc e)
  in_last (x ∷ table) a = counted_less (equal x a) (place_in equal (table ++ a ∷ []) a) (length (table ++ a ∷ [])) (in_last table a)

  in_new : (b : Bool) (table : List A) (a : A) → has equal table a ≡ b → In (with_new equal b table a) a
  in_new true table a e = less_is (place_in equal table a) (length table) e
  in_new false table a e = in_last table a

  kept_new : (b : Bool) (table : List A) (a x : A) → In table x → In (with_new equal b table a) x
  kept_new true table a x i = i
  kept_new false table a x i = in_append table (a ∷ []) x i

  pub kept_in : (table things : List A) (x : A) → In table x → In (seen_behind equal table things) x
  kept_in table [] x i = i
  kept_in table (a ∷ things) x i = kept_in (with_new equal (has equal table a) table a) things x (kept_new (has equal table a) table a x i)

  pub all_in : (table things : List A) → Every (In (seen_behind equal table things)) things
  all_in table [] = tt
  all_in table (a ∷ things) =
      (kept_in (with_new equal (has equal table a) table a) things a (in_new (has equal table a) table a refl), all_in (with_new equal (has equal table a) table a) things)

  -- what all things have, all entries have
  pub every_entry : (P : A → Type 0) (table things : List A) → Every P table → Every P things → Every P (seen_behind equal table things)
  every_entry P table [] t all = t
  every_entry P table (a ∷ things) t all = every_entry P (with_new equal (has equal table a) table a) things (by (has equal table a)) all.1
    where
      by : (b : Bool) → Every P (with_new equal b table a)
      by true = t
      by false = every_append P table (a ∷ []) t (all.0, tt)

  -- no longer than what was seen
  pub few_entries : (table things : List A) → length (seen_behind equal table things) ≤ length table + length things
  few_entries table [] = omega arith
  few_entries table (a ∷ things) =
      let r = few_entries (with_new equal (has equal table a) table a) things in
      let l = by (has equal table a) in
      omega (arith, r, l)
    where
      by : (b : Bool) → length (with_new equal b table a) ≤ suc (length table)
      by true = omega arith
      by false = let x = length-append table (a ∷ []) in omega (arith, x)

-- ---- lists of lists

pub every_before : {A : Type 0} (P : A → Type 0) (xs ys : List A) → Every P (xs ++ ys) → Every P xs
every_before P [] ys all = tt
every_before P (x ∷ xs) ys all = (all.0, every_before P xs ys all.1)

pub every_behind : {A : Type 0} (P : A → Type 0) (xs ys : List A) → Every P (xs ++ ys) → Every P ys
every_behind P [] ys all = all
every_behind P (x ∷ xs) ys all = every_behind P xs ys all.1

pub every_of_one : {A B : Type 0} (P : B → Type 0) (g : A → List B) (xs : List A) (k : ℕ) (x : A) → slice_get xs k ≡ Some x → Every P (flat_map g xs) → Every P (g x)
every_of_one P g [] k x e all = absurd (cc e)
every_of_one P g (y ∷ xs) zero x e all = let q : y ≡ x = cc in subst (λ z. Every P (g z)) q (every_before P (g y) (flat_map g xs) all)
every_of_one P g (y ∷ xs) (suc k) x e all = every_of_one P g xs k x e (every_behind P (g y) (flat_map g xs) all)

pub get_mapped : {A B : Type 0} (g : A → B) (xs : List A) (n : ℕ) (a : A) (b : B) → n < length xs → get_or (map g xs) n b ≡ g (get_or xs n a)
get_mapped g [] n a b lt = absurd (omega (arith, lt))
get_mapped g (x ∷ xs) zero a b lt = refl
get_mapped g (x ∷ xs) (suc n) a b lt = get_mapped g xs n a b (omega (arith, lt))

pub get_there : {A B : Type 0} (g : A → B) (xs : List A) (n : ℕ) (x : A) (b : B) → slice_get xs n ≡ Some x → get_or (map g xs) n b ≡ g x
get_there g [] n x b e = absurd (cc e)
get_there g (y ∷ xs) zero x b e = let q : y ≡ x = cc in ap g q
get_there g (y ∷ xs) (suc n) x b e = get_there g xs n x b e
