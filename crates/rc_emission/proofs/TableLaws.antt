-- What a number in a table names, and that tables of kept operands serve a function.
use Rattle.std.proofs.Common.{◌≡◌, ◌<◌, ℕ, zero, suc, ◌+◌, Bool, true, false, List, [], ◌∷◌, ◌++◌, length, map, refl, sym, ap, ◌∙◌, arith, length-append}
use Rattle.std.specs.Prelude.{get_or}
use Rattle.rc_core.specs.Types.{Ty, int}
use Rattle.rc_rlang.specs.RegionCode.{Routine}
use Rattle.rc_emission.specs.Served.{CodeServed}
use Rattle.rc_emission.specs.OperationCode.{wide}
use Rattle.rc_emission.specs.KeptOperands.{counted_on, place_in, Kept, kept_at, slots_by}
use Rattle.rc_emission.specs.Means.{IsThere, Serves}

-- an entry is found again by its number
pub found_again : {A : Type 0} (equal : A → A → Bool) → ((a b : A) → equal a b ≡ true → a ≡ b) → (table : List A) (a d : A) → place_in equal table a < length table → get_or table (place_in equal table a) d ≡ a
found_again equal is [] a d lt = absurd (omega (arith, lt))
found_again equal is (x ∷ xs) a d lt = by (equal x a) refl lt (found_again equal is xs a d)
  where
    by : (b : Bool) → equal x a ≡ b → counted_on b (place_in equal xs a) < suc (length xs) → (place_in equal xs a < length xs → get_or xs (place_in equal xs a) d ≡ a) → get_or (x ∷ xs) (counted_on b (place_in equal xs a)) d ≡ a
    by true e lt rec = is x a e
    by false e lt rec = rec (omega (arith, lt))

get_behind : {A : Type 0} (xs ys : List A) (n : ℕ) (d : A) → get_or (xs ++ ys) (length xs + n) d ≡ get_or ys n d
get_behind [] ys n d = let e : 0 + n ≡ n = omega arith in ap (λ k. get_or ys k d) e
get_behind (x ∷ xs) ys n d = let e : length (x ∷ xs) + n ≡ suc (length xs + n) = omega arith in ap (λ k. get_or (x ∷ (xs ++ ys)) k d) e ∙ get_behind xs ys n d

length_map : {A B : Type 0} (f : A → B) (xs : List A) → length (map f xs) ≡ length xs
length_map f [] = refl
length_map f (x ∷ xs) = ap suc (length_map f xs)

get_map : (xs : List Kept) (n : ℕ) (d : Kept) → get_or (map (λ e. wide e.ty) xs) n (wide d.ty) ≡ wide (get_or xs n d).ty
get_map [] n d = refl
get_map (x ∷ xs) zero d = refl
get_map (x ∷ xs) (suc n) d = get_map xs n d

module _ (equal : Kept → Kept → Bool) (is : (a b : Kept) → equal a b ≡ true → a ≡ b) (table : Routine → List Kept) where
  abbrev pub Has : Routine → ℕ → Ty → Type 0
  Has f h ty = place_in equal (table f) (kept_at h ty) < length (table f)

  abbrev none : Kept
  none = kept_at 0 int

  -- an operand is in the table where its local is there
  pub there_in : (f : Routine) (h : ℕ) (ty : Ty) → IsThere f (slots_by equal table f) h ty → Has f h ty
  there_in f h ty there = let a = length-append f.locals (map (λ (e : Kept). wide e.ty) (table f)) in let b = length_map (λ (e : Kept). wide e.ty) (table f) in omega (arith, a, b, there)

  pub in_there : (f : Routine) (h : ℕ) (ty : Ty) → Has f h ty → IsThere f (slots_by equal table f) h ty
  in_there f h ty has = let a = length-append f.locals (map (λ (e : Kept). wide e.ty) (table f)) in let b = length_map (λ (e : Kept). wide e.ty) (table f) in omega (arith, a, b, has)

  pub table_serves : (f : Routine) → CodeServed (IsThere f (slots_by equal table f)) f.locals f.body → Serves f (slots_by equal table f)
  table_serves f fits = record {
    behind = λ h ty. omega arith;
    apart = λ h k ty uy hh hk lt e. not_same h k lt (same_height h k ty uy (there_in f h ty hh) (there_in f k uy hk) (omega (arith, e)));
    fits = fits;
  }
    where
      not_same : (h k : ℕ) → h < k → h ≡ k → ⊥
      not_same h k lt e = absurd (omega (arith, lt, e))

      same_height : (h k : ℕ) (ty uy : Ty) → Has f h ty → Has f k uy → place_in equal (table f) (kept_at h ty) ≡ place_in equal (table f) (kept_at k uy) → h ≡ k
      same_height h k ty uy hh hk e =
          ap (λ (x : Kept). x.height) (sym (found_again equal is (table f) (kept_at h ty) none hh) ∙ ap (λ n. get_or (table f) n none) e ∙ found_again equal is (table f) (kept_at k uy) none hk)

  -- and each slot has the type of what it keeps, an `int` for a `char`
  pub table_types : (f : Routine) (h : ℕ) (ty : Ty) → Has f h ty → get_or (f.locals ++ map (λ (e : Kept). wide e.ty) (table f)) ((slots_by equal table f).slot h ty) int ≡ wide ty
  table_types f h ty has =
      get_behind f.locals (map (λ (e : Kept). wide e.ty) (table f)) (place_in equal (table f) (kept_at h ty)) int ∙ get_map (table f) (place_in equal (table f) (kept_at h ty)) none
      ∙ ap (λ (x : Kept). wide x.ty) (found_again equal is (table f) (kept_at h ty) none has)
