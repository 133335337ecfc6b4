-- The functions of a program, one by one.
use Rattle.std.proofs.Common.{◌≡◌, ◌<◌, ◌≤◌, ◌+◌, ℕ, zero, suc, refl, ap, sym, ◌∙◌, subst, arith, List, [], ◌∷◌, length, drop, map, slice_get, Some, None, ◌⊎◌, inl, inr}
use Rattle.std.specs.Prelude.{get_or, sum}
use Rattle.std.proofs.Math.ListN.{length-map}
use Rattle.std.proofs.lemmas.List.Sums.{sum_by-cons}
use Rattle.rc_core.specs.declared.parts.Function.{Function}
use Rattle.rc_core.specs.declared.parts.Parts.{Parts}
use Rattle.rc_core.specs.Programs.{Struct, Function as CleanFunction}
use Rattle.rc_core.specs.WellTyped.{IsWellTyped}
use Rattle.rc_core.specs.Shapes.{ty_of, function_of, program_of}
use Rattle.rc_rlang.specs.Points.{function_points}
use Rattle.rc_rlang.specs.Variables.{region_variables}
use Rattle.rc_rlang.specs.Bounds.{IsNarrow, AllNarrow, FirstWide}
use Rattle.rc_elab.proofs.Totals.{total_step, total_end}

points_unfold : (structs : List Struct) (f : Function) (functions : List Function) →
    sum (map (function_points structs) (map function_of (f ∷ functions))) ≡ function_points structs (function_of f) + sum (map (function_points structs) (map function_of functions))
points_unfold structs f functions = sum_by-cons (λ n. n) (function_points structs (function_of f)) (map (function_points structs) (map function_of functions))

pub points_step : (structs : List Struct) (functions : List Function) (i : ℕ) (f : Function) → i < length functions → f ≡ get_or functions i f →
    sum (map (function_points structs) (map function_of (drop i functions))) ≡ function_points structs (function_of f) + sum (map (function_points structs) (map function_of (drop (i + 1) functions)))
points_step structs = total_step (λ f. function_points structs (function_of f)) (λ functions. sum (map (function_points structs) (map function_of functions))) (points_unfold structs)

pub points_end : (structs : List Struct) (functions : List Function) (i : ℕ) → length functions ≤ i → sum (map (function_points structs) (map function_of (drop i functions))) ≡ 0
points_end structs = total_end (λ functions. sum (map (function_points structs) (map function_of functions)))

-- all before this one are narrow
abbrev pub NarrowBefore : List CleanFunction → ℕ → Type 0
NarrowBefore functions n = (k : ℕ) (f : CleanFunction) → k < n → slice_get functions k ≡ Some f → IsNarrow f

at_place : {A B : Type 0} (g : A → B) (xs : List A) (i : ℕ) (x : A) → i < length xs → x ≡ get_or xs i x → slice_get (map g xs) i ≡ Some (g x)
at_place g [] i x h e = absurd (omega arith)
at_place g (y ∷ xs) zero x h e = ap (λ z. Some (g z)) (sym e)
at_place g (y ∷ xs) (suc i) x h e = at_place g xs i x (omega arith) e

same_some : {A : Type 0} {a b : A} → Some a ≡ Some b → a ≡ b
same_some h = cc

within : {A : Type 0} (xs : List A) (k : ℕ) (x : A) → slice_get xs k ≡ Some x → k < length xs
within [] k x h = absurd (none_some h) where
  none_some : {A : Type 0} {a : A} → None ≡ Some a → ⊥
  none_some h = cc
within (y ∷ xs) zero x h = omega arith
within (y ∷ xs) (suc k) x h = let l = within xs k x h in omega arith

less_or_same : (k i : ℕ) → k ≤ i → (k < i) ⊎ (k ≡ i)
less_or_same zero zero h = inr refl
less_or_same zero (suc i) h = inl (omega arith)
less_or_same (suc k) zero h = absurd (omega arith)
less_or_same (suc k) (suc i) h = one_more (less_or_same k i (omega arith)) where
  one_more : (k < i) ⊎ (k ≡ i) → (suc k < suc i) ⊎ (suc k ≡ suc i)
  one_more (inl m) = inl (omega arith)
  one_more (inr m) = inr (ap suc m)

not_small : (n m : ℕ) → (n ≤ m → ⊥) → m < n
not_small zero m h = absurd (h (omega arith))
not_small (suc n) zero h = omega arith
not_small (suc n) (suc m) h = let l = not_small n m (λ s. h (omega arith)) in omega arith

pub narrow_step : (functions : List Function) (i : ℕ) (f : Function) → i < length functions → f ≡ get_or functions i f → NarrowBefore (map function_of functions) i → IsNarrow (function_of f) → NarrowBefore (map function_of functions) (i + 1)
narrow_step functions i f h e before narrow k g l there =
    by_place (less_or_same k i (omega arith)) where
      by_place : (k < i) ⊎ (k ≡ i) → IsNarrow g
      by_place (inl m) = before k g m there
      by_place (inr m) = subst IsNarrow (same_some (sym (at_place function_of functions i f h e) ∙ ap (slice_get (map function_of functions)) (sym m) ∙ there)) narrow

pub narrow_end : (functions : List Function) (i : ℕ) → length functions ≤ i → NarrowBefore (map function_of functions) i → AllNarrow (map function_of functions)
narrow_end functions i h before k f there =
    let l = within (map function_of functions) k (f) there in let n : length (map function_of functions) ≡ length functions = length-map functions function_of in before k f (omega arith) there

pub wide_here : (functions : List Function) (i : ℕ) (f : Function) (line : ℕ) → i < length functions → f ≡ get_or functions i f → NarrowBefore (map function_of functions) i → (IsNarrow (function_of f) → ⊥) → line ≡ f.line → FirstWide (map function_of functions) line
wide_here functions i f line h e before wide l = record {
  number = i;
  function = function_of f;
  there = at_place function_of functions i f h e;
  wide = not_small (region_variables (function_of f)) 128 wide;
  on_line = l;
  narrow_before = before;
}

found : {A B : Type 0} (g : A → B) (xs : List A) (k : ℕ) (x : A) → slice_get xs k ≡ Some x → slice_get (map g xs) k ≡ Some (g x)
found g [] k x h = absurd (none_some h) where
  none_some : {A : Type 0} {a : A} → None ≡ Some a → ⊥
  none_some h = cc
found g (y ∷ xs) zero x h = ap (λ z. Some (g z)) (same_some h)
found g (y ∷ xs) (suc k) x h = found g xs k x h

pub parameters_fit : (p : Parts) → IsWellTyped (program_of p) → (k : ℕ) (f : Function) → slice_get p.functions.items k ≡ Some f → f.parameters ≤ length f.locals.items
parameters_fit p typed k f there =
    let fits = (typed.functions k (function_of f) (found function_of p.functions.items k f there)).parameters in
    subst (λ n. f.parameters ≤ n) (length-map f.locals.items ty_of) fits
