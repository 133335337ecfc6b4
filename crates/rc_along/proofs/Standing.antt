-- Nodes that stand in a function's code, and runs that are the same part by part.
use Rattle.std.proofs.Common.{◌≡◌, ℕ, zero, suc, ◌+◌, ◌<◌, Bool, true, false, nat_eq, List, [], ◌∷◌, ◌++◌, length, Some, ◌⊎◌, inl, inr, refl, sym, ◌∙◌, subst, arith, append_assoc, length-append}
use Rattle.std.specs.Prelude.{slice_get}
use Rattle.std.proofs.lemmas.Bool.{eq-eqb}
use Rattle.rc_core.specs.Types.{Ty, int, unsigned, char, region, struct, pointer}
use Rattle.rc_core.specs.Heap.{Value, Null, zero_of}
use Rattle.rc_core.specs.Runs.{Run, Go, Stopped, bind, branching}
use Rattle.rc_core.specs.Source.{World}
use Rattle.rc_rlang.specs.RegionFlow.{Node, is_regional, first_of}
use Rattle.rc_annotations.specs.Variables.{past}
use Rattle.rc_along.specs.Along.{Stand}
use Rattle.rc_annotations.proofs.WorldFacts.{Goes}

pub stand_left : (all : List Node) (here : ℕ) (xs ys : List Node) → Stand all here (xs ++ ys) → Stand all here xs
stand_left all here [] ys s = tt
stand_left all here (x ∷ xs) ys s = (s.0, stand_left all (suc here) xs ys s.1)

pub stand_right : (all : List Node) (here at : ℕ) (xs ys : List Node) → at ≡ here + length xs → Stand all here (xs ++ ys) → Stand all at ys
stand_right all here at [] ys e s = subst (λ i. Stand all i ys) (let k : here ≡ at = omega (arith, e) in k) s
stand_right all here at (x ∷ xs) ys e s = stand_right all (suc here) at xs ys (omega (arith, e)) s.1

pub past_front : (vs : List Value) (t t1 : ℕ → Value) (u : ℕ) → u < length vs → past vs t u ≡ past vs t1 u
past_front [] t t1 u lt = absurd (omega (arith, lt))
past_front (v ∷ vs) t t1 zero lt = refl
past_front (v ∷ vs) t t1 (suc u) lt = past_front vs t t1 u (omega (arith, lt))

pub not_last : (u m : ℕ) → u < suc m → nat_eq u m ≡ false → u < m
not_last u m lt e = by (order u m)
  where
    order : (a b : ℕ) → (a < b) ⊎ ((a ≡ b) ⊎ (b < a))
    order a b = grind arith

    by : (u < m) ⊎ ((u ≡ m) ⊎ (m < u)) → u < m
    by (inl k) = k
    by (inr (inl k)) = absurd (apart (sym e ∙ eq-eqb u m k))
      where
        apart : false ≡ true → ⊥
        apart e = cc
    by (inr (inr k)) = omega (arith, lt, k)

pub stand_from : (before rest : List Node) → Stand (before ++ rest) (length before) rest
stand_from before [] = tt
stand_from before (x ∷ rest) = (get_at before x rest, subst (λ ns. Stand ns (suc (length before)) rest) (append_assoc before (x ∷ []) rest) (subst (λ i. Stand ((before ++ x ∷ []) ++ rest) i rest) (let l = length-append before (x ∷ []) in let e : length (before ++ x ∷ []) ≡ suc (length before) = omega (arith, l) in e) (stand_from (before ++ x ∷ []) rest)))
  where
    get_at : (before : List Node) (x : Node) (rest : List Node) → slice_get (before ++ x ∷ rest) (length before) ≡ Some x
    get_at [] x rest = refl
    get_at (b ∷ before) x rest = get_at before x rest

pub stand_all : (all : List Node) → Stand all 0 all
stand_all all = stand_from [] all

pub null_zero : (ty : Ty) → is_regional ty ≡ true → zero_of ty ≡ Null
null_zero int e = cc
null_zero unsigned e = cc
null_zero char e = cc
null_zero region e = refl
null_zero (struct i) e = cc
null_zero (pointer note target) e = refl

pub positive : (m here next : ℕ) → 0 < m → first_of m here next ≡ here
positive zero here next lt = absurd (omega (arith, lt))
positive (suc m) here next lt = refl

-- two runs that are the same, part by part
pub twin : {A B : Type 0} (P : A → World → Type 0) (m m' : Run World A) (k k' : A → World → Run World B) → m' ≡ m → Goes P m → ((x : A) (w : World) → P x w → k' x w ≡ k x w) → bind m' k' ≡ bind m k
twin {A = A} P m m' k k' e goes h = subst (λ q. bind q k' ≡ bind m k) (sym e) (by m goes)
  where
    by : (m : Run World A) → Goes P m → bind m k' ≡ bind m k
    by (Go x w) goes = h x w goes.holds
    by (Stopped s w) goes = refl

pub twin_branch : {A : Type 0} (b : Bool) (m m' k k' : World → Run World A) (w : World) → (b ≡ true → m' w ≡ m w) → (b ≡ false → k' w ≡ k w) → branching b m' k' w ≡ branching b m k w
twin_branch true m m' k k' w h j = h refl
twin_branch false m m' k k' w h j = j refl
