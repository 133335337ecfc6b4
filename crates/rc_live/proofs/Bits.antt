-- Rows, their bits, and the locals that the bits stand for.
use Rattle.std.proofs.Common.{◌≡◌, ℕ, suc, ◌+◌, ◌<◌, ◌≤◌, Bool, true, false, ◌||◌, nat_eq, List, [], ◌∷◌, ◌++◌, length, map, drop, get_or, Some, ◌⊎◌, inl, inr, refl, sym, ap, ◌∙◌, arith, append_assoc}
use Rattle.std.specs.Prelude.{slice_get, not, ◌&&◌, ◌==◌}
use Rattle.std.proofs.Math.Seq.{drop-cons}
use Rattle.std.proofs.lemmas.Bool.{eqb-true}
use Rattle.std.proofs.lemmas.Option.{same_Some, slice_get_within}
use Rattle.rc_base.specs.BitSets.{marks}
use Rattle.rc_core.specs.Types.{Ty}
use Rattle.rc_core.specs.declared.ty.Ty.{Ty as CodeTy}
use Rattle.rc_core.specs.Shapes.{ty_of}
use Rattle.rc_core.specs.Live.{unless_set}
use Rattle.rc_rlang.specs.RegionCode.{Kind, numeric, regional, kind_of}
use Rattle.rc_rlang.specs.RegionRuns.{pin_when, pins_from}
use Rattle.rc_rlang.specs.LiveMaps.{Increases, IsIncreasing}
use Rattle.rc_rlang.proofs.Searching.{in_order}
use Rattle.rc_live.specs.declared.program.Listed.{Listed}
use Rattle.rc_live.specs.declared.program.Listed.TheVariants.{Live, Nothing}
use Rattle.rc_live.specs.Walking.{looked_at}
use Rattle.rc_live.specs.Rows.{is_regional, numbered, Shows, chosen_if, chosen}

equal : (a b : ℕ) → a ≡ b → nat_eq a b ≡ true
equal a b e = grind (arith, e)

unequal : (a b : ℕ) → (a ≡ b → ⊥) → nat_eq a b ≡ false
unequal a b apart = by (nat_eq a b) refl
  where
    by : (t : Bool) → nat_eq a b ≡ t → nat_eq a b ≡ false
    by true e = absurd (apart (eqb-true a b e))
    by false e = e

-- each number has one place
pub one_place : (names : List ℕ) (i j x : ℕ) → IsIncreasing names → slice_get names i ≡ Some x → slice_get names j ≡ Some x → i ≡ j
one_place names i j x g e d = by order
  where
    order : (i < j) ⊎ ((i ≡ j) ⊎ (j < i))
    order = grind arith

    by : (i < j) ⊎ ((i ≡ j) ⊎ (j < i)) → i ≡ j
    by (inl l) = let o = in_order 0 names i j x x g e d l in absurd (omega (arith, o))
    by (inr (inl q)) = q
    by (inr (inr l)) = let o = in_order 0 names j i x x g d e l in absurd (omega (arith, o))

same_bit : (names : List ℕ) (bit j local x : ℕ) → IsIncreasing names → slice_get names bit ≡ Some local → slice_get names j ≡ Some x → nat_eq local x ≡ nat_eq j bit
same_bit names bit j local x g e d = by (nat_eq j bit) refl
  where
    by : (t : Bool) → nat_eq j bit ≡ t → nat_eq local x ≡ nat_eq j bit
    by true q = let s = eqb-true j bit q in equal local x (same_Some local x (sym e ∙ ap (λ i. slice_get names i) (sym s) ∙ d)) ∙ sym q
    by false q = unequal local x (λ s. apart (equal j bit (one_place names j bit local g (d ∙ ap Some (sym s)) e))) ∙ sym q
      where
        apart : nat_eq j bit ≡ true → ⊥
        apart p = cc

pub shows_with : (names : List ℕ) (row new bit local : ℕ) (live : ℕ → Bool) → IsIncreasing names → slice_get names bit ≡ Some local → ((y : ℕ) → marks new y ≡ (marks row y || y == bit)) → Shows names row live → Shows names new (λ x. nat_eq local x || live x)
shows_with names row new bit local live g e n s j x d = n j ∙ or_comm (marks row j) (nat_eq j bit) ∙ ap (λ b. b || marks row j) (sym (same_bit names bit j local x g e d)) ∙ ap (λ b. nat_eq local x || b) (s j x d)
  where
    or_comm : (a b : Bool) → (a || b) ≡ (b || a)
    or_comm true true = refl
    or_comm true false = refl
    or_comm false true = refl
    or_comm false false = refl

pub shows_without : (names : List ℕ) (row new bit local : ℕ) (live : ℕ → Bool) → IsIncreasing names → slice_get names bit ≡ Some local → ((y : ℕ) → marks new y ≡ (marks row y && not (y == bit))) → Shows names row live → Shows names new (λ x. unless_set local x (live x))
shows_without names row new bit local live g e n s j x d = n j ∙ and_comm (marks row j) (not (nat_eq j bit)) ∙ ap (λ b. not b && marks row j) (sym (same_bit names bit j local x g e d)) ∙ ap (λ b. not (nat_eq local x) && b) (s j x d)
  where
    and_comm : (a b : Bool) → (a && b) ≡ (b && a)
    and_comm true true = refl
    and_comm true false = refl
    and_comm false true = refl
    and_comm false false = refl

absent : (names : List ℕ) (local j x : ℕ) → ((i : ℕ) → slice_get names i ≡ Some local → ⊥) → slice_get names j ≡ Some x → nat_eq local x ≡ false
absent names local j x none d = unequal local x (λ e. none j (d ∙ ap Some (sym e)))

pub shows_still : (names : List ℕ) (row local : ℕ) (live : ℕ → Bool) → ((i : ℕ) → slice_get names i ≡ Some local → ⊥) → Shows names row live → Shows names row (λ x. nat_eq local x || live x)
shows_still names row local live none s j x d = s j x d ∙ ap (λ b. b || live x) (sym (absent names local j x none d))

pub shows_unset : (names : List ℕ) (row local : ℕ) (live : ℕ → Bool) → ((i : ℕ) → slice_get names i ≡ Some local → ⊥) → Shows names row live → Shows names row (λ x. unless_set local x (live x))
shows_unset names row local live none s j x d = s j x d ∙ ap (λ b. not b && live x) (sym (absent names local j x none d))

-- the locals of a row are those that are live
pub chosen_drop : (names : List ℕ) (row : ℕ → Bool) (j : ℕ) → j < length names → chosen (drop j names) row j ≡ chosen_if (row j) (get_or names j 0) (chosen (drop (j + 1) names) row (j + 1))
chosen_drop names row j l =
    let k : suc j ≡ j + 1 = omega arith in
    ap (λ ls. chosen ls row j) (drop-cons names j 0 l) ∙ ap (λ i. chosen_if (row j) (get_or names j 0) (chosen (drop i names) row i)) k

pub chosen_pins : (types : List Ty) (base j : ℕ) (row live : ℕ → Bool) → ((i x : ℕ) → slice_get (pins_from types base (λ y. true)) i ≡ Some x → row (j + i) ≡ live x) → chosen (pins_from types base (λ y. true)) row j ≡ pins_from types base live
chosen_pins [] base j row live s = refl
chosen_pins (ty ∷ types) base j row live s = by (kind_of ty) s (λ i. chosen_pins types (suc base) i row live)
  where
    all : ℕ → Bool
    all y = true

    by : (k : Kind) → ((i x : ℕ) → slice_get (pin_when k true base (pins_from types (suc base) all)) i ≡ Some x → row (j + i) ≡ live x) →
        ((i : ℕ) → ((n x : ℕ) → slice_get (pins_from types (suc base) all) n ≡ Some x → row (i + n) ≡ live x) → chosen (pins_from types (suc base) all) row i ≡ pins_from types (suc base) live) →
        chosen (pin_when k true base (pins_from types (suc base) all)) row j ≡ pin_when k (live base) base (pins_from types (suc base) live)
    by numeric t others = others j t
    by regional t others =
        let here : row j ≡ live base = ap row (let k : j ≡ j + 0 = omega arith in k) ∙ t 0 base refl in
        ap (λ b. chosen_if b base (chosen (pins_from types (suc base) all) row (suc j))) here
        ∙ ap (λ ls. chosen_if (live base) base ls) (others (suc j) (λ n x d. ap row (let k : suc j + n ≡ j + suc n = omega arith in k) ∙ t (suc n) x d))
        ∙ pinned (live base) (pins_from types (suc base) live)
      where
        pinned : (b : Bool) (rest : List ℕ) → chosen_if b base rest ≡ pin_when regional b base rest
        pinned true rest = refl
        pinned false rest = refl

-- the numbered locals, from one on
pub numbered_drop : (types : List CodeTy) (i : ℕ) (ty : CodeTy) → i < length types → ty ≡ get_or types i ty →
    pins_from (map ty_of (drop i types)) i (λ y. true) ≡ chosen_if (is_regional (kind_of (ty_of ty))) i (pins_from (map ty_of (drop (i + 1) types)) (i + 1) (λ y. true))
numbered_drop types i ty l e =
    let k : suc i ≡ i + 1 = omega arith in
    ap (λ ls. pins_from (map ty_of ls) i (λ y. true)) (drop-cons types i ty l)
    ∙ ap (λ t. pins_from (map ty_of (t ∷ drop (suc i) types)) i (λ y. true)) (sym e)
    ∙ by (kind_of (ty_of ty)) (pins_from (map ty_of (drop (suc i) types)) (suc i) (λ y. true))
    ∙ ap (λ n. chosen_if (is_regional (kind_of (ty_of ty))) i (pins_from (map ty_of (drop n types)) n (λ y. true))) k
  where
    by : (kind : Kind) (rest : List ℕ) → pin_when kind true i rest ≡ chosen_if (is_regional kind) i rest
    by numeric rest = refl
    by regional rest = refl

pub pushed : (b : Bool) (x : ℕ) (done rest : List ℕ) → b ≡ true → done ++ chosen_if b x rest ≡ (done ++ x ∷ []) ++ rest
pushed b x done rest e = ap (λ t. done ++ chosen_if t x rest) e ∙ sym (append_assoc done (x ∷ []) rest)

-- the numbered locals increase
numbered_increase : (types : List Ty) (base : ℕ) → Increases base (pins_from types base (λ y. true))
numbered_increase [] base = tt
numbered_increase (ty ∷ types) base = by (kind_of ty) (numbered_increase types (suc base))
  where
    lower : (from : ℕ) (xs : List ℕ) → Increases (suc from) xs → Increases from xs
    lower from [] g = tt
    lower from (x ∷ xs) g = (let l = g.0 in omega (arith, l), g.1)

    by : (k : Kind) → Increases (suc base) (pins_from types (suc base) (λ y. true)) → Increases base (pin_when k true base (pins_from types (suc base) (λ y. true)))
    by numeric g = lower base _ g
    by regional g = (omega arith, g)

pub numbered_is_increasing : (types : List Ty) → IsIncreasing (numbered types)
numbered_is_increasing types = numbered_increase types 0

pub below_128 : (names : List ℕ) (bit x : ℕ) → length names ≤ 128 → slice_get names bit ≡ Some x → bit < 128
below_128 names bit x short at = let here = slice_get_within names bit x at in omega (arith, here, short)

pub looked_at_few : (listed : Listed) (types : List Ty) → length (numbered types) ≤ 128 → length (numbered (looked_at listed types)) ≤ 128
looked_at_few Live types short = short
looked_at_few Nothing types short = omega arith
