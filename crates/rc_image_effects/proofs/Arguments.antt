-- Places of arguments, one after another.
use Rattle.std.proofs.Common.{◌≡◌, ℕ, zero, suc, ◌+◌, ◌<◌, Bool, true, false, List, [], ◌∷◌, ◌++◌, length, map, take, get_or, refl, sym, ap, ◌∙◌, arith}
use Rattle.rc_code.specs.declared.kind.Storage.{Storage}
use Rattle.rc_code.specs.declared.image.Function.{Function}
use Rattle.rc_code.specs.Soundness.{is_regional}
use Rattle.rc_claims.specs.Counts.{place}
use Rattle.rc_sealed.specs.Carrying.{regional_places}
use Rattle.rc_image_effects.specs.Arguments.{place_if}

moved_on : (f : Function) (b : Bool) (j k : ℕ) → j ≡ k → place_if b (place f j) ≡ place_if b (place f k)
moved_on f b j k e = ap (λ n. place_if b (place f n)) e

first_place : (f : Function) (b : Bool) (j : ℕ) → regional_places f (b ∷ []) j ≡ place_if b (place f j)
first_place f true j = refl
first_place f false j = refl

next_place : (f : Function) (b c : Bool) (j i : ℕ) (xs ys : List Bool) → regional_places f ys (suc j) ≡ regional_places f xs (suc j) ++ place_if c (place f (suc j + i)) → regional_places f (b ∷ ys) j ≡ regional_places f (b ∷ xs) j ++ place_if c (place f (j + suc i))
next_place f true c j i xs ys e = ap (λ ps. place f j ∷ ps) (e ∙ ap (λ ps. regional_places f xs (suc j) ++ ps) (moved_on f c (suc j + i) (j + suc i) (omega arith)))
next_place f false c j i xs ys e = e ∙ ap (λ ps. regional_places f xs (suc j) ++ ps) (moved_on f c (suc j + i) (j + suc i) (omega arith))

pub more_places : (f : Function) (xs : List Storage) (j i : ℕ) (x d : Storage) → i < length xs → x ≡ get_or xs i d → regional_places f (map is_regional (take (suc i) xs)) j ≡ regional_places f (map is_regional (take i xs)) j ++ place_if (is_regional x) (place f (j + i))
more_places f [] j i x d lt e = absurd (omega (arith, lt))
more_places f (s ∷ xs) j zero x d lt e = ap (λ (t : Storage). regional_places f (is_regional t ∷ []) j) (sym e) ∙ first_place f (is_regional x) j ∙ moved_on f (is_regional x) j (j + 0) (omega arith)
more_places f (s ∷ xs) j (suc i) x d lt e = next_place f (is_regional s) (is_regional x) j i (map is_regional (take i xs)) (map is_regional (take (suc i) xs)) (more_places f xs (suc j) i x d (omega (arith, lt)) e)

pub all_more : (f : Function) (xs : List Storage) (first at i : ℕ) (x d : Storage) (places more : List ℕ) (j : ℕ) → first ≡ place f j → at ≡ first + i → i < length xs → x ≡ get_or xs i d
    → places ≡ regional_places f (map is_regional (take i xs)) j → more ≡ places ++ place_if (is_regional x) at → more ≡ regional_places f (map is_regional (take (i + 1) xs)) j
all_more f xs first at i x d places more j e here lt is old new =
    let there : at ≡ place f (j + i) = omega (arith, e, here) in
    let next : suc i ≡ i + 1 = omega arith in
    new ∙ ap (λ (ps : List ℕ). ps ++ place_if (is_regional x) at) old ∙ ap (λ (n : ℕ). regional_places f (map is_regional (take i xs)) j ++ place_if (is_regional x) n) there ∙ sym (more_places f xs j i x d lt is) ∙ ap (λ (n : ℕ). regional_places f (map is_regional (take n xs)) j) next

pub taken : (n : ℕ) (xs : List Storage) → map is_regional (take n xs) ≡ take n (map is_regional xs)
taken zero xs = refl
taken (suc n) [] = refl
taken (suc n) (x ∷ xs) = ap (λ (bs : List Bool). is_regional x ∷ bs) (taken n xs)
