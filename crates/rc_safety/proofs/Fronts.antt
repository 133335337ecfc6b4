-- Values that overwrite cells: each has to suit the cell that it comes to stand in.
use Rattle.std.proofs.Common.{◌≡◌, ℕ, zero, suc, ◌+◌, ◌-◌, ◌*◌, ◌<◌, List, [], ◌∷◌, ◌++◌, length, take, drop, replicate, flat_map, sym, ap, ◌∙◌, subst, arith}
use Rattle.std.specs.List.{AllZip}
use Rattle.rc_core.specs.Heap.{Value}
use Rattle.rc_core.specs.Source.{overwritten}

-- place by place, as far as both lists go
abbrev pub FrontZip : {A B : Type 0} → (A → B → Type 0) → List A → List B → Type 0
FrontZip R xs [] = Unit {0}
FrontZip R [] (y ∷ ys) = Unit {0}
FrontZip R (x ∷ xs) (y ∷ ys) = R x y × FrontZip R xs ys

pub overwritten_zip : {A : Type 0} (R : A → Value → Type 0) (at : ℕ) (xs : List A) (new ys : List Value) → AllZip R xs ys → FrontZip R (drop at xs) new → AllZip R xs (overwritten at new ys)
overwritten_zip R at [] new [] all front = tt
overwritten_zip R at [] new (y ∷ ys) all front = absurd all
overwritten_zip R at (x ∷ xs) new [] all front = absurd all
overwritten_zip R zero (x ∷ xs) [] (y ∷ ys) all front = all
overwritten_zip R zero (x ∷ xs) (u ∷ new) (y ∷ ys) all front = (front.0, overwritten_zip R zero xs new ys all.1 front.1)
overwritten_zip R (suc at) (x ∷ xs) new (y ∷ ys) all front = (all.0, overwritten_zip R at xs new ys all.1 front)

whole_front : {A B : Type 0} (R : A → B → Type 0) (xs rest : List A) (ys : List B) → FrontZip R xs ys → FrontZip R (xs ++ rest) (take (length xs) ys)
whole_front R [] rest ys front = tt
whole_front R (x ∷ xs) rest [] front = tt
whole_front R (x ∷ xs) rest (y ∷ ys) front = (front.0, whole_front R xs rest ys front.1)

part_front : {A B : Type 0} (R : A → B → Type 0) (cell : ℕ) (xs rest : List A) (ys : List B) → FrontZip R (drop cell xs) ys → FrontZip R (drop cell (xs ++ rest)) (take (length xs - cell) ys)
part_front R zero xs rest ys front =
    let e : length xs - 0 ≡ length xs = omega arith in
    subst (λ n. FrontZip R (xs ++ rest) (take n ys)) (sym e) (whole_front R xs rest ys front)
part_front R (suc cell) [] rest ys front =
    let e : 0 - suc cell ≡ 0 = omega arith in
    subst (λ n. FrontZip R (drop (suc cell) rest) (take n ys)) (sym e) tt
part_front R (suc cell) (x ∷ xs) rest ys front =
    let e : suc (length xs) - suc cell ≡ length xs - cell = omega arith in
    subst (λ n. FrontZip R (drop cell (xs ++ rest)) (take n ys)) (sym e) (part_front R cell xs rest ys front)

drop_block : {A : Type 0} (n : ℕ) (xs rest : List A) → drop (length xs + n) (xs ++ rest) ≡ drop n rest
drop_block n [] rest = let e : 0 + n ≡ n = omega arith in ap (λ m. drop m rest) e
drop_block n (x ∷ xs) rest = let e : suc (length xs) + n ≡ suc (length xs + n) = omega arith in ap (λ m. drop m (x ∷ xs ++ rest)) e ∙ drop_block n xs rest

-- from a cell of an element on, the cells of an array begin with those of the element
pub element_front : {A B : Type 0} (R : A → B → Type 0) (layout : List A) (count element cell : ℕ) (ys : List B) → element < count → FrontZip R (drop cell layout) ys
    → FrontZip R (drop (element * length layout + cell) (flat_map (λ copy. copy) (replicate count layout))) (take (length layout - cell) ys)
element_front R layout zero element cell ys below front = absurd (omega (arith, below))
element_front R layout (suc count) zero cell ys below front =
    let e : 0 * length layout + cell ≡ cell = omega arith in
    subst (λ n. FrontZip R (drop n (layout ++ flat_map (λ copy. copy) (replicate count layout))) (take (length layout - cell) ys)) (sym e)
    (part_front R cell layout (flat_map (λ copy. copy) (replicate count layout)) ys front)
element_front R layout (suc count) (suc element) cell ys below front =
    let e : suc element * length layout + cell ≡ length layout + (element * length layout + cell) = omega arith in
    let rest = flat_map (λ copy. copy) (replicate count layout) in
    subst (λ cells. FrontZip R cells (take (length layout - cell) ys)) (sym (ap (λ n. drop n (layout ++ rest)) e ∙ drop_block (element * length layout + cell) layout rest))
    (element_front R layout count element cell ys (omega (arith, below)) front)
