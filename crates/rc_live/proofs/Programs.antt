-- Back past the functions of a program, one after another.
use Rattle.std.proofs.Common.{◌≡◌, ◌<◌, ◌≤◌, ◌-◌, ℕ, zero, suc, ◌+◌, Bool, List, [], ◌∷◌, ◌++◌, length, map, take, drop, get_or, set, refl, sym, ap, ◌∙◌, subst, arith, append-nil}
use Rattle.std.specs.Prelude.{reverse, sum}
use Rattle.std.proofs.Math.Seq.{drop-cons}
use Rattle.std.proofs.lemmas.List.{reverse-reverse, reverse-append, map-append, map-set, take_all}
use Rattle.std.proofs.Math.ListN.{get_or-map, length-map}
use Rattle.std.proofs.Math.Seq.{take-append_seam}
use Rattle.rc_rlang.specs.declared.live_map.Held.{Held as CodeHeld}
use Rattle.rc_rlang.specs.LiveMaps.{held_of}
use Rattle.std.proofs.lemmas.List.Sums.{sum_by-cons}
use Rattle.rc_rlang.specs.RegionCode.{Routine}
use Rattle.rc_rlang.specs.RegionPoints.{routine_points}
use Rattle.rc_rlang.specs.LiveLists.{Held, routine_lists, functions_lists}
use Rattle.rc_live.specs.declared.program.Listed.{Listed}
use Rattle.rc_live.specs.Walking.{Going, WentBack, lowered, seen}
use Rattle.rc_live.proofs.Back.{back_both, back_as}
use Rattle.rc_live.proofs.Lowered.{lowered_functions}

pub at_last : {A : Type 0} (xs : List A) (i : ℕ) (x : A) → 0 < i → i ≤ length xs → x ≡ get_or xs (i - 1) x → drop (i - 1) xs ≡ x ∷ drop i xs
at_last xs i x p l e =
    drop-cons xs (i - 1) x (omega (arith, p, l)) ∙ ap (λ y. y ∷ drop (suc (i - 1)) xs) (sym e)
    ∙ ap (λ j. x ∷ drop j xs) (let k : suc (i - 1) ≡ i = omega (arith, p) in k)

pub functions_more : (deleting : ℕ → Bool) (f : Routine) (later : List Routine) (old mid new : Going) → WentBack (sum (map routine_points later)) (functions_lists deleting later) old mid →
    WentBack (routine_points f) (routine_lists deleting f) mid new → WentBack (sum (map routine_points (f ∷ later))) (functions_lists deleting (f ∷ later)) old new
functions_more deleting f later old mid new d e =
    back_as (routine_points f + sum (map routine_points later)) (sum (map routine_points (f ∷ later))) (λ here. routine_lists deleting f here ++ functions_lists deleting later (here + routine_points f)) (functions_lists deleting (f ∷ later)) old new
    (sym (sum_by-cons (λ n. n) (routine_points f) (map routine_points later))) (λ here. refl)
    (back_both (routine_points f) (sum (map routine_points later)) (routine_lists deleting f) (functions_lists deleting later) old mid new d e)

-- the walk began with the greatest number of points, and came to the beginning
pub walked : (deleting : ℕ → Bool) (fs : List Routine) (n : ℕ) (old new : Going) → n ≤ 65536 → WentBack n (functions_lists deleting fs) old new → old.point ≡ 65536 → old.lists ≡ [] →
    map (lowered new.point) (reverse new.lists) ≡ functions_lists deleting fs 0
walked deleting fs n old new l d begin nothing =
    let m : 65536 ≡ (65536 - n) + n = omega (arith, l) in
    let at = d.counted (65536 - n) (begin ∙ m) in
    let listed = d.listed (65536 - n) (begin ∙ m) ∙ ap (λ xs. xs ++ reverse (functions_lists deleting fs (65536 - n))) nothing in
    ap (λ xs. map (lowered new.point) (reverse xs)) listed ∙ ap (map (lowered new.point)) (reverse-reverse (functions_lists deleting fs (65536 - n)))
    ∙ ap (λ p. map (lowered p) (functions_lists deleting fs (65536 - n))) at
    ∙ lowered_functions deleting (65536 - n) fs (65536 - n) 0 (omega arith)

-- one more is written
pub written : {A : Type 0} (f : A → A) (xs ys : List A) (i : ℕ) (d : A) → i < length xs → ys ≡ map f (take i xs) ++ drop i xs → set ys i (f (get_or ys i d)) ≡ map f (take (i + 1) xs) ++ drop (i + 1) xs
written {A = A} f xs ys i d l e = ap (λ zs. set zs i (f (get_or zs i d))) e ∙ by xs i l ∙ ap (λ j. map f (take j xs) ++ drop j xs) (let k : suc i ≡ i + 1 = omega arith in k)
  where
    by : (xs : List A) (i : ℕ) → i < length xs → set (map f (take i xs) ++ drop i xs) i (f (get_or (map f (take i xs) ++ drop i xs) i d)) ≡ map f (take (suc i) xs) ++ drop (suc i) xs
    by [] i l = absurd (omega (arith, l))
    by (x ∷ xs) zero l = refl
    by (x ∷ xs) (suc i) l = ap (λ zs. f x ∷ zs) (by xs i (omega (arith, l)))

-- a list in code, whose points become lower one by one
pub held_written : (d : ℕ) (xs items : List CodeHeld) (i p : ℕ) (item : CodeHeld) → i < length xs → p ≡ (get_or items i item).point - d →
    map held_of items ≡ map (lowered d) (take i (map held_of xs)) ++ drop i (map held_of xs) →
    map held_of (set items i (record { point = p; locals = (get_or items i item).locals })) ≡ map (lowered d) (take (i + 1) (map held_of xs)) ++ drop (i + 1) (map held_of xs)
held_written d xs items i p item l e so =
    map-set held_of items i (record { point = p; locals = (get_or items i item).locals })
    ∙ ap (λ q. set (map held_of items) i (record { point = q; locals = (get_or items i item).locals.items })) e
    ∙ ap (λ h. set (map held_of items) i (lowered d h)) (sym (get_or-map held_of items i item))
    ∙ written (lowered d) (map held_of xs) (map held_of items) i (held_of item) (subst (λ n. i < n) (sym (length-map xs held_of)) l) so

map-reverse : (xs : List CodeHeld) → map held_of (reverse xs) ≡ reverse (map held_of xs)
map-reverse [] = refl
map-reverse (x ∷ xs) = ap (map held_of) (reverse-append (x ∷ []) xs) ∙ map-append held_of (reverse xs) (x ∷ []) ∙ ap (λ l. l ++ held_of x ∷ []) (map-reverse xs) ∙ sym (reverse-append (held_of x ∷ []) (map held_of xs))

-- all are written
pub all_written : (d : ℕ) (lists xs items rest : List CodeHeld) (i n : ℕ) → xs ≡ reverse lists → length items ≡ length xs → n ≡ length xs → length xs ≤ i →
    map held_of items ≡ map (lowered d) (take i (map held_of xs)) ++ drop i (map held_of xs) →
    map held_of (take n (items ++ rest)) ≡ map (lowered d) (reverse (map held_of lists))
all_written d lists xs items rest i n e m o l so =
    ap (λ k. map held_of (take k (items ++ rest))) (o ∙ sym m) ∙ ap (map held_of) (take-append_seam items rest) ∙ so
    ∙ ap (λ t. map (lowered d) t ++ drop i (map held_of xs)) (take_all i (map held_of xs) (subst (λ k. k ≤ i) (sym (length-map xs held_of)) l))
    ∙ ap (λ t. map (lowered d) (map held_of xs) ++ t) (drop_past i (map held_of xs) (subst (λ k. k ≤ i) (sym (length-map xs held_of)) l)) ∙ append-nil (map (lowered d) (map held_of xs))
    ∙ ap (λ t. map (lowered d) (map held_of t)) e ∙ ap (map (lowered d)) (map-reverse lists)
  where
    drop_past : (i : ℕ) (xs : List Held) → length xs ≤ i → drop i xs ≡ []
    drop_past zero [] l = refl
    drop_past zero (x ∷ xs) l = absurd (omega (arith, l))
    drop_past (suc i) [] l = refl
    drop_past (suc i) (x ∷ xs) l = drop_past i xs (omega (arith, l))

-- as many points, whatever is looked at
pub seen_points : (listed : Listed) (fs : List Routine) → sum (map routine_points (map (seen listed) fs)) ≡ sum (map routine_points fs)
seen_points listed fs = ap sum (by fs)
  where
    by : (fs : List Routine) → map routine_points (map (seen listed) fs) ≡ map routine_points fs
    by [] = refl
    by (f ∷ fs) = ap (λ l. routine_points f ∷ l) (by fs)
