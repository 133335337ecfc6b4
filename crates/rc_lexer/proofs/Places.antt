-- Pieces of a text by places: what the code takes by index is what definitions take apart.
use Rattle.std.proofs.Common.{ℕ, zero, suc, ◌≡◌, ◌<◌, ◌≤◌, ◌+◌, List, [], ◌∷◌, length, take, drop, get_or, Option, Some, None, Bool, true, false, ◌&&◌, cond, refl, ap, sym, ◌∙◌, arith}
use Rattle.std.specs.Prelude.{◌==◌}
use Rattle.std.specs.List.{prefix_len}
use Rattle.std.proofs.lemmas.List.Sums.{fold_more}
use Rattle.rc_syntax.specs.Bytes.{is_margin, in_name, begins}
use Rattle.rc_syntax.specs.Tokens.{Word}
use Rattle.rc_syntax.specs.reader.Look.{letter, class_of, name_word, found_word, number_word, number_at, further_end, comment_end, is_in_margin, look}

-- a number, its whole length given
pub number_from : (text : List ℕ) (n : ℕ) → 0 < length text → n ≡ 1 + prefix_len in_name (drop 1 text) →
    number_at (prefix_len in_name (drop 1 text)) (get_or text 0 0) (drop 1 text) ≡ cond (begins (λ c. c == 46) (drop n text)) None (found_word n (number_word (take n text)))
number_from [] n h e = absurd (omega arith)
number_from (b ∷ rest) n h e =
    let f : n ≡ suc (prefix_len in_name rest) = omega arith in
    rw f refl

-- the end of a comment, from a place on
abbrev pub from_place : ℕ → Option ℕ → Option ℕ
from_place n None = None
from_place n (Some m) = Some (n + m)

from_next : (i : ℕ) (o : Option ℕ) → from_place i (further_end o) ≡ from_place (i + 1) o
from_next i None = refl
from_next i (Some m) = ap Some (let e : i + suc m ≡ i + 1 + m = omega arith in e)

pub from_start : (o : Option ℕ) → from_place 0 o ≡ o
from_start None = refl
from_start (Some m) = ap Some (let e : 0 + m ≡ m = omega arith in e)

end_found : (xs : List ℕ) (i : ℕ) → i < length xs → (get_or xs i 0 == 42 && begins (λ c. c == 47) (drop (i + 1) xs)) ≡ true → comment_end (drop i xs) ≡ Some 2
end_found [] i h e = absurd (omega arith)
end_found (x ∷ xs) zero h e = rw e refl
end_found (x ∷ xs) (suc i) h e =
    let k : suc (i + 1) ≡ suc i + 1 = omega arith in
    end_found xs i (omega arith) (ap (λ j. get_or xs i 0 == 42 && begins (λ c. c == 47) (drop j (x ∷ xs))) k ∙ e)

end_not : (xs : List ℕ) (i : ℕ) → i < length xs → (get_or xs i 0 == 42 && begins (λ c. c == 47) (drop (i + 1) xs)) ≡ false → comment_end (drop i xs) ≡ further_end (comment_end (drop (i + 1) xs))
end_not [] i h e = absurd (omega arith)
end_not (x ∷ xs) zero h e = rw e refl
end_not (x ∷ xs) (suc i) h e =
    let k : suc (i + 1) ≡ suc i + 1 = omega arith in
    end_not xs i (omega arith) (ap (λ j. get_or xs i 0 == 42 && begins (λ c. c == 47) (drop j (x ∷ xs))) k ∙ e) ∙ ap (λ j. further_end (comment_end (drop j (x ∷ xs)))) k

pub end_step : (xs : List ℕ) (i : ℕ) → i < length xs → (get_or xs i 0 == 42 && begins (λ c. c == 47) (drop (i + 1) xs)) ≡ false → from_place i (comment_end (drop i xs)) ≡ from_place (i + 1) (comment_end (drop (i + 1) xs))
end_step xs i h e = ap (from_place i) (end_not xs i h e) ∙ from_next i (comment_end (drop (i + 1) xs))

pub end_there : (xs : List ℕ) (i : ℕ) → i < length xs → (get_or xs i 0 == 42 && begins (λ c. c == 47) (drop (i + 1) xs)) ≡ true → from_place i (comment_end (drop i xs)) ≡ Some (i + 2)
end_there xs i h e = ap (from_place i) (end_found xs i h e)

-- the margin before a place, read backwards
pub margin_feed : (before : List ℕ) (at : ℕ) → at < length before → get_or before at 0 ≡ 10 → is_in_margin (take (at + 1) before) ≡ true
margin_feed before at h e = fold_more (λ fresh b. cond (b == 10) true (fresh && is_margin b)) true before at 0 h ∙ rw e refl

and_true_right : (x : Bool) → (x && true) ≡ x
and_true_right true = refl
and_true_right false = refl

pub margin_space : (before : List ℕ) (at : ℕ) → at < length before → get_or before at 0 ≡ 32 → is_in_margin (take (at + 1) before) ≡ is_in_margin (take at before)
margin_space before at h e = fold_more (λ fresh b. cond (b == 10) true (fresh && is_margin b)) true before at 0 h ∙ rw e (and_true_right (is_in_margin (take at before)))

pub margin_tab : (before : List ℕ) (at : ℕ) → at < length before → get_or before at 0 ≡ 9 → is_in_margin (take (at + 1) before) ≡ is_in_margin (take at before)
margin_tab before at h e = fold_more (λ fresh b. cond (b == 10) true (fresh && is_margin b)) true before at 0 h ∙ rw e (and_true_right (is_in_margin (take at before)))

and_false_right : (x : Bool) → (x && false) ≡ false
and_false_right true = refl
and_false_right false = refl

pub margin_ends : (before : List ℕ) (at : ℕ) → at < length before → (get_or before at 0 == 10) ≡ false → is_margin (get_or before at 0) ≡ false → is_in_margin (take (at + 1) before) ≡ false
margin_ends before at h e f = fold_more (λ fresh b. cond (b == 10) true (fresh && is_margin b)) true before at 0 h ∙ rw (e, f) (and_false_right (is_in_margin (take at before)))

pub look_letter : (before text : List ℕ) (n : ℕ) (w : Word) → 1 ≤ length text → class_of (get_or text 0 0) ≡ letter → n ≡ prefix_len in_name (drop 1 text) →
    w ≡ name_word (take (1 + n) text) → Some (1 + n, Some w) ≡ look before text
look_letter before [] n w h c e f = absurd (omega arith)
look_letter before (b ∷ rest) n w h c e f =
    let g : 1 + n ≡ suc (prefix_len in_name rest) = omega arith in
    let i : w ≡ name_word (b ∷ take (prefix_len in_name rest) rest) = f ∙ ap (λ z. name_word (take z (b ∷ rest))) g in
    let j : look before (b ∷ rest) ≡ Some (suc (prefix_len in_name rest), Some (name_word (b ∷ take (prefix_len in_name rest) rest))) = rw c refl in
    ap (λ z. Some (z, Some w)) g ∙ ap (λ z. Some (suc (prefix_len in_name rest), Some z)) i ∙ sym j
