-- Only words whose spelling begins with the first byte need to be looked at.
use Rattle.std.proofs.Common.{ℕ, ◌≡◌, List, [], ◌∷◌, Bool, true, false, find, cond, length, get_or, ◌<◌, ◌≤◌, Some, None, refl, ap, arith}
use Rattle.std.specs.Prelude.{bytes_eq, nat_eq}
use Rattle.std.specs.List.{filter, starts_with}
use Rattle.rc_syntax.specs.Spellings.{begins_with, key_spelling, mark_spelling, keys, marks, keys_from, marks_from, key_named, mark_named}

-- what passes is among those that are kept
find_kept : {X : Type 0} (p q : X → Bool) → ((x : X) → q x ≡ false → p x ≡ false) → (xs : List X) → find p (filter q xs) ≡ find p xs
find_kept p q h [] = refl
find_kept p q h (x ∷ xs) = go (q x) refl (find_kept p q h xs)
  where
    go : (b : Bool) → q x ≡ b → find p (filter q xs) ≡ find p xs → find p (cond b (x ∷ filter q xs) (filter q xs)) ≡ cond (p x) (Some x) (find p xs)
    go true e more = ap (cond (p x) (Some x)) more
    go false e more = rw (h x e) more

other_key : (first : ℕ) (rest spelling : List ℕ) → begins_with first spelling ≡ false → bytes_eq spelling (first ∷ rest) ≡ false
other_key first rest [] e = refl
other_key first rest (b ∷ bs) e = rw e refl

other_mark : (first : ℕ) (rest spelling : List ℕ) → begins_with first spelling ≡ false → starts_with nat_eq (first ∷ rest) spelling ≡ false
other_mark first rest [] e = absurd (cc)
other_mark first rest (b ∷ bs) e = rw e refl

-- an empty text has no word
pub no_key : (bytes : List ℕ) → length bytes < 1 → None ≡ key_named bytes
unfolding keys
no_key [] h = refl
no_key (b ∷ bs) h = absurd (omega arith)

pub no_mark : (text : List ℕ) → length text < 1 → None ≡ mark_named text
unfolding marks
no_mark [] h = refl
no_mark (b ∷ bs) h = absurd (omega arith)

pub key_among : (bytes : List ℕ) → 1 ≤ length bytes → find (λ k. bytes_eq (key_spelling k) bytes) (keys_from (get_or bytes 0 0)) ≡ key_named bytes
key_among [] h = absurd (omega arith)
key_among (b ∷ bs) h = find_kept (λ k. bytes_eq (key_spelling k) (b ∷ bs)) (λ k. begins_with b (key_spelling k)) (λ k e. other_key b bs (key_spelling k) e) keys

pub mark_among : (text : List ℕ) → 1 ≤ length text → find (λ m. starts_with nat_eq text (mark_spelling m)) (marks_from (get_or text 0 0)) ≡ mark_named text
mark_among [] h = absurd (omega arith)
mark_among (b ∷ bs) h = find_kept (λ m. starts_with nat_eq (b ∷ bs) (mark_spelling m)) (λ m. begins_with b (mark_spelling m)) (λ m e. other_mark b bs (mark_spelling m) e) marks
