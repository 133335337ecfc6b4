-- Names, reserved words and marks: the tables find what is spelled, and of the marks the longest.
use Rattle.std.proofs.Common.{ℕ, ◌≡◌, ◌<◌, ◌≤◌, List, [], ◌∷◌, ◌++◌, length, drop, find, Option, Some, None, Bool, true, false, ◌&&◌, cond, refl, ap, sym, ◌∙◌, arith, inl, inr}
use Rattle.std.proofs.lemmas.Bool.Decides.{nat_tests}
use Rattle.std.proofs.lemmas.Bool.{cases_lt}
use Rattle.std.specs.Prelude.{nat_le, nat_eq, bytes_eq, ◌⊎◌}
use Rattle.std.specs.List.{list_all, starts_with}
use Rattle.rc_syntax.specs.declared.word.Key.{Key}
use Rattle.rc_syntax.specs.declared.word.Mark.{Mark}
use Rattle.rc_syntax.specs.Tokens.{Word, name, key, mark}
use Rattle.rc_syntax.specs.Spellings.{key_spelling, mark_spelling, keys, marks, key_named, mark_named}
use Rattle.rc_syntax.specs.reader.Look.{Seen, key_or_name, name_word, mark_at}
use Rattle.rc_syntax.proofs.ByteLaws.{and_true, same_bytes, starts_front, front_starts, same_length}
use Rattle.rc_syntax.proofs.SpellingTables.{key_found, mark_found}

-- a piece of n bytes is shorter than what is found, or it is what is found
abbrev pub Within : Option Seen → ℕ → Option Word → Type 0
Within None n seen = ⊥
Within (Some x) n seen = (n < x.0) ⊎ ((n ≡ x.0) × (seen ≡ x.1))

some_is : {A : Type 0} {x y : A} → Some x ≡ Some y → x ≡ y
some_is e = cc

pub find_passes : {X : Type 0} (p : X → Bool) (xs : List X) (x : X) → find p xs ≡ Some x → p x ≡ true
find_passes p [] x e = absurd (cc)
find_passes p (y ∷ ys) x e = go (p y) refl e (find_passes p ys x)
  where
    go : (v : Bool) → p y ≡ v → cond v (Some y) (find p ys) ≡ Some x → (find p ys ≡ Some x → p x ≡ true) → p x ≡ true
    go true f g more = ap p (sym (some_is g)) ∙ f
    go false f g more = more g

pub key_is : (bytes : List ℕ) (k : Key) → key_named bytes ≡ Some k → key_spelling k ≡ bytes
key_is bytes k e = same_bytes (key_spelling k) bytes (find_passes (λ x. bytes_eq (key_spelling x) bytes) keys k e)

pub no_key : (bytes : List ℕ) → key_named bytes ≡ None → (k : Key) → key_spelling k ≡ bytes → ⊥
no_key bytes e k f = let g : Some k ≡ None = sym (key_found k) ∙ ap key_named f ∙ e in cc

pub name_of_key : (k : Key) → name_word (key_spelling k) ≡ key k
name_of_key k = ap (key_or_name (key_spelling k)) (key_found k)

pub name_of_none : (bytes : List ℕ) → ((k : Key) → key_spelling k ≡ bytes → ⊥) → name_word bytes ≡ name bytes
name_of_none bytes h = go (key_named bytes) refl
  where
    go : (o : Option Key) → key_named bytes ≡ o → key_or_name bytes o ≡ name bytes
    go None e = refl
    go (Some k) e = absurd (h k (key_is bytes k e))

abbrev mark_length : Mark → ℕ
mark_length m = length (mark_spelling m)

abbrev descends : List Mark → Bool
descends [] = true
descends (x ∷ xs) = list_all (λ y. nat_le (mark_length y) (mark_length x)) xs && descends xs

marks_descend : descends marks ≡ true
unfolding marks
marks_descend = refl

le_of : (a b : ℕ) → nat_le a b ≡ true → a ≤ b
le_of a b h = grind (arith, nat_tests)

below : (n : ℕ) (m : Mark) (xs : List Mark) → list_all (λ y. nat_le (mark_length y) n) xs ≡ true →
    find (λ x. bytes_eq (mark_spelling x) (mark_spelling m)) xs ≡ Some m → mark_length m ≤ n
below n m [] h e = absurd (cc)
below n m (x ∷ xs) h e = go (bytes_eq (mark_spelling x) (mark_spelling m)) e (below n m xs parts.1)
  where
    parts : (nat_le (mark_length x) n ≡ true) × (list_all (λ y. nat_le (mark_length y) n) xs ≡ true)
    parts = and_true (nat_le (mark_length x) n) (list_all (λ y. nat_le (mark_length y) n) xs) h

    go : (v : Bool) → cond v (Some x) (find (λ z. bytes_eq (mark_spelling z) (mark_spelling m)) xs) ≡ Some m →
        (find (λ z. bytes_eq (mark_spelling z) (mark_spelling m)) xs ≡ Some m → mark_length m ≤ n) → mark_length m ≤ n
    go true g more = le_of (mark_length m) n (ap (λ z. nat_le (mark_length z) n) (sym (some_is g)) ∙ parts.0)
    go false g more = more g

-- the first mark that stands at the front is at least as long as any other
longest_mark : (text : List ℕ) (m : Mark) (xs : List Mark) → descends xs ≡ true → find (λ x. bytes_eq (mark_spelling x) (mark_spelling m)) xs ≡ Some m →
    starts_with nat_eq text (mark_spelling m) ≡ true → (y : Mark) × (find (λ x. starts_with nat_eq text (mark_spelling x)) xs ≡ Some y) × (mark_length m ≤ mark_length y)
longest_mark text m [] d e s = absurd (cc)
longest_mark text m (x ∷ xs) d e s = go (starts_with nat_eq text (mark_spelling x)) refl (λ f. longest_mark text m xs parts.1 f s)
  where
    parts : (list_all (λ y. nat_le (mark_length y) (mark_length x)) xs ≡ true) × (descends xs ≡ true)
    parts = and_true (list_all (λ y. nat_le (mark_length y) (mark_length x)) xs) (descends xs) d

    far : (v : Bool) → bytes_eq (mark_spelling x) (mark_spelling m) ≡ v → cond v (Some x) (find (λ z. bytes_eq (mark_spelling z) (mark_spelling m)) xs) ≡ Some m → mark_length m ≤ mark_length x
    far true f g = omega (arith, ap mark_length (some_is g))
    far false f g = below (mark_length x) m xs parts.0 g

    near : starts_with nat_eq text (mark_spelling x) ≡ false → (v : Bool) → bytes_eq (mark_spelling x) (mark_spelling m) ≡ v → cond v (Some x) (find (λ z. bytes_eq (mark_spelling z) (mark_spelling m)) xs) ≡ Some m →
        (find (λ z. bytes_eq (mark_spelling z) (mark_spelling m)) xs ≡ Some m)
    near h true f g = let i : false ≡ true = sym h ∙ ap (λ z. starts_with nat_eq text (mark_spelling z)) (some_is g) ∙ s in absurd (cc)
    near h false f g = g

    go : (v : Bool) → starts_with nat_eq text (mark_spelling x) ≡ v →
        (find (λ z. bytes_eq (mark_spelling z) (mark_spelling m)) xs ≡ Some m → (y : Mark) × (find (λ z. starts_with nat_eq text (mark_spelling z)) xs ≡ Some y) × (mark_length m ≤ mark_length y)) →
        (y : Mark) × (cond v (Some x) (find (λ z. starts_with nat_eq text (mark_spelling z)) xs) ≡ Some y) × (mark_length m ≤ mark_length y)
    go true h more = (x, refl, far (bytes_eq (mark_spelling x) (mark_spelling m)) refl e)
    go false h more = more (near h (bytes_eq (mark_spelling x) (mark_spelling m)) refl e)

pub same_mark : (m x : Mark) → mark_spelling m ≡ mark_spelling x → m ≡ x
same_mark m x e = some_is (sym (mark_found m) ∙ ap (λ z. find (λ y. bytes_eq (mark_spelling y) z) marks) e ∙ mark_found x)

pub mark_stands : (text : List ℕ) (m : Mark) → mark_named text ≡ Some m → text ≡ mark_spelling m ++ drop (length (mark_spelling m)) text
mark_stands text m e = starts_front text (mark_spelling m) (find_passes (λ x. starts_with nat_eq text (mark_spelling x)) marks m e)

pub mark_named_at : (m : Mark) (rest : List ℕ) → (y : Mark) × (mark_named (mark_spelling m ++ rest) ≡ Some y) × (length (mark_spelling m) ≤ length (mark_spelling y))
mark_named_at m rest = longest_mark (mark_spelling m ++ rest) m marks marks_descend (mark_found m) (front_starts (mark_spelling m) rest)

pub mark_within : (m : Mark) (rest : List ℕ) → Within (mark_at (mark_spelling m ++ rest)) (length (mark_spelling m)) (Some (mark m))
mark_within m rest =
    let x = mark_named_at m rest in
    let text = mark_spelling m ++ rest in
    let s = mark_stands text x.0 x.1 in
    let h : Within (Some (length (mark_spelling x.0), Some (mark x.0))) (length (mark_spelling m)) (Some (mark m)) = decide x.0 x.2 s in
    rw x.1 h
  where
    decide : (y : Mark) → length (mark_spelling m) ≤ length (mark_spelling y) → mark_spelling m ++ rest ≡ mark_spelling y ++ drop (length (mark_spelling y)) (mark_spelling m ++ rest) →
        (length (mark_spelling m) < length (mark_spelling y)) ⊎ ((length (mark_spelling m) ≡ length (mark_spelling y)) × (Some (mark m) ≡ Some (mark y)))
    decide y h s = elim (cases_lt (length (mark_spelling m)) (length (mark_spelling y))) [
      | inl w ↦ inl w
      | inr w ↦ (let e : length (mark_spelling m) ≡ length (mark_spelling y) = omega arith in inr (e, ap (λ z. Some (mark z)) (same_mark m y (same_length (mark_spelling m) rest (mark_spelling y) _ s e).0)))
    ]
