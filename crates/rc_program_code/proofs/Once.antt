-- Operands each once: whether one is in a table, and in the same table the other way round.
use Rattle.std.proofs.Common.{◌≡◌, ◌<◌, ℕ, zero, suc, Bool, true, false, ◌||◌, List, [], ◌∷◌, ◌++◌, length, map, take, reverse, get_or, refl, sym, ap, ◌∙◌, subst, arith, rules, true≢false}
use Rattle.std.specs.Prelude.{Option, Some, None, nat_lt, unwrap_or, is_some, cond}
use Rattle.std.specs.List.{AllByRecursion as Every}
use Rattle.std.proofs.lemmas.List.{reverse-append, map-append, length-map}
use Rattle.rc_safety.proofs.Lists.{every_more, every_append}
use Rattle.rc_emission.specs.KeptOperands.{Kept, same_kept, counted_on, place_in, entered, once}
use Rattle.rc_emission.proofs.SameOperands.{kept_is, kept_self}
use Rattle.rc_scope.specs.Names.{place_of, number_of, with_name}
use Rattle.rc_scope.proofs.Numbers.{is_at}
use Rattle.rc_lines.specs.Keys.{HasKey}
use Rattle.rc_lines.specs.Keyed.{key_of}
use Rattle.rc_lines.proofs.KeptKeys.{numbered}
use Rattle.rc_program_code.specs.Entered.{has, AreDistinct, Entering}
use Rattle.rc_program_code.specs.Numbering.{Numbers}

pub has_below : (t : List Kept) (k : Kept) → has t k ≡ true → place_in same_kept t k < length t
has_below [] k h = absurd (true≢false (sym h))
has_below (x ∷ xs) k h = by (same_kept x k) h (has_below xs k)
  where
    by : (b : Bool) → b || has xs k ≡ true → (has xs k ≡ true → place_in same_kept xs k < length xs) → counted_on b (place_in same_kept xs k) < suc (length xs)
    by true h rec = omega arith
    by false h rec = let r = rec h in omega (arith, r)

pub has_past : (t : List Kept) (k : Kept) → has t k ≡ false → place_in same_kept t k ≡ length t
has_past [] k h = refl
has_past (x ∷ xs) k h = by (same_kept x k) h (has_past xs k)
  where
    by : (b : Bool) → b || has xs k ≡ false → (has xs k ≡ false → place_in same_kept xs k ≡ length xs) → counted_on b (place_in same_kept xs k) ≡ suc (length xs)
    by true h rec = absurd (true≢false h)
    by false h rec = ap suc (rec h)

below_yes : (m n : ℕ) → m < n → nat_lt m n ≡ true
below_yes m n e = search (rules, e)

below_no : (m n : ℕ) → m ≡ n → nat_lt m n ≡ false
below_no m n e = search (rules, e)

-- the test by which a table is entered
pub is_in : (t : List Kept) (k : Kept) (b : Bool) → has t k ≡ b → nat_lt (place_in same_kept t k) (length t) ≡ b
is_in t k true h = below_yes (place_in same_kept t k) (length t) (has_below t k h)
is_in t k false h = below_no (place_in same_kept t k) (length t) (has_past t k h)

has_appended : (xs ys : List Kept) (k : Kept) → has (xs ++ ys) k ≡ has xs k || has ys k
has_appended [] ys k = refl
has_appended (x ∷ xs) ys k = by (same_kept x k) (has_appended xs ys k)
  where
    by : (b : Bool) → has (xs ++ ys) k ≡ has xs k || has ys k → b || has (xs ++ ys) k ≡ (b || has xs k) || has ys k
    by true r = refl
    by false r = r

either_way : (a b : Bool) → a || (b || false) ≡ b || a
either_way true true = refl
either_way true false = refl
either_way false true = refl
either_way false false = refl

has_reversed : (xs : List Kept) (k : Kept) → has (reverse xs) k ≡ has xs k
has_reversed [] k = refl
has_reversed (x ∷ xs) k =
    ap (λ l. has l k) (reverse-append (x ∷ []) xs) ∙ has_appended (reverse xs) (x ∷ []) k ∙ ap (λ b. b || (same_kept x k || false)) (has_reversed xs k) ∙ either_way (has xs k) (same_kept x k)

module _ (k : Kept) (own : HasKey k) where
  -- a key that has no number is that of an operand that isn't there
  pub new_one : (t : List Kept) → Every HasKey t → place_of (map key_of t) (key_of k) ≡ None → has t k ≡ false
  new_one t all none = by (has t k) refl
    where
      by : (b : Bool) → has t k ≡ b → has t k ≡ false
      by true h =
          let n = numbered t k all own in
          let m = ap (λ o. unwrap_or o (length (map key_of t))) none in
          let l = length-map t key_of in
          let less = has_below t k h in
          absurd (omega (arith, n, m, l, less))
      by false h = h

  pub old_one : (t : List Kept) (n : ℕ) → Every HasKey t → place_of (map key_of t) (key_of k) ≡ Some n → has t k ≡ true
  old_one t n all some = by (has t k) refl
    where
      by : (b : Bool) → has t k ≡ b → has t k ≡ true
      by true h = h
      by false h =
          let p = numbered t k all own in
          let m = ap (λ o. unwrap_or o (length (map key_of t))) some in
          let l = length-map t key_of in
          let inside = (is_at (map key_of t) (key_of k) n some).0 in
          let past = has_past t k h in
          absurd (omega (arith, p, m, l, inside, past))

  -- and the other way round
  no_place : (t : List Kept) → Every HasKey t → has t k ≡ false → place_of (map key_of t) (key_of k) ≡ None
  no_place t all h = by (place_of (map key_of t) (key_of k)) refl
    where
      by : (o : Option ℕ) → place_of (map key_of t) (key_of k) ≡ o → place_of (map key_of t) (key_of k) ≡ None
      by None e = e
      by (Some n) e = absurd (true≢false (sym (old_one t n all e) ∙ h))

  added : (keys keys1 : List (List ℕ)) → place_of keys (key_of k) ≡ None → keys1 ≡ with_name keys (key_of k) → keys1 ≡ keys ++ key_of k ∷ []
  added keys keys1 none e = e ∙ ap (λ o. cond (is_some o) keys (keys ++ key_of k ∷ [])) none

  pub new_entered : (keys keys1 : List (List ℕ)) (t t1 : List Kept) → place_of keys (key_of k) ≡ None → keys1 ≡ with_name keys (key_of k) → t1 ≡ t ++ k ∷ [] → Entering k keys keys1 t t1
  new_entered keys keys1 t t1 none e f = record {
    own = own;
    keys = λ all is. added keys keys1 none e ∙ ap (λ l. l ++ key_of k ∷ []) is ∙ sym (map-append key_of t (k ∷ [])) ∙ ap (map key_of) (sym f);
    all_own = λ all. subst (Every HasKey) (sym f) (every_append HasKey t (k ∷ []) all (own, tt));
    once = λ all is.
        let fresh : has (reverse t) k ≡ false = has_reversed t k ∙ new_one t all (ap (λ l. place_of l (key_of k)) (sym is) ∙ none) in
        ap reverse f ∙ reverse-append t (k ∷ []) ∙ sym (ap (λ b. entered b k (reverse t)) (is_in (reverse t) k false fresh));
  }

  pub old_entered : (keys : List (List ℕ)) (n : ℕ) (t : List Kept) → place_of keys (key_of k) ≡ Some n → Entering k keys keys t t
  old_entered keys n t some = record {
    own = own;
    keys = λ all is. is;
    all_own = λ all. all;
    once = λ all is.
        let there : has (reverse t) k ≡ true = has_reversed t k ∙ old_one t n all (ap (λ l. place_of l (key_of k)) (sym is) ∙ some) in
        sym (ap (λ b. entered b k (reverse t)) (is_in (reverse t) k true there));
  }

  -- the key of an operand that isn't there comes behind all others
  pub goes_behind : (keys keys1 : List (List ℕ)) (t : List Kept) → Every HasKey t → keys ≡ map key_of t → has t k ≡ false → keys1 ≡ with_name keys (key_of k) → keys1 ≡ map key_of (t ++ k ∷ [])
  goes_behind keys keys1 t all is fresh e =
      added keys keys1 (ap (λ l. place_of l (key_of k)) is ∙ no_place t all fresh) e ∙ ap (λ l. l ++ key_of k ∷ []) is ∙ sym (map-append key_of t (k ∷ []))

-- entering each once makes them distinct, and loses no key
pub once_distinct : (xs : List Kept) → AreDistinct (once same_kept xs)
once_distinct [] = tt
once_distinct (x ∷ xs) = by (has t x) refl (once_distinct xs)
  where
    t : List Kept
    t = once same_kept xs

    by : (b : Bool) → has (once same_kept xs) x ≡ b → AreDistinct (once same_kept xs) → AreDistinct (entered (nat_lt (place_in same_kept (once same_kept xs) x) (length (once same_kept xs))) x (once same_kept xs))
    by true h d = subst (λ b. AreDistinct (entered b x (once same_kept xs))) (sym (is_in (once same_kept xs) x true h)) d
    by false h d = subst (λ b. AreDistinct (entered b x (once same_kept xs))) (sym (is_in (once same_kept xs) x false h)) (h, d)

entered_own : (b : Bool) (x : Kept) (t : List Kept) → HasKey x → Every HasKey t → Every HasKey (entered b x t)
entered_own true x t h all = all
entered_own false x t h all = (h, all)

pub once_own : (xs : List Kept) → Every HasKey xs → Every HasKey (once same_kept xs)
once_own [] all = tt
once_own (x ∷ xs) all = entered_own (nat_lt (place_in same_kept (once same_kept xs) x) (length (once same_kept xs))) x (once same_kept xs) all.0 (once_own xs all.1)

-- each key's number is its operand's place
pub all_numbered : (keys : List (List ℕ)) (kept : List Kept) → Every HasKey kept → keys ≡ map key_of (once same_kept kept) → Numbers keys kept
all_numbered keys kept all is =
    every_more HasKey (λ k. number_of keys (key_of k) ≡ place_in same_kept (once same_kept kept) k)
    (λ k own. ap (λ l. number_of l (key_of k)) is ∙ numbered (once same_kept kept) k (once_own kept all) own) kept all

has_at : (xs : List Kept) (x : Kept) (i : ℕ) (d : Kept) → i < length xs → same_kept (get_or xs i d) x ≡ true → has xs x ≡ true
has_at [] x i d h e = absurd (omega (arith, h))
has_at (y ∷ ys) x zero d h e = ap (λ b. b || has ys x) e
has_at (y ∷ ys) x (suc i) d h e = by (same_kept y x) (has_at ys x i d (omega (arith, h)) e)
  where
    by : (b : Bool) → has ys x ≡ true → b || has ys x ≡ true
    by true r = refl
    by false r = r

-- one of distinct operands isn't among those before it
pub fresh : (t : List Kept) (i : ℕ) (d : Kept) → AreDistinct t → i < length t → has (take i t) (get_or t i d) ≡ false
fresh [] i d distinct h = absurd (omega (arith, h))
fresh (x ∷ xs) zero d distinct h = refl
fresh (x ∷ xs) (suc i) d distinct h = by (same_kept x (get_or xs i d)) refl (fresh xs i d distinct.1 (omega (arith, h)))
  where
    by : (b : Bool) → same_kept x (get_or xs i d) ≡ b → has (take i xs) (get_or xs i d) ≡ false → b || has (take i xs) (get_or xs i d) ≡ false
    by true e r =
        let same = kept_is x (get_or xs i d) e in
        absurd (true≢false (sym (has_at xs x i d (omega (arith, h)) (ap (λ y. same_kept y x) (sym same) ∙ kept_self x)) ∙ distinct.0))
    by false e r = r

pub some_found : (o : Option ℕ) → is_some o ≡ true → (n : ℕ) × (o ≡ Some n)
some_found None e = absurd (true≢false (sym e))
some_found (Some n) e = (n, refl)
