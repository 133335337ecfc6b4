-- The stack stays sound, and its look-up finds the innermost entry.
use Rattle.std.proofs.Common.{◌≡◌, ◌≢◌, ◌≤◌, ◌<◌, ℕ, zero, suc, refl, sym, ap, subst, ◌∙◌, drop, length-drop, ◌-◌, ◌+◌, List, [], ◌∷◌, ◌++◌, length, map, get_or, slice_get, reverse, Option, Some, None, Result, Ok, Err, OnErr, arith, slice_set, length-set, length-append, inl, inr}
use Rattle.std.proofs.lemmas.List.{get_or-set_same, get_or-set_other, reverse-append, length-reverse}
use Rattle.std.proofs.Math.ListN.{get_or-eq_default}
use Rattle.std.proofs.lemmas.Bool.Decides.{eqb_tells}
use Rattle.std.proofs.lemmas.Grind.{reverse_onto}
use Rattle.std.specs.Str.{bytes_eq}
use Rattle.rc_scope.specs.declared.entry.Entry.{Entry}
use Rattle.rc_scope.specs.Scopes.{meaning_of, from_below}
use Rattle.rc_scope.specs.Stack.{name_at, shown, slot_of, innermost, AreLinked, IsSound}

pub outside : (slots : List (Option ℕ)) (x : ℕ) → length slots ≤ x → None ≡ slot_of slots x
outside slots x h = sym (get_or-eq_default slots None h)

pub one_more : (slots : List (Option ℕ)) (x : ℕ) → slot_of (slots ++ None ∷ []) x ≡ slot_of slots x
one_more [] zero = refl
one_more [] (suc x) = refl
one_more (s ∷ slots) zero = refl
one_more (s ∷ slots) (suc x) = one_more slots x

-- what a number stands for once a slot is written
known_at : (number : ℕ) (slots : List (Option ℕ)) (w : Option ℕ) (f : ℕ → Option ℕ) → number < length slots → f number ≡ w → ((x : ℕ) → x ≢ number → slot_of slots x ≡ f x) → (x : ℕ) → slot_of (slice_set slots number w) x ≡ f x
known_at number slots w f p e others x = elim (eqb_tells x number) [ inl k ↦ here k.1 | inr k ↦ get_or-set_other slots number x w None k.1 ∙ others x k.1 ] where
  here : x ≡ number → slot_of (slice_set slots number w) x ≡ f x
  here q = subst (λ y. slot_of (slice_set slots number w) y ≡ f y) (sym q) (get_or-set_same slots number w None p ∙ sym e)

pub on_err_always : {A E : Type 0} (r : Result A E) (P : Type 0) → P → OnErr r P
on_err_always (Ok a) P h = tt
on_err_always (Err e) P h = h

module _ {T : Type 0} where
  more_room : (m n s r : ℕ) (es : List (Entry T)) → m ≤ n → s ≤ r → AreLinked m s es → AreLinked n r es
  more_room m n s r [] p q h = tt
  more_room m n s r (e ∷ es) p q h = let k = h.0 in let l = h.1.0 in (omega arith, (omega arith, (h.1.1.0, more_room m n s r es p q h.1.1.1)))

  -- with more names and more empty slots
  pub grown_sound : (es : List (Entry T)) (names more : List (List ℕ)) (slots empty : List (Option ℕ)) → IsSound names slots es → length names ≤ length more → length slots ≤ length empty → ((x : ℕ) → slot_of empty x ≡ slot_of slots x) → IsSound more empty es
  grown_sound es names more slots empty h p q same = record { linked = more_room (length names) (length more) (length slots) (length empty) es p q h.linked; known = λ x. same x ∙ h.known x }

  pub grown_shown : (es : List (Entry T)) (names more : List (List ℕ)) (s : ℕ) → ((x : ℕ) → x < length names → name_at more x ≡ name_at names x) → AreLinked (length names) s es → shown more es ≡ shown names es
  grown_shown [] names more s same h = refl
  grown_shown (e ∷ es) names more s same h = λ j. (same e.name h.0 j, e.meaning) ∷ grown_shown es names more s same h.1.1.1 j

  other_innermost : (e : Entry T) (es : List (Entry T)) (x : ℕ) → x ≢ e.name → innermost (e ∷ es) x ≡ innermost es x
  other_innermost e es x h = elim (eqb_tells e.name x) [ inl k ↦ absurd (h (sym k.1)) | inr k ↦ rw (k.0) refl ]

  own_innermost : (e : Entry T) (es : List (Entry T)) (x : ℕ) → e.name ≡ x → innermost (e ∷ es) x ≡ Some (length es)
  own_innermost e es x h = elim (eqb_tells e.name x) [ inl k ↦ rw (k.0) refl | inr k ↦ absurd (k.1 h) ]

  pub pop_sound : (e : Entry T) (es : List (Entry T)) (names : List (List ℕ)) (slots : List (Option ℕ)) → IsSound names slots (e ∷ es) → IsSound names (slice_set slots e.name e.hidden) es
  pop_sound e es names slots h = record {
    linked = rw (length-set slots e.name e.hidden) h.linked.1.1.1;
    known = known_at e.name slots e.hidden (innermost es) h.linked.1.0 (sym h.linked.1.1.0) (λ x k. h.known x ∙ other_innermost e es x k);
  }

  pub push_sound : (e : Entry T) (es : List (Entry T)) (names : List (List ℕ)) (slots : List (Option ℕ)) → IsSound names slots es → e.name < length names → e.name < length slots → e.hidden ≡ slot_of slots e.name → IsSound names (slice_set slots e.name (Some (length es))) (e ∷ es)
  push_sound e es names slots h n p q = record {
    linked = let k = length-set slots e.name (Some (length es)) in (n, (omega arith, (q ∙ h.known e.name, more_room (length names) (length names) (length slots) (length (slice_set slots e.name (Some (length es)))) es (omega arith) (omega arith) h.linked)));
    known = known_at e.name slots (Some (length es)) (innermost (e ∷ es)) p (own_innermost e es e.name refl) (λ x k. h.known x ∙ sym (other_innermost e es x k));
  }

  drop_one : (k : ℕ) (xs : List T) → drop 1 (drop k xs) ≡ drop (suc k) xs
  drop_one zero xs = refl
  drop_one (suc k) [] = refl
  drop_one (suc k) (x ∷ xs) = drop_one k xs

  pub leave_one_more : (all now next : List T) → length now ≤ length all → now ≡ drop (length all - length now) all → 0 < length now → next ≡ drop 1 now → (length next + 1 ≡ length now) × (next ≡ drop (length all - length next) all)
  leave_one_more all now next p e q d = let n : length next + 1 ≡ length now = rw (d, length-drop 1 now) (omega arith) in let k : length all - length next ≡ suc (length all - length now) = omega arith in (n, rw k (d ∙ ap (drop 1) e ∙ drop_one (length all - length now) all))

  -- the entry at the innermost place
  at_end_of : (xs : List T) (x : T) → slice_get (xs ++ x ∷ []) (length xs) ≡ Some x
  at_end_of [] x = refl
  at_end_of (y ∷ xs) x = at_end_of xs x

  before_end_of : (xs : List T) (x : T) (k : ℕ) → k < length xs → slice_get (xs ++ x ∷ []) k ≡ slice_get xs k
  before_end_of [] x k h = absurd (omega arith)
  before_end_of (y ∷ xs) x zero h = refl
  before_end_of (y ∷ xs) x (suc k) h = before_end_of xs x k (omega arith)

  pub from_below-top : (x : T) (xs : List T) → from_below (x ∷ xs) (length xs) ≡ Some x
  from_below-top x xs = subst (λ n. slice_get (reverse (x ∷ xs)) n ≡ Some x) (length-reverse xs) (ap (λ l. slice_get l (length (reverse xs))) (reverse_onto xs x []) ∙ at_end_of (reverse xs) x)

  pub from_below-rest : (x : T) (xs : List T) (k : ℕ) → k < length xs → from_below (x ∷ xs) k ≡ from_below xs k
  from_below-rest x xs k h = ap (λ l. slice_get l k) (reverse_onto xs x []) ∙ before_end_of (reverse xs) x k (subst (λ n. k < n) (sym (length-reverse xs)) h)

  none_within : (xs : List T) (k : ℕ) → k < length xs → slice_get xs k ≡ None → ⊥
  none_within [] k h q = absurd (omega arith)
  none_within (x ∷ xs) zero h q = cc
  none_within (x ∷ xs) (suc k) h q = none_within xs k (omega arith) q

  pub there_below : (xs : List T) (k : ℕ) → k < length xs → from_below xs k ≡ None → ⊥
  there_below xs k h q = none_within (reverse xs) k (subst (λ n. k < n) (sym (length-reverse xs)) h) q
