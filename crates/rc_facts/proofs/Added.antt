-- A traditional variable, and a link between two, in a closed set.
use Rattle.std.proofs.Common.{◌≡◌, ◌≢◌, ◌∙◌, inl, inr, ◌↔◌, ℕ, ◌<◌, Bool, true, false, ◌&&◌, ◌||◌, ◌==◌, nat_lt, List, [], ◌∷◌, IsTrue, subst, refl, sym}
use Rattle.std.proofs.lemmas.Bool.{or_cases, or_left, or_right, and_parts, and_from, both_ways, ne_eqb, lt-ltb, eqb-true, eq-eqb}
use Rattle.rc_facts.specs.declared.fact.Fact.{Fact}
use Rattle.rc_facts.specs.declared.fact.Fact.TheVariants.{In, Up, Trad, NonNull}
use Rattle.rc_facts.specs.Facts.{is_over, names}
use Rattle.rc_facts.specs.Inside.{fact_by}
use Rattle.rc_facts.specs.Shut.{IsShut, IsClean, IsBehind}
use Rattle.rc_facts.specs.Steps.{IsWidened, Settles}
use Rattle.rc_facts.proofs.Closes.{derivable_over}
use Rattle.rc_facts.proofs.Shut.{Laws, laws_of, others, truly, neither, none_of}
use Rattle.rc_facts.proofs.Fresh.{kept_exact}
use Rattle.rc_facts.proofs.Widened.{Links, linked, joined, links_of, widened_up, settled, settled_sound, settled_clean, settled_has}
use Rattle.rc_facts.proofs.Present.{with_one, one_cases, one_old}
use Rattle.rc_facts.proofs.Table.{follows_cut}
use Rattle.rc_facts.specs.Derivable.{Derivable, stated, in_through, up_through, up_by_in, in_back}

-- what is left is closed again, and names no scratch variable
pub shut_again : (n s : ℕ) (c after : Fact → Bool) (news : List Fact) → ((f : Fact) → IsTrue (after f) ↔ IsBehind n s c news f) → IsShut n s after × IsClean s after
shut_again n s c after news is = (λ f apart follows. (is f).1 (follows_cut (λ g at. ((is g).0 at).0) follows, apart), λ f at. ((is f).0 at).1)

pub widened_as : {before after : ℕ → ℕ → Bool} {entry more entry_as more_as : ℕ → Bool} → ((k : ℕ) → entry k ≡ entry_as k) → ((k : ℕ) → more k ≡ more_as k) → IsWidened before after entry more → IsWidened before after entry_as more_as
widened_as {before} {after} same_entry same_more wide = subst (λ (A : Type 0). A) (λ i. IsWidened before after (λ k. same_entry k i) (λ k. same_more k i)) wide

own_fact : (c : Fact → Bool) (fact : Fact) → (c fact || (true || false)) ≡ true
own_fact c fact = or_right (c fact) _ refl

-- the last step after links that obey their laws
module _ (n : ℕ) (c : Fact → Bool) (fact : Fact) (fact_over : is_over n fact ≡ true) (over : (f : Fact) → c f ≡ true → is_over n f ≡ true) {ins ups : ℕ → ℕ → Bool} {trad present : ℕ → Bool} {ins_after ups_after : ℕ → ℕ → Bool} {trad_after : ℕ → Bool} (settles : Settles n present ins ups trad ins_after ups_after trad_after) (sound : (g : Fact) → fact_by ins ups trad present g ≡ true → Derivable n (with_one c fact) g) where
  one_over : (f : Fact) → with_one c fact f ≡ true → is_over n f ≡ true
  one_over f is = elim (one_cases c fact f is) [ inl old ↦ over f old | inr same ↦ rw (← same) fact_over ]

  pub added_over : (g : Fact) → fact_by ins_after ups_after trad_after present g ≡ true → is_over n g ≡ true
  added_over g is = derivable_over one_over (settled_sound settles sound g is)

  pub added_exact : (s : ℕ) → names s fact ≡ false → IsClean s c → Links (others n s) ins ups present present → ((g : Fact) → fact_by ins ups trad present g ≡ true → names s g ≡ false) → ((g : Fact) → c g ≡ true → fact_by ins ups trad present g ≡ true) → fact_by ins ups trad present fact ≡ true → (g : Fact) → IsTrue (fact_by ins_after ups_after trad_after present g) ↔ IsBehind n s c (fact ∷ []) g
  added_exact s apart clean links middle_clean has has_fact = kept_exact n s (with_one c fact) (fact_by ins_after ups_after trad_after present)
      (settled links settles (λ a is. added_over (Trad a) is))
      (settled_clean settles s middle_clean)
      (λ g is. elim (one_cases c fact g is) [ inl old ↦ clean g old | inr same ↦ rw (← same) apart ])
      (λ g is. elim (one_cases c fact g is) [ inl old ↦ settled_has settles g (has g old) | inr same ↦ rw (← same) (settled_has settles fact has_fact) ])
      (settled_sound settles sound)

itself : (x : ℕ) → (x == x) ≡ true
itself x = eq-eqb x x refl

-- a traditional variable
module _ (n x : ℕ) (in0 up0 : ℕ → ℕ → Bool) (trad0 present0 trad : ℕ → Bool) (over : (f : Fact) → fact_by in0 up0 trad0 present0 f ≡ true → is_over n f ≡ true) (below : x < n) (trad_is : (y : ℕ) → trad y ≡ (trad0 y || y == x)) {ins_after ups_after : ℕ → ℕ → Bool} {trad_after : ℕ → Bool} (settles : Settles n present0 in0 up0 trad ins_after ups_after trad_after) where
  abbrev c : Fact → Bool
  c = fact_by in0 up0 trad0 present0

  trad_sound : (g : Fact) → fact_by in0 up0 trad present0 g ≡ true → Derivable n (with_one c (Trad x)) g
  trad_sound (In a b) is = stated (one_old c (Trad x) (In a b) is)
  trad_sound (Up a b) is = stated (one_old c (Trad x) (Up a b) is)
  trad_sound (Trad a) is = elim (or_cases (trad0 a) _ (sym (trad_is a) ∙ is)) [
    | inl old ↦ stated (one_old c (Trad x) (Trad a) old)
    | inr same ↦ rw (eqb-true a x same) (stated (or_right (trad0 x) _ (or_left (x == x) _ (itself x))))
  ]
  trad_sound (NonNull a) is = stated (one_old c (Trad x) (NonNull a) is)

  pub trad_over : (g : Fact) → fact_by ins_after ups_after trad_after present0 g ≡ true → is_over n g ≡ true
  trad_over = added_over n c (Trad x) (lt-ltb x n below) over settles trad_sound

  pub trad_exact : (s : ℕ) → s ≢ x → IsShut n s c → IsClean s c → (g : Fact) → IsTrue (fact_by ins_after ups_after trad_after present0 g) ↔ IsBehind n s c (Trad x ∷ []) g
  trad_exact s apart shut clean = added_exact n c (Trad x) (lt-ltb x n below) over settles trad_sound s (ne_eqb x s (λ e. apart (sym e))) clean (links_of (laws_of n s c shut clean)) middle_clean has (trad_is x ∙ or_right (trad0 x) _ (itself x))
    where
      middle_clean : (g : Fact) → fact_by in0 up0 trad present0 g ≡ true → names s g ≡ false
      middle_clean (In a b) is = clean (In a b) is
      middle_clean (Up a b) is = clean (Up a b) is
      middle_clean (Trad a) is = elim (or_cases (trad0 a) _ (sym (trad_is a) ∙ is)) [
        | inl old ↦ clean (Trad a) old
        | inr same ↦ rw (eqb-true a x same) (ne_eqb x s (λ e. apart (sym e)))
      ]
      middle_clean (NonNull a) is = clean (NonNull a) is

      has : (g : Fact) → c g ≡ true → fact_by in0 up0 trad present0 g ≡ true
      has (In a b) is = is
      has (Up a b) is = is
      has (Trad a) is = trad_is a ∙ or_left (trad0 a) _ is
      has (NonNull a) is = is

-- a link to a region that is the same or lies below
module _ (n x y : ℕ) (in0 up0 ups : ℕ → ℕ → Bool) (trad0 present0 : ℕ → Bool) (over : (f : Fact) → fact_by in0 up0 trad0 present0 f ≡ true → is_over n f ≡ true) (x_below : x < n) (y_below : y < n) (wide : IsWidened up0 ups (λ k. k == x) (up0 y)) {ins_after ups_after : ℕ → ℕ → Bool} {trad_after : ℕ → Bool} (settles : Settles n present0 in0 ups trad0 ins_after ups_after trad_after) where
  abbrev d : Fact → Bool
  d = fact_by in0 up0 trad0 present0

  up_given : Derivable n (with_one d (Up x y)) (Up x y)
  up_given = stated (or_right (up0 x y) _ (or_left (x == x && y == y) _ (and_from (x == x) _ (itself x) (itself y))))

  up_sound : (g : Fact) → fact_by in0 ups trad0 present0 g ≡ true → Derivable n (with_one d (Up x y)) g
  up_sound (In a b) is = stated (one_old d (Up x y) (In a b) is)
  up_sound (Up a b) is = widened_up {ups = up0} {entry = λ k. k == x} {more = up0 y} wide (λ k m at. stated (one_old d (Up x y) (Up k m) at)) (λ k m at last. rw (eqb-true k x at) (up_through {y = y} up_given (stated (one_old d (Up x y) (Up y m) last)))) a b is
  up_sound (Trad a) is = stated (one_old d (Up x y) (Trad a) is)
  up_sound (NonNull a) is = stated (one_old d (Up x y) (NonNull a) is)

  both_below : is_over n (Up x y) ≡ true
  both_below = and_from (nat_lt x n) _ (lt-ltb x n x_below) (lt-ltb y n y_below)

  pub up_over : (g : Fact) → fact_by ins_after ups_after trad_after present0 g ≡ true → is_over n g ≡ true
  up_over = added_over n d (Up x y) both_below over settles up_sound

  pub up_exact : (present0 x ≡ true → present0 y ≡ true) → (s : ℕ) → s ≢ x → s ≢ y → IsShut n s d → IsClean s d → (g : Fact) → IsTrue (fact_by ins_after ups_after trad_after present0 g) ↔ IsBehind n s d (Up x y ∷ []) g
  up_exact there s apart_x apart_y shut clean = added_exact n d (Up x y) both_below over settles up_sound s (none_of (x == s) (y == s) x_out y_out) clean links middle_clean has ((wide x y).1 (inr ((x, x_up, itself x), y_up)))
    where
      x_out : (x == s) ≡ false
      x_out = ne_eqb x s (λ e. apart_x (sym e))

      y_out : (y == s) ≡ false
      y_out = ne_eqb y s (λ e. apart_y (sym e))

      l : Laws (others n s) d
      l = laws_of n s d shut clean

      x_up : up0 x x ≡ true
      x_up = l.in_up x x (l.itself x (and_from (nat_lt x n) _ (lt-ltb x n x_below) (truly _ x_out)))

      y_up : up0 y y ≡ true
      y_up = l.in_up y y (l.itself y (and_from (nat_lt y n) _ (lt-ltb y n y_below) (truly _ y_out)))

      none : IsWidened in0 in0 (λ k. k == x) (λ k. false)
      none a b = (λ is. inl is, λ from. elim from [ inl is ↦ is | inr (_, last) ↦ absurd (both_ways false refl last) ])

      links : Links (others n s) in0 ups present0 present0
      links = linked {present = present0} {more = λ k. false} {above = up0 y} {v = x} (links_of l) (record {
        more_in = λ a b at _. absurd (both_ways false refl at);
        above_up = λ a b at to. l.up_up y a b at to;
        wider = λ a at. absurd (both_ways false refl at);
        free = λ a _ at. both_ways false refl at;
        there = λ a is at. l.up_present y a at (there is);
      }) none wide

      middle_clean : (g : Fact) → fact_by in0 ups trad0 present0 g ≡ true → names s g ≡ false
      middle_clean (In a b) is = clean (In a b) is
      middle_clean (Up a b) is = elim ((wide a b).0 is) [
        | inl old ↦ clean (Up a b) old
        | inr ((k, to, _), last) ↦ none_of (a == s) (b == s) (neither (a == s) (k == s) (clean (Up a k) to)).0 (neither (y == s) (b == s) (clean (Up y b) last)).1
      ]
      middle_clean (Trad a) is = clean (Trad a) is
      middle_clean (NonNull a) is = clean (NonNull a) is

      has : (g : Fact) → d g ≡ true → fact_by in0 ups trad0 present0 g ≡ true
      has (In a b) is = is
      has (Up a b) is = (wide a b).1 (inl is)
      has (Trad a) is = is
      has (NonNull a) is = is

-- a fact that follows from the new one can be added first
pub implied_first : (n s : ℕ) (c first : Fact → Bool) (fact new : Fact) → IsClean s c → ((f : Fact) → IsTrue (first f) ↔ IsBehind n s c (fact ∷ []) f) → Derivable n (with_one c new) fact → (f : Fact) → IsBehind n s first (new ∷ []) f ↔ IsBehind n s c (new ∷ []) f
implied_first n s c first fact new clean is implied f = (λ d. (follows_cut down d.0, d.1), λ d. (follows_cut up d.0, d.1))
  where
    each : (g : Fact) → with_one c fact g ≡ true → Derivable n (with_one c new) g
    each g at = elim (one_cases c fact g at) [ inl old ↦ stated (one_old c new g old) | inr same ↦ rw (← same) implied ]

    down : (g : Fact) → with_one first new g ≡ true → Derivable n (with_one c new) g
    down g at = elim (or_cases (first g) _ at) [
      | inl old ↦ follows_cut each ((is g).0 old).0
      | inr more ↦ stated (or_right (c g) _ more)
    ]

    up : (g : Fact) → with_one c new g ≡ true → Derivable n (with_one first new) g
    up g at = elim (or_cases (c g) _ at) [
      | inl old ↦ stated (one_old first new g ((is g).1 (stated (one_old c fact g old), clean g old)))
      | inr more ↦ stated (or_right (first g) _ more)
    ]

-- a variable in the region of another: links within regions and to what lies below are widened
module _ (n x y : ℕ) (in0 up0 ins ups : ℕ → ℕ → Bool) (trad0 present0 : ℕ → Bool) (over : (f : Fact) → fact_by in0 up0 trad0 present0 f ≡ true → is_over n f ≡ true) (x_below : x < n) (y_below : y < n) {ins_after ups_after : ℕ → ℕ → Bool} {trad_after : ℕ → Bool} (settles : Settles n present0 ins ups trad0 ins_after ups_after trad_after) where
  abbrev e : Fact → Bool
  e = fact_by in0 up0 trad0 present0

  in_given : Derivable n (with_one e (In x y)) (In x y)
  in_given = stated (or_right (in0 x y) _ (or_left (x == x && y == y) _ (and_from (x == x) _ (itself x) (itself y))))

  old_in : (a b : ℕ) → in0 a b ≡ true → Derivable n (with_one e (In x y)) (In a b)
  old_in a b is = stated (one_old e (In x y) (In a b) is)

  old_up : (a b : ℕ) → up0 a b ≡ true → Derivable n (with_one e (In x y)) (Up a b)
  old_up a b is = stated (one_old e (In x y) (Up a b) is)

  pair_below : is_over n (In x y) ≡ true
  pair_below = and_from (nat_lt x n) _ (lt-ltb x n x_below) (lt-ltb y n y_below)

  -- links lead from an entry to more, which names no scratch variable and is derivable
  module _ (entry more above : ℕ → Bool) (wide_in : IsWidened in0 ins entry more) (wide_up : IsWidened up0 ups entry above) (new_in : (a b : ℕ) → entry a ≡ true → more b ≡ true → Derivable n (with_one e (In x y)) (In a b)) (new_up : (a b : ℕ) → entry a ≡ true → above b ≡ true → Derivable n (with_one e (In x y)) (Up a b)) where
    both_sound : (g : Fact) → fact_by ins ups trad0 present0 g ≡ true → Derivable n (with_one e (In x y)) g
    both_sound (In a b) is = elim ((wide_in a b).0 is) [ inl a_old ↦ old_in a b a_old | inr ((k, to, at), last) ↦ in_through {y = k} (old_in a k to) (new_in k b at last) ]
    both_sound (Up a b) is = elim ((wide_up a b).0 is) [ inl a_old ↦ old_up a b a_old | inr ((k, to, at), last) ↦ up_through {y = k} (old_up a k to) (new_up k b at last) ]
    both_sound (Trad a) is = stated (one_old e (In x y) (Trad a) is)
    both_sound (NonNull a) is = stated (one_old e (In x y) (NonNull a) is)

    pub in_over : (g : Fact) → fact_by ins_after ups_after trad_after present0 g ≡ true → is_over n g ≡ true
    in_over = added_over n e (In x y) pair_below over settles both_sound

    in_by_links : (s : ℕ) → s ≢ x → s ≢ y → IsClean s e → Links (others n s) ins ups present0 present0 → ((k : ℕ) → more k ≡ true → (k == s) ≡ false) → ((k : ℕ) → above k ≡ true → (k == s) ≡ false) → ins x y ≡ true → (g : Fact) → IsTrue (fact_by ins_after ups_after trad_after present0 g) ↔ IsBehind n s e (In x y ∷ []) g
    in_by_links s apart_x apart_y clean links more_out above_out there = added_exact n e (In x y) pair_below over settles both_sound s (none_of (x == s) (y == s) (ne_eqb x s (λ q. apart_x (sym q))) (ne_eqb y s (λ q. apart_y (sym q)))) clean links middle_clean has there
      where
        middle_clean : (g : Fact) → fact_by ins ups trad0 present0 g ≡ true → names s g ≡ false
        middle_clean (In a b) is = elim ((wide_in a b).0 is) [
          | inl old ↦ clean (In a b) old
          | inr ((k, to, _), last) ↦ none_of (a == s) (b == s) (neither (a == s) (k == s) (clean (In a k) to)).0 (more_out b last)
        ]
        middle_clean (Up a b) is = elim ((wide_up a b).0 is) [
          | inl old ↦ clean (Up a b) old
          | inr ((k, to, _), last) ↦ none_of (a == s) (b == s) (neither (a == s) (k == s) (clean (Up a k) to)).0 (above_out b last)
        ]
        middle_clean (Trad a) is = clean (Trad a) is
        middle_clean (NonNull a) is = clean (NonNull a) is

        has : (g : Fact) → e g ≡ true → fact_by ins ups trad0 present0 g ≡ true
        has (In a b) is = (wide_in a b).1 (inl is)
        has (Up a b) is = (wide_up a b).1 (inl is)
        has (Trad a) is = is
        has (NonNull a) is = is

  -- where the first may be null
  module _ (wide_in : IsWidened in0 ins (λ k. k == x) (in0 y)) (wide_up : IsWidened up0 ups (λ k. k == x) (up0 y)) where
    from_in : (a b : ℕ) → (a == x) ≡ true → in0 y b ≡ true → Derivable n (with_one e (In x y)) (In a b)
    from_in a b at last = rw (eqb-true a x at) (in_through {y = y} in_given (old_in y b last))

    from_up : (a b : ℕ) → (a == x) ≡ true → up0 y b ≡ true → Derivable n (with_one e (In x y)) (Up a b)
    from_up a b at last = rw (eqb-true a x at) (up_through {y = y} (up_by_in in_given) (old_up y b last))

    pub in_null_over : (g : Fact) → fact_by ins_after ups_after trad_after present0 g ≡ true → is_over n g ≡ true
    in_null_over = in_over (λ k. k == x) (in0 y) (up0 y) wide_in wide_up from_in from_up

    pub in_null_exact : present0 x ≡ false → (s : ℕ) → s ≢ x → s ≢ y → IsShut n s e → IsClean s e → (g : Fact) → IsTrue (fact_by ins_after ups_after trad_after present0 g) ↔ IsBehind n s e (In x y ∷ []) g
    in_null_exact null s apart_x apart_y shut clean = in_by_links (λ k. k == x) (in0 y) (up0 y) wide_in wide_up from_in from_up s apart_x apart_y clean links
        (λ k is. (neither (y == s) (k == s) (clean (In y k) is)).1) (λ k is. (neither (y == s) (k == s) (clean (Up y k) is)).1)
        ((wide_in x y).1 (inr ((x, l.itself x (and_from (nat_lt x n) _ (lt-ltb x n x_below) (truly _ (ne_eqb x s (λ q. apart_x (sym q))))), itself x), l.itself y (and_from (nat_lt y n) _ (lt-ltb y n y_below) (truly _ (ne_eqb y s (λ q. apart_y (sym q))))))))
      where
        l : Laws (others n s) e
        l = laws_of n s e shut clean

        links : Links (others n s) ins ups present0 present0
        links = linked {present = present0} {more = in0 y} {above = up0 y} {v = x} (links_of l) (record {
          more_in = λ a b at to. l.in_in y a b at to;
          above_up = λ a b at to. l.up_up y a b at to;
          wider = λ a at. l.in_up y a at;
          free = λ a is _. both_ways (present0 x) null is;
          there = λ a is _. absurd (both_ways (present0 x) null is);
        }) wide_in wide_up

  -- where neither is null, both regions are one
  module _ (class above : ℕ → Bool) (class_is : (k : ℕ) → class k ≡ (in0 x k || in0 y k)) (above_is : (k : ℕ) → above k ≡ (up0 x k || up0 y k)) (wide_in : IsWidened in0 ins class class) (wide_up : IsWidened up0 ups class above) (x_there : present0 x ≡ true) (y_there : present0 y ≡ true) where
    to_class : (k : ℕ) → class k ≡ true → Derivable n (with_one e (In x y)) (In x k)
    to_class k at = elim (or_cases (in0 x k) _ (sym (class_is k) ∙ at)) [
      | inl old ↦ old_in x k old
      | inr other ↦ in_through {y = y} in_given (old_in y k other)
    ]

    from_class : (k : ℕ) → class k ≡ true → Derivable n (with_one e (In x y)) (In k x)
    from_class k at = in_back (to_class k at) (stated (one_old e (In x y) (NonNull x) x_there))

    class_sound : (a b : ℕ) → class a ≡ true → class b ≡ true → Derivable n (with_one e (In x y)) (In a b)
    class_sound a b at last = in_through {y = x} (from_class a at) (to_class b last)

    above_sound : (a b : ℕ) → class a ≡ true → above b ≡ true → Derivable n (with_one e (In x y)) (Up a b)
    above_sound a b at last = up_through {y = x} (up_by_in (from_class a at)) (elim (or_cases (up0 x b) _ (sym (above_is b) ∙ last)) [
      | inl old ↦ old_up x b old
      | inr other ↦ up_through {y = y} (up_by_in in_given) (old_up y b other)
    ])

    pub in_class_over : (g : Fact) → fact_by ins_after ups_after trad_after present0 g ≡ true → is_over n g ≡ true
    in_class_over = in_over class class above wide_in wide_up class_sound above_sound

    pub in_class_exact : (s : ℕ) → s ≢ x → s ≢ y → IsShut n s e → IsClean s e → (g : Fact) → IsTrue (fact_by ins_after ups_after trad_after present0 g) ↔ IsBehind n s e (In x y ∷ []) g
    in_class_exact s apart_x apart_y shut clean = in_by_links class class above wide_in wide_up class_sound above_sound s apart_x apart_y clean links class_out above_out
        ((wide_in x y).1 (inr ((x, x_in, class_is x ∙ or_left (in0 x x) _ x_in), class_is y ∙ or_right (in0 x y) _ y_in)))
      where
        l : Laws (others n s) e
        l = laws_of n s e shut clean

        x_in : in0 x x ≡ true
        x_in = l.itself x (and_from (nat_lt x n) _ (lt-ltb x n x_below) (truly _ (ne_eqb x s (λ q. apart_x (sym q)))))

        y_in : in0 y y ≡ true
        y_in = l.itself y (and_from (nat_lt y n) _ (lt-ltb y n y_below) (truly _ (ne_eqb y s (λ q. apart_y (sym q)))))

        class_out : (k : ℕ) → class k ≡ true → (k == s) ≡ false
        class_out k at = elim (or_cases (in0 x k) _ (sym (class_is k) ∙ at)) [ inl is ↦ (neither (x == s) (k == s) (clean (In x k) is)).1 | inr is ↦ (neither (y == s) (k == s) (clean (In y k) is)).1 ]

        above_out : (k : ℕ) → above k ≡ true → (k == s) ≡ false
        above_out k at = elim (or_cases (up0 x k) _ (sym (above_is k) ∙ at)) [ inl is ↦ (neither (x == s) (k == s) (clean (Up x k) is)).1 | inr is ↦ (neither (y == s) (k == s) (clean (Up y k) is)).1 ]

        class_below : (k : ℕ) → class k ≡ true → nat_lt k n ≡ true
        class_below k at = elim (or_cases (in0 x k) _ (sym (class_is k) ∙ at)) [ inl is ↦ (and_parts (nat_lt x n) _ (over (In x k) is)).1 | inr is ↦ (and_parts (nat_lt y n) _ (over (In y k) is)).1 ]

        links : Links (others n s) ins ups present0 present0
        links = joined {turned = present0} {turned_after = present0} {class = class} {above = above} (links_of l) (record {
          inside = λ a at. and_from (nat_lt a n) _ (class_below a at) (truly _ (class_out a at));
          class_in = λ a b at to. elim (or_cases (in0 x a) _ (sym (class_is a) ∙ at)) [
            | inl is ↦ class_is b ∙ or_left (in0 x b) _ (l.in_in x a b is to)
            | inr is ↦ class_is b ∙ or_right (in0 x b) _ (l.in_in y a b is to)
          ];
          above_up = λ a b at to. elim (or_cases (up0 x a) _ (sym (above_is a) ∙ at)) [
            | inl is ↦ above_is b ∙ or_left (up0 x b) _ (l.up_up x a b is to)
            | inr is ↦ above_is b ∙ or_right (up0 x b) _ (l.up_up y a b is to)
          ];
          wider = λ a at. elim (or_cases (in0 x a) _ (sym (class_is a) ∙ at)) [
            | inl is ↦ above_is a ∙ or_left (up0 x a) _ (l.in_up x a is)
            | inr is ↦ above_is a ∙ or_right (up0 x a) _ (l.in_up y a is)
          ];
          there = λ a at. elim (or_cases (up0 x a) _ (sym (above_is a) ∙ at)) [ inl is ↦ l.up_present x a is x_there | inr is ↦ l.up_present y a is y_there ];
          more_turned = λ a is. inl is;
        }) wide_in wide_up
