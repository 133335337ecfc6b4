-- A variable that turns out not to be null, in a closed set: the classes of what it is above are joined one after another.
use Rattle.std.proofs.Common.{◌≡◌, ◌≢◌, ◌∙◌, ◌⊎◌, inl, inr, ◌↔◌, ℕ, ◌+◌, ◌<◌, ◌≤◌, Bool, true, false, not, ◌&&◌, ◌||◌, ◌==◌, nat_lt, [], ◌∷◌, IsTrue, refl, sym, ap, arith}
use Rattle.std.proofs.lemmas.Bool.{or_cases, or_left, or_right, and_parts, and_from, both_ways, cases_eq, cases_Bool, ne_eqb, ltb-true, lt-ltb, eq-eqb}
use Rattle.rc_facts.specs.declared.fact.Fact.{Fact}
use Rattle.rc_facts.specs.declared.fact.Fact.TheVariants.{In, Up, Trad, NonNull}
use Rattle.rc_facts.specs.Facts.{is_over, names, same_fact}
use Rattle.rc_facts.specs.Inside.{fact_by}
use Rattle.rc_facts.specs.Shut.{together, IsShut, IsClean}
use Rattle.rc_facts.specs.Steps.{IsWidened, Settles}
use Rattle.rc_facts.proofs.Sets.{same_fact-true}
use Rattle.rc_facts.proofs.Closes.{derivable_over}
use Rattle.rc_facts.proofs.Shut.{Laws, laws_of, others, falsely, truly, neither, none_of}
use Rattle.rc_facts.proofs.Fresh.{kept_exact}
use Rattle.rc_facts.proofs.Widened.{Links, joined, widened_in, widened_up, settled, settled_sound, settled_clean, settled_has}
use Rattle.rc_facts.specs.Derivable.{Derivable, stated, in_through, up_through, up_by_in, in_back, present_by_up}

-- one fact more
abbrev pub with_one : (Fact → Bool) → Fact → Fact → Bool
with_one c fact = together c (fact ∷ [])

pub one_cases : (c : Fact → Bool) (fact f : Fact) → with_one c fact f ≡ true → (c f ≡ true) ⊎ (fact ≡ f)
one_cases c fact f is = elim (or_cases (c f) _ is) [
  | inl old ↦ inl old
  | inr new ↦ elim (or_cases (same_fact fact f) false new) [ inl same ↦ inr (same_fact-true fact f same) | inr other ↦ absurd (both_ways false refl other) ]
]

pub one_old : (c : Fact → Bool) (fact f : Fact) → c f ≡ true → with_one c fact f ≡ true
one_old c fact f is = or_left (c f) _ is

-- what is linked is derivable, and what was linked is
pub record Follows (n : ℕ) (given : Fact → Bool) (in0 up0 ins ups : ℕ → ℕ → Bool) : Type 0 where
  pub sound_in : (x y : ℕ) → ins x y ≡ true → Derivable n given (In x y)
  pub sound_up : (x y : ℕ) → ups x y ≡ true → Derivable n given (Up x y)
  pub has_in : (x y : ℕ) → in0 x y ≡ true → ins x y ≡ true
  pub has_up : (x y : ℕ) → up0 x y ≡ true → ups x y ≡ true

-- the classes of those that are left are to be joined, and they have numbers from `u` on
pub record Joining (n s : ℕ) (ins ups : ℕ → ℕ → Bool) (wider left : ℕ → Bool) (u : ℕ) : Type 0 where
  pub links : Links (others n s) ins ups (λ y. wider y && not (left y)) wider
  pub clean_in : (x y : ℕ) → ins x y ≡ true → (x == s || y == s) ≡ false
  pub clean_up : (x y : ℕ) → ups x y ≡ true → (x == s || y == s) ≡ false
  pub ahead : (y : ℕ) → left y ≡ true → u ≤ y
  pub left_wider : (y : ℕ) → left y ≡ true → wider y ≡ true
  pub known : (y : ℕ) → wider y ≡ true → others n s y ≡ true

-- the rows as they stand before, and what is known then
module _ (n x : ℕ) (in0 up0 : ℕ → ℕ → Bool) (trad0 present0 wider : ℕ → Bool) (over : (f : Fact) → fact_by in0 up0 trad0 present0 f ≡ true → is_over n f ≡ true) (below : x < n) (widens : (y : ℕ) → wider y ≡ (present0 y || up0 x y)) where
  abbrev c : Fact → Bool
  c = fact_by in0 up0 trad0 present0

  abbrev given : Fact → Bool
  given = with_one c (NonNull x)

  given_over : (f : Fact) → given f ≡ true → is_over n f ≡ true
  given_over f is = elim (one_cases c (NonNull x) f is) [ inl old ↦ over f old | inr same ↦ rw (← same) (lt-ltb x n below) ]

  x_given : given (NonNull x) ≡ true
  x_given = or_right (c (NonNull x)) _ (or_left (x == x) _ (eq-eqb x x refl))

  pub wider_sound : (y : ℕ) → wider y ≡ true → Derivable n given (NonNull y)
  wider_sound y is = elim (or_cases (present0 y) _ (sym (widens y) ∙ is)) [
    | inl old ↦ stated (one_old c (NonNull x) (NonNull y) old)
    | inr above ↦ present_by_up {x = x} (stated (one_old c (NonNull x) (Up x y) above)) (stated x_given)
  ]

  pub follows_starts : Follows n given in0 up0 in0 up0
  follows_starts = record {
    sound_in = λ a b is. stated (one_old c (NonNull x) (In a b) is);
    sound_up = λ a b is. stated (one_old c (NonNull x) (Up a b) is);
    has_in = λ a b is. is;
    has_up = λ a b is. is;
  }

  pub joining_starts : (s : ℕ) → s ≢ x → IsShut n s c → IsClean s c → (left : ℕ → Bool) → ((y : ℕ) → left y ≡ (up0 x y && not (present0 y))) → Joining n s in0 up0 wider left 0
  joining_starts s apart shut clean left lefts = record {
    links = record {
      itself = l.itself;
      in_in = l.in_in;
      up_up = l.up_up;
      in_up = l.in_up;
      turns = λ a b is turned. l.turns a b is (old_turned a turned);
      up_present = λ a b is there. elim (or_cases (present0 a) _ (sym (widens a) ∙ there)) [
        | inl old ↦ widens b ∙ or_left (present0 b) _ (l.up_present a b is old)
        | inr above ↦ widens b ∙ or_right (present0 b) _ (l.up_up x a b above is)
      ];
    };
    clean_in = λ a b is. clean (In a b) is;
    clean_up = λ a b is. clean (Up a b) is;
    ahead = λ y is. omega arith;
    left_wider = λ y is. widens y ∙ or_right (present0 y) _ (and_parts (up0 x y) _ (sym (lefts y) ∙ is)).0;
    known = λ y is. elim (or_cases (present0 y) _ (sym (widens y) ∙ is)) [
      | inl old ↦ and_from (nat_lt y n) _ (over (NonNull y) old) (truly _ (clean (NonNull y) old))
      | inr above ↦ and_from (nat_lt y n) _ (and_parts (nat_lt x n) _ (over (Up x y) above)).1 (truly _ (neither (x == s) (y == s) (clean (Up x y) above)).1)
    ];
  }
    where
      l : Laws (others n s) c
      l = laws_of n s c shut clean

      old_turned : (a : ℕ) → (wider a && not (left a)) ≡ true → present0 a ≡ true
      old_turned a is =
          let both = and_parts (wider a) _ is in
          elim (cases_Bool (present0 a)) [
            | inl old ↦ old
            | inr out ↦ elim (or_cases (present0 a) _ (sym (widens a) ∙ both.0)) [
              | inl old ↦ old
              | inr above ↦ absurd (both_ways (left a) (falsely (left a) both.1) (lefts a ∙ and_from (up0 x a) _ above (truly _ out)))
            ]
          ]

  -- the class of `u` is joined
  module _ (ins ups ins_after ups_after : ℕ → ℕ → Bool) (class above : ℕ → Bool) (u : ℕ) (is_in : IsWidened ins ins_after class class) (is_up : IsWidened ups ups_after class above) (class_is : (y : ℕ) → class y ≡ ins u y) (above_is : (y : ℕ) → above y ≡ ups u y) (u_wider : wider u ≡ true) where
    pub follows_step : Follows n given in0 up0 ins ups → Follows n given in0 up0 ins_after ups_after
    follows_step f = record {
      sound_in = widened_in {ins = ins} {entry = class} {more = class} is_in f.sound_in (λ a b at last. in_through {y = u} (back a at) (f.sound_in u b (sym (class_is b) ∙ last)));
      sound_up = widened_up {ups = ups} {entry = class} {more = above} is_up f.sound_up (λ a b at last. up_through {y = u} (up_by_in (back a at)) (f.sound_up u b (sym (above_is b) ∙ last)));
      has_in = λ a b is. (is_in a b).1 (inl (f.has_in a b is));
      has_up = λ a b is. (is_up a b).1 (inl (f.has_up a b is));
    }
      where
        back : (a : ℕ) → class a ≡ true → Derivable n given (In a u)
        back a at = in_back (f.sound_in u a (sym (class_is a) ∙ at)) (wider_sound u u_wider)

    pub joining_step : (s : ℕ) (left left_after : ℕ → Bool) → Follows n given in0 up0 ins ups → Joining n s ins ups wider left u → ((y : ℕ) → left_after y ≡ (left y && not (class y))) → Joining n s ins_after ups_after wider left_after (u + 1)
    joining_step s left left_after f j lefts = record {
      links = joined {turned = λ y. wider y && not (left y)} {class = class} {above = above} j.links (record {
        inside = λ a is.
            let fact = in_over a is in
            and_from (nat_lt a n) _ fact (truly _ (neither (u == s) (a == s) (j.clean_in u a (sym (class_is a) ∙ is))).1);
        class_in = λ a b is to. class_is b ∙ j.links.in_in u a b (sym (class_is a) ∙ is) to;
        above_up = λ a b is to. above_is b ∙ j.links.up_up u a b (sym (above_is a) ∙ is) to;
        wider = λ a is. above_is a ∙ j.links.in_up u a (sym (class_is a) ∙ is);
        there = λ a is. j.links.up_present u a (sym (above_is a) ∙ is) u_wider;
        more_turned = λ a is.
            let both = and_parts (wider a) _ is in
            elim (cases_Bool (class a)) [
              | inl in_class ↦ inr in_class
              | inr out ↦ inl (and_from (wider a) _ both.0 (truly _ (not_left a (falsely (left_after a) both.1) out)))
            ];
      }) is_in is_up;
      clean_in = λ a b is. elim ((is_in a b).0 is) [
        | inl old ↦ j.clean_in a b old
        | inr ((k, to, _), last) ↦ none_of (a == s) (b == s) (neither (a == s) (k == s) (j.clean_in a k to)).0 (neither (u == s) (b == s) (j.clean_in u b (sym (class_is b) ∙ last))).1
      ];
      clean_up = λ a b is. elim ((is_up a b).0 is) [
        | inl old ↦ j.clean_up a b old
        | inr ((k, to, _), last) ↦ none_of (a == s) (b == s) (neither (a == s) (k == s) (j.clean_up a k to)).0 (neither (u == s) (b == s) (j.clean_up u b (sym (above_is b) ∙ last))).1
      ];
      ahead = λ y is.
          let both = and_parts (left y) _ (sym (lefts y) ∙ is) in
          let from : u ≤ y = j.ahead y both.0 in
          elim (cases_eq y u) [
            | inl same ↦ absurd (both_ways (class u) (ap class (sym same) ∙ falsely (class y) both.1) (class_is u ∙ j.links.itself u (j.known u u_wider)))
            | inr other ↦ omega (arith, from, other)
          ];
      left_wider = λ y is. j.left_wider y (and_parts (left y) _ (sym (lefts y) ∙ is)).0;
      known = j.known;
    }
      where
        in_over : (a : ℕ) → class a ≡ true → nat_lt a n ≡ true
        in_over a is = (and_parts (nat_lt u n) _ (derivable_over given_over (f.sound_in u a (sym (class_is a) ∙ is)))).1

        not_left : (a : ℕ) → left_after a ≡ false → class a ≡ false → left a ≡ false
        not_left a gone out = elim (cases_Bool (left a)) [
          | inl is ↦ absurd (both_ways (left_after a) gone (lefts a ∙ and_from (left a) _ is (truly _ out)))
          | inr away ↦ away
        ]

  -- `u` isn't left
  pub joining_skips : (s : ℕ) (ins ups : ℕ → ℕ → Bool) (left : ℕ → Bool) (u : ℕ) → left u ≡ false → Joining n s ins ups wider left u → Joining n s ins ups wider left (u + 1)
  joining_skips s ins ups left u out j = record {
    links = j.links;
    clean_in = j.clean_in;
    clean_up = j.clean_up;
    left_wider = j.left_wider;
    known = j.known;
    ahead = λ y is. let from : u ≤ y = j.ahead y is in elim (cases_eq y u) [
      | inl same ↦ absurd (both_ways (left u) out (ap left (sym same) ∙ is))
      | inr other ↦ omega (arith, from, other)
    ];
  }

  -- none is left, and what traditional variables say is added
  module _ (ins ups : ℕ → ℕ → Bool) (ins_after ups_after : ℕ → ℕ → Bool) (trad_after : ℕ → Bool) (f : Follows n given in0 up0 ins ups) (settles : Settles n wider ins ups trad0 ins_after ups_after trad_after) where
    abbrev after : Fact → Bool
    after = fact_by ins_after ups_after trad_after wider

    middle_sound : (g : Fact) → fact_by ins ups trad0 wider g ≡ true → Derivable n given g
    middle_sound (In a b) is = f.sound_in a b is
    middle_sound (Up a b) is = f.sound_up a b is
    middle_sound (Trad a) is = stated (one_old c (NonNull x) (Trad a) is)
    middle_sound (NonNull a) is = wider_sound a is

    pub after_sound : (g : Fact) → after g ≡ true → Derivable n given g
    after_sound = settled_sound settles middle_sound

    pub after_over : (g : Fact) → after g ≡ true → is_over n g ≡ true
    after_over g is = derivable_over given_over (after_sound g is)

    middle_has : (g : Fact) → c g ≡ true → fact_by ins ups trad0 wider g ≡ true
    middle_has (In a b) is = f.has_in a b is
    middle_has (Up a b) is = f.has_up a b is
    middle_has (Trad a) is = is
    middle_has (NonNull a) is = widens a ∙ or_left (present0 a) _ is

    pub present_exact : (s : ℕ) → s ≢ x → IsShut n s c → IsClean s c → (left : ℕ → Bool) → Joining n s ins ups wider left n → (g : Fact) → IsTrue (after g) ↔ (Derivable n given g × (names s g ≡ false))
    present_exact s apart shut clean left j = kept_exact n s given after
        (settled links settles (λ a is. after_over (Trad a) is))
        (settled_clean settles s middle_clean)
        (λ g is. elim (one_cases c (NonNull x) g is) [ inl old ↦ clean g old | inr same ↦ rw (← same) (ne_eqb x s (λ e. apart (sym e))) ])
        (λ g is. elim (one_cases c (NonNull x) g is) [ inl old ↦ settled_has settles g (middle_has g old) | inr same ↦ rw (← same) x_wider ])
        after_sound
      where
        l : Laws (others n s) c
        l = laws_of n s c shut clean

        x_wider : wider x ≡ true
        x_wider = widens x ∙ or_right (present0 x) _ (l.in_up x x (l.itself x (and_from (nat_lt x n) _ (lt-ltb x n below) (truly _ (ne_eqb x s (λ e. apart (sym e)))))))

        none_left : (a : ℕ) → wider a ≡ true → left a ≡ false
        none_left a there = elim (cases_Bool (left a)) [
          | inl is ↦ (let from : n ≤ a = j.ahead a is in let to : a < n = ltb-true a n (and_parts (nat_lt a n) _ (j.known a there)).0 in let nothing : ⊥ = omega (arith, from, to) in absurd nothing)
          | inr out ↦ out
        ]

        links : Links (others n s) ins ups wider wider
        links = record {
          itself = j.links.itself;
          in_in = j.links.in_in;
          up_up = j.links.up_up;
          in_up = j.links.in_up;
          up_present = j.links.up_present;
          turns = λ a b is there. j.links.turns a b is (and_from (wider a) _ there (truly _ (none_left a there)));
        }

        middle_clean : (g : Fact) → fact_by ins ups trad0 wider g ≡ true → names s g ≡ false
        middle_clean (In a b) is = j.clean_in a b is
        middle_clean (Up a b) is = j.clean_up a b is
        middle_clean (Trad a) is = clean (Trad a) is
        middle_clean (NonNull a) is = falsely _ (and_parts (nat_lt a n) _ (j.known a is)).1
