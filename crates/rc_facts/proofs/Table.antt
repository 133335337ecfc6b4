-- What each assignment places on its variable, in a closed set.
use Rattle.std.proofs.Common.{◌≡◌, ◌≢◌, ◌∙◌, ◌⊎◌, inl, inr, ◌↔◌, ℕ, ◌<◌, Bool, true, false, ◌&&◌, ◌||◌, ◌==◌, nat_lt, List, [], ◌∷◌, IsTrue, refl, sym, ap}
use Rattle.std.specs.List.{list_any}
use Rattle.std.proofs.lemmas.Bool.{or_cases, or_left, or_right, and_parts, and_from, both_ways, cases_eq, cases_Bool, ne_eqb, lt-ltb, eq-eqb}
use Rattle.rc_facts.specs.declared.fact.Fact.{Fact}
use Rattle.rc_facts.specs.declared.fact.Fact.TheVariants.{In, Up, Trad, NonNull}
use Rattle.rc_facts.specs.Facts.{is_over, names, same_fact, with_replaced}
use Rattle.rc_facts.specs.Shut.{together, IsShut, IsClean, IsBehind, pair_by, one_by, Placed, extended}
use Rattle.rc_facts.proofs.Sets.{same_fact-true}
use Rattle.rc_facts.proofs.Shut.{Laws, Fits, laws_of, others, falsely, truly, neither, none_of}
use Rattle.rc_facts.proofs.Fresh.{Sound, IsClear, assigned_exact, extended_old, spot_same, spot_other, nothing, nothing_fits}
use Rattle.rc_facts.specs.Derivable.{Derivable, stated, in_itself, in_through, up_through, up_by_in, in_back, present_by_in, present_by_up, trad_by_up, up_by_trad, in_by_trad}

-- what is derivable from derivable facts
pub follows_cut : {n : ℕ} {given others : Fact → Bool} → ((f : Fact) → given f ≡ true → Derivable n others f) → {fact : Fact} → Derivable n given fact → Derivable n others fact
follows_cut h (stated is) = h _ is
follows_cut h (in_itself below) = in_itself below
follows_cut h (in_through one two) = in_through (follows_cut h one) (follows_cut h two)
follows_cut h (up_through one two) = up_through (follows_cut h one) (follows_cut h two)
follows_cut h (up_by_in one) = up_by_in (follows_cut h one)
follows_cut h (in_back one two) = in_back (follows_cut h one) (follows_cut h two)
follows_cut h (present_by_in one two) = present_by_in (follows_cut h one) (follows_cut h two)
follows_cut h (present_by_up one two) = present_by_up (follows_cut h one) (follows_cut h two)
follows_cut h (trad_by_up one two) = trad_by_up (follows_cut h one) (follows_cut h two)
follows_cut h (up_by_trad one two) = up_by_trad (follows_cut h one) (follows_cut h two)
follows_cut h (in_by_trad one two three) = in_by_trad (follows_cut h one) (follows_cut h two) (follows_cut h three)

-- what is derivable after a first fact was added, and what is derivable with both
pub after_first : (n s : ℕ) (c first : Fact → Bool) (fact : Fact) (news : List Fact) → IsClean s c → names s fact ≡ false → ((f : Fact) → IsTrue (first f) ↔ IsBehind n s c (fact ∷ []) f) → (f : Fact) → Derivable n (together first news) f ↔ Derivable n (together c (fact ∷ news)) f
after_first n s c first fact news clean apart is f = (follows_cut down, follows_cut up)
  where
    wide : (g : Fact) → together c (fact ∷ []) g ≡ true → together c (fact ∷ news) g ≡ true
    wide g at = elim (or_cases (c g) _ at) [
      | inl old ↦ or_left (c g) _ old
      | inr new ↦ elim (or_cases (same_fact fact g) false new) [
        | inl same ↦ or_right (c g) _ (or_left (same_fact fact g) _ same)
        | inr other ↦ absurd (both_ways false refl other)
      ]
    ]

    down : (g : Fact) → together first news g ≡ true → Derivable n (together c (fact ∷ news)) g
    down g at = elim (or_cases (first g) _ at) [
      | inl old ↦ follows_cut (λ h there. stated (wide h there)) ((is g).0 old).0
      | inr new ↦ stated (or_right (c g) _ (or_right (same_fact fact g) _ new))
    ]

    has : (g : Fact) → together c (fact ∷ []) g ≡ true → names s g ≡ false → first g ≡ true
    has g at out = (is g).1 (stated at, out)

    up : (g : Fact) → together c (fact ∷ news) g ≡ true → Derivable n (together first news) g
    up g at = elim (or_cases (c g) _ at) [
      | inl old ↦ stated (or_left (first g) _ (has g (or_left (c g) _ old) (clean g old)))
      | inr new ↦ elim (or_cases (same_fact fact g) _ new) [
        | inl same ↦ stated (or_left (first g) _ (has g (or_right (c g) _ (or_left (same_fact fact g) _ same)) (sym (ap (names s) (same_fact-true fact g same)) ∙ apart)))
        | inr rest ↦ stated (or_right (first g) _ rest)
      ]
    ]

-- the facts on the fresh variable, of the extension
module _ (s : ℕ) (p : Placed) (c : Fact → Bool) where
  pub own_present : p.present ≡ true → extended s p c (NonNull s) ≡ true
  own_present is = ap (one_by (λ a. c (NonNull a)) p.present) (spot_same s s refl) ∙ is

  pub own_trad : p.trad ≡ true → extended s p c (Trad s) ≡ true
  own_trad is = ap (one_by (λ a. c (Trad a)) p.trad) (spot_same s s refl) ∙ is

  pub own_row_in : (y : ℕ) → (y == s) ≡ false → p.row_in y ≡ true → extended s p c (In s y) ≡ true
  own_row_in y apart is = (λ i. pair_by (λ a b. c (In a b)) p.row_in p.into_in (spot_same s s refl i) (spot_other s y apart i)) ∙ is

  pub own_row_up : (y : ℕ) → (y == s) ≡ false → p.row_up y ≡ true → extended s p c (Up s y) ≡ true
  own_row_up y apart is = (λ i. pair_by (λ a b. c (Up a b)) p.row_up p.into_up (spot_same s s refl i) (spot_other s y apart i)) ∙ is

  pub own_into_in : (y : ℕ) → (y == s) ≡ false → p.into_in y ≡ true → extended s p c (In y s) ≡ true
  own_into_in y apart is = (λ i. pair_by (λ a b. c (In a b)) p.row_in p.into_in (spot_other s y apart i) (spot_same s s refl i)) ∙ is

  pub own_into_up : (y : ℕ) → (y == s) ≡ false → p.into_up y ≡ true → extended s p c (Up y s) ≡ true
  own_into_up y apart is = (λ i. pair_by (λ a b. c (Up a b)) p.row_up p.into_up (spot_other s y apart i) (spot_same s s refl i)) ∙ is

-- a row of the table: what is placed is what the news say
pub record Row (n s : ℕ) (c : Fact → Bool) (news : List Fact) (p : Placed) : Type 0 where
  pub fits : Fits c p
  pub clear : IsClear s p
  pub sound : Sound n s (together c news) p
  pub has : (f : Fact) → list_any (λ q. same_fact q f) news ≡ true → extended s p c f ≡ true

-- each row says what stands behind its assignment
pub row_exact : (n s x : ℕ) (c : Fact → Bool) (news : List Fact) (p : Placed) → s < n → s ≢ x → IsShut n s c → IsClean s c → Row n s c news p → (f : Fact) → IsTrue (extended x p c f) ↔ (Derivable n (together c news) (with_replaced x s f) × (names s f ≡ false))
row_exact n s x c news p below apart shut clean row = assigned_exact n s x (together c news) c p below apart (laws_of n s c shut clean) clean row.fits row.clear (λ f is. stated (or_left (c f) _ is)) row.sound (λ f is. elim (or_cases (c f) _ is) [
  | inl old ↦ extended_old s p c f (clean f old) ∙ old
  | inr new ↦ row.has f new
])

-- one of the news
first_of : (given : Fact → Bool) (fact : Fact) (news : List Fact) → same_fact fact fact ≡ true → together given (fact ∷ news) fact ≡ true
first_of given fact news same = or_right (given fact) _ (or_left (same_fact fact fact) _ same)

second_of : (given : Fact → Bool) (one fact : Fact) (news : List Fact) → same_fact fact fact ≡ true → together given (one ∷ fact ∷ news) fact ≡ true
second_of given one fact news same = or_right (given fact) _ (or_right (same_fact one fact) _ (or_left (same_fact fact fact) _ same))

itself : (x : ℕ) → (x == x) ≡ true
itself x = eq-eqb x x refl

both : (x y : ℕ) → (x == x && y == y) ≡ true
both x y = and_from (x == x) _ (itself x) (itself y)

-- each of one or two news
each_of_one : (P : Fact → Type 0) (a : Fact) → P a → (f : Fact) → list_any (λ q. same_fact q f) (a ∷ []) ≡ true → P f
each_of_one P a is f at = elim (or_cases (same_fact a f) false at) [
  | inl same ↦ rw (← same_fact-true a f same) is
  | inr other ↦ absurd (both_ways false refl other)
]

each_of_two : (P : Fact → Type 0) (a b : Fact) → P a → P b → (f : Fact) → list_any (λ q. same_fact q f) (a ∷ b ∷ []) ≡ true → P f
each_of_two P a b is also f at = elim (or_cases (same_fact a f) _ at) [
  | inl same ↦ rw (← same_fact-true a f same) is
  | inr other ↦ each_of_one P b also f other
]

never : {P : Type 0} → false ≡ true → P
never e = absurd (both_ways false refl e)

not_there : (b : Bool) → (b ≡ true → true ≡ false) → b ≡ false
not_there true h = h refl
not_there false h = refl

module _ (n s : ℕ) (c : Fact → Bool) (l : Laws (others n s) c) (clean : IsClean s c) where
  abbrev t : ℕ → Bool
  t x = c (Trad x)

  abbrev p : ℕ → Bool
  p x = c (NonNull x)

  unnamed : (f : Fact) → names s f ≡ true → c f ≡ false
  unnamed f is = elim (cases_Bool (c f)) [ inl at ↦ absurd (both_ways (names s f) (clean f at) is) | inr out ↦ out ]

  t_clear : t s ≡ false
  t_clear = unnamed (Trad s) (itself s)

  p_clear : p s ≡ false
  p_clear = unnamed (NonNull s) (itself s)

  -- x = alloc in a new region: it isn't null
  abbrev pub made_placed : Placed
  made_placed = record { row_in = λ x. false; row_up = λ x. false; into_in = λ x. false; into_up = t; trad = false; present = true }

  pub made_row : Row n s c (NonNull s ∷ []) made_placed
  made_row = record {
    fits = record {
      row_in = λ x y a b. never a;
      row_up = λ x y a b. never a;
      into_in = λ x y a b. never b;
      into_up = λ x y a b. l.up_trad x y a b;
      across_in = λ x y a b. never a;
      across_up = λ x y a b. never b;
      row_wider = λ x a. never a;
      into_wider = λ x a. never a;
      row_turns = λ x a b. never b;
      into_turns = λ x a b. never b;
      row_present = λ x a b. never b;
      into_present = λ x a b. refl;
      row_trad = λ x a b. never a;
      into_trad = λ x a b. never b;
      trad_row = λ x a b. never a;
      trad_into = λ x a b. a;
      trad_row_in = λ x a b d. never a;
      trad_into_in = λ x a b d. never b;
    };
    clear = record { row_in = refl; row_up = refl; into_in = refl; into_up = t_clear };
    sound = record {
      row_in = λ x a. never a;
      row_up = λ x a. never a;
      into_in = λ x a. never a;
      into_up = λ x a. up_by_trad (stated (or_left (c (Trad x)) _ a)) (stated (first_of c (NonNull s) [] (itself s)));
      trad = λ a. never a;
      present = λ a. stated (first_of c (NonNull s) [] (itself s));
    };
    has = each_of_one (λ f. extended s made_placed c f ≡ true) (NonNull s) (own_present s made_placed c refl);
  }

  -- x = a fixed object of the traditional region
  abbrev pub fixed_placed : Placed
  fixed_placed = record { row_in = λ x. t x && p x; row_up = p; into_in = t; into_up = t; trad = true; present = true }

  pub fixed_row : Row n s c (Trad s ∷ NonNull s ∷ []) fixed_placed
  fixed_row = record {
    fits = record {
      row_in = λ x y a b.
          let parts = and_parts (t x) _ a in
          and_from (t y) _ (l.up_trad y x (l.in_up y x (l.turns x y b parts.1)) parts.0) (l.up_present x y (l.in_up x y b) parts.1);
      row_up = λ x y a b. l.up_present x y b a;
      into_in = λ x y a b. l.up_trad x y (l.in_up x y a) b;
      into_up = λ x y a b. l.up_trad x y a b;
      across_in = λ x y a b. let parts = and_parts (t y) _ b in l.trad_in x y a parts.0 parts.1;
      across_up = λ x y a b. l.trad_up x y a b;
      row_wider = λ x a. (and_parts (t x) _ a).1;
      into_wider = λ x a. a;
      row_turns = λ x a b. (and_parts (t x) _ b).0;
      into_turns = λ x a b. and_from (t x) _ b a;
      row_present = λ x a b. b;
      into_present = λ x a b. refl;
      row_trad = λ x a b. refl;
      into_trad = λ x a b. a;
      trad_row = λ x a b. b;
      trad_into = λ x a b. a;
      trad_row_in = λ x a b d. and_from (t x) _ b d;
      trad_into_in = λ x a b d. a;
    };
    clear = record { row_in = ap (λ b. b && p s) t_clear; row_up = p_clear; into_in = t_clear; into_up = t_clear };
    sound = record {
      row_in = λ x a. let parts = and_parts (t x) _ a in in_by_trad root (stated (or_left (t x) _ parts.0)) (stated (or_left (p x) _ parts.1));
      row_up = λ x a. up_by_trad root (stated (or_left (p x) _ a));
      into_in = λ x a. in_by_trad (stated (or_left (t x) _ a)) root there;
      into_up = λ x a. up_by_trad (stated (or_left (t x) _ a)) there;
      trad = λ a. root;
      present = λ a. there;
    };
    has = each_of_two (λ f. extended s fixed_placed c f ≡ true) (Trad s) (NonNull s) (own_trad s fixed_placed c refl) (own_present s fixed_placed c refl);
  }
    where
      root : Derivable n (together c (Trad s ∷ NonNull s ∷ [])) (Trad s)
      root = stated (first_of c (Trad s) (NonNull s ∷ []) (itself s))

      there : Derivable n (together c (Trad s ∷ NonNull s ∷ [])) (NonNull s)
      there = stated (second_of c (Trad s) (NonNull s) [] (itself s))

  -- x = y.f, where the field is traditional
  abbrev pub loaded_trad_placed : Placed
  loaded_trad_placed = record { row_in = λ x. t x && p x; row_up = p; into_in = λ x. false; into_up = λ x. false; trad = true; present = false }

  pub loaded_trad_row : Row n s c (Trad s ∷ []) loaded_trad_placed
  loaded_trad_row = record {
    fits = record {
      row_in = λ x y a b.
          let parts = and_parts (t x) _ a in
          and_from (t y) _ (l.up_trad y x (l.in_up y x (l.turns x y b parts.1)) parts.0) (l.up_present x y (l.in_up x y b) parts.1);
      row_up = λ x y a b. l.up_present x y b a;
      into_in = λ x y a b. never b;
      into_up = λ x y a b. never b;
      across_in = λ x y a b. never a;
      across_up = λ x y a b. never a;
      row_wider = λ x a. (and_parts (t x) _ a).1;
      into_wider = λ x a. never a;
      row_turns = λ x a b. never a;
      into_turns = λ x a b. never b;
      row_present = λ x a b. never a;
      into_present = λ x a b. never b;
      row_trad = λ x a b. refl;
      into_trad = λ x a b. never a;
      trad_row = λ x a b. b;
      trad_into = λ x a b. never b;
      trad_row_in = λ x a b d. and_from (t x) _ b d;
      trad_into_in = λ x a b d. never d;
    };
    clear = record { row_in = ap (λ b. b && p s) t_clear; row_up = p_clear; into_in = refl; into_up = refl };
    sound = record {
      row_in = λ x a. let parts = and_parts (t x) _ a in in_by_trad root (stated (or_left (t x) _ parts.0)) (stated (or_left (p x) _ parts.1));
      row_up = λ x a. up_by_trad root (stated (or_left (p x) _ a));
      into_in = λ x a. never a;
      into_up = λ x a. never a;
      present = λ a. never a;
      trad = λ a. root;
    };
    has = each_of_one (λ f. extended s loaded_trad_placed c f ≡ true) (Trad s) (own_trad s loaded_trad_placed c refl);
  }
    where
      root : Derivable n (together c (Trad s ∷ [])) (Trad s)
      root = stated (first_of c (Trad s) [] (itself s))

  -- x = y.f, where nothing is said of the field
  pub loaded_plain_row : Row n s c [] nothing
  loaded_plain_row = record {
    fits = nothing_fits c;
    clear = record { row_in = refl; row_up = refl; into_in = refl; into_up = refl };
    sound = record { row_in = λ x a. never a; row_up = λ x a. never a; into_in = λ x a. never a; into_up = λ x a. never a; trad = λ a. never a; present = λ a. never a };
    has = λ f at. never at;
  }

  module _ (y : ℕ) (inside : others n s y ≡ true) where
    y_apart : (y == s) ≡ false
    y_apart = falsely _ (and_parts (nat_lt y n) _ inside).1

    y_itself : c (In y y) ≡ true
    y_itself = l.itself y inside

    row_clear : (x : ℕ) → c (In x s) ≡ false
    row_clear x = unnamed (In x s) (or_right (x == s) _ (itself s))

    column_clear : (x : ℕ) → c (In s x) ≡ false
    column_clear x = unnamed (In s x) (or_left (s == s) _ (itself s))

    row_clear_up : (x : ℕ) → c (Up x s) ≡ false
    row_clear_up x = unnamed (Up x s) (or_right (x == s) _ (itself s))

    column_clear_up : (x : ℕ) → c (Up s x) ≡ false
    column_clear_up x = unnamed (Up s x) (or_left (s == s) _ (itself s))

    -- x = y.f, where the field is in its object's region
    abbrev pub loaded_same_placed : Placed
    loaded_same_placed = record { row_in = λ x. c (In y x); row_up = λ x. c (Up y x); into_in = λ x. false; into_up = λ x. false; trad = t y; present = false }

    pub loaded_same_row : Row n s c (In s y ∷ []) loaded_same_placed
    loaded_same_row = record {
      fits = record {
        row_in = λ a b one two. l.in_in y a b one two;
        row_up = λ a b one two. l.up_up y a b one two;
        into_in = λ x z a b. never b;
        into_up = λ x z a b. never b;
        across_in = λ x z a b. never a;
        across_up = λ x z a b. never a;
        row_wider = λ x a. l.in_up y x a;
        into_wider = λ x a. never a;
        row_turns = λ x a b. never a;
        into_turns = λ x a b. never b;
        row_present = λ x a b. never a;
        into_present = λ x a b. never b;
        row_trad = λ x a b. l.up_trad y x a b;
        into_trad = λ x a b. never a;
        trad_row = λ x a b. l.trad_up y x a b;
        trad_into = λ x a b. never b;
        trad_row_in = λ x a b d. l.trad_in y x a b d;
        trad_into_in = λ x a b d. never d;
      };
      clear = record { row_in = row_clear y; row_up = row_clear_up y; into_in = refl; into_up = refl };
      sound = record {
        row_in = λ x a. in_through {y = y} link (stated (or_left (c (In y x)) _ a));
        row_up = λ x a. up_through {y = y} (up_by_in link) (stated (or_left (c (Up y x)) _ a));
        into_in = λ x a. never a;
        into_up = λ x a. never a;
        present = λ a. never a;
        trad = λ a. trad_by_up {y = y} (up_by_in link) (stated (or_left (t y) _ a));
      };
      has = each_of_one (λ f. extended s loaded_same_placed c f ≡ true) (In s y) (own_row_in s loaded_same_placed c y y_apart y_itself);
    }
      where
        link : Derivable n (together c (In s y ∷ [])) (In s y)
        link = stated (first_of c (In s y) [] (both s y))

    -- x = y.f, where the field is in a region above its object's
    abbrev pub loaded_parent_placed : Placed
    loaded_parent_placed = record { row_in = λ x. t y && (t x && p x); row_up = λ x. c (Up y x); into_in = λ x. false; into_up = λ x. false; trad = t y; present = false }

    pub loaded_parent_row : Row n s c (Up s y ∷ []) loaded_parent_placed
    loaded_parent_row = record {
      fits = record {
        row_in = λ a b one two.
            let first = and_parts (t y) _ one in
            let parts = and_parts (t a) _ first.1 in
            and_from (t y) _ first.0 (and_from (t b) _ (l.up_trad b a (l.in_up b a (l.turns a b two parts.1)) parts.0) (l.up_present a b (l.in_up a b two) parts.1));
        row_up = λ a b one two. l.up_up y a b one two;
        into_in = λ x z a b. never b;
        into_up = λ x z a b. never b;
        across_in = λ x z a b. never a;
        across_up = λ x z a b. never a;
        row_wider = λ x a. let first = and_parts (t y) _ a in l.trad_up y x first.0 (and_parts (t x) _ first.1).1;
        into_wider = λ x a. never a;
        row_turns = λ x a b. never a;
        into_turns = λ x a b. never b;
        row_present = λ x a b. never a;
        into_present = λ x a b. never b;
        row_trad = λ x a b. l.up_trad y x a b;
        into_trad = λ x a b. never a;
        trad_row = λ x a b. l.trad_up y x a b;
        trad_into = λ x a b. never b;
        trad_row_in = λ x a b d. and_from (t y) _ a (and_from (t x) _ b d);
        trad_into_in = λ x a b d. never d;
      };
      clear = record { row_in = not_there (t y && (t s && p s)) (λ is. sym (and_parts (t s) _ (and_parts (t y) _ is).1).0 ∙ t_clear); row_up = row_clear_up y; into_in = refl; into_up = refl };
      sound = record {
        row_in = λ x a.
            let first = and_parts (t y) _ a in
            let parts = and_parts (t x) _ first.1 in
            in_by_trad (trad_by_up {y = y} link (stated (or_left (t y) _ first.0))) (stated (or_left (t x) _ parts.0)) (stated (or_left (p x) _ parts.1));
        row_up = λ x a. up_through {y = y} link (stated (or_left (c (Up y x)) _ a));
        into_in = λ x a. never a;
        into_up = λ x a. never a;
        present = λ a. never a;
        trad = λ a. trad_by_up {y = y} link (stated (or_left (t y) _ a));
      };
      has = each_of_one (λ f. extended s loaded_parent_placed c f ≡ true) (Up s y) (own_row_up s loaded_parent_placed c y y_apart (l.in_up y y y_itself));
    }
      where
        link : Derivable n (together c (Up s y ∷ [])) (Up s y)
        link = stated (first_of c (Up s y) [] (both s y))

    -- x = alloc in a region under y's
    abbrev pub under_placed : Placed
    under_placed = record { row_in = λ x. false; row_up = λ x. false; into_in = λ x. false; into_up = λ x. t x || c (Up x y); trad = false; present = true }

    pub under_row : Row n s c (NonNull s ∷ Up y s ∷ []) under_placed
    under_row = record {
      fits = record {
        row_in = λ a b one two. never one;
        row_up = λ a b one two. never one;
        into_in = λ a b one two. never two;
        into_up = λ a b one two. elim (or_cases (t b) _ two) [
          | inl root ↦ or_left (t a) _ (l.up_trad a b one root)
          | inr over ↦ or_right (t a) _ (l.up_up a b y one over)
        ];
        across_in = λ a b one two. never one;
        across_up = λ a b one two. never two;
        row_wider = λ x a. never a;
        into_wider = λ x a. never a;
        row_turns = λ x a b. never b;
        into_turns = λ x a b. never b;
        row_present = λ x a b. never b;
        into_present = λ x a b. refl;
        row_trad = λ x a b. never a;
        into_trad = λ x a b. never b;
        trad_row = λ x a b. never a;
        trad_into = λ x a b. or_left (t x) _ a;
        trad_row_in = λ x a b d. never a;
        trad_into_in = λ x a b d. never b;
      };
      clear = record { row_in = refl; row_up = refl; into_in = refl; into_up = none_of (t s) (c (Up s y)) t_clear (column_clear_up y) };
      sound = record {
        row_in = λ x a. never a;
        row_up = λ x a. never a;
        into_in = λ x a. never a;
        into_up = λ x a. elim (or_cases (t x) _ a) [
          | inl root ↦ up_by_trad (stated (or_left (t x) _ root)) (stated (first_of c (NonNull s) (Up y s ∷ []) (itself s)))
          | inr over ↦ up_through {y = y} (stated (or_left (c (Up x y)) _ over)) (stated (second_of c (NonNull s) (Up y s) [] (both y s)))
        ];
        trad = λ a. never a;
        present = λ a. stated (first_of c (NonNull s) (Up y s ∷ []) (itself s));
      };
      has = each_of_two (λ f. extended s under_placed c f ≡ true) (NonNull s) (Up y s) (own_present s under_placed c refl) (own_into_up s under_placed c y y_apart (or_right (t y) _ (l.in_up y y y_itself)));
    }

    -- x = y: it has the facts of y
    abbrev pub moved_placed : Placed
    moved_placed = record { row_in = λ x. c (In y x); row_up = λ x. c (Up y x); into_in = λ x. c (In x y); into_up = λ x. c (Up x y); trad = t y; present = p y }

    moved_fits : Fits c moved_placed
    moved_fits = record {
      row_in = λ a b one two. l.in_in y a b one two;
      row_up = λ a b one two. l.up_up y a b one two;
      into_in = λ a b one two. l.in_in a b y one two;
      into_up = λ a b one two. l.up_up a b y one two;
      across_in = λ a b one two. l.in_in a y b one two;
      across_up = λ a b one two. l.up_up a y b one two;
      row_wider = λ x a. l.in_up y x a;
      into_wider = λ x a. l.in_up x y a;
      row_turns = λ x a b. l.turns y x b a;
      into_turns = λ x a b. l.turns x y b a;
      row_present = λ x a b. l.up_present y x b a;
      into_present = λ x a b. l.up_present x y b a;
      row_trad = λ x a b. l.up_trad y x a b;
      into_trad = λ x a b. l.up_trad x y a b;
      trad_row = λ x a b. l.trad_up y x a b;
      trad_into = λ x a b. l.trad_up x y a b;
      trad_row_in = λ x a b d. l.trad_in y x a b d;
      trad_into_in = λ x a b d. l.trad_in x y a b d;
    }

    moved_sound : (news : List Fact) → Derivable n (together c news) (In s y) → Derivable n (together c news) (In y s) → Sound n s (together c news) moved_placed
    moved_sound news to back = record {
      row_in = λ x a. in_through {y = y} to (stated (or_left (c (In y x)) _ a));
      row_up = λ x a. up_through {y = y} (up_by_in to) (stated (or_left (c (Up y x)) _ a));
      into_in = λ x a. in_through {y = y} (stated (or_left (c (In x y)) _ a)) back;
      into_up = λ x a. up_through {y = y} (stated (or_left (c (Up x y)) _ a)) (up_by_in back);
      trad = λ a. trad_by_up {y = y} (up_by_in to) (stated (or_left (t y) _ a));
      present = λ a. present_by_in {x = y} back (stated (or_left (p y) _ a));
    }

    moved_clear : IsClear s moved_placed
    moved_clear = record { row_in = row_clear y; row_up = row_clear_up y; into_in = column_clear y; into_up = column_clear_up y }

    pub moved_row : Row n s c (In s y ∷ In y s ∷ []) moved_placed
    moved_row = record {
      fits = moved_fits;
      clear = moved_clear;
      sound = moved_sound (In s y ∷ In y s ∷ []) (stated (first_of c (In s y) (In y s ∷ []) (both s y))) (stated (second_of c (In s y) (In y s) [] (both y s)));
      has = each_of_two (λ f. extended s moved_placed c f ≡ true) (In s y) (In y s) (own_row_in s moved_placed c y y_apart y_itself) (own_into_in s moved_placed c y y_apart y_itself);
    }

    -- x = alloc in y's region, where y isn't null
    pub beside_row : p y ≡ true → Row n s c (NonNull s ∷ In s y ∷ []) moved_placed
    beside_row there = record {
      fits = moved_fits;
      clear = moved_clear;
      sound = moved_sound (NonNull s ∷ In s y ∷ []) link (in_back link (stated (first_of c (NonNull s) (In s y ∷ []) (itself s))));
      has = each_of_two (λ f. extended s moved_placed c f ≡ true) (NonNull s) (In s y) (own_present s moved_placed c there) (own_row_in s moved_placed c y y_apart y_itself);
    }
      where
        link : Derivable n (together c (NonNull s ∷ In s y ∷ [])) (In s y)
        link = stated (second_of c (NonNull s) (In s y) [] (both s y))

-- a set that has what a row of the table places has what stands behind its assignment
pub row_law : (n s x : ℕ) (c after : Fact → Bool) (news : List Fact) (p q : Placed) → s < n → s ≢ x → IsShut n s c → IsClean s c → Row n s c news p → q ≡ p → ((f : Fact) → after f ≡ extended x q c f) → (f : Fact) → IsTrue (after f) ↔ (Derivable n (together c news) (with_replaced x s f) × (names s f ≡ false))
row_law n s x c after news p q below apart shut clean row same is f =
    let row_is = row_exact n s x c news p below apart shut clean row f in
    let stands : after f ≡ extended x p c f = is f ∙ ap (λ r. extended x r c f) same in
    (λ at. row_is.0 (sym stands ∙ at), λ follows. stands ∙ row_is.1 follows)

-- x = null: it is traditional, and in each region
module _ (n s : ℕ) (c : Fact → Bool) (l : Laws (others n s) c) (clean : IsClean s c) (over : (f : Fact) → c f ≡ true → is_over n f ≡ true) where
  abbrev pub nulled_placed : Placed
  nulled_placed = record { row_in = others n s; row_up = others n s; into_in = λ x. false; into_up = λ x. false; trad = true; present = false }

  pub nulled_row : (news : List Fact) → list_any (λ q. same_fact q (Trad s)) news ≡ true → ((v : ℕ) → others n s v ≡ true → list_any (λ q. same_fact q (In s v)) news ≡ true) → ((f : Fact) → list_any (λ q. same_fact q f) news ≡ true → (f ≡ Trad s) ⊎ ((v : ℕ) × (v < n) × (f ≡ In s v))) → Row n s c news nulled_placed
  nulled_row news root links only = record {
    fits = record {
      row_in = λ x y a b. and_from (nat_lt y n) _ (and_parts (nat_lt x n) _ (over (In x y) b)).1 (truly _ (neither (x == s) (y == s) (clean (In x y) b)).1);
      row_up = λ x y a b. and_from (nat_lt y n) _ (and_parts (nat_lt x n) _ (over (Up x y) b)).1 (truly _ (neither (x == s) (y == s) (clean (Up x y) b)).1);
      into_in = λ x y a b. never b;
      into_up = λ x y a b. never b;
      across_in = λ x y a b. never a;
      across_up = λ x y a b. never a;
      row_wider = λ x a. a;
      into_wider = λ x a. never a;
      row_turns = λ x a b. never a;
      into_turns = λ x a b. never b;
      row_present = λ x a b. never a;
      into_present = λ x a b. never b;
      row_trad = λ x a b. refl;
      into_trad = λ x a b. never a;
      trad_row = λ x a b. and_from (nat_lt x n) _ (over (NonNull x) b) (truly _ (clean (NonNull x) b));
      trad_into = λ x a b. never b;
      trad_row_in = λ x a b d. and_from (nat_lt x n) _ (over (NonNull x) d) (truly _ (clean (NonNull x) d));
      trad_into_in = λ x a b d. never d;
    };
    clear = record { row_in = itself_out; row_up = itself_out; into_in = refl; into_up = refl };
    sound = record {
      row_in = λ x a. stated (or_right (c (In s x)) _ (links x a));
      row_up = λ x a. up_by_in (stated (or_right (c (In s x)) _ (links x a)));
      into_in = λ x a. never a;
      into_up = λ x a. never a;
      present = λ a. never a;
      trad = λ a. stated (or_right (c (Trad s)) _ root);
    };
    has = λ f at. elim (only f at) [
      | inl same ↦ rw same (own_trad s nulled_placed c refl)
      | inr (v, below, same) ↦ rw same (elim (cases_eq v s) [
        | inl equal ↦ (λ i. pair_by (λ a b. c (In a b)) (others n s) (λ x. false) (spot_same s s refl i) (spot_same s v equal i))
        | inr other ↦ own_row_in s nulled_placed c v (ne_eqb v s other) (and_from (nat_lt v n) _ (lt-ltb v n below) (truly _ (ne_eqb v s other)))
      ])
    ];
  }
    where
      itself_out : others n s s ≡ false
      itself_out = not_there (others n s s) (λ is. sym (itself s) ∙ falsely _ (and_parts (nat_lt s n) _ is).1)
