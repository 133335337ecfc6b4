-- A variable that may be null is null: it is traditional, and in every region.
use Rattle.std.proofs.Common.{◌≡◌, ◌≢◌, ◌∙◌, inl, inr, ◌↔◌, ℕ, ◌<◌, Bool, true, false, ◌||◌, ◌==◌, nat_lt, IsTrue, refl, sym, ap}
use Rattle.std.proofs.lemmas.Bool.{or_cases, or_left, or_right, and_parts, and_from, both_ways, ne_eqb, lt-ltb, eqb-true, eq-eqb, ltb-true, cases_eq}
use Rattle.rc_facts.specs.declared.fact.Fact.{Fact}
use Rattle.rc_facts.specs.declared.fact.Fact.TheVariants.{In, Up, Trad, NonNull}
use Rattle.rc_facts.specs.Facts.{is_over, names, same_fact}
use Rattle.rc_facts.specs.Inside.{fact_by}
use Rattle.rc_facts.specs.Null.{null_news}
use Rattle.rc_facts.specs.Shut.{together, IsShut, IsClean, IsBehind, Placed, extended, pair_by}
use Rattle.rc_facts.specs.Steps.{IsWidened, Settles}
use Rattle.rc_facts.proofs.Closes.{derivable_over}
use Rattle.rc_facts.proofs.Assigning.{is_other, null_links, null_only}
use Rattle.rc_facts.proofs.Shut.{Laws, Fits, laws_of, others, falsely, truly, neither, none_of}
use Rattle.rc_facts.proofs.Fresh.{extended_old, kept_by, spot_same, spot_other}
use Rattle.rc_facts.proofs.Widened.{Links, linked, links_of, settled, settled_sound, settled_clean, settled_has}
use Rattle.rc_facts.specs.Derivable.{Derivable, stated, in_through, up_through, up_by_in}

never : {P : Type 0} → false ≡ true → P
never e = absurd (both_ways false refl e)

itself : (x : ℕ) → (x == x) ≡ true
itself x = eq-eqb x x refl

module _ (n y s : ℕ) (in0 up0 ins ups : ℕ → ℕ → Bool) (trad0 present0 trad all : ℕ → Bool) (over : (f : Fact) → fact_by in0 up0 trad0 present0 f ≡ true → is_over n f ≡ true) (below : y < n) (trad_is : (k : ℕ) → trad k ≡ (trad0 k || k == y)) (all_is : (k : ℕ) → all k ≡ others n s k) (wide_in : IsWidened in0 ins (λ k. k == y) all) (wide_up : IsWidened up0 ups (λ k. k == y) all) {ins_after ups_after : ℕ → ℕ → Bool} {trad_after : ℕ → Bool} (settles : Settles n present0 ins ups trad ins_after ups_after trad_after) where
  abbrev c : Fact → Bool
  c = fact_by in0 up0 trad0 present0

  abbrev given : Fact → Bool
  given = together c (null_news n y)

  abbrev d : Fact → Bool
  d = fact_by ins_after ups_after trad_after present0

  old : (f : Fact) → c f ≡ true → Derivable n given f
  old f is = stated (or_left (c f) _ is)

  all_below : (k : ℕ) → all k ≡ true → k < n
  all_below k at = ltb-true k n (and_parts (nat_lt k n) _ (sym (all_is k) ∙ at)).0

  all_apart : (k : ℕ) → all k ≡ true → (k == s) ≡ false
  all_apart k at = falsely _ (and_parts (nat_lt k n) _ (sym (all_is k) ∙ at)).1

  link : (k : ℕ) → all k ≡ true → Derivable n given (In y k)
  link k at = stated (or_right (in0 y k) _ (or_right (same_fact (Trad y) (In y k)) _ (null_links n y k (all_below k at))))

  middle_sound : (g : Fact) → fact_by ins ups trad present0 g ≡ true → Derivable n given g
  middle_sound (In a b) is = elim ((wide_in a b).0 is) [
    | inl was ↦ old (In a b) was
    | inr ((k, to, at), last) ↦ in_through {y = y} (old (In a y) (sym (ap (in0 a) (eqb-true k y at)) ∙ to)) (link b last)
  ]
  middle_sound (Up a b) is = elim ((wide_up a b).0 is) [
    | inl was ↦ old (Up a b) was
    | inr ((k, to, at), last) ↦ up_through {y = y} (old (Up a y) (sym (ap (up0 a) (eqb-true k y at)) ∙ to)) (up_by_in (link b last))
  ]
  middle_sound (Trad a) is = elim (or_cases (trad0 a) _ (sym (trad_is a) ∙ is)) [
    | inl was ↦ old (Trad a) was
    | inr same ↦ rw (eqb-true a y same) (stated (or_right (trad0 y) _ (or_left (y == y) _ (itself y))))
  ]
  middle_sound (NonNull a) is = old (NonNull a) is

  given_over : (f : Fact) → given f ≡ true → is_over n f ≡ true
  given_over f is = elim (or_cases (c f) _ is) [
    | inl was ↦ over f was
    | inr new ↦ elim (null_only n y f new) [
      | inl same ↦ rw same (lt-ltb y n below)
      | inr (v, under, same) ↦ rw same (and_from (nat_lt y n) _ (lt-ltb y n below) (lt-ltb v n under))
    ]
  ]

  pub null_over : (g : Fact) → d g ≡ true → is_over n g ≡ true
  null_over g is = derivable_over given_over (settled_sound settles middle_sound g is)

  pub null_exact : present0 y ≡ false → s ≢ y → IsShut n s c → IsClean s c → (g : Fact) → IsTrue (d g) ↔ IsBehind n s c (null_news n y) g
  null_exact absent apart shut clean = kept_by n s given d onto
      (settled links settles (λ a is. null_over (Trad a) is))
      (settled_clean settles s middle_clean)
      onto_fits
      has
      (settled_sound settles middle_sound)
    where
      l : Laws (others n s) c
      l = laws_of n s c shut clean

      inside : others n s y ≡ true
      inside = is_other n s y below apart

      y_in : in0 y y ≡ true
      y_in = l.itself y inside

      y_out : (y == s) ≡ false
      y_out = ne_eqb y s (λ e. apart (sym e))

      missing : {P : Type 0} → present0 y ≡ true → P
      missing there = absurd (both_ways (present0 y) absent there)

      links : Links (others n s) ins ups present0 present0
      links = linked {present = present0} {more = all} {above = all} {v = y} (links_of l) (record {
        more_in = λ a b at to. all_is b ∙ is_known (In a b) b to (and_parts (nat_lt a n) _ (over (In a b) to)).1 (neither (a == s) (b == s) (clean (In a b) to)).1;
        above_up = λ a b at to. all_is b ∙ is_known (Up a b) b to (and_parts (nat_lt a n) _ (over (Up a b) to)).1 (neither (a == s) (b == s) (clean (Up a b) to)).1;
        wider = λ a at. at;
        free = λ a there at. missing there;
        there = λ a there at. missing there;
      }) wide_in wide_up
        where
          is_known : (f : Fact) (b : ℕ) → c f ≡ true → nat_lt b n ≡ true → (b == s) ≡ false → others n s b ≡ true
          is_known f b to under out = and_from (nat_lt b n) _ under (truly _ out)

      middle_clean : (g : Fact) → fact_by ins ups trad present0 g ≡ true → names s g ≡ false
      middle_clean (In a b) is = elim ((wide_in a b).0 is) [
        | inl was ↦ clean (In a b) was
        | inr ((k, to, _), last) ↦ none_of (a == s) (b == s) (neither (a == s) (k == s) (clean (In a k) to)).0 (all_apart b last)
      ]
      middle_clean (Up a b) is = elim ((wide_up a b).0 is) [
        | inl was ↦ clean (Up a b) was
        | inr ((k, to, _), last) ↦ none_of (a == s) (b == s) (neither (a == s) (k == s) (clean (Up a k) to)).0 (all_apart b last)
      ]
      middle_clean (Trad a) is = elim (or_cases (trad0 a) _ (sym (trad_is a) ∙ is)) [ inl was ↦ clean (Trad a) was | inr same ↦ rw (eqb-true a y same) y_out ]
      middle_clean (NonNull a) is = clean (NonNull a) is

      middle_has : (g : Fact) → c g ≡ true → fact_by ins ups trad present0 g ≡ true
      middle_has (In a b) is = (wide_in a b).1 (inl is)
      middle_has (Up a b) is = (wide_up a b).1 (inl is)
      middle_has (Trad a) is = trad_is a ∙ or_left (trad0 a) _ is
      middle_has (NonNull a) is = is

      k : Laws (others n s) d
      k = settled links settles (λ a is. null_over (Trad a) is)

      -- the null variable is in the scratch variable's region too
      onto : Placed
      onto = record { row_in = λ x. false; row_up = λ x. false; into_in = λ x. ins_after x y; into_up = λ x. ups_after x y; trad = false; present = false }

      onto_fits : Fits d onto
      onto_fits = record {
        row_in = λ a b one two. never one;
        row_up = λ a b one two. never one;
        into_in = λ a b one two. k.in_in a b y one two;
        into_up = λ a b one two. k.up_up a b y one two;
        across_in = λ a b one two. never two;
        across_up = λ a b one two. never two;
        row_wider = λ x a. never a;
        into_wider = λ x a. k.in_up x y a;
        row_turns = λ x a b. never a;
        into_turns = λ x a b. missing (k.up_present x y (k.in_up x y b) a);
        row_present = λ x a b. never a;
        into_present = λ x a b. missing (k.up_present x y b a);
        row_trad = λ x a b. never a;
        into_trad = λ x a b. never b;
        trad_row = λ x a b. never a;
        trad_into = λ x a b. never b;
        trad_row_in = λ x a b e. never a;
        trad_into_in = λ x a b e. never e;
      }

      has : (f : Fact) → given f ≡ true → extended s onto d f ≡ true
      has f is = elim (or_cases (c f) _ is) [
        | inl was ↦ extended_old s onto d f (clean f was) ∙ settled_has settles f (middle_has f was)
        | inr new ↦ elim (null_only n y f new) [
          | inl same ↦ rw same (extended_old s onto d (Trad y) y_out ∙ settled_has settles (Trad y) (trad_is y ∙ or_right (trad0 y) _ (itself y)))
          | inr (v, under, same) ↦ rw same (elim (cases_eq v s) [
            | inl equal ↦ (λ i. pair_by (λ a b. d (In a b)) onto.row_in onto.into_in (spot_other s y y_out i) (spot_same s v equal i)) ∙ settled_has settles (In y y) ((wide_in y y).1 (inl y_in))
            | inr other ↦ extended_old s onto d (In y v) (none_of (y == s) (v == s) y_out (ne_eqb v s other)) ∙ settled_has settles (In y v) ((wide_in y v).1 (inr ((y, y_in, itself y), all_is v ∙ and_from (nat_lt v n) _ (lt-ltb v n under) (truly _ (ne_eqb v s other)))))
          ])
        ]
      ]
