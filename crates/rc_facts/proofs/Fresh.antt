-- What an assignment makes of a closed set.
use Rattle.std.proofs.Common.{◌≡◌, ◌≢◌, ◌∙◌, ◌⊎◌, inl, inr, ◌↔◌, ℕ, ◌<◌, Bool, true, false, ◌||◌, ◌==◌, nat_lt, cond, IsTrue, refl, sym, ap}
use Rattle.std.specs.Prelude.{Some, None}
use Rattle.std.proofs.lemmas.Bool.{or_cases, or_left, or_right, and_from, both_ways, cases_eq, cases_Bool, ne_eqb, lt-ltb, eqb-true, eq-eqb}
use Rattle.rc_facts.specs.declared.fact.Fact.{Fact}
use Rattle.rc_facts.specs.declared.fact.Fact.TheVariants.{In, Up, Trad, NonNull}
use Rattle.rc_facts.specs.Facts.{is_over, names, replaced, with_replaced}
use Rattle.rc_facts.specs.Shut.{IsClean, spot, pair_by, one_by, Placed, extended}
use Rattle.rc_facts.proofs.Shut.{Laws, Fits, laws_all, others, fresh_shut, neither}
use Rattle.rc_facts.specs.Derivable.{Derivable, in_itself, up_by_in}

-- the facts on the fresh variable are derivable
pub record Sound (n s : ℕ) (given : Fact → Bool) (p : Placed) : Type 0 where
  pub row_in : (x : ℕ) → p.row_in x ≡ true → Derivable n given (In s x)
  pub row_up : (x : ℕ) → p.row_up x ≡ true → Derivable n given (Up s x)
  pub into_in : (x : ℕ) → p.into_in x ≡ true → Derivable n given (In x s)
  pub into_up : (x : ℕ) → p.into_up x ≡ true → Derivable n given (Up x s)
  pub trad : p.trad ≡ true → Derivable n given (Trad s)
  pub present : p.present ≡ true → Derivable n given (NonNull s)

pub spot_same : (s x : ℕ) → x ≡ s → spot s x ≡ None
spot_same s x same = ap (λ b. cond b None (Some x)) (eq-eqb x s same)

pub spot_other : (s x : ℕ) → (x == s) ≡ false → spot s x ≡ Some x
spot_other s x other = ap (λ b. cond b None (Some x)) other

pub spot_is : (s x : ℕ) → ((x ≡ s) × (spot s x ≡ None)) ⊎ (spot s x ≡ Some x)
spot_is s x = elim (cases_eq x s) [ inl same ↦ inl (same, spot_same s x same) | inr other ↦ inr (spot_other s x (ne_eqb x s other)) ]

-- facts on others stay
pub extended_old : (s : ℕ) (p : Placed) (c : Fact → Bool) (f : Fact) → names s f ≡ false → extended s p c f ≡ c f
extended_old s p c (In x y) apart = λ i. pair_by (λ a b. c (In a b)) p.row_in p.into_in (spot_other s x (neither (x == s) (y == s) apart).0 i) (spot_other s y (neither (x == s) (y == s) apart).1 i)
extended_old s p c (Up x y) apart = λ i. pair_by (λ a b. c (Up a b)) p.row_up p.into_up (spot_other s x (neither (x == s) (y == s) apart).0 i) (spot_other s y (neither (x == s) (y == s) apart).1 i)
extended_old s p c (Trad x) apart = ap (one_by (λ a. c (Trad a)) p.trad) (spot_other s x apart)
extended_old s p c (NonNull x) apart = ap (one_by (λ a. c (NonNull a)) p.present) (spot_other s x apart)

-- what holds of old facts and of those on the fresh variable holds of all
pub record Each (P : Fact → Type 0) (s : ℕ) (p : Placed) : Type 0 where
  pub own_in : P (In s s)
  pub own_up : P (Up s s)
  pub row_in : (x : ℕ) → p.row_in x ≡ true → P (In s x)
  pub row_up : (x : ℕ) → p.row_up x ≡ true → P (Up s x)
  pub into_in : (x : ℕ) → p.into_in x ≡ true → P (In x s)
  pub into_up : (x : ℕ) → p.into_up x ≡ true → P (Up x s)
  pub trad : p.trad ≡ true → P (Trad s)
  pub present : p.present ≡ true → P (NonNull s)

module _ (P : Fact → Type 0) (s : ℕ) (c : Fact → Bool) (p : Placed) (old : (f : Fact) → c f ≡ true → P f) (new : Each P s p) where
  pairs_each : (fact : ℕ → ℕ → Fact) (row column : ℕ → Bool) → P (fact s s) → ((x : ℕ) → row x ≡ true → P (fact s x)) → ((x : ℕ) → column x ≡ true → P (fact x s)) → (x y : ℕ) → pair_by (λ a b. c (fact a b)) row column (spot s x) (spot s y) ≡ true → P (fact x y)
  pairs_each fact row column own of_row of_column x y is = elim (spot_is s x) [
    | inl (same, none) ↦ elim (spot_is s y) [
      | inl (equal, _) ↦ rw (same, equal) own
      | inr some ↦ rw same (of_row y (sym (λ i. pair_by (λ a b. c (fact a b)) row column (none i) (some i)) ∙ is))
    ]
    | inr there ↦ elim (spot_is s y) [
      | inl (equal, none) ↦ rw equal (of_column x (sym (λ i. pair_by (λ a b. c (fact a b)) row column (there i) (none i)) ∙ is))
      | inr some ↦ old (fact x y) (sym (λ i. pair_by (λ a b. c (fact a b)) row column (there i) (some i)) ∙ is)
    ]
  ]

  ones_each : (fact : ℕ → Fact) (flag : Bool) → (flag ≡ true → P (fact s)) → (x : ℕ) → one_by (λ a. c (fact a)) flag (spot s x) ≡ true → P (fact x)
  ones_each fact flag own x is = elim (spot_is s x) [
    | inl (same, none) ↦ rw same (own (sym (ap (one_by (λ a. c (fact a)) flag) none) ∙ is))
    | inr some ↦ old (fact x) (sym (ap (one_by (λ a. c (fact a)) flag) some) ∙ is)
  ]

  pub extended_each : (f : Fact) → extended s p c f ≡ true → P f
  extended_each (In x y) is = pairs_each (λ a b. In a b) p.row_in p.into_in new.own_in new.row_in new.into_in x y is
  extended_each (Up x y) is = pairs_each (λ a b. Up a b) p.row_up p.into_up new.own_up new.row_up new.into_up x y is
  extended_each (Trad x) is = ones_each (λ a. Trad a) p.trad new.trad x is
  extended_each (NonNull x) is = ones_each (λ a. NonNull a) p.present new.present x is

pub extended_sound : (n s : ℕ) (given c : Fact → Bool) (p : Placed) → s < n → ((f : Fact) → c f ≡ true → Derivable n given f) → Sound n s given p → (f : Fact) → extended s p c f ≡ true → Derivable n given f
extended_sound n s given c p below old new = extended_each (Derivable n given) s c p old (record { own_in = in_itself below; own_up = up_by_in (in_itself below); row_in = new.row_in; row_up = new.row_up; into_in = new.into_in; into_up = new.into_up; trad = new.trad; present = new.present })

-- the extension is over the variables
pub extended_over : (n x : ℕ) (c : Fact → Bool) (p : Placed) → x < n → ((f : Fact) → c f ≡ true → is_over n f ≡ true) → ((y : ℕ) → p.row_in y ≡ true → y < n) → ((y : ℕ) → p.row_up y ≡ true → y < n) → ((y : ℕ) → p.into_in y ≡ true → y < n) → ((y : ℕ) → p.into_up y ≡ true → y < n) → (f : Fact) → extended x p c f ≡ true → is_over n f ≡ true
extended_over n x c p below over row_in row_up into_in into_up =
    let own : nat_lt x n ≡ true = lt-ltb x n below in
    extended_each (λ f. is_over n f ≡ true) x c p over (record {
      own_in = and_from (nat_lt x n) _ own own;
      own_up = and_from (nat_lt x n) _ own own;
      row_in = λ y is. and_from (nat_lt x n) _ own (lt-ltb y n (row_in y is));
      row_up = λ y is. and_from (nat_lt x n) _ own (lt-ltb y n (row_up y is));
      into_in = λ y is. and_from (nat_lt y n) _ (lt-ltb y n (into_in y is)) own;
      into_up = λ y is. and_from (nat_lt y n) _ (lt-ltb y n (into_up y is)) own;
      trad = λ is. own;
      present = λ is. own;
    })

-- what is derivable from a closed set and facts on a fresh variable is the extension, if that fits
pub fresh_exact : (n s : ℕ) (given c : Fact → Bool) (p : Placed) → s < n → Laws (others n s) c → Fits c p → ((f : Fact) → c f ≡ true → Derivable n given f) → Sound n s given p → ((f : Fact) → given f ≡ true → extended s p c f ≡ true) → (f : Fact) → IsTrue (extended s p c f) ↔ Derivable n given f
fresh_exact n s given c p below laws fits old new has f = (extended_sound n s given c p below old new f, λ d. laws_all (fresh_shut n s laws fits) has d)

-- the variable that is written takes the scratch variable's place
spot_replaced : (x s a : ℕ) → (a == s) ≡ false → spot s (replaced x s a) ≡ spot x a
spot_replaced x s a apart = elim (cases_Bool (a == x)) [
  | inl same ↦ ap (λ b. spot s (cond b s a)) same ∙ spot_same s s refl ∙ sym (ap (λ b. cond b None (Some a)) same)
  | inr other ↦ ap (λ b. spot s (cond b s a)) other ∙ spot_other s a apart ∙ sym (ap (λ b. cond b None (Some a)) other)
]

pub extended_replaced : (x s : ℕ) (p : Placed) (c : Fact → Bool) (f : Fact) → names s f ≡ false → extended s p c (with_replaced x s f) ≡ extended x p c f
extended_replaced x s p c (In a b) apart = λ i. pair_by (λ u v. c (In u v)) p.row_in p.into_in (spot_replaced x s a (neither (a == s) (b == s) apart).0 i) (spot_replaced x s b (neither (a == s) (b == s) apart).1 i)
extended_replaced x s p c (Up a b) apart = λ i. pair_by (λ u v. c (Up u v)) p.row_up p.into_up (spot_replaced x s a (neither (a == s) (b == s) apart).0 i) (spot_replaced x s b (neither (a == s) (b == s) apart).1 i)
extended_replaced x s p c (Trad a) apart = ap (one_by (λ u. c (Trad u)) p.trad) (spot_replaced x s a apart)
extended_replaced x s p c (NonNull a) apart = ap (one_by (λ u. c (NonNull u)) p.present) (spot_replaced x s a apart)

-- the facts that are placed don't name the scratch variable
pub record IsClear (s : ℕ) (p : Placed) : Type 0 where
  pub row_in : p.row_in s ≡ false
  pub row_up : p.row_up s ≡ false
  pub into_in : p.into_in s ≡ false
  pub into_up : p.into_up s ≡ false

never_named : (s : ℕ) (c : Fact → Bool) → IsClean s c → (f : Fact) → names s f ≡ true → c f ≡ false
never_named s c clean f named = elim (cases_Bool (c f)) [ inl is ↦ absurd (both_ways (names s f) (clean f is) named) | inr out ↦ out ]

module _ (x s : ℕ) (p : Placed) (c : Fact → Bool) (apart : s ≢ x) (clean : IsClean s c) (clear : IsClear s p) where
  pair_clean : (fact : ℕ → ℕ → Fact) (row column : ℕ → Bool) → ((a b : ℕ) → names s (fact a b) ≡ (a == s || b == s)) → row s ≡ false → column s ≡ false → (a b : ℕ) → (a == s || b == s) ≡ true → pair_by (λ u v. c (fact u v)) row column (spot x a) (spot x b) ≡ false
  pair_clean fact row column named no_row no_column a b is = elim (or_cases (a == s) (b == s) is) [
    | inl first ↦
        let same = eqb-true a s first in
        let here : spot x a ≡ Some s = ap (spot x) same ∙ spot_other x s (ne_eqb s x apart) in
        elim (spot_is x b) [
          | inl (_, none) ↦ (λ i. pair_by (λ u v. c (fact u v)) row column (here i) (none i)) ∙ no_column
          | inr some ↦ (λ i. pair_by (λ u v. c (fact u v)) row column (here i) (some i)) ∙ never_named s c clean (fact s b) (named s b ∙ or_left (s == s) (b == s) (eq-eqb s s refl))
        ]
    | inr second ↦
        let same = eqb-true b s second in
        let here : spot x b ≡ Some s = ap (spot x) same ∙ spot_other x s (ne_eqb s x apart) in
        elim (spot_is x a) [
          | inl (_, none) ↦ (λ i. pair_by (λ u v. c (fact u v)) row column (none i) (here i)) ∙ no_row
          | inr some ↦ (λ i. pair_by (λ u v. c (fact u v)) row column (some i) (here i)) ∙ never_named s c clean (fact a s) (named a s ∙ or_right (a == s) (s == s) (eq-eqb s s refl))
        ]
  ]

  one_clean : (fact : ℕ → Fact) (flag : Bool) → ((a : ℕ) → names s (fact a) ≡ (a == s)) → (a : ℕ) → (a == s) ≡ true → one_by (λ u. c (fact u)) flag (spot x a) ≡ false
  one_clean fact flag named a is =
      let same = eqb-true a s is in
      ap (one_by (λ u. c (fact u)) flag) (ap (spot x) same ∙ spot_other x s (ne_eqb s x apart)) ∙ never_named s c clean (fact s) (named s ∙ eq-eqb s s refl)

  pub extended_clean : (f : Fact) → names s f ≡ true → extended x p c f ≡ false
  extended_clean (In a b) is = pair_clean (λ u v. In u v) p.row_in p.into_in (λ u v. refl) clear.row_in clear.into_in a b is
  extended_clean (Up a b) is = pair_clean (λ u v. Up u v) p.row_up p.into_up (λ u v. refl) clear.row_up clear.into_up a b is
  extended_clean (Trad a) is = one_clean (λ u. Trad u) p.trad (λ u. refl) a is
  extended_clean (NonNull a) is = one_clean (λ u. NonNull u) p.present (λ u. refl) a is

-- what stands behind an assignment is what is placed on the variable, word for word as `Behind` has it
pub assigned_exact : (n s x : ℕ) (given c : Fact → Bool) (p : Placed) → s < n → s ≢ x → Laws (others n s) c → IsClean s c → Fits c p → IsClear s p → ((f : Fact) → c f ≡ true → Derivable n given f) → Sound n s given p → ((f : Fact) → given f ≡ true → extended s p c f ≡ true) → (f : Fact) → IsTrue (extended x p c f) ↔ (Derivable n given (with_replaced x s f) × (names s f ≡ false))
assigned_exact n s x given c p below apart laws clean fits clear old new has f = (
  λ is. elim (cases_Bool (names s f)) [
    | inl named ↦ absurd (both_ways (extended x p c f) (extended_clean x s p c apart clean clear f named) is)
    | inr out ↦ ((fresh_exact n s given c p below laws fits old new has (with_replaced x s f)).0 (extended_replaced x s p c f out ∙ is), out)
  ],
  λ d. sym (extended_replaced x s p c f d.1) ∙ (fresh_exact n s given c p below laws fits old new has (with_replaced x s f)).1 d.0,
)

-- nothing is placed
abbrev pub nothing : Placed
nothing = record { row_in = λ x. false; row_up = λ x. false; into_in = λ x. false; into_up = λ x. false; trad = false; present = false }

never : {P : Type 0} → false ≡ true → P
never e = absurd (both_ways false refl e)

pub nothing_fits : (c : Fact → Bool) → Fits c nothing
nothing_fits c = record {
  row_in = λ x y a b. never a;
  row_up = λ x y a b. never a;
  into_in = λ x y a b. never b;
  into_up = λ x y a b. never b;
  across_in = λ x y a b. never a;
  across_up = λ x y a b. never a;
  row_wider = λ x a. never a;
  into_wider = λ x a. never a;
  row_turns = λ x a b. never a;
  into_turns = λ x a b. never b;
  row_present = λ x a b. never a;
  into_present = λ x a b. never b;
  row_trad = λ x a b. never a;
  into_trad = λ x a b. never a;
  trad_row = λ x a b. never a;
  trad_into = λ x a b. never b;
  trad_row_in = λ x a b d. never a;
  trad_into_in = λ x a b d. never b;
}

-- where no variable is assigned: a set that obeys the laws, has only what is derivable, and has what is given, what is placed on the
-- scratch variable included
pub kept_by : (n s : ℕ) (given d : Fact → Bool) (p : Placed) → Laws (others n s) d → IsClean s d → Fits d p → ((f : Fact) → given f ≡ true → extended s p d f ≡ true) → ((f : Fact) → d f ≡ true → Derivable n given f) → (f : Fact) → IsTrue (d f) ↔ (Derivable n given f × (names s f ≡ false))
kept_by n s given d p laws clean fits has sound f = (
  λ is. (sound f is, clean f is),
  λ follows. sym (extended_old s p d f follows.1) ∙ laws_all (fresh_shut n s laws fits) has follows.0,
)

-- the same where nothing is given of the scratch variable
pub kept_exact : (n s : ℕ) (given d : Fact → Bool) → Laws (others n s) d → IsClean s d → IsClean s given → ((f : Fact) → given f ≡ true → d f ≡ true) → ((f : Fact) → d f ≡ true → Derivable n given f) → (f : Fact) → IsTrue (d f) ↔ (Derivable n given f × (names s f ≡ false))
kept_exact n s given d laws clean clean_given has = kept_by n s given d nothing laws clean (nothing_fits d) (λ g is. extended_old s nothing d g (clean_given g is) ∙ has g is)
