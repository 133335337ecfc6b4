-- Facts that are added to a closed set: each step keeps the laws.
use Rattle.std.proofs.Common.{◌≡◌, ◌∙◌, ◌⊎◌, inl, inr, ℕ, Bool, true, false, ◌==◌, nat_lt, sym, ap}
use Rattle.std.proofs.lemmas.Bool.{or_cases, or_left, or_right, and_parts, and_from, eqb-true}
use Rattle.rc_facts.specs.declared.fact.Fact.{Fact}
use Rattle.rc_facts.specs.declared.fact.Fact.TheVariants.{In, Up, Trad, NonNull}
use Rattle.rc_facts.specs.Inside.{fact_by}
use Rattle.rc_facts.specs.Steps.{Meets, IsWidened, Settles}
use Rattle.rc_facts.specs.Facts.{names}
use Rattle.rc_facts.proofs.Shut.{Laws, neither, none_of}
use Rattle.rc_facts.specs.Derivable.{Derivable, in_through, up_through, trad_by_up, up_by_trad, in_by_trad}

-- the laws without traditional variables, where those links within a region that lead from `turned` are turned round
pub record Links (dom : ℕ → Bool) (ins ups : ℕ → ℕ → Bool) (turned present : ℕ → Bool) : Type 0 where
  pub itself : (x : ℕ) → dom x ≡ true → ins x x ≡ true
  pub in_in : (x y z : ℕ) → ins x y ≡ true → ins y z ≡ true → ins x z ≡ true
  pub up_up : (x y z : ℕ) → ups x y ≡ true → ups y z ≡ true → ups x z ≡ true
  pub in_up : (x y : ℕ) → ins x y ≡ true → ups x y ≡ true
  pub turns : (x y : ℕ) → ins x y ≡ true → turned x ≡ true → ins y x ≡ true
  pub up_present : (x y : ℕ) → ups x y ≡ true → present x ≡ true → present y ≡ true

-- links are widened: those that lead to the entry lead to `more` of the region, and to `above`
pub record Widening (ins ups ins_after : ℕ → ℕ → Bool) (turned turned_after present : ℕ → Bool) (entry more above : ℕ → Bool) : Type 0 where
  pub more_in : (x y : ℕ) → more x ≡ true → ins x y ≡ true → more y ≡ true
  pub above_up : (x y : ℕ) → above x ≡ true → ups x y ≡ true → above y ≡ true
  pub wider : (x : ℕ) → more x ≡ true → above x ≡ true
  pub turns_new : (x y : ℕ) → turned_after x ≡ true → Meets ins entry x → more y ≡ true → ins_after y x ≡ true
  pub turns_old : (x y : ℕ) → turned_after x ≡ true → ins x y ≡ true → ins_after y x ≡ true
  pub presents : (x y : ℕ) → present x ≡ true → Meets ups entry x → above y ≡ true → present y ≡ true

module _ {dom : ℕ → Bool} {ins ups ins_after ups_after : ℕ → ℕ → Bool} {turned turned_after present entry more above : ℕ → Bool} (l : Links dom ins ups turned present) (w : Widening ins ups ins_after turned turned_after present entry more above) (is_in : IsWidened ins ins_after entry more) (is_up : IsWidened ups ups_after entry above) where
  pub widened : Links dom ins_after ups_after turned_after present
  widened = record {
    itself = λ x is. (is_in x x).1 (inl (l.itself x is));
    in_in = λ x y z one other. elim ((is_in x y).0 one) [
      | inl a ↦ elim ((is_in y z).0 other) [
        | inl b ↦ (is_in x z).1 (inl (l.in_in x y z a b))
        | inr ((k, b, at), there) ↦ (is_in x z).1 (inr ((k, l.in_in x y k a b, at), there))
      ]
      | inr (meets, there) ↦ elim ((is_in y z).0 other) [
        | inl b ↦ (is_in x z).1 (inr (meets, w.more_in y z there b))
        | inr (_, last) ↦ (is_in x z).1 (inr (meets, last))
      ]
    ];
    up_up = λ x y z one other. elim ((is_up x y).0 one) [
      | inl a ↦ elim ((is_up y z).0 other) [
        | inl b ↦ (is_up x z).1 (inl (l.up_up x y z a b))
        | inr ((k, b, at), there) ↦ (is_up x z).1 (inr ((k, l.up_up x y k a b, at), there))
      ]
      | inr (meets, there) ↦ elim ((is_up y z).0 other) [
        | inl b ↦ (is_up x z).1 (inr (meets, w.above_up y z there b))
        | inr (_, last) ↦ (is_up x z).1 (inr (meets, last))
      ]
    ];
    in_up = λ x y one. elim ((is_in x y).0 one) [
      | inl a ↦ (is_up x y).1 (inl (l.in_up x y a))
      | inr ((k, a, at), there) ↦ (is_up x y).1 (inr ((k, l.in_up x k a, at), w.wider y there))
    ];
    turns = λ x y one there. elim ((is_in x y).0 one) [
      | inl a ↦ w.turns_old x y there a
      | inr (meets, last) ↦ w.turns_new x y there meets last
    ];
    up_present = λ x y one there. elim ((is_up x y).0 one) [
      | inl a ↦ l.up_present x y a there
      | inr (meets, last) ↦ w.presents x y there meets last
    ];
  }

-- the variables of a region are linked to each other, and to what each of them is above
pub record Class (dom : ℕ → Bool) (ins ups : ℕ → ℕ → Bool) (turned turned_after present : ℕ → Bool) (class above : ℕ → Bool) : Type 0 where
  pub inside : (x : ℕ) → class x ≡ true → dom x ≡ true
  pub class_in : (x y : ℕ) → class x ≡ true → ins x y ≡ true → class y ≡ true
  pub above_up : (x y : ℕ) → above x ≡ true → ups x y ≡ true → above y ≡ true
  pub wider : (x : ℕ) → class x ≡ true → above x ≡ true
  pub there : (x : ℕ) → above x ≡ true → present x ≡ true
  pub more_turned : (x : ℕ) → turned_after x ≡ true → (turned x ≡ true) ⊎ (class x ≡ true)

module _ {dom : ℕ → Bool} {ins ups ins_after ups_after : ℕ → ℕ → Bool} {turned turned_after present class above : ℕ → Bool} (l : Links dom ins ups turned present) (k : Class dom ins ups turned turned_after present class above) (is_in : IsWidened ins ins_after class class) (is_up : IsWidened ups ups_after class above) where
  back_to : (x y : ℕ) → class y ≡ true → class x ≡ true → ins_after y x ≡ true
  back_to x y at here = (is_in y x).1 (inr ((y, l.itself y (k.inside y at), at), here))

  pub joined : Links dom ins_after ups_after turned_after present
  joined = widened {turned = turned} {entry = class} {more = class} {above = above} l (record {
    more_in = k.class_in;
    above_up = k.above_up;
    wider = k.wider;
    turns_new = λ x y there (u, a, at) last. elim (k.more_turned x there) [
      | inl old ↦ back_to x y last (k.class_in u x at (l.turns x u a old))
      | inr here ↦ back_to x y last here
    ];
    turns_old = λ x y there a. elim (k.more_turned x there) [
      | inl old ↦ (is_in y x).1 (inl (l.turns x y a old))
      | inr here ↦ back_to x y (k.class_in x y here a) here
    ];
    presents = λ x y _ _ last. k.there y last;
  }) is_in is_up

-- links are added from one variable, which may be null
pub record From (ins ups : ℕ → ℕ → Bool) (present : ℕ → Bool) (v : ℕ) (more above : ℕ → Bool) : Type 0 where
  pub more_in : (x y : ℕ) → more x ≡ true → ins x y ≡ true → more y ≡ true
  pub above_up : (x y : ℕ) → above x ≡ true → ups x y ≡ true → above y ≡ true
  pub wider : (x : ℕ) → more x ≡ true → above x ≡ true
  -- either it may be null, or no link within the region is added and all that is added isn't null
  pub free : (y : ℕ) → present v ≡ true → more y ≡ true → ⊥
  pub there : (y : ℕ) → present v ≡ true → above y ≡ true → present y ≡ true

module _ {dom : ℕ → Bool} {ins ups ins_after ups_after : ℕ → ℕ → Bool} {present more above : ℕ → Bool} {v : ℕ} (l : Links dom ins ups present present) (k : From ins ups present v more above) (is_in : IsWidened ins ins_after (λ x. x == v) more) (is_up : IsWidened ups ups_after (λ x. x == v) above) where
  pub linked : Links dom ins_after ups_after present present
  linked = widened {turned = present} {entry = λ x. x == v} {more = more} {above = above} l (record {
    more_in = k.more_in;
    above_up = k.above_up;
    wider = k.wider;
    turns_new = λ x y there (u, a, at) last.
        let v_there : present v ≡ true = sym (ap present (eqb-true u v at)) ∙ l.up_present x u (l.in_up x u a) there in
        absurd (k.free y v_there last);
    turns_old = λ x y there a. (is_in y x).1 (inl (l.turns x y a there));
    presents = λ x y there (u, a, at) last. k.there y (sym (ap present (eqb-true u v at)) ∙ l.up_present x u a there) last;
  }) is_in is_up

-- what is linked then is derivable
pub widened_in : {n : ℕ} {given : Fact → Bool} {ins ins_after : ℕ → ℕ → Bool} {entry more : ℕ → Bool} → IsWidened ins ins_after entry more → ((x y : ℕ) → ins x y ≡ true → Derivable n given (In x y)) → ((x y : ℕ) → entry x ≡ true → more y ≡ true → Derivable n given (In x y)) → (x y : ℕ) → ins_after x y ≡ true → Derivable n given (In x y)
widened_in wide old new x y is = elim ((wide x y).0 is) [ inl a ↦ old x y a | inr ((k, a, at), last) ↦ in_through {y = k} (old x k a) (new k y at last) ]

pub widened_up : {n : ℕ} {given : Fact → Bool} {ups ups_after : ℕ → ℕ → Bool} {entry more : ℕ → Bool} → IsWidened ups ups_after entry more → ((x y : ℕ) → ups x y ≡ true → Derivable n given (Up x y)) → ((x y : ℕ) → entry x ≡ true → more y ≡ true → Derivable n given (Up x y)) → (x y : ℕ) → ups_after x y ≡ true → Derivable n given (Up x y)
widened_up wide old new x y is = elim ((wide x y).0 is) [ inl a ↦ old x y a | inr ((k, a, at), last) ↦ up_through {y = k} (old x k a) (new k y at last) ]

-- the last step: the laws with traditional variables
module _ {n : ℕ} {ins ups : ℕ → ℕ → Bool} {trad present : ℕ → Bool} {ins_after ups_after : ℕ → ℕ → Bool} {trad_after : ℕ → Bool} (s : Settles n present ins ups trad ins_after ups_after trad_after) where
  in_stays : (x y : ℕ) → ins x y ≡ true → ins_after x y ≡ true
  in_stays x y is = s.in_rooted x y ∙ or_left (ins x y) _ is

  up_stays : (x y : ℕ) → ups x y ≡ true → ups_after x y ≡ true
  up_stays x y is = s.up_rooted x y ∙ or_left (ups x y) _ is

  in_cases : (x y : ℕ) → ins_after x y ≡ true → (ins x y ≡ true) ⊎ ((trad_after x ≡ true) × (trad_after y ≡ true) × (present y ≡ true))
  in_cases x y is = elim (or_cases (ins x y) _ (sym (s.in_rooted x y) ∙ is)) [
    | inl old ↦ inl old
    | inr more ↦
        let all = and_parts (trad_after x) _ (and_parts (nat_lt x n) _ more).1 in
        let last = and_parts (trad_after y) _ all.1 in
        inr (all.0, last.0, last.1)
  ]

  up_cases : (x y : ℕ) → ups_after x y ≡ true → (ups x y ≡ true) ⊎ ((trad_after x ≡ true) × (present y ≡ true))
  up_cases x y is = elim (or_cases (ups x y) _ (sym (s.up_rooted x y) ∙ is)) [
    | inl old ↦ inl old
    | inr more ↦ inr (and_parts (trad_after x) _ (and_parts (nat_lt x n) _ more).1)
  ]

  -- what holds of all facts, and goes along the rules of traditional variables, holds of what is there then
  pub settled_each : (P : Fact → Type 0) → ((x y : ℕ) → P (Up x y) → P (Trad y) → P (Trad x)) → ((x y : ℕ) → P (Trad x) → P (NonNull y) → P (Up x y)) → ((x y : ℕ) → P (Trad x) → P (Trad y) → P (NonNull y) → P (In x y)) → ((f : Fact) → fact_by ins ups trad present f ≡ true → P f) → (f : Fact) → fact_by ins_after ups_after trad_after present f ≡ true → P f
  settled_each P to_trad to_up to_in old f is = by f is
    where
      roots : (x : ℕ) → trad_after x ≡ true → P (Trad x)
      roots x root = elim ((s.inherited x).0 root) [ inl a ↦ old (Trad x) a | inr (y, above, a) ↦ to_trad x y (old (Up x y) above) (old (Trad y) a) ]

      by : (g : Fact) → fact_by ins_after ups_after trad_after present g ≡ true → P g
      by (In x y) at = elim (in_cases x y at) [ inl a ↦ old (In x y) a | inr (root, other, there) ↦ to_in x y (roots x root) (roots y other) (old (NonNull y) there) ]
      by (Up x y) at = elim (up_cases x y at) [ inl a ↦ old (Up x y) a | inr (root, there) ↦ to_up x y (roots x root) (old (NonNull y) there) ]
      by (Trad x) at = roots x at
      by (NonNull x) at = old (NonNull x) at

  pub settled_sound : {m : ℕ} {given : Fact → Bool} → ((f : Fact) → fact_by ins ups trad present f ≡ true → Derivable m given f) → (f : Fact) → fact_by ins_after ups_after trad_after present f ≡ true → Derivable m given f
  settled_sound {m} {given} = settled_each (Derivable m given) (λ x y a b. trad_by_up {y = y} a b) (λ x y a b. up_by_trad a b) (λ x y a b d. in_by_trad a b d)

  pub settled_clean : (v : ℕ) → ((f : Fact) → fact_by ins ups trad present f ≡ true → names v f ≡ false) → (f : Fact) → fact_by ins_after ups_after trad_after present f ≡ true → names v f ≡ false
  settled_clean v = settled_each (λ f. names v f ≡ false) (λ x y a b. (neither (x == v) (y == v) a).0) (λ x y a b. none_of (x == v) (y == v) a b) (λ x y a b d. none_of (x == v) (y == v) a b)

  -- and it has what was there
  pub settled_has : (f : Fact) → fact_by ins ups trad present f ≡ true → fact_by ins_after ups_after trad_after present f ≡ true
  settled_has (In x y) is = in_stays x y is
  settled_has (Up x y) is = up_stays x y is
  settled_has (Trad x) is = (s.inherited x).1 (inl is)
  settled_has (NonNull x) is = is

module _ {n : ℕ} {dom : ℕ → Bool} {ins ups : ℕ → ℕ → Bool} {trad present : ℕ → Bool} {ins_after ups_after : ℕ → ℕ → Bool} {trad_after : ℕ → Bool} (l : Links dom ins ups present present) (s : Settles n present ins ups trad ins_after ups_after trad_after) (few : (x : ℕ) → trad_after x ≡ true → nat_lt x n ≡ true) where
  rooted_up : (x y : ℕ) → trad_after x ≡ true → present y ≡ true → ups_after x y ≡ true
  rooted_up x y root there = s.up_rooted x y ∙ or_right (ups x y) _ (and_from (nat_lt x n) _ (few x root) (and_from (trad_after x) _ root there))

  rooted_in : (x y : ℕ) → trad_after x ≡ true → trad_after y ≡ true → present y ≡ true → ins_after x y ≡ true
  rooted_in x y root other there = s.in_rooted x y ∙ or_right (ins x y) _ (and_from (nat_lt x n) _ (few x root) (and_from (trad_after x) _ root (and_from (trad_after y) _ other there)))

  up_trad : (x y : ℕ) → ups x y ≡ true → trad_after y ≡ true → trad_after x ≡ true
  up_trad x y is root = elim ((s.inherited y).0 root) [
    | inl old ↦ (s.inherited x).1 (inr (y, is, old))
    | inr (z, above, old) ↦ (s.inherited x).1 (inr (z, l.up_up x y z is above, old))
  ]

  in_in : (x y z : ℕ) → ins_after x y ≡ true → ins_after y z ≡ true → ins_after x z ≡ true
  in_in x y z one other = elim (in_cases s x y one) [
    | inl a ↦ elim (in_cases s y z other) [
      | inl b ↦ in_stays s x z (l.in_in x y z a b)
      | inr (root, more, there) ↦ rooted_in x z (up_trad x y (l.in_up x y a) root) more there
    ]
    | inr (root, more, there) ↦ elim (in_cases s y z other) [
      | inl b ↦
          let back = l.turns y z b there in
          rooted_in x z root (up_trad z y (l.in_up z y back) more) (l.up_present y z (l.in_up y z b) there)
      | inr (_, last, present_z) ↦ rooted_in x z root last present_z
    ]
  ]

  up_up : (x y z : ℕ) → ups_after x y ≡ true → ups_after y z ≡ true → ups_after x z ≡ true
  up_up x y z one other = elim (up_cases s x y one) [
    | inl a ↦ elim (up_cases s y z other) [
      | inl b ↦ up_stays s x z (l.up_up x y z a b)
      | inr (root, there) ↦ rooted_up x z (up_trad x y a root) there
    ]
    | inr (root, there) ↦ elim (up_cases s y z other) [
      | inl b ↦ rooted_up x z root (l.up_present y z b there)
      | inr (_, present_z) ↦ rooted_up x z root present_z
    ]
  ]

  turns : (x y : ℕ) → ins_after x y ≡ true → present x ≡ true → ins_after y x ≡ true
  turns x y is there = elim (in_cases s x y is) [
    | inl a ↦ in_stays s y x (l.turns x y a there)
    | inr (root, other, _) ↦ rooted_in y x other root there
  ]

  up_present : (x y : ℕ) → ups_after x y ≡ true → present x ≡ true → present y ≡ true
  up_present x y is there = elim (up_cases s x y is) [ inl a ↦ l.up_present x y a there | inr (_, present_y) ↦ present_y ]

  all_trad : (x y : ℕ) → ups_after x y ≡ true → trad_after y ≡ true → trad_after x ≡ true
  all_trad x y is root = elim (up_cases s x y is) [ inl a ↦ up_trad x y a root | inr (other, _) ↦ other ]

  pub settled : Laws dom (fact_by ins_after ups_after trad_after present)
  settled = record {
    itself = λ x is. in_stays s x x (l.itself x is);
    in_in = in_in;
    up_up = up_up;
    in_up = λ x y is. elim (in_cases s x y is) [ inl a ↦ up_stays s x y (l.in_up x y a) | inr (root, _, there) ↦ rooted_up x y root there ];
    turns = turns;
    up_present = up_present;
    up_trad = all_trad;
    trad_up = rooted_up;
    trad_in = rooted_in;
  }

-- the laws have the links of the laws
pub links_of : {dom : ℕ → Bool} {c : Fact → Bool} → Laws dom c → Links dom (λ x y. c (In x y)) (λ x y. c (Up x y)) (λ x. c (NonNull x)) (λ x. c (NonNull x))
links_of l = record { itself = l.itself; in_in = l.in_in; up_up = l.up_up; in_up = l.in_up; turns = l.turns; up_present = l.up_present }
