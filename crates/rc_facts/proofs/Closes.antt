-- Why the steps of `close` leave exactly what is derivable.
use Rattle.std.proofs.Common.{◌≡◌, ◌∙◌, ◌⊎◌, inl, inr, ◌↔◌, ℕ, ◌<◌, Bool, true, ◌&&◌, ◌||◌, ◌==◌, nat_lt, IsTrue, refl, sym, ap}
use Rattle.std.proofs.lemmas.Bool.{or_cases, or_left, or_right, and_parts, and_from, ltb-true, lt-ltb, eqb-true, eq-eqb}
use Rattle.rc_facts.specs.declared.fact.Fact.{Fact}
use Rattle.rc_facts.specs.declared.fact.Fact.TheVariants.{In, Up, Trad, NonNull}
use Rattle.rc_facts.specs.Facts.{is_over}
use Rattle.rc_facts.specs.Inside.{fact_by}
use Rattle.rc_facts.specs.Rows.{Chain, link, join, Reached, here, next, either_step}
use Rattle.rc_facts.proofs.RowLaws.{chain_end}
use Rattle.rc_facts.specs.Derivable.{Derivable, stated, in_itself, in_through, up_through, up_by_in, in_back, present_by_in, present_by_up, trad_by_up, up_by_trad, in_by_trad}

-- what is derivable from facts over n variables is over them
pub derivable_over : {n : ℕ} {given : Fact → Bool} {fact : Fact} → ((f : Fact) → given f ≡ true → is_over n f ≡ true) → Derivable n given fact → is_over n fact ≡ true
derivable_over over (stated is) = over _ is
derivable_over over (in_itself {x} below) = and_from (nat_lt x _) _ (lt-ltb x _ below) (lt-ltb x _ below)
derivable_over over (in_through {x} {y} {z} one other) = and_from (nat_lt x _) _ (and_parts (nat_lt x _) _ (derivable_over over one)).0 (and_parts (nat_lt y _) _ (derivable_over over other)).1
derivable_over over (up_through {x} {y} {z} one other) = and_from (nat_lt x _) _ (and_parts (nat_lt x _) _ (derivable_over over one)).0 (and_parts (nat_lt y _) _ (derivable_over over other)).1
derivable_over over (up_by_in one) = derivable_over over one
derivable_over over (in_back {x} {y} one other) = and_from (nat_lt y _) _ (and_parts (nat_lt x _) _ (derivable_over over one)).1 (derivable_over over other)
derivable_over over (present_by_in {x} {y} one other) = (and_parts (nat_lt x _) _ (derivable_over over one)).1
derivable_over over (present_by_up {x} {y} one other) = (and_parts (nat_lt x _) _ (derivable_over over one)).1
derivable_over over (trad_by_up {x} {y} one other) = (and_parts (nat_lt x _) _ (derivable_over over one)).0
derivable_over over (up_by_trad {x} {y} one other) = and_from (nat_lt x _) _ (derivable_over over one) (derivable_over over other)
derivable_over over (in_by_trad {x} {y} one _ other) = and_from (nat_lt x _) _ (derivable_over over one) (derivable_over over other)

-- the tests after each step, from those before the first
pub record Closes (n : ℕ) (in0 up0 : ℕ → ℕ → Bool) (trad0 present0 : ℕ → Bool) (present : ℕ → Bool) (in1 in2 up1 up2 : ℕ → ℕ → Bool) (trad : ℕ → Bool) (in3 up3 : ℕ → ℕ → Bool) : Type 0 where
  pub spread : (x : ℕ) → IsTrue (present x) ↔ Reached present0 (either_step in0 up0) x
  pub mirrored : (x y : ℕ) → in1 x y ≡ (in0 x y || (nat_lt x n && (x == y || (in0 y x && present y))))
  pub in_chained : (x y : ℕ) → IsTrue (in2 x y) ↔ Chain in1 x y
  pub widened : (x y : ℕ) → up1 x y ≡ (up0 x y || in2 x y)
  pub up_chained : (x y : ℕ) → IsTrue (up2 x y) ↔ Chain up1 x y
  pub inherited : (x : ℕ) → IsTrue (trad x) ↔ (IsTrue (trad0 x) ⊎ ((y : ℕ) × IsTrue (up2 x y) × IsTrue (trad0 y)))
  pub up_rooted : (x y : ℕ) → up3 x y ≡ (up2 x y || (nat_lt x n && (trad x && present y)))
  pub in_rooted : (x y : ℕ) → in3 x y ≡ (in2 x y || (nat_lt x n && (trad x && (trad y && present y))))

module _ {n : ℕ} {in0 up0 : ℕ → ℕ → Bool} {trad0 present0 present : ℕ → Bool} {in1 in2 up1 up2 : ℕ → ℕ → Bool} {trad : ℕ → Bool} {in3 up3 : ℕ → ℕ → Bool} (s : Closes n in0 up0 trad0 present0 present in1 in2 up1 up2 trad in3 up3) (over : (f : Fact) → fact_by in0 up0 trad0 present0 f ≡ true → is_over n f ≡ true) where
  abbrev Follows : Fact → Type 0
  Follows fact = Derivable n (fact_by in0 up0 trad0 present0) fact

  -- each fact that a step adds is derivable
  reached_follows : {x : ℕ} → Reached present0 (either_step in0 up0) x → Follows (NonNull x)
  reached_follows (here is) = stated is
  reached_follows (next {x} {y} before step) = elim (or_cases (in0 x y) _ step) [
    | inl is ↦ present_by_in {x = x} (stated is) (reached_follows before)
    | inr is ↦ present_by_up {x = x} (stated is) (reached_follows before)
  ]

  present_follows : (x : ℕ) → present x ≡ true → Follows (NonNull x)
  present_follows x is = reached_follows ((s.spread x).0 is)

  in1_follows : (x y : ℕ) → in1 x y ≡ true → Follows (In x y)
  in1_follows x y is = elim (or_cases (in0 x y) _ (sym (s.mirrored x y) ∙ is)) [
    | inl old ↦ stated old
    | inr more ↦
        let parts = and_parts (nat_lt x n) _ more in
        elim (or_cases (x == y) _ parts.1) [
          | inl same ↦ rw (← eqb-true x y same) (in_itself (ltb-true x n parts.0))
          | inr back ↦
              let both = and_parts (in0 y x) _ back in
              in_back {x = y} (stated both.0) (present_follows y both.1)
        ]
  ]

  in_chain_follows : {x y : ℕ} → Chain in1 x y → Follows (In x y)
  in_chain_follows (link {x} {y} is) = in1_follows x y is
  in_chain_follows (join one other) = in_through (in_chain_follows one) (in_chain_follows other)

  in2_follows : (x y : ℕ) → in2 x y ≡ true → Follows (In x y)
  in2_follows x y is = in_chain_follows ((s.in_chained x y).0 is)

  up_chain_follows : {x y : ℕ} → Chain up1 x y → Follows (Up x y)
  up_chain_follows (link {x} {y} is) = elim (or_cases (up0 x y) _ (sym (s.widened x y) ∙ is)) [ inl old ↦ stated old | inr more ↦ up_by_in (in2_follows x y more) ]
  up_chain_follows (join one other) = up_through (up_chain_follows one) (up_chain_follows other)

  up2_follows : (x y : ℕ) → up2 x y ≡ true → Follows (Up x y)
  up2_follows x y is = up_chain_follows ((s.up_chained x y).0 is)

  trad_follows : (x : ℕ) → trad x ≡ true → Follows (Trad x)
  trad_follows x is = elim ((s.inherited x).0 is) [ inl old ↦ stated old | inr (y, above, old) ↦ trad_by_up (up2_follows x y above) (stated old) ]

  in3_follows : (x y : ℕ) → in3 x y ≡ true → Follows (In x y)
  in3_follows x y is = elim (or_cases (in2 x y) _ (sym (s.in_rooted x y) ∙ is)) [
    | inl old ↦ in2_follows x y old
    | inr more ↦
        let all = and_parts (trad x) _ (and_parts (nat_lt x n) _ more).1 in
        let last = and_parts (trad y) _ all.1 in
        in_by_trad (trad_follows x all.0) (trad_follows y last.0) (present_follows y last.1)
  ]

  up3_follows : (x y : ℕ) → up3 x y ≡ true → Follows (Up x y)
  up3_follows x y is = elim (or_cases (up2 x y) _ (sym (s.up_rooted x y) ∙ is)) [
    | inl old ↦ up2_follows x y old
    | inr more ↦
        let all = and_parts (trad x) _ (and_parts (nat_lt x n) _ more).1 in
        up_by_trad (trad_follows x all.0) (present_follows y all.1)
  ]

  pub only_derivable : (fact : Fact) → fact_by in3 up3 trad present fact ≡ true → Follows fact
  only_derivable (In x y) is = in3_follows x y is
  only_derivable (Up x y) is = up3_follows x y is
  only_derivable (Trad x) is = trad_follows x is
  only_derivable (NonNull x) is = present_follows x is

  -- the sets of the last step are closed under each rule
  stays_over : (fact : Fact) → Follows fact → is_over n fact ≡ true
  stays_over fact follows = derivable_over over follows

  in_in1 : (x y : ℕ) → in0 x y ≡ true → in1 x y ≡ true
  in_in1 x y is = s.mirrored x y ∙ or_left (in0 x y) _ is

  in1_in2 : (x y : ℕ) → in1 x y ≡ true → in2 x y ≡ true
  in1_in2 x y is = (s.in_chained x y).1 (link is)

  in2_up2 : (x y : ℕ) → in2 x y ≡ true → up2 x y ≡ true
  in2_up2 x y is = (s.up_chained x y).1 (link (s.widened x y ∙ or_right (up0 x y) _ is))

  in2_in3 : (x y : ℕ) → in2 x y ≡ true → in3 x y ≡ true
  in2_in3 x y is = s.in_rooted x y ∙ or_left (in2 x y) _ is

  up2_up3 : (x y : ℕ) → up2 x y ≡ true → up3 x y ≡ true
  up2_up3 x y is = s.up_rooted x y ∙ or_left (up2 x y) _ is

  rooted_up : (x y : ℕ) → trad x ≡ true → present y ≡ true → up3 x y ≡ true
  rooted_up x y root there =
      s.up_rooted x y ∙ or_right (up2 x y) _ (and_from (nat_lt x n) _ (stays_over (Trad x) (trad_follows x root)) (and_from (trad x) _ root there))

  rooted_in : (x y : ℕ) → trad x ≡ true → trad y ≡ true → present y ≡ true → in3 x y ≡ true
  rooted_in x y root other there =
      s.in_rooted x y ∙ or_right (in2 x y) _ (and_from (nat_lt x n) _ (stays_over (Trad x) (trad_follows x root)) (and_from (trad x) _ root (and_from (trad y) _ other there)))

  -- from a variable that isn't null every link goes to one that isn't, and in one region it goes back
  present_by_in0 : (x y : ℕ) → in0 x y ≡ true → present x ≡ true → present y ≡ true
  present_by_in0 x y is there = (s.spread y).1 (next {x = x} ((s.spread x).0 there) (or_left (in0 x y) _ is))

  in1_turns : (x y : ℕ) → in1 x y ≡ true → present x ≡ true → (present y ≡ true) × (in1 y x ≡ true)
  in1_turns x y is there = elim (or_cases (in0 x y) _ (sym (s.mirrored x y) ∙ is)) [
    | inl old ↦
        let below = (and_parts (nat_lt x n) _ (over (In x y) old)).1 in
        (present_by_in0 x y old there, s.mirrored y x ∙ or_right (in0 y x) _ (and_from (nat_lt y n) _ below (or_right (y == x) _ (and_from (in0 x y) _ old there))))
    | inr more ↦ elim (or_cases (x == y) _ (and_parts (nat_lt x n) _ more).1) [
      | inl same ↦
          let equal = eqb-true x y same in
          (rw equal at there, rw (ap (λ z. in1 z x) (sym equal) ∙ ap (λ z. in1 x z) equal) is)
      | inr back ↦
          let both = and_parts (in0 y x) _ back in
          (both.1, in_in1 y x both.0)
    ]
  ]

  in_chain_turns : {x y : ℕ} → Chain in1 x y → present x ≡ true → (present y ≡ true) × Chain in1 y x
  in_chain_turns (link {x} {y} is) there = let turned = in1_turns x y is there in (turned.0, link turned.1)
  in_chain_turns (join one other) there =
      let first = in_chain_turns one there in
      let second = in_chain_turns other first.0 in
      (second.0, join second.1 first.1)

  in2_turns : (x y : ℕ) → in2 x y ≡ true → present x ≡ true → (present y ≡ true) × (in2 y x ≡ true)
  in2_turns x y is there = let turned = in_chain_turns ((s.in_chained x y).0 is) there in (turned.0, (s.in_chained y x).1 turned.1)

  up_chain_present : {x y : ℕ} → Chain up1 x y → present x ≡ true → present y ≡ true
  up_chain_present (link {x} {y} is) there = elim (or_cases (up0 x y) _ (sym (s.widened x y) ∙ is)) [
    | inl old ↦ (s.spread y).1 (next {x = x} ((s.spread x).0 there) (or_right (in0 x y) _ old))
    | inr more ↦ (in2_turns x y more there).0
  ]
  up_chain_present (join one other) there = up_chain_present other (up_chain_present one there)

  up2_present : (x y : ℕ) → up2 x y ≡ true → present x ≡ true → present y ≡ true
  up2_present x y is there = up_chain_present ((s.up_chained x y).0 is) there

  up2_through : (x y z : ℕ) → up2 x y ≡ true → up2 y z ≡ true → up2 x z ≡ true
  up2_through x y z one other = (s.up_chained x z).1 (join ((s.up_chained x y).0 one) ((s.up_chained y z).0 other))

  -- what is above a traditional one is traditional
  up2_trad : (x y : ℕ) → up2 x y ≡ true → trad y ≡ true → trad x ≡ true
  up2_trad x y is root = elim ((s.inherited y).0 root) [
    | inl old ↦ (s.inherited x).1 (inr (y, is, old))
    | inr (z, above, old) ↦ (s.inherited x).1 (inr (z, up2_through x y z is above, old))
  ]

  in3_cases : (x y : ℕ) → in3 x y ≡ true → (in2 x y ≡ true) ⊎ ((trad x ≡ true) × (trad y ≡ true) × (present y ≡ true))
  in3_cases x y is = elim (or_cases (in2 x y) _ (sym (s.in_rooted x y) ∙ is)) [
    | inl old ↦ inl old
    | inr more ↦
        let all = and_parts (trad x) _ (and_parts (nat_lt x n) _ more).1 in
        let last = and_parts (trad y) _ all.1 in
        inr (all.0, last.0, last.1)
  ]

  up3_cases : (x y : ℕ) → up3 x y ≡ true → (up2 x y ≡ true) ⊎ ((trad x ≡ true) × (present y ≡ true))
  up3_cases x y is = elim (or_cases (up2 x y) _ (sym (s.up_rooted x y) ∙ is)) [
    | inl old ↦ inl old
    | inr more ↦ inr (and_parts (trad x) _ (and_parts (nat_lt x n) _ more).1)
  ]

  in3_through : (x y z : ℕ) → in3 x y ≡ true → in3 y z ≡ true → in3 x z ≡ true
  in3_through x y z one other = elim (in3_cases x y one) [
    | inl a ↦ elim (in3_cases y z other) [
      | inl b ↦ in2_in3 x z ((s.in_chained x z).1 (join ((s.in_chained x y).0 a) ((s.in_chained y z).0 b)))
      | inr (root, more, there) ↦ rooted_in x z (up2_trad x y (in2_up2 x y a) root) more there
    ]
    | inr (root, more, there) ↦ elim (in3_cases y z other) [
      | inl b ↦
          let turned = in2_turns y z b there in
          rooted_in x z root (up2_trad z y (in2_up2 z y turned.1) more) turned.0
      | inr (_, last, present_z) ↦ rooted_in x z root last present_z
    ]
  ]

  up3_through : (x y z : ℕ) → up3 x y ≡ true → up3 y z ≡ true → up3 x z ≡ true
  up3_through x y z one other = elim (up3_cases x y one) [
    | inl a ↦ elim (up3_cases y z other) [
      | inl b ↦ up2_up3 x z (up2_through x y z a b)
      | inr (root, there) ↦ rooted_up x z (up2_trad x y a root) there
    ]
    | inr (root, there) ↦ elim (up3_cases y z other) [
      | inl b ↦ rooted_up x z root (up2_present y z b there)
      | inr (_, present_z) ↦ rooted_up x z root present_z
    ]
  ]

  up3_by_in : (x y : ℕ) → in3 x y ≡ true → up3 x y ≡ true
  up3_by_in x y is = elim (in3_cases x y is) [ inl a ↦ up2_up3 x y (in2_up2 x y a) | inr (root, _, there) ↦ rooted_up x y root there ]

  in3_turns : (x y : ℕ) → in3 x y ≡ true → present x ≡ true → (present y ≡ true) × (in3 y x ≡ true)
  in3_turns x y is there = elim (in3_cases x y is) [
    | inl a ↦ let turned = in2_turns x y a there in (turned.0, in2_in3 y x turned.1)
    | inr (root, other, present_y) ↦ (present_y, rooted_in y x other root there)
  ]

  up3_present : (x y : ℕ) → up3 x y ≡ true → present x ≡ true → present y ≡ true
  up3_present x y is there = elim (up3_cases x y is) [ inl a ↦ up2_present x y a there | inr (_, present_y) ↦ present_y ]

  up3_trad : (x y : ℕ) → up3 x y ≡ true → trad y ≡ true → trad x ≡ true
  up3_trad x y is root = elim (up3_cases x y is) [ inl a ↦ up2_trad x y a root | inr (other, _) ↦ other ]

  keeps : (fact : Fact) → fact_by in0 up0 trad0 present0 fact ≡ true → fact_by in3 up3 trad present fact ≡ true
  keeps (In x y) is = in2_in3 x y (in1_in2 x y (in_in1 x y is))
  keeps (Up x y) is = up2_up3 x y ((s.up_chained x y).1 (link (s.widened x y ∙ or_left (up0 x y) _ is)))
  keeps (Trad x) is = (s.inherited x).1 (inl is)
  keeps (NonNull x) is = (s.spread x).1 (here is)

  itself : (x : ℕ) → x < n → in3 x x ≡ true
  itself x below = in2_in3 x x (in1_in2 x x (s.mirrored x x ∙ or_right (in0 x x) _ (and_from (nat_lt x n) _ (lt-ltb x n below) (or_left (x == x) _ (eq-eqb x x refl)))))

  pub all_derivable : {fact : Fact} → Follows fact → fact_by in3 up3 trad present fact ≡ true
  all_derivable (stated {fact} is) = keeps fact is
  all_derivable (in_itself {x} below) = itself x below
  all_derivable (in_through {x} {y} {z} one other) = in3_through x y z (all_derivable one) (all_derivable other)
  all_derivable (up_through {x} {y} {z} one other) = up3_through x y z (all_derivable one) (all_derivable other)
  all_derivable (up_by_in {x} {y} one) = up3_by_in x y (all_derivable one)
  all_derivable (in_back {x} {y} one other) = (in3_turns x y (all_derivable one) (all_derivable other)).1
  all_derivable (present_by_in {x} {y} one other) = (in3_turns x y (all_derivable one) (all_derivable other)).0
  all_derivable (present_by_up {x} {y} one other) = up3_present x y (all_derivable one) (all_derivable other)
  all_derivable (trad_by_up {x} {y} one other) = up3_trad x y (all_derivable one) (all_derivable other)
  all_derivable (up_by_trad {x} {y} one other) = rooted_up x y (all_derivable one) (all_derivable other)
  all_derivable (in_by_trad {x} {y} one other there) = rooted_in x y (all_derivable one) (all_derivable other) (all_derivable there)

  pub closes : (fact : Fact) → IsTrue (fact_by in3 up3 trad present fact) ↔ Follows fact
  closes fact = (only_derivable fact, all_derivable)

-- links stay among the variables
pub mirrored_below : (n : ℕ) (in0 in1 : ℕ → ℕ → Bool) (present : ℕ → Bool) → ((x y : ℕ) → in0 x y ≡ true → (nat_lt x n && nat_lt y n) ≡ true) → ((x y : ℕ) → in1 x y ≡ (in0 x y || (nat_lt x n && (x == y || (in0 y x && present y))))) → (x y : ℕ) → IsTrue (in1 x y) → y < n
mirrored_below n in0 in1 present over mirrored x y is = elim (or_cases (in0 x y) _ (sym (mirrored x y) ∙ is)) [
  | inl old ↦ ltb-true y n (and_parts (nat_lt x n) _ (over x y old)).1
  | inr more ↦
      let parts = and_parts (nat_lt x n) _ more in
      elim (or_cases (x == y) _ parts.1) [
        | inl same ↦ rw (eqb-true x y same) at (ltb-true x n parts.0)
        | inr back ↦ ltb-true y n (and_parts (nat_lt y n) _ (over y x (and_parts (in0 y x) _ back).0)).0
      ]
]

pub widened_below : (n : ℕ) (up0 in1 in2 up1 : ℕ → ℕ → Bool) → ((x y : ℕ) → up0 x y ≡ true → (nat_lt x n && nat_lt y n) ≡ true) → ((x y : ℕ) → IsTrue (in1 x y) → y < n) → ((x y : ℕ) → IsTrue (in2 x y) ↔ Chain in1 x y) → ((x y : ℕ) → up1 x y ≡ (up0 x y || in2 x y)) → (x y : ℕ) → IsTrue (up1 x y) → y < n
widened_below n up0 in1 in2 up1 over below chained widened x y is = elim (or_cases (up0 x y) _ (sym (widened x y) ∙ is)) [
  | inl old ↦ ltb-true y n (and_parts (nat_lt x n) _ (over x y old)).1
  | inr more ↦ chain_end n below ((chained x y).0 more)
]
