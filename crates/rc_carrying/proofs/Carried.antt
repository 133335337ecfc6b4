-- What is left of a set that has what follows from the facts before an instruction has what follows from the carried ones.
use Rattle.std.proofs.Common.{◌≡◌, ℕ, suc, ◌<◌, ◌≤◌, Bool, true, false, ◌||◌, nat_eq, nat_lt, IsTrue, List, [], ◌∷◌, ◌++◌, Option, Some, None, refl, sym, ap, ◌∙◌, subst, inl, inr, ◌⊎◌, ◌↔◌, arith}
use Rattle.std.specs.Prelude.{IfSome, if◌then◌else◌}
use Rattle.std.specs.List.{All, list_any, AllByRecursion as Every}
use Rattle.std.proofs.lemmas.Bool.{and_parts, and_from, or_cases, or_left, or_right, eqb-true, eq-eqb, ltb-true, lt-ltb}
use Rattle.std.proofs.lemmas.List.Folds.{list_any-append}
use Rattle.rc_safety.proofs.Lists.{every_append}
use Rattle.rc_facts.specs.declared.fact.Fact.{Fact}
use Rattle.rc_facts.specs.declared.fact.Fact.TheVariants.{In, Up, Trad, NonNull}
use Rattle.rc_facts.specs.Derivable.{Derivable, stated}
use Rattle.rc_facts.specs.Facts.{Known, holds, is_over, names, same_fact, replaced, with_replaced}
use Rattle.rc_facts.proofs.Sets.{same_fact-true}
use Rattle.rc_facts.specs.Shut.{together}
use Rattle.rc_facts.specs.Flow.{Facts, Behind}
use Rattle.rc_annotations.proofs.Derivations.{derivable_cut, derivable_more}
use Rattle.rc_rlang.specs.RegionFlow.{Effect, nothing, nulled, moved, fixed, beside, made, under, loaded, looked_at, stored, present, absent, called, entered, assigned}
use Rattle.std.proofs.lemmas.List.Elements.{All-head, All-tail}
use Rattle.rc_facts.proofs.Closes.{derivable_over}
use Rattle.rc_annotations.specs.Annotations.{Annotation, exit_facts, gained, allowed, allowed_where, assigning, fact_with, renamed, renamed_by, is_below}
use Rattle.rc_edges.specs.Edges.{AreNews, EffectBelow, renewed, renewed_by}
use Rattle.rc_edges.proofs.Renaming.{derivable_under, fixed_names, same_names, names_twice, renewed_under, gained_under, clamped, clamped_below, clamped_over, clamped_less, over_clamped, same_self}
use Rattle.rc_code.specs.Running.{Reading, function_at}
use Rattle.rc_code.specs.declared.image.Function.{Function}
use Rattle.rc_claims.specs.Counts.{place}
use Rattle.rc_sealed.specs.ImageVariables.{scratch}
use Rattle.rc_sealed.specs.Carrying.{among, effect_at, lowest, reach, Follows, Carried}
use Rattle.rc_sealed.proofs.Carry.{over_below}
use Rattle.rc_carrying.specs.Left.{IsClosed, Kept, Left, stay}
use Rattle.rc_carrying.specs.Closing.{Has}
use Rattle.rc_carrying.proofs.Closed.{own_derived, left_closed}

-- ---- what is used

held : (set : Known) (p : Fact) → holds set p ≡ among set.facts p
unfolding holds
held set p = refl

pub every_of : (P : Fact → Type 0) (facts : List Fact) → ((p : Fact) → IsTrue (among facts p) → P p) → Every P facts
every_of P [] h = tt
every_of P (q ∷ facts) h = (h q (or_left (same_fact q q) (among facts q) (same_self q)), every_of P facts (λ p e. h p (or_right (same_fact p q) (among facts p) e)))

each_is : (P : Fact → Type 0) (facts : List Fact) → Every P facts → (p : Fact) → IsTrue (among facts p) → P p
each_is P [] all p e = cc
each_is P (q ∷ facts) all p e = elim (or_cases (same_fact p q) (among facts p) e) [
  | inl one ↦ subst P (sym (same_fact-true p q one)) all.0
  | inr other ↦ each_is P facts all.1 p other
]

among_left : (xs ys : List Fact) (p : Fact) → IsTrue (among xs p) → IsTrue (among (xs ++ ys) p)
among_left xs ys p e = list_any-append (same_fact p) xs ys ∙ or_left (among xs p) (among ys p) e

among_right : (xs ys : List Fact) (p : Fact) → IsTrue (among ys p) → IsTrue (among (xs ++ ys) p)
among_right xs ys p e = list_any-append (same_fact p) xs ys ∙ or_right (among xs p) (among ys p) e

module _ (n : ℕ) (known : Fact → Type 0) where
  -- facts that are known, from which those of a list follow
  record Sources (facts : List Fact) : Type 0 where
    used : List Fact
    each : Every known used
    derive : (p : Fact) → IsTrue (among facts p) → Derivable n (among used) p

  sources : (facts : List Fact) → Every (Follows n known) facts → Sources facts
  sources [] all = record { used = []; each = tt; derive = λ p e. cc }
  sources (q ∷ qs) all = with_rest (sources qs all.1)
    where
      with_rest : Sources qs → Sources (q ∷ qs)
      with_rest rest = record {
        used = all.0.used ++ rest.used;
        each = every_append known all.0.used rest.used all.0.each rest.each;
        derive = λ p e. elim (or_cases (same_fact p q) (among qs p) e) [
          | inl one ↦ subst (Derivable n (among (all.0.used ++ rest.used))) (sym (same_fact-true p q one)) (derivable_more (among_left all.0.used rest.used) all.0.derived)
          | inr other ↦ derivable_more (among_right all.0.used rest.used) (rest.derive p other)
        ];
      }

  -- what is derivable of facts that follow, follows
  pub follows_closed : (set : Known) → ((fact : Fact) → IsTrue (holds set fact) → Follows n known fact) → (fact : Fact) → Derivable n (holds set) fact → Follows n known fact
  follows_closed set h fact d = by (sources set.facts (every_of (Follows n known) set.facts (λ p e. h p (held set p ∙ e))))
    where
      by : Sources set.facts → Follows n known fact
      by all = record { used = all.used; each = all.each; derived = derivable_cut (λ p e. all.derive p (sym (held set p) ∙ e)) d }

-- ---- bounds

pub assigned_below : (s : ℕ) (effect : Effect) → EffectBelow s effect → IfSome (assigned effect) (λ x. x < s)
assigned_below s nothing b = tt {0}
assigned_below s (nulled x) b = b
assigned_below s (moved x y) b = b.0
assigned_below s (fixed x) b = b
assigned_below s (beside x y) b = b.0
assigned_below s (made x) b = b
assigned_below s (under x y) b = b.0
assigned_below s (loaded x y note) b = b.0
assigned_below s (looked_at y) b = tt {0}
assigned_below s (stored z y note) b = tt {0}
assigned_below s (present y) b = tt {0}
assigned_below s (absent y) b = tt {0}
assigned_below s (called x g ys) b = b.0
assigned_below s (entered pairs) b = tt {0}

pub listed_over : (n : ℕ) (news : List Fact) → All (λ p. IsTrue (is_over n p)) news → (p : Fact) → IsTrue (list_any (λ q. same_fact q p) news) → IsTrue (is_over n p)
listed_over n [] all p e = cc
listed_over n (q ∷ news) all p e = elim (or_cases (same_fact q p) (list_any (λ r. same_fact r p) news) e) [
  | inl one ↦ subst (λ r. IsTrue (is_over n r)) (same_fact-true q p one) (All-head (λ r. IsTrue (is_over n r)) q news all)
  | inr other ↦ listed_over n news (All-tail (λ r. IsTrue (is_over n r)) q news all) p other
]

one_more : (s v : ℕ) → IsTrue (nat_lt v s) → IsTrue (nat_lt v (suc s))
one_more s v e = let l = ltb-true v s e in lt-ltb v (suc s) (omega (arith, l))

pub over_suc : (s : ℕ) (p : Fact) → IsTrue (is_over s p) → IsTrue (is_over (suc s) p)
over_suc s (In x y) e = let b = and_parts (nat_lt x s) (nat_lt y s) e in and_from (nat_lt x (suc s)) (nat_lt y (suc s)) (one_more s x b.0) (one_more s y b.1)
over_suc s (Up x y) e = let b = and_parts (nat_lt x s) (nat_lt y s) e in and_from (nat_lt x (suc s)) (nat_lt y (suc s)) (one_more s x b.0) (one_more s y b.1)
over_suc s (Trad x) e = one_more s x e
over_suc s (NonNull x) e = one_more s x e

-- over one variable less where it doesn't name the last
one_less : (s v : ℕ) → IsTrue (nat_lt v (suc s)) → nat_eq v s ≡ false → IsTrue (nat_lt v s)
one_less s v e d = let l = ltb-true v (suc s) e in lt-ltb v s (by (order v s) l)
  where
    order : (a b : ℕ) → (a < b) ⊎ ((a ≡ b) ⊎ (b < a))
    order a b = grind arith

    by : (v < s) ⊎ ((v ≡ s) ⊎ (s < v)) → v < suc s → v < s
    by (inl l) k = l
    by (inr (inl e1)) k = absurd (let t = eq-eqb v s e1 in let r : true ≡ false = sym t ∙ d in cc)
    by (inr (inr l)) k = omega (arith, l, k)

neither : (a b : Bool) → (a || b) ≡ false → (a ≡ false) × (b ≡ false)
neither true b e = cc
neither false b e = (refl, e)

over_less : (s : ℕ) (p : Fact) → IsTrue (is_over (suc s) p) → names s p ≡ false → IsTrue (is_over s p)
over_less s (In x y) e d = let b = and_parts (nat_lt x (suc s)) (nat_lt y (suc s)) e in let c = neither (nat_eq x s) (nat_eq y s) d in and_from (nat_lt x s) (nat_lt y s) (one_less s x b.0 c.0) (one_less s y b.1 c.1)
over_less s (Up x y) e d = let b = and_parts (nat_lt x (suc s)) (nat_lt y (suc s)) e in let c = neither (nat_eq x s) (nat_eq y s) d in and_from (nat_lt x s) (nat_lt y s) (one_less s x b.0 c.0) (one_less s y b.1 c.1)
over_less s (Trad x) e d = one_less s x e d
over_less s (NonNull x) e d = one_less s x e d

-- ---- what an effect allows, by a list of what it adds

unlike : (x s : ℕ) → x < s → nat_eq x s ≡ false
unlike x s l = by (nat_eq x s) refl
  where
    by : (b : Bool) → nat_eq x s ≡ b → nat_eq x s ≡ false
    by true e = let q = eqb-true x s e in absurd (omega (arith, l, q))
    by false e = e

none_named : (s : ℕ) (p : Fact) → is_below s p → names s p ≡ false
none_named s (In x y) b = rw (unlike x s b.0, unlike y s b.1) refl
none_named s (Up x y) b = rw (unlike x s b.0, unlike y s b.1) refl
none_named s (Trad x) b = unlike x s b
none_named s (NonNull x) b = unlike x s b

replaced_is : (x s : ℕ) (p : Fact) → fact_with (renamed x s) p ≡ with_replaced x s p
replaced_is x s (In a b) = ap (λ z. In z (renamed x s b)) (by a (nat_eq a x)) ∙ ap (λ z. In (replaced x s a) z) (by b (nat_eq b x))
  where
    by : (a : ℕ) (c : Bool) → renamed_by c s a ≡ (if c then s else a)
    by a true = refl
    by a false = refl
replaced_is x s (Up a b) = ap (λ z. Up z (renamed x s b)) (by a (nat_eq a x)) ∙ ap (λ z. Up (replaced x s a) z) (by b (nat_eq b x))
  where
    by : (a : ℕ) (c : Bool) → renamed_by c s a ≡ (if c then s else a)
    by a true = refl
    by a false = refl
replaced_is x s (Trad a) = ap (λ z. Trad z) (by (nat_eq a x))
  where
    by : (c : Bool) → renamed_by c s a ≡ (if c then s else a)
    by true = refl
    by false = refl
replaced_is x s (NonNull a) = ap (λ z. NonNull z) (by (nat_eq a x))
  where
    by : (c : Bool) → renamed_by c s a ≡ (if c then s else a)
    by true = refl
    by false = refl

put_clamped : (s u x v : ℕ) → s ≤ u → v < s → clamped s (renamed x u v) ≡ renamed x s v
put_clamped s u x v over l = by (nat_eq v x)
  where
    by : (b : Bool) → clamped s (renamed_by b u v) ≡ renamed_by b s v
    by true = clamped_over s u over
    by false = clamped_below s v l

module _ (s : ℕ) (a : Annotation) (effect : Effect) (news : List Fact) (below : EffectBelow s effect) (new : AreNews (suc s) (exit_facts a) (renewed s effect) news) (before : Facts) (used : List Fact) where
  module _ (inside : (p : Fact) → IsTrue (among used p) → IsTrue (before p)) (old : (p : Fact) → IsTrue (among used p) → is_below s p) where
    down_given : (p : Fact) → (among used p || gained (exit_facts a) (renewed s effect) p) ≡ true → Derivable (suc s) (together before news) (fact_with (clamped s) p)
    down_given p e = elim (or_cases (among used p) _ e) [
      | inl is ↦ subst (Derivable (suc s) (together before news)) (sym (fixed_names s (clamped s) (clamped_below s) p (old p is))) (stated (or_left (before p) _ (inside p is)))
      | inr is ↦
          stated (or_right (before (fact_with (clamped s) p)) _ (new.whole (fact_with (clamped s) p) (over_clamped s p)
          (subst (λ d. gained (exit_facts a) d (fact_with (clamped s) p) ≡ true) (renewed_under s s s (clamped s) (clamped_below s) (clamped_over s s (omega arith)) effect below) (gained_under (clamped s) a (renewed s effect) p is))))
    ]

    down : {p : Fact} → Derivable (suc s) (λ q. among used q || gained (exit_facts a) (renewed s effect) q) p → Derivable (suc s) (together before news) (fact_with (clamped s) p)
    down d = derivable_under (clamped s) (λ x l. clamped_less s x) down_given d

    allowed_down : (x : Option ℕ) (fact : Fact) → is_below s fact → ((p : Fact) → Derivable (suc s) (λ q. among used q || gained (exit_facts a) (renewed_by x s effect) q) p → Derivable (suc s) (together before news) (fact_with (clamped s) p))
        → allowed_where (suc s) s (gained (exit_facts a)) x effect (among used) fact → Behind (suc s) s x news before fact
    allowed_down None fact own h d = (subst (Derivable (suc s) (together before news)) (fixed_names s (clamped s) (clamped_below s) fact own) (h fact d), none_named s fact own)
    allowed_down (Some x) fact own h d = (
      subst (Derivable (suc s) (together before news)) (names_twice (clamped s) (renamed x s) fact ∙ same_names s (λ v. clamped s (renamed x s v)) (renamed x s) (λ v l. put_clamped s s x v (omega arith) l) fact own ∙ replaced_is x s fact) (h (fact_with (renamed x s) fact) d),
      none_named s fact own,
    )

    pub to_behind : (fact : Fact) → is_below s fact → allowed (suc s) s (gained (exit_facts a)) effect (among used) fact → Behind (suc s) s (assigned effect) news before fact
    to_behind fact own d = allowed_down (assigned effect) fact own (λ p q. down q) d

  module _ (derive : (p : Fact) → IsTrue (before p) → Derivable (suc s) (among used) p) where
    up_given : (p : Fact) → together before news p ≡ true → Derivable (suc s) (λ q. among used q || gained (exit_facts a) (renewed s effect) q) p
    up_given p e = elim (or_cases (before p) _ e) [
      | inl is ↦ derivable_more (λ q k. or_left (among used q) _ k) (derive p is)
      | inr is ↦ stated (or_right (among used p) _ (new.sound p is))
    ]

    allowed_up : (x : Option ℕ) (fact : Fact) → ((p : Fact) → Derivable (suc s) (together before news) p → Derivable (suc s) (λ q. among used q || gained (exit_facts a) (renewed_by x s effect) q) p)
        → Behind (suc s) s x news before fact → allowed_where (suc s) s (gained (exit_facts a)) x effect (among used) fact
    allowed_up None fact h d = h fact d.0
    allowed_up (Some x) fact h d = subst (Derivable (suc s) (λ q. among used q || gained (exit_facts a) (assigning s effect) q)) (sym (replaced_is x s fact)) (h (with_replaced x s fact) d.0)

    pub from_behind : (fact : Fact) → Behind (suc s) s (assigned effect) news before fact → allowed (suc s) s (gained (exit_facts a)) effect (among used) fact
    from_behind fact d = allowed_up (assigned effect) fact (λ p q. derivable_cut up_given q) d

-- ---- carried

module _ (image : Reading) (proofs : Annotation) (g at : ℕ) (known : Fact → Type 0) (news : List Fact) (set : Known) (after : Facts) where
  abbrev f : Function
  f = function_at image g

  abbrev s : ℕ
  s = scratch image f

  abbrev effect : Effect
  effect = effect_at image f at

  abbrev stays : ℕ → Bool
  stays = stay (place f (lowest image f at)) (place f (reach image f at)) (assigned effect)

  module _ (below : EffectBelow s effect) (new : AreNews (suc s) (exit_facts proofs) (renewed s effect) news) (over : (fact : Fact) → known fact → IsTrue (is_over s fact)) (has : Has (suc s) (holds set) known)
      (left : (fact : Fact) → IsTrue (after fact) ↔ Left (suc s) s stays (assigned effect) news (holds set) fact) where
    -- the set before
    known_over : (used : List Fact) → Every known used → (p : Fact) → IsTrue (among used p) → IsTrue (is_over s p)
    known_over used each p e = over p (each_is known used each p e)

    set_over : (p : Fact) → IsTrue (holds set p) → IsTrue (is_over (suc s) p)
    set_over p is = let c = (has p).0 is in derivable_over (λ q e. over_suc s q (known_over c.used c.each q e)) c.derived

    set_closed : IsClosed (suc s) (holds set)
    set_closed = record { over = set_over; closed = λ p d. (has p).1 (follows_closed (suc s) known set (λ q is. (has q).0 is) p d) }

    after_closed : IsClosed (suc s) after
    after_closed = left_closed (suc s) s stays news (holds set) after (omega arith) (listed_over (suc s) news new.over) set_closed (assigned effect) (assigned_below s effect below) left

    known_has : (p : Fact) → known p → IsTrue (holds set p)
    known_has p k = (has p).1 (record { used = p ∷ []; each = (k, tt); derived = stated (or_left (same_fact p p) false (same_self p)) })

    -- one way
    to_left : (fact : Fact) → Carried image proofs g at known fact → IsTrue (after fact)
    to_left fact c = (left fact).1 (inr (record {
      stays = c.stays;
      behind = to_behind s proofs effect news below new (holds set) c.used (λ p e. known_has p (each_is known c.used c.each p e)) (λ p e. over_below s p (known_over c.used c.each p e)) fact (over_below s fact c.over) c.derived;
    }))

    -- the other
    from_left : (fact : Fact) → Kept (suc s) s stays (assigned effect) news (holds set) fact → Sources (suc s) known set.facts → Carried image proofs g at known fact
    from_left fact k all = record {
      over = over_less s fact (after_closed.over fact ((left fact).1 (inr k))) k.behind.1;
      stays = k.stays;
      used = all.used;
      each = all.each;
      derived = from_behind s proofs effect news below new (holds set) all.used (λ p is. all.derive p (sym (held set p) ∙ is)) fact k.behind;
    }

    of_set : Sources (suc s) known set.facts
    of_set = sources (suc s) known set.facts (every_of (Follows (suc s) known) set.facts (λ p e. (has p).0 (held set p ∙ e)))

    follows : (fact : Fact) → Left (suc s) s stays (assigned effect) news (holds set) fact → Follows (suc s) (Carried image proofs g at known) fact
    follows fact (inl o) = record { used = []; each = tt; derived = own_derived (suc s) fact o }
    follows fact (inr k) = record { used = fact ∷ []; each = (from_left fact k of_set, tt); derived = stated (or_left (same_fact fact fact) false (same_self fact)) }

    pub left_carried : Has (suc s) after (Carried image proofs g at known)
    left_carried fact = (
      λ is. follows fact ((left fact).0 is),
      λ c. after_closed.closed fact (derivable_cut (λ p e. stated (to_left p (each_is (Carried image proofs g at known) c.used c.each p e))) c.derived),
    )
