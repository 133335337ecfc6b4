-- What an effect says of values; then its new facts hold, and what is allowed behind it.
use Rattle.std.proofs.Common.{◌≡◌, ℕ, ◌<◌, ◌≤◌, Bool, true, false, ◌||◌, nat_eq, IsTrue, List, [], ◌∷◌, Option, Some, None, inl, inr, refl, sym, ap, ◌∙◌, subst, arith}
use Rattle.std.proofs.lemmas.Bool.{or_cases, and_parts, eqb-true, eq-eqb}
use Rattle.rc_core.specs.declared.ty.Note.{Note}
use Rattle.rc_core.specs.declared.ty.Note.TheVariants.{Plain, SameRegion, ParentPtr, Traditional}
use Rattle.rc_core.specs.Heap.{Value, Number, Null, Handle, Pointer, Heap, parent, is_above, of_region, fits}
use Rattle.rc_facts.specs.declared.fact.Fact.{Fact}
use Rattle.rc_facts.specs.declared.fact.Fact.TheVariants.{In, Up, Trad, NonNull}
use Rattle.rc_facts.specs.Derivable.{Derivable}
use Rattle.rc_rlang.specs.RegionFlow.{Effect, nothing, nulled, moved, fixed, beside, made, under, loaded, looked_at, stored, present, absent, called, entered, assigned}
use Rattle.rc_facts.specs.Facts.{same_fact}
use Rattle.rc_annotations.specs.Annotations.{Facts, allowed_where, assigning, gained, by_note, of_null, some_pair, is_below, fact_with, renamed}
use Rattle.rc_annotations.specs.Effects.{Absent, EachIs, Says, Happens}
use Rattle.rc_annotations.specs.Laws.{AllowedHolds}
use Rattle.rc_annotations.specs.Worlds.{Grown, Grounded}
use Rattle.rc_annotations.specs.Holding.{is_present, region_in, Holds, AllHold, Rooted}
use Rattle.rc_rlang.specs.RegionRuns.{changed_at, chosen_value}
use Rattle.rc_annotations.proofs.Truths.{derivable_holds, holds_grown, holds_same}

-- what fits says of a value that is there
fit_present : (parents : ℕ → ℕ) (v : Value) (holder : ℕ) (holds : ℕ → Bool) → of_region true holds v ≡ true → is_present v → holds (region_in v) ≡ true
fit_present parents (Number n) holder holds e p = absurd p
fit_present parents Null holder holds e p = absurd p
fit_present parents (Handle r) holder holds e p = e
fit_present parents (Pointer a) holder holds e p = e

pub same_facts : (p q : Fact) → same_fact p q ≡ true → p ≡ q
same_facts (In x y) (In u v) e = let b = and_parts (nat_eq x u) _ e in let i : x ≡ u = eqb-true x u b.0 in let j : y ≡ v = eqb-true y v b.1 in cc
same_facts (Up x y) (Up u v) e = let b = and_parts (nat_eq x u) _ e in let i : x ≡ u = eqb-true x u b.0 in let j : y ≡ v = eqb-true y v b.1 in cc
same_facts (Trad x) (Trad u) e = ap Trad (eqb-true x u e)
same_facts (NonNull x) (NonNull u) e = ap NonNull (eqb-true x u e)
same_facts (In x y) (Up u v) e = cc
same_facts (In x y) (Trad u) e = cc
same_facts (In x y) (NonNull u) e = cc
same_facts (Up x y) (In u v) e = cc
same_facts (Up x y) (Trad u) e = cc
same_facts (Up x y) (NonNull u) e = cc
same_facts (Trad x) (In u v) e = cc
same_facts (Trad x) (Up u v) e = cc
same_facts (Trad x) (NonNull u) e = cc
same_facts (NonNull x) (In u v) e = cc
same_facts (NonNull x) (Up u v) e = cc
same_facts (NonNull x) (Trad u) e = cc

pub is : (p q : Fact) (values : ℕ → Value) (heap : Heap) → Holds q values heap → same_fact p q ≡ true → Holds p values heap
is p q values heap h e = subst (λ z. Holds z values heap) (sym (same_facts p q e)) h

either : (a b : Bool) (P : Type 0) → (a ≡ true → P) → (b ≡ true → P) → (a || b) ≡ true → P
either a b P f g e = elim (or_cases a b e) [ inl x ↦ f x | inr y ↦ g y ]

null_holds : (x : ℕ) (p : Fact) (values : ℕ → Value) (heap : Heap) → Absent (values x) → of_null x p ≡ true → Holds p values heap
null_holds x (In u v) values heap a e = λ p. absurd (a (subst (λ i. is_present (values i)) (eqb-true u x e) p))
null_holds x (Up u v) values heap a e = cc
null_holds x (Trad u) values heap a e = λ p. absurd (a (subst (λ i. is_present (values i)) (eqb-true u x e) p))
null_holds x (NonNull u) values heap a e = cc

by_note_holds : (note : Note) (z y : ℕ) (p : Fact) (values : ℕ → Value) (heap : Heap) → is_present (values y) → fits (parent heap) note (region_in (values y)) (values z) ≡ true → by_note note z y p ≡ true → Holds p values heap
by_note_holds Plain z y p values heap there fit e = cc
by_note_holds SameRegion z y p values heap there fit e = is p (In z y) values heap (λ q. (there, eqb-true _ _ (fit_present (parent heap) (values z) 0 (λ r. nat_eq r (region_in (values y))) fit q))) e
by_note_holds ParentPtr z y p values heap there fit e = is p (Up z y) values heap (λ q. (there, fit_present (parent heap) (values z) 0 (λ r. is_above (parent heap) r (region_in (values y))) fit q)) e
by_note_holds Traditional z y p values heap there fit e = is p (Trad z) values heap (λ q. eqb-true _ _ (fit_present (parent heap) (values z) 0 (λ r. nat_eq r 0) fit q)) e

pairs_hold : (pairs : List (ℕ × ℕ)) (p : Fact) (values : ℕ → Value) (heap : Heap) → EachIs values pairs → some_pair pairs p ≡ true → Holds p values heap
pairs_hold [] p values heap s e = cc
pairs_hold (c ∷ cs) p values heap s e =
    either _ _ _ (is p (In c.0 c.1) values heap (λ q. (subst is_present s.0 q, ap region_in s.0)))
    (either _ _ _ (is p (In c.1 c.0) values heap (λ q. (subst is_present (sym s.0) q, ap region_in (sym s.0)))) (pairs_hold cs p values heap s.1)) e

-- the new facts hold
pub gained_holds : (exits : ℕ → List ℕ → Option ℕ → Facts) (effect : Effect) (values : ℕ → Value) (heap : Heap) → Says exits effect values heap → (p : Fact) → gained exits effect p ≡ true → Holds p values heap
gained_holds exits nothing values heap s p e = cc
gained_holds exits (nulled x) values heap s p e = null_holds x p values heap s e
gained_holds exits (moved x y) values heap s p e = either _ _ _ (is p (In x y) values heap (λ q. (subst is_present s q, ap region_in s))) (is p (In y x) values heap (λ q. (subst is_present (sym s) q, ap region_in (sym s)))) e
gained_holds exits (fixed x) values heap s p e = either _ _ _ (is p (Trad x) values heap (λ q. s.1)) (is p (NonNull x) values heap s.0) e
gained_holds exits (beside x y) values heap s p e = either _ _ _ (is p (NonNull y) values heap s.0) (either _ _ _ (is p (NonNull x) values heap s.1) (is p (In x y) values heap (λ q. (s.0, s.2)))) e
gained_holds exits (made x) values heap s p e = is p (NonNull x) values heap s e
gained_holds exits (under x y) values heap s p e = either _ _ _ (is p (NonNull y) values heap s.0) (either _ _ _ (is p (NonNull x) values heap s.1) (is p (Up y x) values heap (λ q. (s.1, s.2)))) e
gained_holds exits (loaded x y note) values heap s p e = either _ _ _ (is p (NonNull y) values heap s.0) (by_note_holds note x y p values heap s.0 s.1) e
gained_holds exits (looked_at y) values heap s p e = is p (NonNull y) values heap s e
gained_holds exits (stored z y note) values heap s p e = either _ _ _ (is p (NonNull y) values heap s.0) (by_note_holds note z y p values heap s.0 s.1) e
gained_holds exits (present y) values heap s p e = is p (NonNull y) values heap s e
gained_holds exits (absent y) values heap s p e = null_holds y p values heap s e
gained_holds exits (called x g arguments) values heap s p e = s p e
gained_holds exits (entered pairs) values heap s p e = pairs_hold pairs p values heap s e

pub with_name : (name : ℕ → ℕ) (fact : Fact) (values : ℕ → Value) (heap : Heap) → Holds (fact_with name fact) values heap → Holds fact (λ u. values (name u)) heap
with_name name (In x y) values heap h = h
with_name name (Up x y) values heap h = h
with_name name (Trad x) values heap h = h
with_name name (NonNull x) values heap h = h

given_hold : (b : ℕ) (before gains : Facts) (values others : ℕ → Value) (heap heap1 : Heap) → ((p : Fact) → IsTrue (before p) → is_below b p) → AllHold before values heap → Grounded values heap → Rooted (parent heap1) → Grown heap heap1
    → ((u : ℕ) → u < b → others u ≡ values u) → AllHold gains others heap1 → AllHold (λ p. before p || gains p) others heap1
given_hold b before gains values others heap heap1 below holds ground rooted grown same new p e = elim (or_cases (before p) (gains p) e) [
  | inl old ↦ holds_same b p values others heap1 (below p old) same (holds_grown p values heap heap1 ground rooted grown (holds p old))
  | inr got ↦ new p got
]

-- nothing is assigned
pub holds_behind : (n b : ℕ) (before gains : Facts) (values others : ℕ → Value) (heap heap1 : Heap) → ((p : Fact) → IsTrue (before p) → is_below b p) → AllHold before values heap → Grounded values heap → Rooted (parent heap1) → Grown heap heap1
    → ((u : ℕ) → u < b → others u ≡ values u) → AllHold gains others heap1 → {fact : Fact} → Derivable n (λ p. before p || gains p) fact → Holds fact others heap1
holds_behind n b before gains values others heap heap1 below holds ground rooted grown same new d =
    derivable_holds n (λ p. before p || gains p) others heap1 rooted (given_hold b before gains values others heap heap1 below holds ground rooted grown same new) d

pub changed_there : (t : ℕ → Value) (h : ℕ) (v : Value) (k : ℕ) → k ≡ h → changed_at t h v k ≡ v
changed_there t h v k e = ap (λ b. chosen_value b v (t k)) (eq-eqb k h e)

pub not_eq : (k h : ℕ) → (k ≡ h → ⊥) → nat_eq k h ≡ false
not_eq k h apart = by (nat_eq k h) refl
  where
    by : (b : Bool) → nat_eq k h ≡ b → nat_eq k h ≡ false
    by true e = absurd (apart (eqb-true k h e))
    by false e = e

pub changed_else : (t : ℕ → Value) (h : ℕ) (v : Value) (k : ℕ) → nat_eq k h ≡ false → changed_at t h v k ≡ t k
changed_else t h v k e = ap (λ b. chosen_value b v (t k)) e

pub below_apart : (u b s : ℕ) → u < b → b ≤ s → nat_eq u s ≡ false
below_apart u b s lt le = not_eq u s (λ e. omega (arith, lt, le, e))

-- the value of the scratch variable, read as the assigned one
renamed_value : (values : ℕ → Value) (b s x : ℕ) (v : Value) (u : ℕ) → u < b → b ≤ s → changed_at values x v u ≡ changed_at values s v (renamed x s u)
renamed_value values b s x v u lt le = by (nat_eq u x) refl
  where
    by : (c : Bool) → nat_eq u x ≡ c → changed_at values x v u ≡ changed_at values s v (renamed x s u)
    by true e = rw e (sym (changed_there values s v s refl))
    by false e = rw e (sym (changed_else values s v u (below_apart u b s lt le)))

-- x is assigned
pub holds_assigned : (n b s x : ℕ) (v : Value) (before gains : Facts) (values others : ℕ → Value) (heap heap1 : Heap) → b ≤ s → ((p : Fact) → IsTrue (before p) → is_below b p) → AllHold before values heap → Grounded values heap → Rooted (parent heap1) → Grown heap heap1
    → ((u : ℕ) → u < b → others u ≡ changed_at values x v u) → AllHold gains (changed_at values s v) heap1 → (fact : Fact) → is_below b fact → Derivable n (λ p. before p || gains p) (fact_with (renamed x s) fact) → Holds fact others heap1
holds_assigned n b s x v before gains values others heap heap1 le below holds ground rooted grown same new fact is_b d =
    let at_scratch : Holds (fact_with (renamed x s) fact) (changed_at values s v) heap1 =
    derivable_holds n (λ p. before p || gains p) (changed_at values s v) heap1 rooted (given_hold b before gains values (changed_at values s v) heap heap1 below holds ground rooted grown (λ u lt. changed_else values s v u (below_apart u b s lt le)) new) d in
    holds_same b fact (λ u. changed_at values s v (renamed x s u)) others heap1 is_b (λ u lt. same u lt ∙ renamed_value values b s x v u lt le) (with_name (renamed x s) fact (changed_at values s v) heap1 at_scratch)

-- both at once
pub allowed_holds : AllowedHolds
allowed_holds m n s exits effect facts before after heap heap1 le below hold ground rooted grown happens fact is_b d = by (assigned effect) happens d
  where
    by : (x : Option ℕ) → Happens n s exits x effect before after heap1 → allowed_where m s (gained exits) x effect facts fact → Holds fact after heap1
    by None happens d = holds_behind m n facts (gained exits effect) before after heap heap1 below hold ground rooted grown happens.0 (gained_holds exits effect after heap1 happens.1) d
    by (Some x) happens d = holds_assigned m n s x happens.0 facts (gained exits (assigning s effect)) before after heap heap1 le below hold ground rooted grown happens.1 (gained_holds exits (assigning s effect) (changed_at before s happens.0) heap1 happens.2) fact is_b d
