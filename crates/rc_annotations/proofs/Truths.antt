-- What is derivable from facts that hold, holds; and what holds of a heap still holds where it grew.
use Rattle.std.proofs.Common.{◌≡◌, ℕ, zero, suc, ◌<◌, ◌≤◌, Bool, true, false, not, nat_eq, IsTrue, inl, inr, refl, sym, ap, ◌∙◌, subst, arith, rules, length, Some}
use Rattle.std.proofs.lemmas.Bool.{or_cases, or_left, or_right, and_parts, and_from, eqb-true, eq-eqb}
use Rattle.rc_core.specs.declared.ty.Note.{Note}
use Rattle.rc_core.specs.declared.ty.Note.TheVariants.{Plain, SameRegion, ParentPtr, Traditional}
use Rattle.rc_core.specs.Heap.{Value, Number, Null, Handle, Pointer, Heap, parent, is_above, is_above_within, fits}
use Rattle.rc_facts.specs.declared.fact.Fact.{Fact}
use Rattle.rc_facts.specs.declared.fact.Fact.TheVariants.{In, Up, Trad, NonNull}
use Rattle.rc_facts.specs.Derivable.{Derivable, stated, in_itself, in_through, up_through, up_by_in, in_back, present_by_in, present_by_up, trad_by_up, up_by_trad, in_by_trad}
use Rattle.rc_annotations.specs.Annotations.{Facts, is_below, asked}
use Rattle.rc_annotations.specs.Worlds.{Grown, Grounded}
use Rattle.rc_annotations.specs.Holding.{is_present, region_in, Holds, Rooted}

-- by steps up
data Above (parents : ℕ → ℕ) (a : ℕ) : ℕ → Type 0 where
  itself : {b : ℕ} → a ≡ b → Above parents a b
  higher : {b : ℕ} → nat_eq b 0 ≡ false → Above parents a (parents b) → Above parents a b

no_or_yes : (b : Bool) → not b ≡ true → b ≡ false
no_or_yes true e = cc
no_or_yes false e = refl

above_of : (parents : ℕ → ℕ) (steps a b : ℕ) → is_above_within parents steps a b ≡ true → Above parents a b
above_of parents zero a b e = itself (eqb-true a b e)
above_of parents (suc steps) a b e = elim (or_cases (nat_eq a b) _ e) [
  | inl same ↦ itself (eqb-true a b same)
  | inr more ↦
      let parts = and_parts (not (nat_eq b 0)) _ more in
      higher (no_or_yes (nat_eq b 0) parts.0) (above_of parents steps a (parents b) parts.1)
]

of_above : (parents : ℕ → ℕ) → Rooted parents → (steps : ℕ) {a b : ℕ} → b ≤ steps → Above parents a b → is_above_within parents steps a b ≡ true
of_above parents rooted zero {a} {b} le (itself e) = eq-eqb a b e
of_above parents rooted zero {a} {b} le (higher apart more) = absurd (zero_apart b le apart)
  where
    zero_apart : (b : ℕ) → b ≤ 0 → nat_eq b 0 ≡ false → ⊥
    zero_apart zero le e = cc
    zero_apart (suc b) le e = omega (arith, le)
of_above parents rooted (suc steps) {a} {b} le (itself e) = or_left (nat_eq a b) _ (eq-eqb a b e)
of_above parents rooted (suc steps) {a} {b} le (higher apart more) =
    or_right (nat_eq a b) _ (and_from (not (nat_eq b 0)) _ (ap not apart) (of_above parents rooted steps (let below = rooted b apart in omega (arith, below, le)) more))

above_trans : (parents : ℕ → ℕ) {a b c : ℕ} → Above parents a b → Above parents b c → Above parents a c
above_trans parents {a} one (itself e) = subst (λ x. Above parents a x) e one
above_trans parents one (higher apart more) = higher apart (above_trans parents one more)

suc_apart : (b : ℕ) → nat_eq (suc b) 0 ≡ false
suc_apart b = search rules

above_root : (parents : ℕ → ℕ) → Rooted parents → (n b : ℕ) → b ≤ n → Above parents 0 b
above_root parents rooted n zero le = itself refl
above_root parents rooted zero (suc b) le = absurd (omega (arith, le))
above_root parents rooted (suc n) (suc b) le = higher (suc_apart b) (above_root parents rooted n (parents (suc b)) (let below = rooted (suc b) (suc_apart b) in omega (arith, below, le)))

-- regions below n have the same parents
above_stays : (parents parents1 : ℕ → ℕ) → Rooted parents → (n : ℕ) → ((r : ℕ) → r < n → parents1 r ≡ parents r) → {a b : ℕ} → b < n → Above parents a b → Above parents1 a b
above_stays parents parents1 rooted n same lt (itself e) = itself e
above_stays parents parents1 rooted n same {a} {b} lt (higher apart more) = higher apart (subst (λ x. Above parents1 a x) (sym (same b lt)) (above_stays parents parents1 rooted n same (let below = rooted b apart in omega (arith, below, lt)) more))

pub above_itself : (parents : ℕ → ℕ) → Rooted parents → (a b : ℕ) → a ≡ b → is_above parents a b ≡ true
above_itself parents rooted a b e = of_above parents rooted b (omega arith) (itself e)

pub root_above : (parents : ℕ → ℕ) → Rooted parents → (b : ℕ) → is_above parents 0 b ≡ true
root_above parents rooted b = of_above parents rooted b (omega arith) (above_root parents rooted b b (omega arith))

pub is_above_trans : (parents : ℕ → ℕ) → Rooted parents → (a b c : ℕ) → is_above parents a b ≡ true → is_above parents b c ≡ true → is_above parents a c ≡ true
is_above_trans parents rooted a b c one two = of_above parents rooted c (omega arith) (above_trans parents (above_of parents b a b one) (above_of parents c b c two))

pub parent_above : (parents : ℕ → ℕ) → Rooted parents → (a b : ℕ) → nat_eq b 0 ≡ false → a ≡ parents b → is_above parents a b ≡ true
parent_above parents rooted a b apart e = of_above parents rooted b (omega arith) (higher apart (itself e))

pub is_above_stays : (parents parents1 : ℕ → ℕ) → Rooted parents → Rooted parents1 → (n : ℕ) → ((r : ℕ) → r < n → parents1 r ≡ parents r) → (a b : ℕ) → b < n → is_above parents a b ≡ true → is_above parents1 a b ≡ true
is_above_stays parents parents1 rooted rooted1 n same a b lt e = of_above parents1 rooted1 b (omega arith) (above_stays parents parents1 rooted n same lt (above_of parents b a b e))

-- the derivation rules are true
pub derivable_holds : (n : ℕ) (given : Facts) (values : ℕ → Value) (heap : Heap) → Rooted (parent heap) → ((p : Fact) → IsTrue (given p) → Holds p values heap) → {fact : Fact} → Derivable n given fact → Holds fact values heap
derivable_holds n given values heap rooted holds (stated is) = holds _ is
derivable_holds n given values heap rooted holds (in_itself below) = λ p. (p, refl)
derivable_holds n given values heap rooted holds (in_through one two) = λ p.
    let a = derivable_holds n given values heap rooted holds one p in
    let b = derivable_holds n given values heap rooted holds two a.0 in
    (b.0, a.1 ∙ b.1)
derivable_holds n given values heap rooted holds (up_through {x} {y} {z} one two) = λ p.
    let a = derivable_holds n given values heap rooted holds one p in
    let b = derivable_holds n given values heap rooted holds two a.0 in
    (b.0, is_above_trans (parent heap) rooted (region_in (values x)) (region_in (values y)) (region_in (values z)) a.1 b.1)
derivable_holds n given values heap rooted holds (up_by_in {x} {y} one) = λ p.
    let a = derivable_holds n given values heap rooted holds one p in
    (a.0, above_itself (parent heap) rooted (region_in (values x)) (region_in (values y)) a.1)
derivable_holds n given values heap rooted holds (in_back one two) = λ p.
    let b = derivable_holds n given values heap rooted holds two in
    let a = derivable_holds n given values heap rooted holds one b in
    (b, sym a.1)
derivable_holds n given values heap rooted holds (present_by_in one two) = (derivable_holds n given values heap rooted holds one (derivable_holds n given values heap rooted holds two)).0
derivable_holds n given values heap rooted holds (present_by_up one two) = (derivable_holds n given values heap rooted holds one (derivable_holds n given values heap rooted holds two)).0
derivable_holds n given values heap rooted holds (trad_by_up {x} {y} one two) = λ p.
    let a = derivable_holds n given values heap rooted holds one p in
    let b = derivable_holds n given values heap rooted holds two a.0 in
    eqb-true (region_in (values x)) 0 (subst (λ q. is_above (parent heap) (region_in (values x)) q ≡ true) b a.1)
derivable_holds n given values heap rooted holds (up_by_trad {x} {y} one two) = λ p.
    let a = derivable_holds n given values heap rooted holds one p in
    (derivable_holds n given values heap rooted holds two, subst (λ q. is_above (parent heap) q (region_in (values y)) ≡ true) (sym a) (root_above (parent heap) rooted (region_in (values y))))
derivable_holds n given values heap rooted holds (in_by_trad one two three) = λ p.
    let c = derivable_holds n given values heap rooted holds three in
    (c, derivable_holds n given values heap rooted holds one p ∙ sym (derivable_holds n given values heap rooted holds two c))

-- a heap that grew
pub holds_grown : (fact : Fact) (values : ℕ → Value) (before after : Heap) → Grounded values before → Rooted (parent after) → Grown before after → Holds fact values before → Holds fact values after
holds_grown (In x y) values before after g rooted grown h = h
holds_grown (Up x y) values before after g rooted grown h = λ p.
    let a = h p in
    (a.0, is_above_stays (parent before) (parent after) g.rooted rooted (length before) grown.parents (region_in (values x)) (region_in (values y)) (g.made y a.0) a.1)
holds_grown (Trad x) values before after g rooted grown h = h
holds_grown (NonNull x) values before after g rooted grown h = h

-- it depends on the values that it names alone
pub holds_same : (n : ℕ) (fact : Fact) (values others : ℕ → Value) (heap : Heap) → is_below n fact → ((x : ℕ) → x < n → others x ≡ values x) → Holds fact values heap → Holds fact others heap
holds_same n (In x y) values others heap below same h = rw (same x below.0, same y below.1) h
holds_same n (Up x y) values others heap below same h = rw (same x below.0, same y below.1) h
holds_same n (Trad x) values others heap below same h = rw (same x below) h
holds_same n (NonNull x) values others heap below same h = rw (same x below) h

-- the check of a store where what it asks holds, for a holder that isn't null
pub asked_fits : (note : Note) (value holder : ℕ) (fact : Fact) (values : ℕ → Value) (heap : Heap) → asked note value holder ≡ Some fact → Holds fact values heap → fits (parent heap) note (region_in (values holder)) (values value) ≡ true
asked_fits Plain value holder fact values heap e h = refl
asked_fits SameRegion value holder fact values heap e h = by (values value) (subst (λ f. Holds f values heap) (sym (some_same e)) h)
  where
    some_same : Some (In value holder) ≡ Some fact → In value holder ≡ fact
    some_same e = cc

    by : (v : Value) → (is_present v → is_present (values holder) × (region_in v ≡ region_in (values holder))) → fits (parent heap) SameRegion (region_in (values holder)) v ≡ true
    by (Number n) k = refl
    by Null k = refl
    by (Handle r) k = eq-eqb _ _ (k tt).1
    by (Pointer a) k = eq-eqb _ _ (k tt).1
asked_fits ParentPtr value holder fact values heap e h = by (values value) (subst (λ f. Holds f values heap) (sym (some_same e)) h)
  where
    some_same : Some (Up value holder) ≡ Some fact → Up value holder ≡ fact
    some_same e = cc

    by : (v : Value) → (is_present v → is_present (values holder) × IsTrue (is_above (parent heap) (region_in v) (region_in (values holder)))) → fits (parent heap) ParentPtr (region_in (values holder)) v ≡ true
    by (Number n) k = refl
    by Null k = refl
    by (Handle r) k = (k tt).1
    by (Pointer a) k = (k tt).1
asked_fits Traditional value holder fact values heap e h = by (values value) (subst (λ f. Holds f values heap) (sym (some_same e)) h)
  where
    some_same : Some (Trad value) ≡ Some fact → Trad value ≡ fact
    some_same e = cc

    by : (v : Value) → (is_present v → region_in v ≡ 0) → fits (parent heap) Traditional (region_in (values holder)) v ≡ true
    by (Number n) k = refl
    by Null k = refl
    by (Handle r) k = eq-eqb _ _ (k tt)
    by (Pointer a) k = eq-eqb _ _ (k tt)
