-- The rows of a set of facts, as tests of its facts.
use Rattle.std.proofs.Common.{◌≡◌, ◌≢◌, ◌⊎◌, inl, inr, ℕ, zero, suc, ◌<◌, Bool, true, false, ◌&&◌, ◌==◌, nat_lt, refl, sym, ap, arith}
use Rattle.std.specs.List.{list_any}
use Rattle.std.proofs.lemmas.Bool.{or_cases, or_left, or_right, and_parts, and_from, both_ways, ltb-true, eq-eqb, cases_eq, ne_eqb, lt-ltb}
use Rattle.rc_facts.specs.declared.fact.Fact.{Fact}
use Rattle.rc_facts.specs.declared.fact.Fact.TheVariants.{In, Up, Trad, NonNull}
use Rattle.rc_facts.specs.Facts.{Known, holds, is_over, same_fact}
use Rattle.rc_facts.specs.Inside.{Fields, IsSound, known_of, test_of}
use Rattle.rc_facts.specs.Null.{in_each, null_news}
use Rattle.rc_facts.specs.Rows.{links}
use Rattle.rc_facts.specs.Shut.{IsBelow}
use Rattle.rc_facts.proofs.Sets.{same_fact-true}
use Rattle.rc_facts.proofs.SetLaws.{test_is}
use Rattle.rc_facts.proofs.Shut.{others, truly}

module _ (f : Fields) (known : Known) (is : known_of f ≡ known) (sound : IsSound f) where
  pub has : (fact : Fact) → test_of f fact ≡ holds known fact
  has fact = ap (λ test. test fact) (test_is f known is sound)

  over : (fact : Fact) → test_of f fact ≡ true → is_over known.variables fact ≡ true
  over fact there = rw (ap (λ k. k.variables) is) at (sound.over fact there)

  pub trad_below : IsBelow known.variables f.traditional
  trad_below y at = ltb-true y _ (over (Trad y) at)

  pub present_below : IsBelow known.variables f.present
  present_below y at = ltb-true y _ (over (NonNull y) at)

  pub within_below : (y x : ℕ) → links f.within y x ≡ true → x < known.variables
  within_below y x at = ltb-true x _ (and_parts (nat_lt y known.variables) _ (over (In y x) at)).1

  pub above_below : (y x : ℕ) → links f.above y x ≡ true → x < known.variables
  above_below y x at = ltb-true x _ (and_parts (nat_lt y known.variables) _ (over (Up y x) at)).1

  pub above_from : (y x : ℕ) → links f.above y x ≡ true → y < known.variables
  above_from y x at = ltb-true y _ (and_parts (nat_lt y known.variables) _ (over (Up y x) at)).0

-- the news of null
pub null_links : (n x v : ℕ) → v < n → list_any (λ q. same_fact q (In x v)) (in_each n x) ≡ true
null_links zero x v below = absurd (omega (arith, below))
null_links (suc k) x v below = elim (cases_eq v k) [
  | inl same ↦ or_left (x == x && k == v) _ (and_from (x == x) _ (eq-eqb x x refl) (eq-eqb k v (sym same)))
  | inr other ↦ or_right (x == x && k == v) _ (null_links k x v (omega (arith, below, other)))
]

pub each_is_link : (n x : ℕ) (f : Fact) → list_any (λ q. same_fact q f) (in_each n x) ≡ true → (v : ℕ) × (v < n) × (f ≡ In x v)
each_is_link zero x f at = absurd (both_ways false refl at)
each_is_link (suc k) x f at = elim (or_cases (same_fact (In x k) f) _ at) [
  | inl same ↦ (k, omega arith, sym (same_fact-true (In x k) f same))
  | inr later ↦ (let (v, below, is) = each_is_link k x f later in (v, omega (arith, below), is))
]

pub null_only : (n x : ℕ) (f : Fact) → list_any (λ q. same_fact q f) (null_news n x) ≡ true → (f ≡ Trad x) ⊎ ((v : ℕ) × (v < n) × (f ≡ In x v))
null_only n x f at = elim (or_cases (same_fact (Trad x) f) _ at) [
  | inl same ↦ inl (sym (same_fact-true (Trad x) f same))
  | inr later ↦ inr (each_is_link n x f later)
]

pub is_other : (n s y : ℕ) → y < n → s ≢ y → others n s y ≡ true
is_other n s y below apart = and_from (nat_lt y n) _ (lt-ltb y n below) (truly _ (ne_eqb y s (λ e. apart (sym e))))

pub same_bool : (a b : Bool) → (a ≡ true → b ≡ true) → (b ≡ true → a ≡ true) → a ≡ b
same_bool true b there back = sym (there refl)
same_bool false true there back = back refl
same_bool false false there back = refl
