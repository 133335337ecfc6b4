-- What an operation on the fields of a set of facts does to the set.
use Rattle.std.proofs.Common.{◌≡◌, ◌≢◌, ◌∙◌, inl, inr, ◌↔◌, subst, ◌<◌, ◌≤◌, ℕ, Bool, true, false, not, ◌||◌, ◌&&◌, ◌==◌, nat_lt, cond, List, length, replicate, MatchBool, IsTrue, refl, sym, ap}
use Rattle.std.proofs.lemmas.List.{length-replicate, get_or-replicate}
use Rattle.std.proofs.lemmas.Bool.{MatchBool-at_true, cases_lt, cases_eq, ne_eqb, or_cases, and_parts, and_from, both_ways, lt-ltb, le-ltb}
use Rattle.rc_facts.specs.declared.fact.Fact.{Fact}
use Rattle.rc_facts.specs.declared.fact.Fact.TheVariants.{In, Up, Trad, NonNull}
use Rattle.rc_facts.specs.Derivable.{Derivable}
use Rattle.rc_facts.specs.Facts.{Known, holds, Drops, is_over, names, same_fact, replaced, with_replaced}
use Rattle.rc_facts.specs.Inside.{Fields, fields, test_of, facts_over, known_by, known_of, IsSound}
use Rattle.rc_base.specs.BitSets.{marks}
use Rattle.rc_facts.specs.Rows.{links, TellsExcess, TellsLost}
use Rattle.rc_facts.proofs.RowLoops.{links_beyond}
use Rattle.rc_facts.proofs.RowLaws.{and_never, eq_swap}
use Rattle.rc_facts.specs.Shut.{Placed, extended, IsBehind, IsClean, IsShut}
use Rattle.rc_facts.proofs.Fresh.{extended_over}
use Rattle.rc_facts.proofs.Sets.{holds_known, same_fact-true, all_over, and_implied, filter-lt}

-- a set holds what its fields have
holds_of : (f : Fields) → IsSound f → (fact : Fact) → holds (known_of f) fact ≡ test_of f fact
holds_of f sound fact = holds_known (length f.within) (test_of f) fact sound.over

pub test_is : (f : Fields) (known : Known) → known_of f ≡ known → IsSound f → test_of f ≡ holds known
test_is f known is sound = (λ i fact. sym (holds_of f sound fact) i) ∙ ap holds is

-- the fields have the facts that pass a test, kind by kind
pub record Has (f : Fields) (test : Fact → Bool) : Type 0 where
  pub ins : (x y : ℕ) → links f.within x y ≡ test (In x y)
  pub ups : (x y : ℕ) → links f.above x y ≡ test (Up x y)
  pub trads : (x : ℕ) → marks f.traditional x ≡ test (Trad x)
  pub presents : (x : ℕ) → marks f.present x ≡ test (NonNull x)

has_all : (f : Fields) (test : Fact → Bool) → Has f test → (fact : Fact) → test_of f fact ≡ test fact
has_all f test has (In x y) = has.ins x y
has_all f test has (Up x y) = has.ups x y
has_all f test has (Trad x) = has.trads x
has_all f test has (NonNull x) = has.presents x

-- n equal rows
links-replicate : (n row x y : ℕ) → links (replicate n row) x y ≡ (nat_lt x n && marks row y)
links-replicate n row x y = elim (cases_lt x n) [
  | inl below ↦ ap (λ r. marks r y) (get_or-replicate n x row 0 below) ∙ sym (ap (λ b. b && marks row y) (lt-ltb x n below))
  | inr beyond ↦ links_beyond (replicate n row) x y (rw length-replicate beyond) ∙ sym (ap (λ b. b && marks row y) (le-ltb x n beyond))
]

abbrev Equal : ℕ → ℕ → Fields
Equal n row = fields (replicate n row) (replicate n row) row row

-- a new set, with equal rows
made : (n row : ℕ) (wanted : Fact → Bool) → n ≤ 128 → ((fact : Fact) → wanted fact ≡ true → is_over n fact ≡ true) → Has (Equal n row) wanted → (w a : List ℕ) → w ≡ replicate n row → a ≡ replicate n row → IsSound (fields w a row row) × ((fact : Fact) → holds (known_of (fields w a row row)) fact ≡ wanted fact)
made n row wanted few over has w a w_is a_is =
    let is : (fact : Fact) → test_of (Equal n row) fact ≡ wanted fact = has_all (Equal n row) wanted has in
    let sound : IsSound (fields w a row row) = rw (w_is, a_is) (record {
      few = rw length-replicate few;
      same = refl;
      over = λ fact there. rw length-replicate (over fact (sym (is fact) ∙ there));
    }) in
    (sound, λ fact. holds_of (fields w a row row) sound fact ∙ (λ i. test_of (fields (w_is i) (a_is i) row row) fact) ∙ is fact)

pub full_set : (n row : ℕ) → n ≤ 128 → ((x : ℕ) → marks row x ≡ nat_lt x n) → (w a : List ℕ) → w ≡ replicate n row → a ≡ replicate n row → IsSound (fields w a row row) × ((fact : Fact) → holds (known_of (fields w a row row)) fact ≡ is_over n fact)
full_set n row few is = made n row (is_over n) few (λ fact there. there) (record { ins = pair; ups = pair; trads = is; presents = is })
  where
    pair : (x y : ℕ) → links (replicate n row) x y ≡ (nat_lt x n && nat_lt y n)
    pair x y = links-replicate n row x y ∙ ap (λ b. nat_lt x n && b) (is y)

pub empty_set : (n row : ℕ) → n ≤ 128 → ((x : ℕ) → marks row x ≡ false) → (w a : List ℕ) → w ≡ replicate n row → a ≡ replicate n row → IsSound (fields w a row row) × ((fact : Fact) → holds (known_of (fields w a row row)) fact ≡ false)
empty_set n row few is_none = made n row (λ fact. false) few (λ fact there. absurd (both_ways false refl there)) (record { ins = pair; ups = pair; trads = is_none; presents = is_none })
  where
    pair : (x y : ℕ) → links (replicate n row) x y ≡ false
    pair x y = links-replicate n row x y ∙ ap (λ b. nat_lt x n && b) (is_none y) ∙ and_never (nat_lt x n)

-- the name that takes another's place is a variable, so the other was one
replaced_below : (n from to x : ℕ) → to < n → nat_lt (replaced to from x) n ≡ true → nat_lt x n ≡ true
replaced_below n from to x below is = elim (cases_eq x to) [
  | inl same ↦ rw same (lt-ltb to n below)
  | inr other ↦ ap (λ b. nat_lt (cond b from x) n) (sym (ne_eqb x to other)) ∙ is
]

replaced_over : (n from to : ℕ) → to < n → (fact : Fact) → is_over n (with_replaced to from fact) ≡ true → is_over n fact ≡ true
replaced_over n from to below (In x y) is = let both = and_parts (nat_lt (replaced to from x) n) _ is in and_from (nat_lt x n) _ (replaced_below n from to x below both.0) (replaced_below n from to y below both.1)
replaced_over n from to below (Up x y) is = let both = and_parts (nat_lt (replaced to from x) n) _ is in and_from (nat_lt x n) _ (replaced_below n from to x below both.0) (replaced_below n from to y below both.1)
replaced_over n from to below (Trad x) is = replaced_below n from to x below is
replaced_over n from to below (NonNull x) is = replaced_below n from to x below is

-- whether one of four kinds of facts loses some
any_lost : (f other : Fields) (P Q : Type 0) → ((fact : Fact) → test_of f fact ≡ true → test_of other fact ≡ false → P) → (((fact : Fact) → test_of f fact ≡ true → test_of other fact ≡ true) → Q) → (ins ups trads presents : Bool) → TellsLost ins f.within other.within → TellsLost ups f.above other.above → TellsExcess trads f.traditional other.traditional → TellsExcess presents f.present other.present → MatchBool (((ins || ups) || trads) || presents) P Q
any_lost f other P Q lost kept true ups trads presents (x, y, there, out) _ _ _ = lost (In x y) there out
any_lost f other P Q lost kept false true trads presents _ (x, y, there, out) _ _ = lost (Up x y) there out
any_lost f other P Q lost kept false false true presents _ _ (x, there, out) _ = lost (Trad x) there out
any_lost f other P Q lost kept false false false true _ _ _ (x, there, out) = lost (NonNull x) there out
any_lost f other P Q lost kept false false false false ins ups trads presents = kept all
  where
    all : (fact : Fact) → test_of f fact ≡ true → test_of other fact ≡ true
    all (In x y) there = ins x y there
    all (Up x y) there = ups x y there
    all (Trad x) there = trads x there
    all (NonNull x) there = presents x there

-- the fields of a set, and those of the same set after an operation
pub record Turns (f g : Fields) (old : Known) : Type 0 where
  pub is : known_of f ≡ old
  pub sound : IsSound f
  pub same_within : length g.within ≡ length f.within
  pub same_above : length g.above ≡ length f.above

module _ {f g : Fields} {old : Known} (turns : Turns f g old) where
  sound_again : ((fact : Fact) → test_of g fact ≡ true → is_over (length f.within) fact ≡ true) → IsSound g
  sound_again over = record {
    few = rw turns.same_within turns.sound.few;
    same = turns.same_above ∙ turns.sound.same ∙ sym turns.same_within;
    over = λ fact there. rw turns.same_within (over fact there);
  }

  old_is : test_of f ≡ holds old
  old_is = test_is f old turns.is turns.sound

  -- what the set is where the new test comes from the old one by a rule
  by_rule : (rule : (Fact → Bool) → Fact → Bool) → Has g (rule (test_of f)) → ((fact : Fact) → rule (test_of f) fact ≡ true → is_over (length f.within) fact ≡ true) → IsSound g × ((fact : Fact) → holds (known_of g) fact ≡ rule (holds old) fact)
  by_rule rule has over =
      let tests : (fact : Fact) → test_of g fact ≡ rule (test_of f) fact = has_all g (rule (test_of f)) has in
      let sound = sound_again (λ fact there. over fact (sym (tests fact) ∙ there)) in
      (sound, λ fact. holds_of g sound fact ∙ tests fact ∙ ap (λ test. rule test fact) old_is)

  pub added : (new : Fact) → IsTrue (is_over old.variables new) → Has g (λ fact. test_of f fact || same_fact new fact) → (fact : Fact) → holds (known_of g) fact ≡ (holds old fact || same_fact new fact)
  added new fits has =
      let fits_here : is_over (length f.within) new ≡ true = ap (λ known. is_over known.variables new) turns.is ∙ fits in
      (by_rule (λ test fact. test fact || same_fact new fact) has (λ fact there. elim (or_cases (test_of f fact) _ there) [
        | inl before ↦ turns.sound.over fact before
        | inr same ↦ rw (same_fact-true new fact same) at fits_here
      ])).1

  pub forgot : (x : ℕ) → Has g (λ fact. test_of f fact && not (names x fact)) → (fact : Fact) → holds (known_of g) fact ≡ (holds old fact && not (names x fact))
  forgot x has = (by_rule (λ test fact. test fact && not (names x fact)) has (λ fact there. turns.sound.over fact (and_parts (test_of f fact) _ there).0)).1

  pub renamed : (from to : ℕ) → to < old.variables → Has g (λ fact. test_of f (with_replaced to from fact) && not (names from fact)) → IsSound g × ((fact : Fact) → holds (known_of g) fact ≡ (holds old (with_replaced to from fact) && not (names from fact)))
  renamed from to below has =
      let count : old.variables ≡ length f.within = sym (ap (λ known. known.variables) turns.is) in
      by_rule (λ test fact. test (with_replaced to from fact) && not (names from fact)) has
      (λ fact there. replaced_over (length f.within) from to (rw count at below) fact (turns.sound.over (with_replaced to from fact) (and_parts (test_of f (with_replaced to from fact)) _ there).0))

  pub doubled : (from to : ℕ) → to < old.variables → Has g (λ fact. test_of f (with_replaced to from fact)) → IsSound g × ((fact : Fact) → holds (known_of g) fact ≡ holds old (with_replaced to from fact))
  doubled from to below has =
      let count : old.variables ≡ length f.within = sym (ap (λ known. known.variables) turns.is) in
      by_rule (λ test fact. test (with_replaced to from fact)) has (λ fact there. replaced_over (length f.within) from to (rw count at below) fact (turns.sound.over (with_replaced to from fact) there))

  pub placed_set : (x : ℕ) (p : Placed) → x < old.variables → ((y : ℕ) → p.row_in y ≡ true → y < old.variables) → ((y : ℕ) → p.row_up y ≡ true → y < old.variables) → ((y : ℕ) → p.into_in y ≡ true → y < old.variables) → ((y : ℕ) → p.into_up y ≡ true → y < old.variables) → Has g (extended x p (test_of f)) → IsSound g × ((fact : Fact) → holds (known_of g) fact ≡ extended x p (holds old) fact)
  placed_set x p below row_in row_up into_in into_up has =
      let count : old.variables ≡ length f.within = sym (ap (λ known. known.variables) turns.is) in
      by_rule (λ test fact. extended x p test fact) has (extended_over (length f.within) x (test_of f) p (rw count at below) turns.sound.over (rw count at row_in) (rw count at row_up) (rw count at into_in) (rw count at into_up))

  pub derived : IsSound g → ((fact : Fact) → IsTrue (test_of g fact) ↔ Derivable (length f.within) (test_of f) fact) → (fact : Fact) → IsTrue (holds (known_of g) fact) ↔ Derivable old.variables (holds old) fact
  derived sound tests fact =
      let told = holds_of g sound fact in
      let same : Derivable (length f.within) (test_of f) fact ≡ Derivable old.variables (holds old) fact = λ i. Derivable (turns.is i).variables (old_is i) fact in
      (λ there. subst (λ (A : Type 0). A) same ((tests fact).0 (sym told ∙ there)), λ follows. told ∙ (tests fact).1 (subst (λ (A : Type 0). A) (sym same) follows))

  -- what a fact that is added to a closed set leaves
  pub gained_at : (news : List Fact) (s : ℕ) → IsSound g → (IsShut (length f.within) s (test_of f) → IsClean s (test_of f) → (fact : Fact) → IsTrue (test_of g fact) ↔ IsBehind (length f.within) s (test_of f) news fact) → IsShut old.variables s (holds old) → IsClean s (holds old) → (fact : Fact) → IsTrue (holds (known_of g) fact) ↔ IsBehind old.variables s (holds old) news fact
  gained_at news s sound tests shut clean fact =
      let told = holds_of g sound fact in
      let same : IsBehind (length f.within) s (test_of f) news fact ≡ IsBehind old.variables s (holds old) news fact = λ i. IsBehind (turns.is i).variables s (old_is i) news fact in
      let shut_rows : IsShut (length f.within) s (test_of f) = subst (λ (A : Type 0). A) (λ i. IsShut (sym turns.is i).variables s (sym old_is i)) shut in
      let clean_rows : IsClean s (test_of f) = subst (λ (A : Type 0). A) (λ i. IsClean s (sym old_is i)) clean in
      let closes = tests shut_rows clean_rows fact in
      (λ there. subst (λ (A : Type 0). A) same (closes.0 (sym told ∙ there)), λ follows. told ∙ closes.1 (subst (λ (A : Type 0). A) (sym same) follows))

  pub gained : (news : List Fact) (v : ℕ) → IsSound g → ((s : ℕ) → s ≢ v → IsShut (length f.within) s (test_of f) → IsClean s (test_of f) → (fact : Fact) → IsTrue (test_of g fact) ↔ IsBehind (length f.within) s (test_of f) news fact) → (s : ℕ) → s ≢ v → IsShut old.variables s (holds old) → IsClean s (holds old) → (fact : Fact) → IsTrue (holds (known_of g) fact) ↔ IsBehind old.variables s (holds old) news fact
  gained news v sound tests s apart = gained_at news s sound (tests s apart)

  -- what meeting the set of other fields drops
  module _ (other : Fields) (has : Has g (λ fact. test_of f fact && test_of other fact)) where
    met_sound : IsSound g × ((fact : Fact) → holds (known_of g) fact ≡ (holds old fact && test_of other fact))
    met_sound = by_rule (λ test fact. test fact && test_of other fact) has (λ fact there. turns.sound.over fact (and_parts (test_of f fact) _ there).0)

    met_tests : (fact : Fact) → test_of g fact ≡ (test_of f fact && test_of other fact)
    met_tests = has_all g (λ fact. test_of f fact && test_of other fact) has

    lost : (fact : Fact) → test_of f fact ≡ true → test_of other fact ≡ false → Drops old (known_of g)
    lost fact there out = (fact, sym (ap (λ test. test fact) old_is) ∙ there, met_sound.1 fact ∙ ap (λ b. holds old fact && b) out ∙ and_never (holds old fact))

    kept : ((fact : Fact) → test_of f fact ≡ true → test_of other fact ≡ true) → known_of g ≡ old
    kept both = (λ i. known_by (turns.same_within i) (λ fact. (met_tests fact ∙ and_implied (test_of f fact) (test_of other fact) (both fact)) i)) ∙ turns.is

    drops_fewer : Drops old (known_of g) → length (known_of g).facts < length old.facts
    drops_fewer (fact, before, after) =
        let there : test_of f fact ≡ true = ap (λ test. test fact) old_is ∙ before in
        let out : test_of g fact ≡ false = sym (holds_of g met_sound.0 fact) ∙ after in
        let found = all_over fact (length f.within) ∙ turns.sound.over fact there in
        let shorter = filter-lt (test_of g) (test_of f) (same_fact fact) (λ one is. (and_parts (test_of f one) _ (sym (met_tests one) ∙ is)).0) (λ one same. (sym (ap (test_of g) (same_fact-true fact one same)) ∙ out, sym (ap (test_of f) (same_fact-true fact one same)) ∙ there)) (facts_over (length f.within)) found in
        rw turns.same_within (rw (ap (λ known. length known.facts) turns.is) at shorter)

    pub met : (other_known : Known) → known_of other ≡ other_known → IsSound other → (fact : Fact) → holds (known_of g) fact ≡ (holds old fact && holds other_known fact)
    met other_known other_is other_sound fact = met_sound.1 fact ∙ ap (λ test. holds old fact && test fact) (test_is other other_known other_is other_sound)

    pub met_dropped : (ins ups trads presents : Bool) → TellsLost ins f.within other.within → TellsLost ups f.above other.above → TellsExcess trads f.traditional other.traditional → TellsExcess presents f.present other.present → MatchBool (((ins || ups) || trads) || presents) (Drops old (known_of g)) (known_of g ≡ old)
    met_dropped = any_lost f other (Drops old (known_of g)) (known_of g ≡ old) lost kept

    pub met_fewer : (answer : Bool) → MatchBool answer (Drops old (known_of g)) (known_of g ≡ old) → IsTrue answer → length (known_of g).facts < length old.facts
    met_fewer answer tells true_is = drops_fewer (MatchBool-at_true (Drops old (known_of g)) (known_of g ≡ old) true_is tells)

or_nothing : (b : Bool) → b ≡ (b || false)
or_nothing true = refl
or_nothing false = refl

-- the fields with one fact more
module _ (f : Fields) where
  pub has_in : (w : List ℕ) (x y : ℕ) → ((i j : ℕ) → links w i j ≡ (links f.within i j || (x == i && y == j))) → Has (fields w f.above f.traditional f.present) (λ fact. test_of f fact || same_fact (In x y) fact)
  has_in w x y linked = record { ins = linked; ups = λ i j. or_nothing _; trads = λ i. or_nothing _; presents = λ i. or_nothing _ }

  pub has_up : (a : List ℕ) (x y : ℕ) → ((i j : ℕ) → links a i j ≡ (links f.above i j || (x == i && y == j))) → Has (fields f.within a f.traditional f.present) (λ fact. test_of f fact || same_fact (Up x y) fact)
  has_up a x y linked = record { ins = λ i j. or_nothing _; ups = linked; trads = λ i. or_nothing _; presents = λ i. or_nothing _ }

  pub has_trad : (t x : ℕ) → ((i : ℕ) → marks t i ≡ (marks f.traditional i || i == x)) → Has (fields f.within f.above t f.present) (λ fact. test_of f fact || same_fact (Trad x) fact)
  has_trad t x marked = record { ins = λ i j. or_nothing _; ups = λ i j. or_nothing _; trads = λ i. marked i ∙ ap (λ b. marks f.traditional i || b) (eq_swap i x); presents = λ i. or_nothing _ }

  pub has_present : (p x : ℕ) → ((i : ℕ) → marks p i ≡ (marks f.present i || i == x)) → Has (fields f.within f.above f.traditional p) (λ fact. test_of f fact || same_fact (NonNull x) fact)
  has_present p x marked = record { ins = λ i j. or_nothing _; ups = λ i j. or_nothing _; trads = λ i. or_nothing _; presents = λ i. marked i ∙ ap (λ b. marks f.present i || b) (eq_swap i x) }
