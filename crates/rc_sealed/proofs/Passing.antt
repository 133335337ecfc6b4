-- What a call passes, and what it learns of the exit.
use Rattle.std.proofs.Common.{◌≡◌, ℕ, zero, suc, ◌+◌, ◌<◌, ◌≤◌, Bool, true, false, ◌||◌, IsTrue, List, [], ◌∷◌, ◌++◌, length, map, take, drop, get_or, reverse, Option, Some, None, inl, inr, refl, sym, ap, ◌∙◌, subst, arith}
use Rattle.std.specs.List.{AllByRecursion as Every}
use Rattle.std.proofs.lemmas.Bool.{eqb-true, or_cases, and_parts}
use Rattle.rc_core.specs.Heap.{Value, Null, Heap, parent}
use Rattle.rc_core.specs.Source.{World}
use Rattle.rc_facts.specs.declared.fact.Fact.{Fact}
use Rattle.rc_facts.specs.declared.fact.Fact.TheVariants.{In, Up, Trad, NonNull}
use Rattle.rc_facts.specs.Facts.{is_over, same_fact}
use Rattle.rc_annotations.specs.Annotations.{Annotation, exit_facts, is_place, place_in, some_below, pair_fact, some_pair}
use Rattle.rc_annotations.specs.Holding.{Holds, AllHold, Rooted}
use Rattle.rc_annotations.specs.Variables.{picked, past}
use Rattle.rc_annotations.proofs.Truths.{derivable_holds, holds_same}
use Rattle.rc_annotations.proofs.Effects.{is}
use Rattle.rc_code.specs.declared.kind.Storage.{Storage}
use Rattle.rc_code.specs.declared.kind.Storage.TheVariants as storage
use Rattle.rc_code.specs.declared.image.Function.{Function}
use Rattle.rc_code.specs.Running.{Reading, function_at, kept, kept_all, first_in, first_locals}
use Rattle.rc_code.specs.Soundness.{is_regional}
use Rattle.rc_claims.specs.Counts.{trues, regionals, copies, place}
use Rattle.rc_sealed.specs.ImageVariables.{variables, values_of}
use Rattle.rc_sealed.specs.Carrying.{is_target, regional_places, Begins, Before, either, entry_pairs}
use Rattle.rc_sealed.specs.Proved.{EntryIsProved}
use Rattle.rc_sealed.proofs.Safe.{FreshIn}
use Rattle.rc_sealed.proofs.Values.{copy_value}
use Rattle.rc_sealed.proofs.Carry.{Hold, over_below}
use Rattle.rc_sealed.proofs.Others.{kept_fresh}

-- ---- lists

kept_regional : (s : Storage) (v : Value) → is_regional s ≡ true → kept s v ≡ v
kept_regional (storage.Number n) v e = cc
kept_regional storage.Region v e = refl
kept_regional (storage.Pointer t) v e = refl

pub picked_count : (bs : List Bool) (n : ℕ) (vs : List Value) → length (picked (take n bs) vs) ≡ trues bs n
picked_count [] zero vs = refl
picked_count [] (suc n) vs = refl
picked_count (true ∷ bs) zero vs = refl
picked_count (false ∷ bs) zero vs = refl
picked_count (true ∷ bs) (suc n) [] = ap suc (picked_count bs n [])
picked_count (true ∷ bs) (suc n) (v ∷ vs) = ap suc (picked_count bs n vs)
picked_count (false ∷ bs) (suc n) [] = picked_count bs n []
picked_count (false ∷ bs) (suc n) (v ∷ vs) = picked_count bs n vs

pub picked_each : (P : Value → Type 0) → P Null → (bs : List Bool) (vs : List Value) → Every P vs → Every P (picked bs vs)
picked_each P none [] vs all = tt
picked_each P none (true ∷ bs) [] all = (none, picked_each P none bs [] tt)
picked_each P none (true ∷ bs) (v ∷ vs) all = (all.0, picked_each P none bs vs all.1)
picked_each P none (false ∷ bs) [] all = picked_each P none bs [] tt
picked_each P none (false ∷ bs) (v ∷ vs) all = picked_each P none bs vs all.1

past_at : (vs : List Value) (t : ℕ → Value) (u : ℕ) → u < length vs → past vs t u ≡ get_or vs u Null
past_at [] t u lt = absurd (omega (arith, lt))
past_at (v ∷ vs) t zero lt = refl
past_at (v ∷ vs) t (suc u) lt = past_at vs t u (omega (arith, lt))

-- the parameters that are regions or pointers are the first of such locals
parameter_is : (ss : List Storage) (vs rest : List Value) (n : ℕ) (t : ℕ → Value) (k : ℕ) → length vs ≡ n → n ≤ length ss → k < trues (map is_regional ss) n → past (picked (map is_regional ss) (kept_all ss vs ++ rest)) t k ≡ get_or (picked (take n (map is_regional ss)) vs) k Null
parameter_is [] vs rest n t k e le lt = absurd (omega (arith, lt))
parameter_is (s ∷ ss) [] rest zero t k e le lt = absurd (omega (arith, lt))
parameter_is (s ∷ ss) [] rest (suc n) t k e le lt = absurd (omega (arith, e))
parameter_is (s ∷ ss) (v ∷ vs) rest zero t k e le lt = absurd (omega (arith, e))
parameter_is (s ∷ ss) (v ∷ vs) rest (suc n) t k e le lt = by (is_regional s) refl k lt (λ j. parameter_is ss vs rest n t j (omega (arith, e)) (omega (arith, le)))
  where
    by : (b : Bool) → is_regional s ≡ b → (k : ℕ) → k < trues (b ∷ map is_regional ss) (suc n) → ((j : ℕ) → j < trues (map is_regional ss) n → past (picked (map is_regional ss) (kept_all ss vs ++ rest)) t j ≡ get_or (picked (take n (map is_regional ss)) vs) j Null)
        → past (picked (b ∷ map is_regional ss) (kept s v ∷ (kept_all ss vs ++ rest))) t k ≡ get_or (picked (b ∷ take n (map is_regional ss)) (v ∷ vs)) k Null
    by true e zero lt more = kept_regional s v e
    by true e (suc k) lt more = more k (omega (arith, lt))
    by false e k lt more = more k lt

all_kept_fresh : (w : World) (ss : List Storage) (vs : List Value) → Every (FreshIn w) vs → Every (FreshIn w) (kept_all ss vs)
all_kept_fresh w [] [] all = tt
all_kept_fresh w (s ∷ ss) [] all = tt
all_kept_fresh w [] (v ∷ vs) all = all
all_kept_fresh w (s ∷ ss) (v ∷ vs) all = (kept_fresh w s v all.0, all_kept_fresh w ss vs all.1)

all_first_fresh : (w : World) (ss : List Storage) → Every (FreshIn w) (map first_in ss)
all_first_fresh w [] = tt
all_first_fresh w (s ∷ ss) = (by s, all_first_fresh w ss)
  where
    by : (s : Storage) → FreshIn w (first_in s)
    by (storage.Number n) = refl
    by storage.Region = refl
    by (storage.Pointer t) = refl

pub first_fresh : (w : World) (f : Function) (vs : List Value) → Every (FreshIn w) vs → Every (FreshIn w) (first_locals f vs)
first_fresh w f vs all = Rattle.rc_safety.proofs.Lists.every_append (FreshIn w) (kept_all f.locals vs) (map first_in (drop (length vs) f.locals)) (all_kept_fresh w f.locals vs all) (all_first_fresh w (drop (length vs) f.locals))

-- ---- the facts at an entry

-- the copies of the arguments
abbrev pub given_to : Function → List Value → List Value
given_to f vs = picked (take f.parameters (regionals f)) vs

pub given_whole : (f : Function) (vs : List Value) → length (given_to f vs) ≡ copies f
given_whole f vs = picked_count (regionals f) f.parameters vs

either_of : (a b : Bool) (P : Type 0) → (a ≡ true → P) → (b ≡ true → P) → (a || b) ≡ true → P
either_of a b P f g e = elim (or_cases a b e) [ inl x ↦ f x | inr y ↦ g y ]

pairs_hold : (values : ℕ → Value) (heap : Heap) (c : ℕ) → (n : ℕ) → ((k : ℕ) → k < n → values k ≡ values (c + k)) → (p : Fact) → some_pair (entry_pairs c n) p ≡ true → Holds p values heap
pairs_hold values heap c zero same p e = cc
pairs_hold values heap c (suc k) same p e =
    either_of (same_fact p (In k (c + k))) _ (Holds p values heap) (is p (In k (c + k)) values heap (both (same k (omega arith)))) (λ e1.
    either_of (same_fact p (In (c + k) k)) _ (Holds p values heap) (is p (In (c + k) k) values heap (both (sym (same k (omega arith))))) (λ e2. pairs_hold values heap c k (λ j lt. same j (omega (arith, lt))) p e2) e1) e
  where
    both : {u v : Value} → u ≡ v → Rattle.rc_annotations.specs.Holding.is_present u → Rattle.rc_annotations.specs.Holding.is_present v × (Rattle.rc_annotations.specs.Holding.region_in u ≡ Rattle.rc_annotations.specs.Holding.region_in v)
    both e p = (subst Rattle.rc_annotations.specs.Holding.is_present e p, ap Rattle.rc_annotations.specs.Holding.region_in e)

module _ (image : Reading) (proofs : Annotation) (h : ℕ) (vs : List Value) (heap : Heap) where
  abbrev to : Function
  to = function_at image h

  abbrev at_entry : ℕ → Value
  at_entry = values_of to (given_to to vs) (first_locals to vs) []

  pub entry_hold : Rooted (parent heap) → length vs ≡ to.parameters → to.parameters ≤ length to.locals → ((fact : Fact) → IsTrue (proofs.entry h fact) → IsTrue (is_over (copies to) fact)) → EntryIsProved image proofs h 0
      → ((fact : Fact) → IsTrue (proofs.entry h fact) → Holds fact (past (given_to to vs) (λ i. Null)) heap) → Hold (Before image proofs h 0) at_entry heap
  entry_hold rooted long le over proved entry fact b = by (is_target to 0) refl b
    where
      copy : (u : ℕ) → u < copies to → at_entry u ≡ past (given_to to vs) (λ i. Null) u
      copy u lt = copy_value to (given_to to vs) (given_whole to vs) (first_locals to vs) [] u lt ∙ sym (past_at (given_to to vs) (λ i. Null) u (let l = given_whole to vs in omega (arith, lt, l)))

      pair : (k : ℕ) → k < copies to → at_entry k ≡ at_entry (copies to + k)
      pair k lt =
          copy_value to (given_to to vs) (given_whole to vs) (first_locals to vs) [] k lt
          ∙ sym (Rattle.rc_annotations.proofs.Variables.past_there (given_to to vs) (past (picked (regionals to) (first_locals to vs)) (Rattle.rc_code.specs.Running.value_at (reverse []))) k _ (ap (λ c. c + k) (sym (given_whole to vs)))
          ∙ parameter_is to.locals vs (map first_in (drop (length vs) to.locals)) to.parameters (Rattle.rc_code.specs.Running.value_at (reverse [])) k long le lt)

      given : (p : Fact) → IsTrue (proofs.entry h p || some_pair (entry_pairs (copies to) (copies to)) p) → Holds p at_entry heap
      given p e = either_of (proofs.entry h p) (some_pair (entry_pairs (copies to) (copies to)) p) (Holds p at_entry heap)
          (λ e1. holds_same (copies to) p (past (given_to to vs) (λ i. Null)) at_entry heap (over_below (copies to) p (over p e1)) copy (entry p e1))
          (pairs_hold at_entry heap (copies to) (copies to) pair p) e

      derived : {p : Fact} → Rattle.rc_facts.specs.Derivable.Derivable (variables image to) (λ p. proofs.entry h p || some_pair (entry_pairs (copies to) (copies to)) p) p → Holds p at_entry heap
      derived d = derivable_holds (variables image to) (λ p. proofs.entry h p || some_pair (entry_pairs (copies to) (copies to)) p) at_entry heap rooted given d

      by : (c : Bool) → is_target to 0 ≡ c → either c (IsTrue (proofs.before h 0 fact)) (Begins image proofs h fact) → Holds fact at_entry heap
      by true e b = derived (proved.target e fact b)
      by false e b = derived b.derived

-- ---- the facts at an exit

some_of : (test : ℕ → Bool) (m : ℕ) → some_below test m ≡ true → (i : ℕ) × (test i ≡ true)
some_of test zero e = cc
some_of test (suc m) e = elim (or_cases (test m) (some_below test m) e) [ inl x ↦ (m, x) | inr y ↦ some_of test m y ]

place_of : (o : Option ℕ) (u : ℕ) → is_place o u ≡ true → o ≡ Some u
place_of None u e = cc
place_of (Some v) u e = ap Some (eqb-true v u e)

-- what stands at a place of the call, the result being r
pub place_is : (f : Function) (bs : List Bool) (vs : List Value) (j : ℕ) (x : Option ℕ) (i u : ℕ) (values : ℕ → Value) (r : Value) → ((k : ℕ) → k < length bs → values (place f (j + k)) ≡ get_or vs k Null) → ((y : ℕ) → x ≡ Some y → values y ≡ r)
    → place_in (regional_places f bs j) x i ≡ Some u → values u ≡ past (picked bs vs) (λ _. r) i
place_is f [] vs j None i u values r old new e = cc
place_is f [] vs j (Some y) zero u values r old new e = let k : y ≡ u = cc in ap values (sym k) ∙ new y refl
place_is f [] vs j (Some y) (suc i) u values r old new e = cc
place_is f (true ∷ bs) [] j x zero u values r old new e = let k : place f j ≡ u = cc in ap values (sym k ∙ ap (place f) (let q : j ≡ j + 0 = omega arith in q)) ∙ old 0 (omega arith)
place_is f (true ∷ bs) [] j x (suc i) u values r old new e = place_is f bs [] (suc j) x i u values r (λ k lt. ap (λ m. values (place f m)) (let q : suc j + k ≡ j + suc k = omega arith in q) ∙ old (suc k) (omega (arith, lt))) new e
place_is f (true ∷ bs) (v ∷ vs) j x zero u values r old new e = let k : place f j ≡ u = cc in ap values (sym k ∙ ap (place f) (let q : j ≡ j + 0 = omega arith in q)) ∙ old 0 (omega arith)
place_is f (true ∷ bs) (v ∷ vs) j x (suc i) u values r old new e = place_is f bs vs (suc j) x i u values r (λ k lt. ap (λ m. values (place f m)) (let q : suc j + k ≡ j + suc k = omega arith in q) ∙ old (suc k) (omega (arith, lt))) new e
place_is f (false ∷ bs) [] j x i u values r old new e = place_is f bs [] (suc j) x i u values r (λ k lt. ap (λ m. values (place f m)) (let q : suc j + k ≡ j + suc k = omega arith in q) ∙ old (suc k) (omega (arith, lt))) new e
place_is f (false ∷ bs) (v ∷ vs) j x i u values r old new e = place_is f bs vs (suc j) x i u values r (λ k lt. ap (λ m. values (place f m)) (let q : suc j + k ≡ j + suc k = omega arith in q) ∙ old (suc k) (omega (arith, lt))) new e

pub exit_hold : (proofs : Annotation) (f : Function) (h : ℕ) (bs : List Bool) (vs : List Value) (j : ℕ) (x : Option ℕ) (values : ℕ → Value) (r : Value) (heap : Heap) → ((k : ℕ) → k < length bs → values (place f (j + k)) ≡ get_or vs k Null) → ((y : ℕ) → x ≡ Some y → values y ≡ r)
    → AllHold (proofs.exit h) (past (picked bs vs) (λ _. r)) heap → (p : Fact) → IsTrue (exit_facts proofs h (regional_places f bs j) x p) → Holds p values heap
exit_hold proofs f h bs vs j x values r heap old new hold p e =
    let arguments = regional_places f bs j in
    let one = some_of (λ i. some_below (pair_fact (proofs.exit h) arguments x p i) (suc (length arguments))) (suc (length arguments)) e in
    let two = some_of (pair_fact (proofs.exit h) arguments x p one.0) (suc (length arguments)) one.1 in
    by p one.0 two.0 two.1
  where
    same : (i u : ℕ) → is_place (place_in (regional_places f bs j) x i) u ≡ true → values u ≡ past (picked bs vs) (λ k. r) i
    same i u e = place_is f bs vs j x i u values r old new (place_of (place_in (regional_places f bs j) x i) u e)

    by : (p : Fact) (i k : ℕ) → pair_fact (proofs.exit h) (regional_places f bs j) x p i k ≡ true → Holds p values heap
    by (In y z) i k e = let b = and_parts (is_place (place_in (regional_places f bs j) x i) y) _ e in let d = and_parts (is_place (place_in (regional_places f bs j) x k) z) _ b.1 in rw (same i y b.0, same k z d.0) (hold (In i k) d.1)
    by (Up y z) i k e = let b = and_parts (is_place (place_in (regional_places f bs j) x i) y) _ e in let d = and_parts (is_place (place_in (regional_places f bs j) x k) z) _ b.1 in rw (same i y b.0, same k z d.0) (hold (Up i k) d.1)
    by (Trad y) i k e = let b = and_parts (is_place (place_in (regional_places f bs j) x i) y) _ e in rw (same i y b.0) (hold (Trad i) b.1)
    by (NonNull y) i k e = let b = and_parts (is_place (place_in (regional_places f bs j) x i) y) _ e in rw (same i y b.0) (hold (NonNull i) b.1)

-- the entry's facts on the arguments
pub argument_is : (f : Function) (bs : List Bool) (vs : List Value) (j i : ℕ) (values : ℕ → Value) → ((k : ℕ) → values (place f (j + k)) ≡ get_or vs k Null) → i < trues bs (length bs) → values (get_or (regional_places f bs j) i 0) ≡ past (picked bs vs) (λ _. Null) i
argument_is f [] vs j i values old lt = absurd (omega (arith, lt))
argument_is f (true ∷ bs) [] j zero values old lt = ap values (ap (place f) (let q : j ≡ j + 0 = omega arith in q)) ∙ old 0
argument_is f (true ∷ bs) [] j (suc i) values old lt = argument_is f bs [] (suc j) i values (λ k. ap (λ m. values (place f m)) (let q : suc j + k ≡ j + suc k = omega arith in q) ∙ old (suc k)) (omega (arith, lt))
argument_is f (true ∷ bs) (v ∷ vs) j zero values old lt = ap values (ap (place f) (let q : j ≡ j + 0 = omega arith in q)) ∙ old 0
argument_is f (true ∷ bs) (v ∷ vs) j (suc i) values old lt = argument_is f bs vs (suc j) i values (λ k. ap (λ m. values (place f m)) (let q : suc j + k ≡ j + suc k = omega arith in q) ∙ old (suc k)) (omega (arith, lt))
argument_is f (false ∷ bs) [] j i values old lt = argument_is f bs [] (suc j) i values (λ k. ap (λ m. values (place f m)) (let q : suc j + k ≡ j + suc k = omega arith in q) ∙ old (suc k)) lt
argument_is f (false ∷ bs) (v ∷ vs) j i values old lt = argument_is f bs vs (suc j) i values (λ k. ap (λ m. values (place f m)) (let q : suc j + k ≡ j + suc k = omega arith in q) ∙ old (suc k)) lt
