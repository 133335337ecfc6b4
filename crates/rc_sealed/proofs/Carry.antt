-- The facts that proofs give before an instruction hold behind the one above it, where the effect happens as it says.
use Rattle.std.proofs.Common.{◌≡◌, ℕ, zero, suc, ◌<◌, ◌≤◌, Bool, true, false, not, nat_lt, IsTrue, List, [], ◌∷◌, length, Option, Some, inl, inr, ◌⊎◌, refl, sym, ap, ◌∙◌, subst, arith, rules}
use Rattle.std.specs.List.{AllByRecursion as Every}
use Rattle.std.proofs.lemmas.Bool.{or_cases, and_parts, and_from, ltb-true, lt-ltb}
use Rattle.rc_core.specs.declared.ty.Note.{Note}
use Rattle.rc_core.specs.Heap.{Value, Heap, parent, is_above, fits}
use Rattle.rc_facts.specs.declared.fact.Fact.{Fact}
use Rattle.rc_facts.specs.declared.fact.Fact.TheVariants.{In, Up, Trad, NonNull}
use Rattle.rc_facts.specs.Facts.{is_over, same_fact}
use Rattle.rc_rlang.specs.RegionFlow.{nulled, moved, fixed, beside, made, under, loaded, assigned}
use Rattle.rc_rlang.specs.RegionRuns.{changed_at}
use Rattle.rc_annotations.specs.Annotations.{Facts, Annotation, exit_facts, is_below}
use Rattle.rc_annotations.specs.Holding.{is_present, region_in, Holds, Rooted}
use Rattle.rc_annotations.specs.Worlds.{Grown, Grounded}
use Rattle.rc_annotations.specs.Effects.{Absent, Happens}
use Rattle.rc_annotations.proofs.Truths.{derivable_holds}
use Rattle.rc_annotations.proofs.Effects.{same_facts, allowed_holds, changed_there, changed_else, below_apart}
use Rattle.rc_code.specs.declared.image.Function.{Function}
use Rattle.rc_code.specs.Running.{Reading, function_at}
use Rattle.rc_code.specs.Soundness.{instruction_at, kinds_before}
use Rattle.rc_claims.specs.Counts.{trues, place}
use Rattle.rc_sealed.specs.ImageVariables.{greater, height_within, scratch, variables}
use Rattle.rc_sealed.specs.Carrying.{is_target, effect_at, is_gone, speaks, among, Follows, Begins, Carried, Before, either}
use Rattle.rc_sealed.specs.Proved.{Way, Proved}

-- ---- sets and lists of facts

abbrev pub Hold : (known : Fact → Type 0) → (values : ℕ → Value) → Heap → Type 0
Hold known values heap = (fact : Fact) → known fact → Holds fact values heap

among_each : (P : Fact → Type 0) (facts : List Fact) → Every P facts → (p : Fact) → IsTrue (among facts p) → P p
among_each P [] all p e = cc
among_each P (q ∷ facts) all p e = elim (or_cases (same_fact p q) (among facts p) e) [
  | inl one ↦ subst P (sym (same_facts p q one)) all.0
  | inr more ↦ among_each P facts all.1 p more
]

each_more : (P Q : Fact → Type 0) → ((p : Fact) → P p → Q p) → (facts : List Fact) → Every P facts → Every Q facts
each_more P Q k [] all = tt
each_more P Q k (p ∷ facts) all = (k p all.0, each_more P Q k facts all.1)

pub over_below : (n : ℕ) (fact : Fact) → IsTrue (is_over n fact) → is_below n fact
over_below n (In x y) e = let b = and_parts (nat_lt x n) _ e in (ltb-true x n b.0, ltb-true y n b.1)
over_below n (Up x y) e = let b = and_parts (nat_lt x n) _ e in (ltb-true x n b.0, ltb-true y n b.1)
over_below n (Trad x) e = ltb-true x n e
over_below n (NonNull x) e = ltb-true x n e

pub follows_hold : (n : ℕ) (known : Fact → Type 0) (values : ℕ → Value) (heap : Heap) → Rooted (parent heap) → Hold known values heap → Hold (Follows n known) values heap
follows_hold n known values heap rooted hold fact follows =
    derivable_holds n (among follows.used) values heap rooted (among_each (λ p. Holds p values heap) follows.used (each_more known (λ p. Holds p values heap) hold follows.used follows.each)) follows.derived

-- it speaks of variables alone that have the same values
pub holds_named : (n : ℕ) (test : ℕ → Bool) (fact : Fact) (values others : ℕ → Value) (heap : Heap) → is_below n fact → IsTrue (speaks test fact) → ((u : ℕ) → u < n → IsTrue (test u) → others u ≡ values u) → Holds fact values heap → Holds fact others heap
holds_named n test (In x y) values others heap below e same h = let b = and_parts (test x) _ e in rw (same x below.0 b.0, same y below.1 b.1) h
holds_named n test (Up x y) values others heap below e same h = let b = and_parts (test x) _ e in rw (same x below.0 b.0, same y below.1 b.1) h
holds_named n test (Trad x) values others heap below e same h = rw (same x below e) h
holds_named n test (NonNull x) values others heap below e same h = rw (same x below e) h

-- ---- heights

pub greater_left : (a b : ℕ) → a ≤ greater a b
greater_left a b = by (nat_lt a b) refl
  where
    by : (c : Bool) → nat_lt a b ≡ c → a ≤ greater a b
    by true e = rw e (let l = ltb-true a b e in omega (arith, l))
    by false e = rw e (omega arith)

pub greater_right : (a b : ℕ) → b ≤ greater a b
greater_right a b = by (nat_lt a b) refl
  where
    not_less : nat_lt a b ≡ false → b ≤ a
    not_less e = grind (arith, rules, e)

    by : (c : Bool) → nat_lt a b ≡ c → b ≤ greater a b
    by true e = rw e (omega arith)
    by false e = rw e (not_less e)

pub height_bound : (image : Reading) (f : Function) (n m : ℕ) → n ≤ m → length (kinds_before image f n) ≤ height_within image f m
height_bound image f zero m le = omega arith
height_bound image f (suc n) zero le = absurd (omega (arith, le))
height_bound image f (suc n) (suc m) le = by (height_bound image f (suc n) m) (split n m)
  where
    split : (a b : ℕ) → (a < b) ⊎ (b ≤ a)
    split a b = grind arith

    at_last : n ≡ m → length (kinds_before image f (suc n)) ≤ height_within image f (suc m)
    at_last e = subst (λ k. length (kinds_before image f (suc k)) ≤ height_within image f (suc m)) (sym e) (greater_right (height_within image f m) (length (kinds_before image f (suc m))))

    by : (suc n ≤ m → length (kinds_before image f (suc n)) ≤ height_within image f m) → (n < m) ⊎ (m ≤ n) → length (kinds_before image f (suc n)) ≤ height_within image f (suc m)
    by before (inl lt) = let k = before (omega (arith, lt)) in let j = greater_left (height_within image f m) (length (kinds_before image f (suc m))) in omega (arith, k, j)
    by before (inr ge) = at_last (omega (arith, le, ge))

pub trues_bound : (bs : List Bool) (x : ℕ) → trues bs x ≤ trues bs (length bs)
trues_bound [] x = omega arith
trues_bound (true ∷ bs) zero = omega arith
trues_bound (false ∷ bs) zero = omega arith
trues_bound (true ∷ bs) (suc x) = let k = trues_bound bs x in omega (arith, k)
trues_bound (false ∷ bs) (suc x) = trues_bound bs x

-- ---- what happens, by its effect: x gets v, and y is another variable or the old x

module _ (exits : ℕ → List ℕ → Option ℕ → Facts) (s : ℕ) (values : ℕ → Value) (v : Value) (heap : Heap) where
  new : changed_at values s v s ≡ v
  new = changed_there values s v s refl

  old : (y : ℕ) → y < s → changed_at values s v y ≡ values y
  old y lt = changed_else values s v y (below_apart y s s lt (omega arith))

  pub nulled_happens : (x : ℕ) → Absent v → Happens s s exits (Some x) (nulled x) values (changed_at values x v) heap
  nulled_happens x absent = (v, (λ u lt. refl), subst Absent (sym new) absent)

  pub fixed_happens : (x : ℕ) → is_present v → region_in v ≡ 0 → Happens s s exits (Some x) (fixed x) values (changed_at values x v) heap
  fixed_happens x there at = (v, (λ u lt. refl), (subst is_present (sym new) there, ap region_in new ∙ at))

  pub moved_happens : (x y : ℕ) → y < s → v ≡ values y → Happens s s exits (Some x) (moved x y) values (changed_at values x v) heap
  moved_happens x y lt e = (v, (λ u lt2. refl), new ∙ e ∙ sym (old y lt))

  pub beside_happens : (x y : ℕ) → y < s → is_present (values y) → is_present v → region_in v ≡ region_in (values y) → Happens s s exits (Some x) (beside x y) values (changed_at values x v) heap
  beside_happens x y lt p q e = (v, (λ u lt2. refl), (subst is_present (sym (old y lt)) p, subst is_present (sym new) q, ap region_in new ∙ e ∙ ap region_in (sym (old y lt))))

  pub made_happens : (x : ℕ) → is_present v → Happens s s exits (Some x) (made x) values (changed_at values x v) heap
  made_happens x p = (v, (λ u lt. refl), subst is_present (sym new) p)

  pub under_happens : (x y : ℕ) → y < s → is_present (values y) → is_present v → is_above (parent heap) (region_in (values y)) (region_in v) ≡ true → Happens s s exits (Some x) (under x y) values (changed_at values x v) heap
  under_happens x y lt p q e = (v, (λ u lt2. refl), (subst is_present (sym (old y lt)) p, subst is_present (sym new) q, ap (λ r. is_above (parent heap) (region_in r) (region_in (changed_at values s v s))) (old y lt) ∙ ap (λ r. is_above (parent heap) (region_in (values y)) (region_in r)) new ∙ e))

  pub loaded_happens : (x y : ℕ) (note : Note) → y < s → is_present (values y) → fits (parent heap) note (region_in (values y)) v ≡ true → Happens s s exits (Some x) (loaded x y note) values (changed_at values x v) heap
  loaded_happens x y note lt p e = (v, (λ u lt2. refl), (subst is_present (sym (old y lt)) p, ap (λ r. fits (parent heap) note (region_in r) (changed_at values s v s)) (old y lt) ∙ ap (fits (parent heap) note (region_in (values y))) new ∙ e))

-- ---- carried over

module _ (image : Reading) (proofs : Annotation) (g at : ℕ) where
  abbrev f : Function
  f = function_at image g

  pub carried_hold : (known : Fact → Type 0) (values mid after : ℕ → Value) (heap heap1 : Heap) → ((fact : Fact) → known fact → IsTrue (is_over (scratch image f) fact))
      → Hold known values heap → Grounded values heap → Rooted (parent heap1) → Grown heap heap1
      → Happens (scratch image f) (scratch image f) (exit_facts proofs) (assigned (effect_at image f at)) (effect_at image f at) values mid heap1
      → ((u : ℕ) → u < scratch image f → IsTrue (not (is_gone image f at u)) → after u ≡ mid u)
      → Hold (Carried image proofs g at known) after heap1
  carried_hold known values mid after heap heap1 over hold ground rooted grown happens same fact c =
      let s = scratch image f in
      let below = over_below s fact c.over in
      holds_named s (λ u. not (is_gone image f at u)) fact mid after heap1 below c.stays same
      (allowed_holds (suc s) s s (exit_facts proofs) (effect_at image f at) (among c.used) values mid heap heap1 (omega arith)
      (λ p e. over_below s p (among_each (λ q. IsTrue (is_over s q)) c.used (each_more known (λ q. IsTrue (is_over s q)) over c.used c.each) p e))
      (among_each (λ q. Holds q values heap) c.used (each_more known (λ q. Holds q values heap) hold c.used c.each))
      ground rooted grown happens fact below c.derived)

  -- ---- from one instruction to the next

  before_target : (to : ℕ) (fact : Fact) → is_target f to ≡ true → Before image proofs g to fact → IsTrue (proofs.before g to fact)
  before_target zero fact e b = subst (λ c. either c (IsTrue (proofs.before g zero fact)) (Begins image proofs g fact)) e b
  before_target (suc to) fact e b = subst (λ c. either c (IsTrue (proofs.before g (suc to) fact)) (Carried image proofs g to (Before image proofs g to) fact)) e b

  -- to a target
  pub target_hold : (to : ℕ) (values : ℕ → Value) (heap : Heap) → Rooted (parent heap) → Proved image proofs g at → Way (instruction_at f at) at to → is_target f to ≡ true
      → Hold (Carried image proofs g at (Before image proofs g at)) values heap → Hold (Before image proofs g to) values heap
  target_hold to values heap rooted proved way e hold fact b =
      follows_hold (variables image f) (Carried image proofs g at (Before image proofs g at)) values heap rooted hold fact (proved.targets to way e fact (before_target to fact e b))

  -- to the next instruction
  pub next_hold : (values : ℕ → Value) (heap : Heap) → Rooted (parent heap) → Proved image proofs g at → Way (instruction_at f at) at (suc at)
      → Hold (Carried image proofs g at (Before image proofs g at)) values heap → Hold (Before image proofs g (suc at)) values heap
  next_hold values heap rooted proved way hold = by (is_target f (suc at)) refl
    where
      by : (c : Bool) → is_target f (suc at) ≡ c → Hold (Before image proofs g (suc at)) values heap
      by true e = target_hold (suc at) values heap rooted proved way e hold
      by false e = λ fact b. hold fact (subst (λ c. either c (IsTrue (proofs.before g (suc at) fact)) (Carried image proofs g at (Before image proofs g at) fact)) e b)

module _ (image : Reading) (proofs : Annotation) (g : ℕ) where
  over_more : (n m : ℕ) (fact : Fact) → n ≤ m → IsTrue (is_over n fact) → IsTrue (is_over m fact)
  over_more n m (In x y) le e = let b = and_parts (nat_lt x n) _ e in let i = ltb-true x n b.0 in let j = ltb-true y n b.1 in and_from (nat_lt x m) (nat_lt y m) (lt-ltb x m (omega (arith, i, le))) (lt-ltb y m (omega (arith, j, le)))
  over_more n m (Up x y) le e = let b = and_parts (nat_lt x n) _ e in let i = ltb-true x n b.0 in let j = ltb-true y n b.1 in and_from (nat_lt x m) (nat_lt y m) (lt-ltb x m (omega (arith, i, le))) (lt-ltb y m (omega (arith, j, le)))
  over_more n m (Trad x) le e = let i = ltb-true x n e in lt-ltb x m (omega (arith, i, le))
  over_more n m (NonNull x) le e = let i = ltb-true x n e in lt-ltb x m (omega (arith, i, le))

  -- the facts before an instruction are on variables below the scratch variable
  pub before_over : ((at : ℕ) (fact : Fact) → IsTrue (proofs.before g at fact) → IsTrue (is_over (place (function_at image g) 0) fact)) → (at : ℕ) (fact : Fact) → Before image proofs g at fact → IsTrue (is_over (scratch image (function_at image g)) fact)
  before_over frames zero fact b = by (is_target f 0) b
    where
      f : Function
      f = function_at image g

      by : (c : Bool) → either c (IsTrue (proofs.before g zero fact)) (Begins image proofs g fact) → IsTrue (is_over (scratch image f) fact)
      by true b = over_more (place f 0) (scratch image f) fact (omega arith) (frames zero fact b)
      by false b = b.over
  before_over frames (suc at) fact b = by (is_target f (suc at)) b
    where
      f : Function
      f = function_at image g

      by : (c : Bool) → either c (IsTrue (proofs.before g (suc at) fact)) (Carried image proofs g at (Before image proofs g at) fact) → IsTrue (is_over (scratch image f) fact)
      by true b = over_more (place f 0) (scratch image f) fact (omega arith) (frames (suc at) fact b)
      by false b = b.over
