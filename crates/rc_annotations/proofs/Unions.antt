-- Checks that may go, each by some consistent annotation, are proven needless by one: there are finitely many points, and consistent
-- annotations unite.
use Rattle.std.proofs.Common.{◌≡◌, ℕ, zero, suc, ◌+◌, ◌<◌, ◌≤◌, Bool, true, false, List, [], ◌∷◌, length, Some, ◌⊎◌, inl, inr, refl, sym, subst, arith}
use Rattle.std.specs.Prelude.{slice_get}
use Rattle.std.proofs.lemmas.Option.{slice_get_within}
use Rattle.rc_rlang.specs.RegionCode.{Routine, Rlang}
use Rattle.rc_rlang.specs.RegionFlow.{routine_nodes}
use Rattle.rc_annotations.specs.Annotations.{Annotation, Consistent, Proven, AllProven, AllRemovable}
use Rattle.rc_annotations.specs.Laws.{Inside, united, without_facts}
use Rattle.rc_annotations.proofs.Greatest.{left_inside, right_inside, united_consistent, without_facts_consistent, has_more}

inside_trans : (a b c : Annotation) → Inside a b → Inside b c → Inside a c
inside_trans a b c i j = record { before = λ g p fact is. j.before g p fact (i.before g p fact is); entry = λ g fact is. j.entry g fact (i.entry g fact is); exit = λ g fact is. j.exit g fact (i.exit g fact is) }

abbrev points_of : List Routine → ℕ
points_of [] = 0
points_of (f ∷ fs) = length (routine_nodes f) + points_of fs

first_less : (a b : ℕ) → a ≤ a + b
first_less a b = omega arith

rest_less : (a b c : ℕ) → c ≤ b → c ≤ a + b
rest_less a b c le = omega (arith, le)

points_enough : (fs : List Routine) (k : ℕ) (f : Routine) → slice_get fs k ≡ Some f → length (routine_nodes f) ≤ points_of fs
points_enough [] k f e = cc
points_enough (x ∷ fs) zero f e = let q : x ≡ f = cc in subst (λ y. length (routine_nodes y) ≤ length (routine_nodes x) + points_of fs) q (first_less (length (routine_nodes x)) (points_of fs))
points_enough (x ∷ fs) (suc k) f e = rest_less (length (routine_nodes x)) (points_of fs) (length (routine_nodes f)) (points_enough fs k f e)

module _ (r : Rlang) (temporaries : ℕ → ℕ) where
  pub record One : Type 0 where
    pub annotation : Annotation
    pub consistent : Consistent r temporaries annotation

  abbrev nothing_known : One
  nothing_known = record { annotation = without_facts; consistent = without_facts_consistent r temporaries }

  -- all of them
  abbrev all_below : (ℕ → One) → ℕ → One
  all_below f zero = nothing_known
  all_below f (suc n) = record { annotation = united (f n).annotation (all_below f n).annotation; consistent = united_consistent r temporaries (f n).annotation (all_below f n).annotation (f n).consistent (all_below f n).consistent }

  below_inside : (f : ℕ → One) (n i : ℕ) → i < n → Inside (f i).annotation (all_below f n).annotation
  below_inside f zero i lt = absurd (omega (arith, lt))
  below_inside f (suc n) i lt = by (order i n) (λ below. below_inside f n i below)
    where
      order : (a b : ℕ) → (a < b) ⊎ ((a ≡ b) ⊎ (b < a))
      order a b = grind arith

      by : (i < n) ⊎ ((i ≡ n) ⊎ (n < i)) → (i < n → Inside (f i).annotation (all_below f n).annotation) → Inside (f i).annotation (all_below f (suc n)).annotation
      by (inl below) next = inside_trans (f i).annotation (all_below f n).annotation (all_below f (suc n)).annotation (next below) (right_inside (f n).annotation (all_below f n).annotation)
      by (inr (inl e)) next = subst (λ j. Inside (f j).annotation (all_below f (suc n)).annotation) (sym e) (left_inside (f n).annotation (all_below f n).annotation)
      by (inr (inr over)) next = absurd (omega (arith, lt, over))

  module _ (marks : (function point : ℕ) → Bool) (removable : AllRemovable r temporaries marks) where
    abbrev chosen : (g p : ℕ) (b : Bool) → marks g p ≡ b → One
    chosen g p true e = record { annotation = (removable g p e).annotation; consistent = (removable g p e).consistent }
    chosen g p false e = nothing_known

    chosen_proves : (g p : ℕ) (b : Bool) (e : marks g p ≡ b) → b ≡ true → Proven r (chosen g p b e).annotation g p
    chosen_proves g p true e m = (removable g p e).proven
    chosen_proves g p false e m = cc

    abbrev at_points : ℕ → ℕ → One
    at_points g p = chosen g p (marks g p) refl

    abbrev at_function : ℕ → One
    at_function g = all_below (at_points g) (points_of r.functions)

    abbrev pub together : One
    together = all_below at_function (length r.functions)

    pub together_proves : AllProven r together.annotation marks
    together_proves g p m =
        let own = chosen_proves g p (marks g p) refl m in
        let few = points_enough r.functions g own.routine own.there in
        let point = slice_get_within (routine_nodes own.routine) p own.node own.at_point in
        let one = below_inside (at_points g) (points_of r.functions) p (omega (arith, few, point)) in
        let all = below_inside at_function (length r.functions) g (slice_get_within r.functions g own.routine own.there) in
        has_more r (at_points g p).annotation together.annotation (inside_trans (at_points g p).annotation (at_function g).annotation together.annotation one all) g p own

pub one_proves_all : (r : Rlang) (temporaries : ℕ → ℕ) (marks : (function point : ℕ) → Bool) → AllRemovable r temporaries marks → (a : Annotation) × Consistent r temporaries a × AllProven r a marks
one_proves_all r temporaries marks removable = ((together r temporaries marks removable).annotation, (together r temporaries marks removable).consistent, together_proves r temporaries marks removable)
