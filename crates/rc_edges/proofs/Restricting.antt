-- What an annotation says of the code alone.
use Rattle.std.proofs.Common.{◌≡◌, ℕ, ◌<◌, Bool, true, false, ◌&&◌, ◌↔◌, List, length, Option, Some, None, refl, ap, ◌∙◌}
use Rattle.std.specs.Prelude.{slice_get, is_some}
use Rattle.std.proofs.lemmas.Bool.{and_parts, and_from, lt-ltb, ltb-true}
use Rattle.rc_facts.specs.declared.fact.Fact.{Fact}
use Rattle.rc_rlang.specs.RegionCode.{Routine, Rlang}
use Rattle.rc_rlang.specs.IsRlang.{IsRlang}
use Rattle.rc_rlang.specs.RegionFlow.{Effect, nothing, nulled, moved, fixed, beside, made, under, loaded, looked_at, stored, present, absent, called, entered, assigned, routine_nodes}
use Rattle.rc_annotations.specs.Heights.{temporaries_of}
use Rattle.rc_annotations.specs.Annotations.{Facts, Annotation, Consistent, gained, exit_facts, allowed_where, assigning, Proven, Removable}
use Rattle.rc_annotations.specs.Laws.{Inside, Within}
use Rattle.rc_annotations.proofs.Derivations.{derivable_more, either_more}
use Rattle.std.proofs.lemmas.Option.{slice_get_within}
use Rattle.rc_edges.specs.Inferred.{GreatestOf, InsideOf, has_point, only_of}
use Rattle.rc_edges.proofs.Fitting.{calls_fit}

with_test : (t b : Bool) → t ≡ true → b ≡ true → (t && b) ≡ true
with_test t b e d = and_from t b e d

-- a function that is there has each of its points
there_is : (o : Option Routine) (f : Routine) → o ≡ Some f → is_some o ≡ true
there_is o f e = ap is_some e

at_point : (o : Option Routine) (f : Routine) (p : ℕ) → o ≡ Some f → p < length (routine_nodes f) → has_point o p ≡ true
at_point o f p e lt = ap (λ q. has_point q p) e ∙ lt-ltb p (length (routine_nodes f)) lt

record Point (o : Option Routine) (p : ℕ) : Type 0 where
  routine : Routine
  there : o ≡ Some routine
  within : p < length (routine_nodes routine)

found_point : (o : Option Routine) (p : ℕ) → has_point o p ≡ true → Point o p
found_point None p e = cc
found_point (Some f) p e = record { routine = f; there = refl; within = ltb-true p (length (routine_nodes f)) e }

record Present (o : Option Routine) : Type 0 where
  routine : Routine
  there : o ≡ Some routine

found_there : (o : Option Routine) → is_some o ≡ true → Present o
found_there None e = cc
found_there (Some f) e = record { routine = f; there = refl }

pub only_inside : (r : Rlang) (b a : Annotation) → InsideOf r b a → Inside (only_of r b) a
only_inside r b a i = record {
  before = λ g p fact is. (
      let q = and_parts (has_point (slice_get r.functions g) p) (b.before g p fact) is in
      let at = found_point (slice_get r.functions g) p q.0 in
      i.before g at.routine p at.there at.within fact q.1);
  entry = λ g fact is. (
      let q = and_parts (is_some (slice_get r.functions g)) (b.entry g fact) is in
      let at = found_there (slice_get r.functions g) q.0 in
      i.entry g at.routine at.there fact q.1);
  exit = λ g fact is. (
      let q = and_parts (is_some (slice_get r.functions g)) (b.exit g fact) is in
      let at = found_there (slice_get r.functions g) q.0 in
      i.exit g at.routine at.there fact q.1);
}

pub inside_only : (r : Rlang) (b a : Annotation) → Inside (only_of r b) a → InsideOf r b a
inside_only r b a i = record {
  before = λ g f p there lt fact is. i.before g p fact (with_test (has_point (slice_get r.functions g) p) (b.before g p fact) (at_point (slice_get r.functions g) f p there lt) is);
  entry = λ g f there fact is. i.entry g fact (with_test (is_some (slice_get r.functions g)) (b.entry g fact) (there_is (slice_get r.functions g) f there) is);
  exit = λ g f there fact is. i.exit g fact (with_test (is_some (slice_get r.functions g)) (b.exit g fact) (there_is (slice_get r.functions g) f there) is);
}

pub inside_either : (r : Rlang) (b a : Annotation) → InsideOf r b a ↔ Inside (only_of r b) a
inside_either r b a = (only_inside r b a, inside_only r b a)

-- a call of a function that is there learns the same
module _ (r : Rlang) (b : Annotation) where
  exit_same : (t : Bool) (g : ℕ) → t ≡ true → (arguments : List ℕ) (x : Option ℕ) (p : Fact) → exit_facts b g arguments x p ≡ true → exit_facts (record { before = b.before; entry = b.entry; exit = λ h fact. t && b.exit h fact }) g arguments x p ≡ true
  exit_same true g e arguments x p is = is
  exit_same false g e arguments x p is = cc

  gained_only : (effect : Effect) → ((x : Option ℕ) (h : ℕ) (arguments : List ℕ) → effect ≡ called x h arguments → is_some (slice_get r.functions h) ≡ true) → Within (gained (exit_facts b) effect) (gained (exit_facts (only_of r b)) effect)
  gained_only nothing there p e = e
  gained_only (nulled x) there p e = e
  gained_only (moved x y) there p e = e
  gained_only (fixed x) there p e = e
  gained_only (beside x y) there p e = e
  gained_only (made x) there p e = e
  gained_only (under x y) there p e = e
  gained_only (loaded x y note) there p e = e
  gained_only (looked_at y) there p e = e
  gained_only (stored z y note) there p e = e
  gained_only (present y) there p e = e
  gained_only (absent y) there p e = e
  gained_only (called x g ys) there p e = exit_same (is_some (slice_get r.functions g)) g (there x g ys refl) ys x p e
  gained_only (entered pairs) there p e = e

  -- another variable may be assigned
  called_before : (s : ℕ) (effect : Effect) → ((x : Option ℕ) (h : ℕ) (arguments : List ℕ) → effect ≡ called x h arguments → is_some (slice_get r.functions h) ≡ true) → (x : Option ℕ) (h : ℕ) (arguments : List ℕ) → assigning s effect ≡ called x h arguments → is_some (slice_get r.functions h) ≡ true
  called_before s nothing there x h ys e = cc
  called_before s (nulled z) there x h ys e = cc
  called_before s (moved z y) there x h ys e = cc
  called_before s (fixed z) there x h ys e = cc
  called_before s (beside z y) there x h ys e = cc
  called_before s (made z) there x h ys e = cc
  called_before s (under z y) there x h ys e = cc
  called_before s (loaded z y note) there x h ys e = cc
  called_before s (looked_at y) there x h ys e = cc
  called_before s (stored z y note) there x h ys e = cc
  called_before s (present y) there x h ys e = cc
  called_before s (absent y) there x h ys e = cc
  called_before s (called z g us) there x h ys e = there z h us (let q : g ≡ h = cc in ap (λ k. called z k us) q)
  called_before s (entered pairs) there x h ys e = cc

  allowed_only : (n s : ℕ) (x : Option ℕ) (effect : Effect) (before others : Facts) (fact : Fact) → ((x : Option ℕ) (h : ℕ) (arguments : List ℕ) → effect ≡ called x h arguments → is_some (slice_get r.functions h) ≡ true) → Within before others
      → allowed_where n s (gained (exit_facts b)) x effect before fact → allowed_where n s (gained (exit_facts (only_of r b))) x effect others fact
  allowed_only n s None effect before others fact there h d = derivable_more (either_more h (gained_only effect there)) d
  allowed_only n s (Some x) effect before others fact there h d = derivable_more (either_more h (gained_only (assigning s effect) (called_before s effect there))) d

nothing_there : (t : Bool) → t ≡ false → (u : Bool) → (u && t) ≡ false
nothing_there t e true = e
nothing_there t e false = refl

pub only_consistent : (r : Rlang) → IsRlang r → (b : Annotation) → Consistent r (temporaries_of r) b → Consistent r (temporaries_of r) (only_of r b)
only_consistent r is b c =
    let entries : (g : ℕ) → Within ((only_of r b).entry g) (b.entry g) = λ g fact q. (and_parts (is_some (slice_get r.functions g)) (b.entry g fact) q).1 in
    let exits : (g : ℕ) → Within ((only_of r b).exit g) (b.exit g) = λ g fact q. (and_parts (is_some (slice_get r.functions g)) (b.exit g fact) q).1 in
    let points : (g p : ℕ) → Within ((only_of r b).before g p) (b.before g p) = λ g p fact q. (and_parts (has_point (slice_get r.functions g) p) (b.before g p fact) q).1 in
    let here : (g : ℕ) (f : Routine) (p : ℕ) → slice_get r.functions g ≡ Some f → p < length (routine_nodes f) → Within (b.before g p) ((only_of r b).before g p) = λ g f p there lt fact q. with_test (has_point (slice_get r.functions g) p) (b.before g p fact) (at_point (slice_get r.functions g) f p there lt) q in
    record {
      at_entries = λ g f fact there q. c.at_entries g f fact there (entries g fact q);
      at_exits = λ g f fact there q. c.at_exits g f fact there (exits g fact q);
      at_points = λ g f p fact there q. c.at_points g f p fact there (points g p fact q);
      follows = record {
        along = λ g f p edge fact there one q.
            allowed_only r b _ _ (assigned edge.effect) edge.effect (b.before g p) ((only_of r b).before g p) fact (λ x h arguments is_call. (let call = calls_fit r is g f there p edge x h arguments one is_call in there_is (slice_get r.functions h) call.routine call.there)) (here g f p there (slice_get_within (routine_nodes f) p one.node one.there))
            (c.follows.along g f p edge fact there one (points g edge.to fact q));
        calls = λ g f p edge x h arguments fact there one is_call q. derivable_more (here g f p there (slice_get_within (routine_nodes f) p one.node one.there)) (c.follows.calls g f p edge x h arguments fact there one is_call (entries h fact q));
        entry = λ g f fact there q. derivable_more (λ p k. with_test (is_some (slice_get r.functions g)) (b.entry g p) (there_is (slice_get r.functions g) f there) k) (c.follows.entry g f fact there (points g 0 fact q));
        exit = λ g f p given fact there one q. derivable_more (either_more (here g f p there (slice_get_within (routine_nodes f) p one.node one.there)) (λ q k. k)) (c.follows.exit g f p given fact there one (exits g fact q));
      };
      main = λ fact. nothing_there (b.entry r.main fact) (c.main fact) (is_some (slice_get r.functions r.main));
    }

pub greatest_removes : (r : Rlang) (temporaries : ℕ → ℕ) (a : Annotation) → GreatestOf r temporaries a → (g p : ℕ) → Removable r temporaries g p ↔ Proven r a g p
greatest_removes r temporaries a great g p = (
  λ q. record { routine = q.proven.routine; there = q.proven.there; node = q.proven.node; at_point = q.proven.at_point; fact = q.proven.fact; asks = q.proven.asks; has = (great.greatest q.annotation q.consistent).before g q.proven.routine p q.proven.there (slice_get_within (routine_nodes q.proven.routine) p q.proven.node q.proven.at_point) q.proven.fact q.proven.has },
  λ q. record { annotation = a; consistent = great.consistent; proven = q },
)

pub greatest_one : (r : Rlang) (temporaries : ℕ → ℕ) (a b : Annotation) → GreatestOf r temporaries a → GreatestOf r temporaries b → InsideOf r a b × InsideOf r b a
greatest_one r temporaries a b g h = (h.greatest a g.consistent, g.greatest b h.consistent)
