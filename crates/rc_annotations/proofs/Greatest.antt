-- A turn of the worklist keeps every consistent annotation inside.
use Rattle.std.proofs.Common.{◌≡◌, ℕ, zero, suc, Bool, true, refl, ◌||◌, ◌&&◌, List, length, Option, inl, inr}
use Rattle.std.specs.Prelude.{◌↔◌}
use Rattle.std.proofs.lemmas.Bool.{or_cases, or_left, or_right, and_parts, and_from}
use Rattle.rc_facts.specs.declared.fact.Fact.{Fact}
use Rattle.rc_facts.specs.declared.fact.Fact.TheVariants.{In, Up, Trad, NonNull}
use Rattle.rc_rlang.specs.RegionCode.{Rlang}
use Rattle.rc_rlang.specs.RegionFlow.{Effect, nothing, nulled, moved, fixed, beside, made, under, loaded, looked_at, stored, present, absent, called, entered, assigned, variables, scratch}
use Rattle.rc_annotations.specs.Annotations.{gained, Facts, Annotation, Consistent, Follows, is_place, place_in, some_below, pair_fact, exit_facts, Proven, Removable}
use Rattle.rc_annotations.specs.Laws.{Within, Inside, Greatest, united, without_facts}
use Rattle.rc_annotations.proofs.Derivations.{derivable_more, either_more, allowed_more}

below_more : (test test1 : ℕ → Bool) → ((i : ℕ) → test i ≡ true → test1 i ≡ true) → (m : ℕ) → some_below test m ≡ true → some_below test1 m ≡ true
below_more test test1 h zero e = cc
below_more test test1 h (suc m) e = elim (or_cases (test m) (some_below test m) e) [
  | inl x ↦ or_left (test1 m) (some_below test1 m) (h m x)
  | inr y ↦ or_right (test1 m) (some_below test1 m) (below_more test test1 h m y)
]

both_more : (a b b1 : Bool) → (b ≡ true → b1 ≡ true) → (a && b) ≡ true → (a && b1) ≡ true
both_more a b b1 h e = let p = and_parts a b e in and_from a b1 p.0 (h p.1)

pair_more : (exit exit1 : Facts) (arguments : List ℕ) (x : Option ℕ) (fact : Fact) (i j : ℕ) → Within exit exit1 → pair_fact exit arguments x fact i j ≡ true → pair_fact exit1 arguments x fact i j ≡ true
pair_more exit exit1 arguments x (In u v) i j h e = both_more (is_place (place_in arguments x i) u) _ _ (both_more (is_place (place_in arguments x j) v) _ _ (h (In i j))) e
pair_more exit exit1 arguments x (Up u v) i j h e = both_more (is_place (place_in arguments x i) u) _ _ (both_more (is_place (place_in arguments x j) v) _ _ (h (Up i j))) e
pair_more exit exit1 arguments x (Trad u) i j h e = both_more (is_place (place_in arguments x i) u) _ _ (h (Trad i)) e
pair_more exit exit1 arguments x (NonNull u) i j h e = both_more (is_place (place_in arguments x i) u) _ _ (h (NonNull i)) e

exits_more : (b a : Annotation) → Inside b a → (k : ℕ) (arguments : List ℕ) (x : Option ℕ) → Within (exit_facts b k arguments x) (exit_facts a k arguments x)
exits_more b a i k arguments x fact e = below_more _ _ (λ l. below_more _ _ (λ j. pair_more (b.exit k) (a.exit k) arguments x fact l j (i.exit k)) (suc (length arguments))) (suc (length arguments)) e

gained_more : (b a : Annotation) → Inside b a → (effect : Effect) → Within (gained (exit_facts b) effect) (gained (exit_facts a) effect)
gained_more b a i nothing p e = e
gained_more b a i (nulled x) p e = e
gained_more b a i (moved x y) p e = e
gained_more b a i (fixed x) p e = e
gained_more b a i (beside x y) p e = e
gained_more b a i (made x) p e = e
gained_more b a i (under x y) p e = e
gained_more b a i (loaded x y note) p e = e
gained_more b a i (looked_at y) p e = e
gained_more b a i (stored z y note) p e = e
gained_more b a i (present y) p e = e
gained_more b a i (absent y) p e = e
gained_more b a i (called x k arguments) p e = exits_more b a i k arguments x p e
gained_more b a i (entered pairs) p e = e

-- what a turn keeps has all that a consistent annotation has
pub follows_inside : (r : Rlang) (temporaries : ℕ → ℕ) (b a : Annotation) → Consistent r temporaries b → Inside b a → Follows r temporaries b a
follows_inside r temporaries b a c i = record {
  along = λ g f p edge fact there one is.
      allowed_more (variables f (temporaries g)) (scratch f (temporaries g)) (gained (exit_facts b)) (gained (exit_facts a)) (assigned edge.effect) edge.effect (b.before g p) (a.before g p) fact
      (gained_more b a i) (i.before g p) (c.follows.along g f p edge fact there one is);
  calls = λ g f p edge x h arguments fact there one is_call is. derivable_more (i.before g p) (c.follows.calls g f p edge x h arguments fact there one is_call is);
  entry = λ g f fact there is. derivable_more (i.entry g) (c.follows.entry g f fact there is);
  exit = λ g f p given fact there one is. derivable_more (either_more (i.before g p) (λ q e. e)) (c.follows.exit g f p given fact there one is);
}

-- the facts of two consistent annotations are consistent

pub left_inside : (a b : Annotation) → Inside a (united a b)
left_inside a b = record { before = λ g p fact is. or_left (a.before g p fact) (b.before g p fact) is; entry = λ g fact is. or_left (a.entry g fact) (b.entry g fact) is; exit = λ g fact is. or_left (a.exit g fact) (b.exit g fact) is }

pub right_inside : (a b : Annotation) → Inside b (united a b)
right_inside a b = record { before = λ g p fact is. or_right (a.before g p fact) (b.before g p fact) is; entry = λ g fact is. or_right (a.entry g fact) (b.entry g fact) is; exit = λ g fact is. or_right (a.exit g fact) (b.exit g fact) is }

either : {P : Type 0} (x y : Bool) → (x ≡ true → P) → (y ≡ true → P) → (x || y) ≡ true → P
either x y h k e = elim (or_cases x y e) [ inl p ↦ h p | inr q ↦ k q ]

pub united_consistent : (r : Rlang) (temporaries : ℕ → ℕ) (a b : Annotation) → Consistent r temporaries a → Consistent r temporaries b → Consistent r temporaries (united a b)
united_consistent r temporaries a b c d =
    let l = follows_inside r temporaries a (united a b) c (left_inside a b) in
    let m = follows_inside r temporaries b (united a b) d (right_inside a b) in
    record {
      at_entries = λ g f fact there is. either (a.entry g fact) (b.entry g fact) (c.at_entries g f fact there) (d.at_entries g f fact there) is;
      at_exits = λ g f fact there is. either (a.exit g fact) (b.exit g fact) (c.at_exits g f fact there) (d.at_exits g f fact there) is;
      at_points = λ g f p fact there is. either (a.before g p fact) (b.before g p fact) (c.at_points g f p fact there) (d.at_points g f p fact there) is;
      follows = record {
        along = λ g f p edge fact there one is. either (a.before g edge.to fact) (b.before g edge.to fact) (l.along g f p edge fact there one) (m.along g f p edge fact there one) is;
        calls = λ g f p edge x h arguments fact there one is_call is. either (a.entry h fact) (b.entry h fact) (l.calls g f p edge x h arguments fact there one is_call) (m.calls g f p edge x h arguments fact there one is_call) is;
        entry = λ g f fact there is. either (a.before g 0 fact) (b.before g 0 fact) (l.entry g f fact there) (m.entry g f fact there) is;
        exit = λ g f p given fact there one is. either (a.exit g fact) (b.exit g fact) (l.exit g f p given fact there one) (m.exit g f p given fact there one) is;
      };
      main = λ fact. rw (c.main fact, d.main fact) refl;
    }

-- nothing is asked of an annotation without facts
pub without_facts_consistent : (r : Rlang) (temporaries : ℕ → ℕ) → Consistent r temporaries without_facts
without_facts_consistent r temporaries = record {
  at_entries = λ g f fact there is. cc;
  at_exits = λ g f fact there is. cc;
  at_points = λ g f p fact there is. cc;
  follows = record {
    along = λ g f p edge fact there one is. cc;
    calls = λ g f p edge x h arguments fact there one is_call is. cc;
    entry = λ g f fact there is. cc;
    exit = λ g f p given fact there one is. cc;
  };
  main = λ fact. refl;
}

-- where there is a greatest one, it has what any has
pub has_more : (r : Rlang) (b a : Annotation) → Inside b a → (g p : ℕ) → Proven r b g p → Proven r a g p
has_more r b a i g p q = record { routine = q.routine; there = q.there; node = q.node; at_point = q.at_point; fact = q.fact; asks = q.asks; has = i.before g p q.fact q.has }

pub greatest_removes : (r : Rlang) (temporaries : ℕ → ℕ) (a : Annotation) → Greatest r temporaries a → (g p : ℕ) → Removable r temporaries g p ↔ Proven r a g p
greatest_removes r temporaries a great g p = ((λ q. has_more r q.annotation a (great.greatest q.annotation q.consistent) g p q.proven), (λ q. record { annotation = a; consistent = great.consistent; proven = q }))
