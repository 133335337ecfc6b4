-- Facts that proofs give grow with the proofs, and what follows from carried facts is carried: for a search that goes down from all facts,
-- and for one pass over a function.
use Rattle.std.proofs.Common.{◌≡◌, ℕ, zero, suc, Bool, true, ◌&&◌, IsTrue, List, length, Option, Some, inl, inr}
use Rattle.std.proofs.lemmas.Bool.{or_cases, or_left, or_right, and_parts, and_from}
use Rattle.rc_facts.specs.declared.fact.Fact.{Fact}
use Rattle.rc_facts.specs.declared.fact.Fact.TheVariants.{In, Up, Trad, NonNull}
use Rattle.rc_facts.specs.Derivable.{Derivable}
use Rattle.rc_rlang.specs.RegionFlow.{Effect, nothing, nulled, moved, fixed, beside, made, under, loaded, looked_at, stored, present, absent, called, entered, assigned}
use Rattle.rc_annotations.specs.Annotations.{gained, Facts, Annotation, is_place, place_in, some_below, pair_fact, exit_facts, allowed, allowed_where, fact_with, renamed}
use Rattle.rc_annotations.specs.Laws.{Within, Inside}
use Rattle.rc_annotations.proofs.Derivations.{derivable_more, either_more, allowed_more}
use Rattle.std.proofs.Common.{◌∙◌, sym, false, not, nat_eq, [], ◌∷◌, None, ◌<◌, ◌++◌, subst, arith}
use Rattle.std.specs.List.{AllByRecursion as Every}
use Rattle.std.proofs.lemmas.List.Folds.{list_any-append}
use Rattle.rc_safety.proofs.Lists.{every_append}
use Rattle.rc_facts.specs.Derivable.{stated, in_itself, in_through, up_through, up_by_in, in_back, present_by_in, present_by_up, trad_by_up, up_by_trad, in_by_trad}
use Rattle.rc_facts.specs.Facts.{is_over, same_fact}
use Rattle.rc_annotations.specs.Annotations.{renamed_by}
use Rattle.rc_annotations.proofs.Effects.{same_facts}
use Rattle.rc_annotations.proofs.Derivations.{derivable_cut}
use Rattle.rc_code.specs.declared.image.Function.{Function}
use Rattle.rc_code.specs.Running.{Reading, function_at}
use Rattle.rc_sealed.specs.ImageVariables.{scratch as scratch_of, variables as variables_of}
use Rattle.rc_sealed.specs.Carrying.{is_target, effect_at, is_gone, speaks, among, Follows, Begins, Carried, Before, either}

below_more : (test test1 : ℕ → Bool) → ((i : ℕ) → test i ≡ true → test1 i ≡ true) → (m : ℕ) → some_below test m ≡ true → some_below test1 m ≡ true
below_more test test1 h zero e = cc
below_more test test1 h (suc m) e = elim (or_cases (test m) (some_below test m) e) [
  | inl x ↦ or_left (test1 m) (some_below test1 m) (h m x)
  | inr y ↦ or_right (test1 m) (some_below test1 m) (below_more test test1 h m y)
]

both_more : (a b b1 : Bool) → (b ≡ true → b1 ≡ true) → (a && b) ≡ true → (a && b1) ≡ true
both_more a b b1 h e = let p = and_parts a b e in and_from a b1 p.0 (h p.1)

pair_more : (exit exit1 : Facts) (arguments : List ℕ) (x : Option ℕ) (fact : Fact) (i j : ℕ) → Within exit exit1 → pair_fact exit arguments x fact i j ≡ true → pair_fact exit1 arguments x fact i j ≡ true
pair_more exit exit1 arguments x (In u v) i j h e = both_more (is_place (place_in arguments x i) u) _ _ (both_more (is_place (place_in arguments x j) v) _ _ (h (In i j))) e
pair_more exit exit1 arguments x (Up u v) i j h e = both_more (is_place (place_in arguments x i) u) _ _ (both_more (is_place (place_in arguments x j) v) _ _ (h (Up i j))) e
pair_more exit exit1 arguments x (Trad u) i j h e = both_more (is_place (place_in arguments x i) u) _ _ (h (Trad i)) e
pair_more exit exit1 arguments x (NonNull u) i j h e = both_more (is_place (place_in arguments x i) u) _ _ (h (NonNull i)) e

exits_more : (b a : Annotation) → Inside b a → (k : ℕ) (arguments : List ℕ) (x : Option ℕ) → Within (exit_facts b k arguments x) (exit_facts a k arguments x)
exits_more b a i k arguments x fact e = below_more _ _ (λ l. below_more _ _ (λ j. pair_more (b.exit k) (a.exit k) arguments x fact l j (i.exit k)) (suc (length arguments))) (suc (length arguments)) e

gained_more : (b a : Annotation) → Inside b a → (effect : Effect) → Within (gained (exit_facts b) effect) (gained (exit_facts a) effect)
gained_more b a i nothing p e = e
gained_more b a i (nulled x) p e = e
gained_more b a i (moved x y) p e = e
gained_more b a i (fixed x) p e = e
gained_more b a i (beside x y) p e = e
gained_more b a i (made x) p e = e
gained_more b a i (under x y) p e = e
gained_more b a i (loaded x y note) p e = e
gained_more b a i (looked_at y) p e = e
gained_more b a i (stored z y note) p e = e
gained_more b a i (present y) p e = e
gained_more b a i (absent y) p e = e
gained_more b a i (called x k arguments) p e = exits_more b a i k arguments x p e
gained_more b a i (entered pairs) p e = e

-- ---- derivations under other names, and from more facts

pub derivable_named : {n : ℕ} {given others : Facts} (name : ℕ → ℕ) → ((v : ℕ) → v < n → name v < n) → ((p : Fact) → IsTrue (given p) → Derivable n others (fact_with name p)) → {fact : Fact} → Derivable n given fact → Derivable n others (fact_with name fact)
derivable_named name below h (stated is) = h _ is
derivable_named name below h (in_itself {x} lt) = in_itself (below x lt)
derivable_named name below h (in_through one two) = in_through (derivable_named name below h one) (derivable_named name below h two)
derivable_named name below h (up_through one two) = up_through (derivable_named name below h one) (derivable_named name below h two)
derivable_named name below h (up_by_in one) = up_by_in (derivable_named name below h one)
derivable_named name below h (in_back one two) = in_back (derivable_named name below h one) (derivable_named name below h two)
derivable_named name below h (present_by_in one two) = present_by_in (derivable_named name below h one) (derivable_named name below h two)
derivable_named name below h (present_by_up one two) = present_by_up (derivable_named name below h one) (derivable_named name below h two)
derivable_named name below h (trad_by_up one two) = trad_by_up (derivable_named name below h one) (derivable_named name below h two)
derivable_named name below h (up_by_trad one two) = up_by_trad (derivable_named name below h one) (derivable_named name below h two)
derivable_named name below h (in_by_trad one two three) = in_by_trad (derivable_named name below h one) (derivable_named name below h two) (derivable_named name below h three)

among_left : (xs ys : List Fact) → Within (among xs) (among (xs ++ ys))
among_left xs ys p e = list_any-append (same_fact p) xs ys ∙ or_left (among xs p) (among ys p) e

among_right : (xs ys : List Fact) → Within (among ys) (among (xs ++ ys))
among_right xs ys p e = list_any-append (same_fact p) xs ys ∙ or_right (among xs p) (among ys p) e

each_more : (P Q : Fact → Type 0) → ((p : Fact) → P p → Q p) → (facts : List Fact) → Every P facts → Every Q facts
each_more P Q k [] all = tt
each_more P Q k (p ∷ facts) all = (k p all.0, each_more P Q k facts all.1)

pub follows_more : (n : ℕ) (known known1 : Fact → Type 0) → ((p : Fact) → known p → known1 p) → (fact : Fact) → Follows n known fact → Follows n known1 fact
follows_more n known known1 k fact c = record { used = c.used; each = each_more known known1 k c.used c.each; derived = c.derived }

module _ (image : Reading) (g : ℕ) where
  abbrev f : Function
  f = function_at image g

  -- more proofs carry more
  pub carried_more : (b a : Annotation) → Inside b a → (at : ℕ) (known known1 : Fact → Type 0) → ((p : Fact) → known p → known1 p) → (fact : Fact) → Carried image b g at known fact → Carried image a g at known1 fact
  carried_more b a i at known known1 k fact c = record {
    over = c.over;
    stays = c.stays;
    used = c.used;
    each = each_more known known1 k c.used c.each;
    derived = allowed_more (variables_of image f) (scratch_of image f) (gained (exit_facts b)) (gained (exit_facts a)) (assigned (effect_at image f at)) (effect_at image f at) (among c.used) (among c.used) fact (gained_more b a i) (λ p e. e) c.derived;
  }

  pub before_more : (b a : Annotation) → Inside b a → (at : ℕ) (fact : Fact) → Before image b g at fact → Before image a g at fact
  before_more b a i zero fact known = by (is_target f 0) known
    where
      by : (c : Bool) → either c (IsTrue (b.before g zero fact)) (Begins image b g fact) → either c (IsTrue (a.before g zero fact)) (Begins image a g fact)
      by true k = i.before g zero fact k
      by false k = record { over = k.over; derived = derivable_more (either_more (i.entry g) (λ p e. e)) k.derived }
  before_more b a i (suc at) fact known = by (is_target f (suc at)) (before_more b a i at) known
    where
      by : (c : Bool) → ((p : Fact) → Before image b g at p → Before image a g at p) → either c (IsTrue (b.before g (suc at) fact)) (Carried image b g at (Before image b g at) fact) → either c (IsTrue (a.before g (suc at) fact)) (Carried image a g at (Before image a g at) fact)
      by true more k = i.before g (suc at) fact k
      by false more k = carried_more b a i at (Before image b g at) (Before image a g at) more fact k

  -- what is derivable of carried facts, on variables of which something stays known, is carried
  module _ (a : Annotation) (at : ℕ) (known : Fact → Type 0) where
    abbrev Allowed : List Fact → Fact → Type 0
    Allowed facts p = allowed (variables_of image f) (scratch_of image f) (gained (exit_facts a)) (effect_at image f at) (among facts) p

    record Collected (used : List Fact) : Type 0 where
      facts : List Fact
      each : Every known facts
      allow : (p : Fact) → IsTrue (among used p) → Allowed facts p

    more_allowed : (xs ys : List Fact) → Within (among xs) (among ys) → (p : Fact) → Allowed xs p → Allowed ys p
    more_allowed xs ys w p d = allowed_more (variables_of image f) (scratch_of image f) (gained (exit_facts a)) (gained (exit_facts a)) (assigned (effect_at image f at)) (effect_at image f at) (among xs) (among ys) p (λ e q k. k) w d

    collect : (used : List Fact) → Every (Carried image a g at known) used → Collected used
    collect [] all = record { facts = []; each = tt; allow = λ p e. cc }
    collect (q ∷ qs) all = with_rest (collect qs all.1)
      where
        with_rest : Collected qs → Collected (q ∷ qs)
        with_rest rest = record {
          facts = all.0.used ++ rest.facts;
          each = every_append known all.0.used rest.facts all.0.each rest.each;
          allow = λ p e. elim (or_cases (same_fact p q) (among qs p) e) [
            | inl one ↦ subst (Allowed (all.0.used ++ rest.facts)) (sym (same_facts p q one)) (more_allowed all.0.used (all.0.used ++ rest.facts) (among_left all.0.used rest.facts) q all.0.derived)
            | inr other ↦ more_allowed rest.facts (all.0.used ++ rest.facts) (among_right all.0.used rest.facts) p (rest.allow p other)
          ];
        }

    pub carried_closed : (fact : Fact) → IsTrue (is_over (scratch_of image f) fact) → IsTrue (speaks (λ u. not (is_gone image f at u)) fact) → Follows (variables_of image f) (Carried image a g at known) fact → Carried image a g at known fact
    carried_closed fact over stays c = by (collect c.used c.each)
      where
        joined : (facts : List Fact) (x : Option ℕ) → ((p : Fact) → IsTrue (among c.used p) → allowed_where (variables_of image f) (scratch_of image f) (gained (exit_facts a)) x (effect_at image f at) (among facts) p)
            → allowed_where (variables_of image f) (scratch_of image f) (gained (exit_facts a)) x (effect_at image f at) (among facts) fact
        joined facts None allow = derivable_cut allow c.derived
        joined facts (Some x) allow = derivable_named (renamed x (scratch_of image f)) (λ v lt. below v (nat_eq v x) lt) allow c.derived
          where
            below : (v : ℕ) (b : Bool) → v < variables_of image f → renamed_by b (scratch_of image f) v < variables_of image f
            below v true lt = omega arith
            below v false lt = lt

        by : Collected c.used → Carried image a g at known fact
        by all = record { over = over; stays = stays; used = all.facts; each = all.each; derived = joined all.facts (assigned (effect_at image f at)) all.allow }
