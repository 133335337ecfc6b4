-- Sets stay as many, and on as many variables.
use Rattle.std.proofs.Common.{◌≡◌, ◌∙◌, ℕ, suc, Bool, IsTrue, List, length, get_or, Option, Some, None, refl, sym, subst, arith, true, false, ap, ◌||◌, ◌<◌, MatchBool}
use Rattle.rc_facts.specs.declared.fact.Fact.{Fact}
use Rattle.rc_facts.specs.Facts.{Known, holds}
use Rattle.rc_rlang.specs.RegionFlow.{Effect, nothing, nulled, moved, fixed, beside, made, under, loaded, looked_at, stored, present, absent, called, entered}
use Rattle.rc_facts.specs.Flow.{facts_in, no_set, set_at}
use Rattle.rc_graph.specs.Nodes.{effect_of}
use Rattle.rc_crossing.specs.Fitting.{CallFits}
use Rattle.rc_carrying.specs.Left.{IsReady}
use Rattle.rc_carrying.proofs.Ready.{left_ready}
use Rattle.rc_prove_parts.specs.declared.spot.Spot.{Spot}
use Rattle.rc_prove_parts.specs.declared.spot.Place.{Place}
use Rattle.rc_prove.specs.Sets.{Sets, size, Shrinks, FewerFacts}
use Rattle.rc_prove.specs.Visiting.{IsFrame, SpotFits, PlaceFits, SameShape, Visited}
use Rattle.rc_prove.proofs.Anew.{anew_ready}

pub shape_none : (sets : Sets) → SameShape sets sets
shape_none sets = record { entries = refl; exits = refl; frames = refl; entry = λ p. refl; exit = λ p. refl; frame = λ p. refl }

pub shape_then : (old mid new : Sets) → SameShape old mid → SameShape mid new → SameShape old new
shape_then old mid new a b = record {
  entries = b.entries ∙ a.entries;
  exits = b.exits ∙ a.exits;
  frames = b.frames ∙ a.frames;
  entry = λ p. b.entry p ∙ a.entry p;
  exit = λ p. b.exit p ∙ a.exit p;
  frame = λ p. b.frame p ∙ a.frame p;
}

pub fewer_none : (sets : Sets) → FewerFacts sets sets
fewer_none sets = record { entries = λ h fact is. is; exits = λ h fact is. is; frames = λ r fact is. is }

pub fewer_then : (old mid new : Sets) → FewerFacts old mid → FewerFacts mid new → FewerFacts old new
fewer_then old mid new a b = record { entries = λ h fact is. a.entries h fact (b.entries h fact is); exits = λ h fact is. a.exits h fact (b.exits h fact is); frames = λ r fact is. a.frames r fact (b.frames r fact is) }

pub shrinks_then : (l1 l2 : Bool) (old mid new : Sets) → Shrinks l1 old mid → Shrinks l2 mid new → Shrinks (l1 || l2) old new
shrinks_then true true old mid new a b = omega (arith, a, b)
shrinks_then true false old mid new a b = subst (λ s. size s < size old) (sym b) a
shrinks_then false true old mid new a b = subst (λ s. size new < size s) a b
shrinks_then false false old mid new a b = b ∙ a

module _ (old : Sets) (lost : Bool) (new : List Known) where
  abbrev with_entries : List Known → Sets
  with_entries entries = record { entries = entries; exits = old.exits; frames = old.frames }

  abbrev left_with : List Known → Sets
  left_with exits = record { entries = old.entries; exits = exits; frames = old.frames }

  abbrev framed_with : List Known → Sets
  framed_with frames = record { entries = old.entries; exits = old.exits; frames = frames }

  entries_shrink : MatchBool lost (facts_in new < facts_in old.entries) (new ≡ old.entries) → Shrinks lost old (with_entries new)
  entries_shrink l = by lost l
    where
      by : (b : Bool) → MatchBool b (facts_in new < facts_in old.entries) (new ≡ old.entries) → Shrinks b old (with_entries new)
      by true lt = omega (arith, lt)
      by false e = ap with_entries e

  exits_shrink : MatchBool lost (facts_in new < facts_in old.exits) (new ≡ old.exits) → Shrinks lost old (left_with new)
  exits_shrink l = by lost l
    where
      by : (b : Bool) → MatchBool b (facts_in new < facts_in old.exits) (new ≡ old.exits) → Shrinks b old (left_with new)
      by true lt = omega (arith, lt)
      by false e = ap left_with e

  pub frames_shrink : MatchBool lost (facts_in new < facts_in old.frames) (new ≡ old.frames) → Shrinks lost old (framed_with new)
  frames_shrink l = by lost l
    where
      by : (b : Bool) → MatchBool b (facts_in new < facts_in old.frames) (new ≡ old.frames) → Shrinks b old (framed_with new)
      by true lt = omega (arith, lt)
      by false e = ap framed_with e

call_later : (exits exits1 : List Known) → length exits1 ≡ length exits → ((p : ℕ) → (get_or exits1 p no_set).variables ≡ (get_or exits p no_set).variables) → (effect : Effect) → CallFits exits effect → CallFits exits1 effect
call_later exits exits1 long same nothing c = c
call_later exits exits1 long same (nulled x) c = c
call_later exits exits1 long same (moved x y) c = c
call_later exits exits1 long same (fixed x) c = c
call_later exits exits1 long same (beside x y) c = c
call_later exits exits1 long same (made x) c = c
call_later exits exits1 long same (under x y) c = c
call_later exits exits1 long same (loaded x y note) c = c
call_later exits exits1 long same (looked_at y) c = c
call_later exits exits1 long same (stored z y note) c = c
call_later exits exits1 long same (present y) c = c
call_later exits exits1 long same (absent y) c = c
call_later exits exits1 long same (called x g ys) c = ((let l = c.0 in omega (arith, long, l)), (let l = c.1 in let s = same g in omega (arith, l, s)))
call_later exits exits1 long same (entered pairs) c = c

frame_later : (old new : Sets) (n : ℕ) → SameShape old new → (at : Option ℕ) → IsFrame old n at → IsFrame new n at
frame_later old new n s None f = f
frame_later old new n s (Some r) f = ((let l = f.0 in let e = s.frames in omega (arith, l, e)), s.frame r ∙ f.1)

module _ (where_is : Place) where
  pub spot_later : (old new : Sets) (spot : Spot) → SameShape old new → SpotFits where_is old spot → SpotFits where_is new spot
  spot_later old new spot s f = record {
    below = f.below;
    call = call_later old.exits new.exits s.exits s.exit (effect_of spot.effect) f.call;
    ready = λ x h arguments e. (let c = f.ready x h arguments e in record { there = (let t = c.there in let q = s.entries in omega (arith, t, q)); places = s.entry h ∙ c.places; few = c.few; own = c.own });
    low = f.low;
    top = f.top;
    jumped = frame_later old new (suc (suc where_is.result)) s spot.jumped f.jumped;
    fallen = frame_later old new (suc (suc where_is.result)) s spot.fallen f.fallen;
    next = frame_later old new (suc (suc where_is.result)) s spot.next f.next;
  }

  pub place_later : (old new : Sets) → SameShape old new → ((r : ℕ) (fact : Fact) → IsTrue (set_at new.frames r fact) → IsTrue (set_at old.frames r fact)) → PlaceFits where_is old → PlaceFits where_is new
  place_later old new s fewer p = record {
    there = (let t = p.there in let e = s.exits in omega (arith, t, e));
    own = s.exit where_is.function ∙ p.own;
    copies = p.copies;
    few = p.few;
    frames = λ r fact is. p.frames r fact (fewer r fact is);
  }

  module _ (spot : Spot) (old new : Sets) (work after : Known) (lost : Bool) (v : Visited where_is spot old new work after lost) where
    pub visited_shape : SameShape old new
    visited_shape = record { entries = v.calls.long; exits = v.leaves.long; frames = v.falls.long ∙ v.leads.long; entry = v.calls.variables; exit = v.leaves.variables; frame = λ p. v.falls.variables p ∙ v.leads.variables p }

    pub visited_fewer : (r : ℕ) (fact : Fact) → IsTrue (set_at new.frames r fact) → IsTrue (set_at old.frames r fact)
    visited_fewer r fact is = ((v.leads.facts r fact).0 ((v.falls.facts r fact).0 is).0).0

    pub visited_fewers : FewerFacts old new
    visited_fewers = record { entries = λ h fact is. ((v.calls.facts h fact).0 is).0; exits = λ h fact is. ((v.leaves.facts h fact).0 is).0; frames = visited_fewer }

    pub visited_shrinks : Shrinks lost old new
    visited_shrinks = subst (λ b. Shrinks b old new) (sym v.is)
        (shrinks_then v.called (v.left || (v.led || v.fell)) old one new (entries_shrink old v.called new.entries v.calls.fewer)
        (shrinks_then v.left (v.led || v.fell) one two new (exits_shrink one v.left new.exits v.leaves.fewer)
        (shrinks_then v.led v.fell two three new (frames_shrink two v.led v.frames v.leads.fewer) (frames_shrink three v.fell new.frames v.falls.fewer))))
      where
        one : Sets
        one = record { entries = new.entries; exits = old.exits; frames = old.frames }

        two : Sets
        two = record { entries = new.entries; exits = new.exits; frames = old.frames }

        three : Sets
        three = record { entries = new.entries; exits = new.exits; frames = v.frames }

    pub visited_ready : PlaceFits where_is old → SpotFits where_is old spot → IsReady (suc (suc where_is.result)) (suc where_is.result) (holds work) → IsReady (suc (suc where_is.result)) (suc where_is.result) (holds after)
    visited_ready p f ready = by spot.next refl
      where
        mid : IsReady (suc (suc where_is.result)) (suc where_is.result) (holds v.mid)
        mid = left_ready (suc (suc where_is.result)) (suc where_is.result) old.exits (effect_of spot.effect) spot.low spot.top (holds work) (holds v.mid) f.below ready v.carries

        by : (next : Option ℕ) → spot.next ≡ next → IsReady (suc (suc where_is.result)) (suc where_is.result) (holds after)
        by None e = subst (λ (k : Known). IsReady (suc (suc where_is.result)) (suc where_is.result) (holds k)) (sym (v.goes e)) mid
        by (Some r) e = anew_ready (suc (suc where_is.result)) (suc where_is.result) (set_at new.frames r) (holds after) refl (λ q is. p.frames r q (visited_fewer r q is)) (v.restarts r e)
