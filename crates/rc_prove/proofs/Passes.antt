-- A pass reaches the next instruction by a visit.
use Rattle.std.proofs.Common.{◌≡◌, ◌∙◌, ℕ, suc, ◌<◌, Bool, true, false, ◌||◌, IsTrue, ◌↔◌, List, length, Option, Some, None, refl, sym, ap, subst, inl, inr, ◌⊎◌, arith}
use Rattle.rc_facts.specs.declared.fact.Fact.{Fact}
use Rattle.rc_facts.specs.Derivable.{Derivable}
use Rattle.rc_facts.specs.Facts.{Known, holds, is_over}
use Rattle.rc_rlang.specs.RegionFlow.{Effect}
use Rattle.rc_annotations.specs.Annotations.{Annotation, fact_with, renamed}
use Rattle.rc_facts.specs.Flow.{set_at}
use Rattle.rc_edges.specs.Edges.{EffectBelow}
use Rattle.rc_edges.specs.Reading.{Loses}
use Rattle.rc_edges.specs.Boundaries.{CallGives}
use Rattle.rc_graph.specs.Nodes.{effect_of}
use Rattle.rc_code.specs.declared.image.Function.{Function}
use Rattle.rc_code.specs.Running.{Reading, function_at}
use Rattle.rc_code.specs.Soundness.{instruction_at}
use Rattle.rc_boundaries.proofs.Lost.{loses_as}
use Rattle.rc_claims.specs.Counts.{copies, place}
use Rattle.rc_sealed.specs.ImageVariables.{scratch, result_variable}
use Rattle.rc_sealed.specs.Carrying.{effect_at, lowest, is_target}
use Rattle.rc_sealed.specs.Proved.{Way}
use Rattle.rc_carrying.specs.Passing.{CarriesOver}
use Rattle.rc_greatest_proofs.specs.Marks.{ProvedBare}
use Rattle.rc_prove_parts.specs.declared.spot.Spot.{Spot}
use Rattle.rc_prove_parts.specs.declared.spot.Place.{Place}
use Rattle.rc_prove.specs.Sets.{Sets, rank, IsIn, Claims}
use Rattle.rc_prove.specs.Passing.{Passing, before_at, behind_at, Reached}
use Rattle.rc_prove.specs.Visiting.{SpotIs, Visited, ExitGives, FrameGives}
use Rattle.rc_prove.proofs.Lowering.{told_by, is_in, passing_then, fewer_frames}
use Rattle.rc_prove.proofs.Carrying.{CrossesAt, carried_passing}
use Rattle.rc_prove.proofs.Reaching.{ReturnsGive, calls_lower, returns_lower, leads_lower, falls_on, restarts, proved_bare}

or_left_false : (a b : Bool) → (a || b) ≡ false → a ≡ false
or_left_false true b e = e
or_left_false false b e = refl

or_again : (a b c d e : Bool) → ((((a || b) || c) || d) || e) ≡ (a || (b || (c || (d || e))))
or_again true b c d e = refl
or_again false true c d e = refl
or_again false false true d e = refl
or_again false false false true e = refl
or_again false false false false e = refl

module _ (image : Reading) (at : ℕ) (where_is : Place) (spot : Spot) (own : where_is.copies ≡ copies (function_at image where_is.function)) (answer : where_is.result ≡ result_variable image (function_at image where_is.function)) (is : SpotIs image where_is.function at spot) where
  abbrev g : ℕ
  g = where_is.function

  abbrev f : Function
  f = function_at image g

  abbrev Crossed : ℕ → Effect → ℕ → ℕ → List Known → (old new : Known) → Type 0
  Crossed r effect low top exits old new = CarriesOver (suc (suc r)) (suc r) exits effect low top (holds old) (holds new)

  crossed : (exits : List Known) (old new : Known) → Crossed where_is.result (effect_of spot.effect) spot.low spot.top exits old new → CrossesAt image g at exits (holds old) (holds new)
  crossed exits old new c =
      subst (λ t. Crossed (result_variable image f) (effect_at image f at) (place f (lowest image f at)) t exits old new) is.top
      (subst (λ l. Crossed (result_variable image f) (effect_at image f at) l spot.top exits old new) is.low
      (subst (λ e. Crossed (result_variable image f) e spot.low spot.top exits old new) is.effect
      (subst (λ r. Crossed r (effect_of spot.effect) spot.low spot.top exits old new) answer c)))

  given : (h : ℕ) (fact : Fact) (mid : Known) → ExitGives where_is spot.returns mid h fact → ReturnsGive image g at (holds mid) h fact
  given h fact mid e q r =
      let x = e q (is.returns ∙ r) in
      subst (λ k. IsTrue (is_over (suc k) fact) × IsTrue (holds mid (fact_with (renamed k (result_variable image f)) fact))) own
      (subst (λ k. IsTrue (is_over (suc where_is.copies) fact) × IsTrue (holds mid (fact_with (renamed where_is.copies k) fact))) answer x)

  taken : (h : ℕ) (fact : Fact) (mid : Known) → ReturnsGive image g at (holds mid) h fact → ExitGives where_is spot.returns mid h fact
  taken h fact mid e q r =
      let x = e q (sym is.returns ∙ r) in
      subst (λ k. IsTrue (is_over (suc k) fact) × IsTrue (holds mid (fact_with (renamed k where_is.result) fact))) (sym own)
      (subst (λ k. IsTrue (is_over (suc (copies f)) fact) × IsTrue (holds mid (fact_with (renamed (copies f) k) fact))) (sym answer) x)

  module _ (inside : at < length f.code) (below : EffectBelow (suc where_is.result) (effect_of spot.effect)) (start old new : Sets) (work after : Known) (lost more : Bool) (v : Visited where_is spot old new work after more) (reached : Reached image g at start old (holds work) lost) where
    abbrev old1 : Sets
    old1 = record { entries = new.entries; exits = old.exits; frames = old.frames }

    abbrev old2 : Sets
    old2 = record { entries = new.entries; exits = new.exits; frames = old.frames }

    abbrev old3 : Sets
    old3 = record { entries = new.entries; exits = new.exits; frames = v.frames }

    calls : Loses v.called old.entries new.entries (CallGives (effect_at image f at) work)
    calls = subst (λ e. Loses v.called old.entries new.entries (CallGives e work)) is.effect v.calls

    leaves : Loses v.left old.exits new.exits (ReturnsGive image g at (holds v.mid))
    leaves = loses_as v.left old.exits new.exits (ExitGives where_is spot.returns v.mid) (ReturnsGive image g at (holds v.mid)) (λ h fact. (given h fact v.mid, taken h fact v.mid)) v.leaves

    below_at : EffectBelow (scratch image f) (effect_at image f at)
    below_at = subst (λ e. EffectBelow (scratch image f) e) is.effect (subst (λ r. EffectBelow (suc r) (effect_of spot.effect)) answer below)

    p1 : Passing image g (before_at image g at) start old1 (holds work) (lost || v.called)
    p1 = passing_then image g (before_at image g at) lost v.called start old old1 (holds work) reached.here (calls_lower image g at inside start old lost v.called work new.entries reached.here calls) (λ e. ap (λ (ks : List Known). record { entries = ks; exits = old.exits; frames = old.frames }) (told_by v.called old.entries new.entries v.calls.fewer e)) reached.here.frames

    p2 : Passing image g (behind_at image g at) start old1 (holds v.mid) (lost || v.called)
    p2 = carried_passing image g at below_at start old1 (lost || v.called) work (holds v.mid) p1 (crossed old.exits work v.mid v.carries)

    p3 : Passing image g (behind_at image g at) start old2 (holds v.mid) ((lost || v.called) || v.left)
    p3 = passing_then image g (behind_at image g at) (lost || v.called) v.left start old1 old2 (holds v.mid) p2 (returns_lower image g at inside start old1 (lost || v.called) v.left (holds v.mid) new.exits p2 leaves) (λ e. ap (λ (ks : List Known). record { entries = new.entries; exits = ks; frames = old.frames }) (told_by v.left old.exits new.exits v.leaves.fewer e)) p2.frames

    p4 : Passing image g (behind_at image g at) start old3 (holds v.mid) (((lost || v.called) || v.left) || v.led)
    p4 = passing_then image g (behind_at image g at) ((lost || v.called) || v.left) v.led start old2 old3 (holds v.mid) p3 (leads_lower image g at inside start old2 ((lost || v.called) || v.left) v.led (holds v.mid) v.frames spot.jumped is.leads.jumps p3 v.leads)
        (λ e. ap (λ (ks : List Known). record { entries = new.entries; exits = new.exits; frames = ks }) (told_by v.led old.frames v.frames v.leads.fewer e))
        (fewer_frames image g v.led old2 v.frames (FrameGives spot.jumped v.mid) v.leads p3.frames)

    p5 : Passing image g (behind_at image g at) start new (holds v.mid) ((((lost || v.called) || v.left) || v.led) || v.fell)
    p5 = passing_then image g (behind_at image g at) (((lost || v.called) || v.left) || v.led) v.fell start old3 new (holds v.mid) p4 (leads_lower image g at inside start old3 (((lost || v.called) || v.left) || v.led) v.fell (holds v.mid) new.frames spot.fallen is.leads.falls p4 v.falls)
        (λ e. ap (λ (ks : List Known). record { entries = new.entries; exits = new.exits; frames = ks }) (told_by v.fell v.frames new.frames v.falls.fewer e))
        (fewer_frames image g v.fell old3 new.frames (FrameGives spot.fallen v.mid) v.falls p4.frames)

    flag : ((((lost || v.called) || v.left) || v.led) || v.fell) ≡ (lost || more)
    flag = or_again lost v.called v.left v.led v.fell ∙ ap (λ b. lost || b) (sym v.is)

    p6 : Passing image g (behind_at image g at) start new (holds v.mid) (lost || more)
    p6 = subst (Passing image g (behind_at image g at) start new (holds v.mid)) flag p5

    here : Passing image g (before_at image g (suc at)) start new (holds after) (lost || more)
    here = by spot.next refl
      where
        by : (next : Option ℕ) → spot.next ≡ next → Passing image g (before_at image g (suc at)) start new (holds after) (lost || more)
        by None e = subst (λ (k : Known). Passing image g (before_at image g (suc at)) start new (holds k) (lost || more)) (sym (v.goes e)) (falls_on image g at start new (lost || more) (holds v.mid) (is.leads.alone e) p6)
        by (Some r) e =
            let t = is.leads.follows r e in
            restarts image g at start new (lost || more) (holds after) (holds v.mid) r t.0 t.1
            (λ fact. subst (λ k. IsTrue (holds after fact) ↔ Derivable (suc (suc k)) (set_at new.frames r) fact) answer (v.restarts r e fact)) p6

    -- proofs that claim what is in the sets at the start
    proved : (lost || more) ≡ false → (proofs : Annotation) → Claims image proofs g start → ProvedBare image proofs g at
    proved e proofs c = proved_bare image g at inside work (holds v.mid) new proofs (subst (IsIn image proofs g) (sym (p6.told e)) (is_in image g proofs start c))
        (λ fact has. reached.here.below none proofs c fact has) (λ fact has. p6.below e proofs c fact has)
        (λ h fact has. ((calls.facts h fact).0 has).1) (λ fact has. ((leaves.facts g fact).0 has).1) leads (reached.entry none proofs c)
      where
        none : lost ≡ false
        none = or_left_false lost more e

        leads : (to : ℕ) (fact : Fact) → Way (instruction_at f at) at to → is_target f to ≡ true → IsTrue (set_at new.frames (rank f to) fact) → IsTrue (holds v.mid fact)
        leads to fact way t has =
            let fell = (v.falls.facts (rank f to) fact).0 has in
            let led = (v.leads.facts (rank f to) fact).0 fell.0 in
            elim (is.leads.whole to way t) [ inl j ↦ led.1 j | inr k ↦ fell.1 k ]

    one_more : (k m : ℕ) → k < suc m → (k < m) ⊎ (k ≡ m)
    one_more k m lt = by (order k m)
      where
        order : (a b : ℕ) → (a < b) ⊎ ((a ≡ b) ⊎ (b < a))
        order a b = grind arith

        by : (k < m) ⊎ ((k ≡ m) ⊎ (m < k)) → (k < m) ⊎ (k ≡ m)
        by (inl l) = inl l
        by (inr (inl e)) = inr e
        by (inr (inr l)) = absurd (omega (arith, l, lt))

    pub reached_next : Reached image g (suc at) start new (holds after) (lost || more)
    reached_next = record {
      here = here;
      proved = λ e proofs c k lt. elim (one_more k at lt) [ inl l ↦ reached.proved (or_left_false lost more e) proofs c k l | inr q ↦ subst (ProvedBare image proofs g) (sym q) (proved e proofs c) ];
      entry = λ e proofs c. reached.entry (or_left_false lost more e) proofs c;
    }
