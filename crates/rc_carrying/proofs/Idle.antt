-- An instruction without an effect.
use Rattle.std.proofs.Common.{◌≡◌, ◌∙◌, ℕ, Bool, true, false, ◌||◌, ◌&&◌, IsTrue, List, [], None, refl, sym, inl, inr}
use Rattle.std.proofs.lemmas.Bool.{and_parts, and_from, or_cases, or_left, or_right}
use Rattle.rc_facts.specs.declared.fact.Fact.{Fact}
use Rattle.rc_facts.specs.Derivable.{stated}
use Rattle.rc_facts.specs.Facts.{Known, names}
use Rattle.rc_facts.specs.Shut.{together}
use Rattle.rc_facts.specs.Flow.{Facts}
use Rattle.rc_annotations.proofs.Derivations.{derivable_more}
use Rattle.rc_rlang.specs.RegionFlow.{nothing}
use Rattle.rc_sealed.specs.Carrying.{speaks}
use Rattle.rc_carrying.specs.Left.{is_own, stay, HasOwn, IsReady, Left}
use Rattle.rc_carrying.specs.Passing.{CarriesOver}
use Rattle.rc_carrying.proofs.Closed.{own_derived}

pub ready_own : (n s : ℕ) (facts : Facts) → IsReady n s facts → HasOwn n facts
ready_own n s facts ready fact o = ready.closed.closed fact (own_derived n fact o)

pub idle_carries : (n s low top : ℕ) (exits : List Known) (old new : Facts) → IsReady n s old → ((p : Fact) → new p ≡ (old p && (speaks (stay low top None) p || is_own p))) → CarriesOver n s exits nothing low top old new
idle_carries n s low top exits old new ready is p = (to, from)
  where
    test : ℕ → Bool
    test = stay low top None

    nothing_more : (q : Fact) → IsTrue (together old [] q) → IsTrue (old q)
    nothing_more q e = elim (or_cases (old q) false e) [ inl h ↦ h | inr f ↦ cc ]

    kept : IsTrue (old p) → IsTrue (speaks test p) → (b : Bool) → names s p ≡ b → Left n s test None [] old p
    kept h t true e = inl (record { own = ready.apart p h e; over = ready.closed.over p h })
    kept h t false e = inr (record { stays = t; behind = (stated (or_left (old p) false h), e) })

    to : IsTrue (new p) → Left n s test None [] old p
    to e = let c = and_parts (old p) (speaks test p || is_own p) (sym (is p) ∙ e) in elim (or_cases (speaks test p) (is_own p) c.1) [
      | inl t ↦ kept c.0 t (names s p) refl
      | inr o ↦ inl (record { own = o; over = ready.closed.over p c.0 })
    ]

    from : Left n s test None [] old p → IsTrue (new p)
    from (inl o) = is p ∙ and_from (old p) (speaks test p || is_own p) (ready_own n s old ready p o) (or_right (speaks test p) (is_own p) o.own)
    from (inr k) = is p ∙ and_from (old p) (speaks test p || is_own p) (ready.closed.closed p (derivable_more nothing_more k.behind.0)) (or_left (speaks test p) (is_own p) k.stays)
