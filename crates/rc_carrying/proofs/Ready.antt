-- A set that is ready for an instruction, and is so again behind it.
use Rattle.std.proofs.Common.{◌≡◌, ℕ, suc, Bool, true, false, not, ◌&&◌, ◌||◌, IsTrue, List, Option, Some, None, refl, sym, ap, ◌∙◌, subst, inl, inr, ◌↔◌, arith}
use Rattle.std.specs.List.{All}
use Rattle.std.proofs.lemmas.Bool.{and_parts, and_from, or_cases, or_left, or_right}
use Rattle.rc_facts.specs.declared.fact.Fact.{Fact}
use Rattle.rc_facts.specs.Derivable.{Derivable, stated}
use Rattle.rc_facts.specs.declared.fact.Fact.TheVariants.{In, Up}
use Rattle.rc_facts.specs.Facts.{Known, is_over, names, same_fact}
use Rattle.rc_facts.specs.Shut.{together}
use Rattle.rc_facts.specs.Flow.{Facts, Behind, set_at}
use Rattle.rc_facts.specs.Flow.{IsClosed as IsShutOn}
use Rattle.rc_annotations.specs.Annotations.{Annotation}
use Rattle.rc_annotations.proofs.Derivations.{derivable_cut, derivable_more}
use Rattle.rc_rlang.specs.RegionFlow.{Effect, assigned}
use Rattle.rc_edges.specs.Edges.{EffectBelow, renewed}
use Rattle.rc_edges.specs.News.{news_of}
use Rattle.rc_edges.proofs.Adding.{news_are}
use Rattle.rc_edges.proofs.Downward.{renewed_below}
use Rattle.rc_carrying.specs.Left.{is_own, stay, IsReady, Left}
use Rattle.rc_carrying.specs.Passing.{CarriesOver}
use Rattle.rc_carrying.proofs.Closed.{own_derived, left_closed}
use Rattle.rc_carrying.proofs.Carried.{listed_over, assigned_below}

falsely : (b : Bool) → not b ≡ true → b ≡ false
falsely true e = cc
falsely false e = refl

clash : {P : Type 0} (b : Bool) → b ≡ true → b ≡ false → P
clash true e d = cc
clash false e d = cc

-- ---- the scratch variable is forgotten

module _ (n s : ℕ) (before forgot : Facts) (ready : IsReady n s before) (rest : (p : Fact) → forgot p ≡ (before p && not (names s p))) where
  was : (p : Fact) → IsTrue (forgot p) → IsTrue (before p)
  was p is = (and_parts (before p) (not (names s p)) (sym (rest p) ∙ is)).0

  stands : (p : Fact) → IsTrue (before p) → names s p ≡ false → IsTrue (forgot p)
  stands p is e = rest p ∙ and_from (before p) (not (names s p)) is (ap not e)

  pub forgot_closed : IsShutOn n s forgot
  forgot_closed = record {
    shut = λ fact apart d. stands fact (ready.closed.closed fact (derivable_more was d)) apart;
    clean = λ fact is. falsely (names s fact) (and_parts (before fact) (not (names s fact)) (sym (rest fact) ∙ is)).1;
  }

  fewer : (news : List Fact) (p : Fact) → IsTrue (together forgot news p) → IsTrue (together before news p)
  fewer news p is = elim (or_cases (forgot p) _ is) [ inl old ↦ or_left (before p) _ (was p old) | inr new ↦ or_right (before p) _ new ]

  more : (news : List Fact) (p : Fact) → IsTrue (together before news p) → Derivable n (together forgot news) p
  more news p is = elim (or_cases (before p) _ is) [ inl old ↦ by (names s p) refl old | inr new ↦ stated (or_right (forgot p) _ new) ]
    where
      by : (b : Bool) → names s p ≡ b → IsTrue (before p) → Derivable n (together forgot news) p
      by true e old = own_derived n p (record { own = ready.apart p old e; over = ready.closed.over p old })
      by false e old = stated (or_left (forgot p) _ (stands p old e))

  pub behind_forgotten : (x : Option ℕ) (news : List Fact) (fact : Fact) → Behind n s x news forgot fact ↔ Behind n s x news before fact
  behind_forgotten None news fact = (λ b. (derivable_more (fewer news) b.0, b.1), λ b. (derivable_cut (more news) b.0, b.1))
  behind_forgotten (Some x) news fact = (λ b. (derivable_more (fewer news) b.0, b.1), λ b. (derivable_cut (more news) b.0, b.1))

  pub behind_before : (x : Option ℕ) (news : List Fact) (after : Facts) → ((p : Fact) → IsTrue (after p) ↔ Behind n s x news forgot p) → (p : Fact) → IsTrue (after p) ↔ Behind n s x news before p
  behind_before x news after is p = (λ e. (behind_forgotten x news p).0 ((is p).0 e), λ b. (is p).1 ((behind_forgotten x news p).1 b))

-- what is added of it, of which nothing was known
pub added_own : (s : ℕ) (crossed fresh : Facts) → ((p : Fact) → IsTrue (crossed p) → names s p ≡ false) → ((p : Fact) → fresh p ≡ ((crossed p || same_fact (In s s) p) || same_fact (Up s s) p)) → (p : Fact) → fresh p ≡ (((crossed p && not (names s p)) || same_fact (In s s) p) || same_fact (Up s s) p)
added_own s crossed fresh apart is p = is p ∙ ap (λ b. (b || same_fact (In s s) p) || same_fact (Up s s) p) (kept (crossed p) (names s p) (apart p))
  where
    kept : (b m : Bool) → (b ≡ true → m ≡ false) → b ≡ (b && not m)
    kept true m h = sym (ap not (h refl))
    kept false m h = refl

-- ---- what is added

abbrev leaving : List Known → Annotation
leaving exits = record { before = λ g p fact. false; entry = λ g fact. false; exit = set_at exits }

pub added_over : (n s : ℕ) (exits : List Known) (effect : Effect) → suc s ≡ n → EffectBelow s effect → All (λ p. IsTrue (is_over n p)) (news_of n (set_at exits) (renewed s effect))
added_over n s exits effect e below = subst (λ m. All (λ p. IsTrue (is_over m p)) (news_of m (set_at exits) (renewed s effect))) e
    (news_are (suc s) (leaving exits) (renewed s effect) (renewed_below s effect below)).over

-- ---- ready again

pub left_ready : (n s : ℕ) (exits : List Known) (effect : Effect) (low top : ℕ) (old new : Facts) → EffectBelow s effect → IsReady n s old → CarriesOver n s exits effect low top old new → IsReady n s new
left_ready n s exits effect low top old new below ready carries = record {
  last = ready.last;
  closed = left_closed n s (stay low top (assigned effect)) (news_of n (set_at exits) (renewed s effect)) old new (let e = ready.last in omega (arith, e))
      (listed_over n (news_of n (set_at exits) (renewed s effect)) (added_over n s exits effect ready.last below)) ready.closed (assigned effect) (assigned_below s effect below) carries;
  apart = λ fact is named. by fact named ((carries fact).0 is);
}
  where
    by : (fact : Fact) → names s fact ≡ true → Left n s (stay low top (assigned effect)) (assigned effect) (news_of n (set_at exits) (renewed s effect)) old fact → IsTrue (is_own fact)
    by fact named (inl o) = o.own
    by fact named (inr k) = clash (names s fact) named k.behind.1
