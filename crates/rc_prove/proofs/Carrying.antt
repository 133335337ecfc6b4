-- The working set is carried over an instruction.
use Rattle.std.proofs.Common.{◌≡◌, ◌∙◌, ℕ, suc, Bool, false, IsTrue, List, [], ◌∷◌, refl, sym, ap, subst, inl, inr}
use Rattle.std.proofs.Math.Path.{fun_ext}
use Rattle.std.specs.List.{AllByRecursion as Every}
use Rattle.std.proofs.lemmas.Bool.{or_cases, or_left, and_parts}
use Rattle.rc_facts.specs.declared.fact.Fact.{Fact}
use Rattle.rc_facts.specs.Derivable.{stated}
use Rattle.rc_facts.specs.Facts.{Known, holds, is_over, same_fact}
use Rattle.rc_facts.proofs.Sets.{same_fact-true}
use Rattle.rc_rlang.specs.RegionFlow.{Effect}
use Rattle.rc_annotations.specs.Annotations.{Facts, Annotation, exit_facts}
use Rattle.rc_annotations.proofs.Derivations.{derivable_cut}
use Rattle.rc_facts.specs.Flow.{set_at}
use Rattle.rc_edges.specs.Edges.{AreNews, EffectBelow, renewed}
use Rattle.rc_edges.specs.News.{news_of}
use Rattle.rc_edges.proofs.Adding.{news_are}
use Rattle.rc_edges.proofs.Renaming.{same_self}
use Rattle.rc_code.specs.declared.image.Function.{Function}
use Rattle.rc_code.specs.Running.{Reading, function_at}
use Rattle.rc_claims.specs.Counts.{place}
use Rattle.rc_sealed.specs.ImageVariables.{scratch}
use Rattle.rc_sealed.specs.Carrying.{among, is_target, effect_at, lowest, reach, Follows, Carried, Before}
use Rattle.rc_sealed.proofs.Carry.{before_over, over_below}
use Rattle.rc_sealed.proofs.Greater.{carried_more}
use Rattle.rc_carrying.specs.Left.{IsReady}
use Rattle.rc_carrying.specs.Passing.{CarriesOver}
use Rattle.rc_carrying.specs.Closing.{Has}
use Rattle.rc_carrying.proofs.Carried.{left_carried, to_behind}
use Rattle.rc_carrying.proofs.Ready.{left_ready}
use Rattle.rc_edges.proofs.Downward.{renewed_below}
use Rattle.rc_prove.specs.Sets.{Sets, rank, IsIn, Claims}
use Rattle.rc_prove.specs.Passing.{Passing, before_at, behind_at}
use Rattle.rc_prove.proofs.Lowering.{is_in, filled, inside_filled}

pub each_is : (P : Fact → Type 0) (facts : List Fact) → Every P facts → (p : Fact) → IsTrue (among facts p) → P p
each_is P [] all p e = cc
each_is P (q ∷ facts) all p e = elim (or_cases (same_fact p q) (among facts p) e) [
  | inl one ↦ subst P (sym (same_fact-true p q one)) all.0
  | inr other ↦ each_is P facts all.1 p other
]

pub known_follows : (n : ℕ) (known : Fact → Type 0) (p : Fact) → known p → Follows n known p
known_follows n known p k = record { used = p ∷ []; each = (k, tt); derived = stated (or_left (same_fact p p) false (same_self p)) }

module _ (image : Reading) (g at : ℕ) where
  abbrev f : Function
  f = function_at image g

  abbrev s : ℕ
  s = scratch image f

  abbrev effect : Effect
  effect = effect_at image f at

  abbrev added : List Known → List Fact
  added exits = news_of (suc s) (set_at exits) (renewed s effect)

  -- the second set is what is left of the first behind the instruction
  abbrev pub CrossesAt : List Known → (old new : Facts) → Type 0
  CrossesAt exits old new = CarriesOver (suc s) s exits effect (place f (lowest image f at)) (place f (reach image f at)) old new

  module _ (below : EffectBelow s effect) where
    news_with : (a : Annotation) → AreNews (suc s) (exit_facts a) (renewed s effect) (news_of (suc s) a.exit (renewed s effect))
    news_with a = news_are (suc s) a (renewed s effect) (renewed_below s effect below)

    -- what is carried of facts that the set has, it has behind the instruction
    carried_left : (a : Annotation) (exits : List Known) (known : Fact → Type 0) (set : Known) (after : Facts) → set_at exits ≡ a.exit → ((p : Fact) → known p → IsTrue (is_over s p)) → ((p : Fact) → known p → IsTrue (holds set p)) → CrossesAt exits (holds set) after
        → (fact : Fact) → Carried image a g at known fact → IsTrue (after fact)
    carried_left a exits known set after same over has left fact c = (left fact).1 (inr (record {
      stays = c.stays;
      behind = to_behind s a effect (added exits) below (subst (λ x. AreNews (suc s) (exit_facts a) (renewed s effect) (news_of (suc s) x (renewed s effect))) (sym same) (news_with a)) (holds set) c.used
          (λ p e. has p (each_is known c.used c.each p e)) (λ p e. over_below s p (over p (each_is known c.used c.each p e))) fact (over_below s fact c.over) c.derived;
    }))

    pub carried_passing : (old now : Sets) (lost : Bool) (set : Known) (after : Facts) → Passing image g (before_at image g at) old now (holds set) lost → CrossesAt now.exits (holds set) after → Passing image g (behind_at image g at) old now after lost
    carried_passing old now lost set after p left = record {
      ready = ready;
      frames = p.frames;
      above = λ proofs i fact c. ready.closed.closed fact (derivable_cut (λ q e. stated (above proofs i q (each_is (behind_at image g at proofs) c.used c.each q e))) c.derived);
      below = λ e proofs c fact is. (exact e proofs c fact).0 is;
      lowers = p.lowers;
      told = p.told;
    }
      where
        ready : IsReady (suc s) s after
        ready = left_ready (suc s) s now.exits effect (place f (lowest image f at)) (place f (reach image f at)) (holds set) after below p.ready left

        speak : (proofs : Annotation) → IsIn image proofs g now → (to : ℕ) (fact : Fact) → IsTrue (proofs.before g to fact) → IsTrue (is_over (place f 0) fact)
        speak proofs i to fact is = p.frames (rank f to) fact (and_parts (is_target f to) (set_at now.frames (rank f to) fact) (i.before to fact is)).1

        above : (proofs : Annotation) → IsIn image proofs g now → (q : Fact) → behind_at image g at proofs q → IsTrue (after q)
        above proofs i q c = carried_left (filled image g proofs now) now.exits (Before image proofs g at) set after refl (before_over image proofs g (speak proofs i) at)
            (λ r k. p.above proofs i r (known_follows (suc s) (Before image proofs g at) r k)) left q
            (carried_more image g proofs (filled image g proofs now) (inside_filled image g proofs now i) at (Before image proofs g at) (Before image proofs g at) (λ r k. k) q c)

        exact : lost ≡ false → (proofs : Annotation) → Claims image proofs g old → Has (suc s) after (behind_at image g at proofs)
        exact e proofs c =
            let i : IsIn image proofs g now = subst (IsIn image proofs g) (sym (p.told e)) (is_in image g proofs old c) in
            left_carried image proofs g at (Before image proofs g at) (added now.exits) set after below
            (subst (λ x. AreNews (suc s) (exit_facts proofs) (renewed s effect) (news_of (suc s) x (renewed s effect))) (fun_ext (λ h. fun_ext (λ fact. c.exit h fact ∙ ap (λ (z : Sets). set_at z.exits h fact) (sym (p.told e))))) (news_with proofs))
            (before_over image proofs g (speak proofs i) at)
            (λ fact. ((λ is. p.below e proofs c fact is), (λ k. p.above proofs i fact k))) left
