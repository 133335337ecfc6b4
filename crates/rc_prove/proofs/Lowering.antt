-- Sets that lose facts, one list of them after the other.
use Rattle.std.proofs.Common.{◌≡◌, ◌∙◌, ℕ, ◌<◌, Bool, true, false, ◌||◌, nat_eq, IsTrue, List, refl, sym, subst}
use Rattle.std.specs.Prelude.{MatchBool}
use Rattle.std.proofs.lemmas.Bool.{and_parts, and_from, eqb-true}
use Rattle.rc_facts.specs.declared.fact.Fact.{Fact}
use Rattle.rc_facts.specs.Facts.{Known}
use Rattle.rc_annotations.specs.Annotations.{Facts, Annotation}
use Rattle.rc_annotations.specs.Laws.{Inside}
use Rattle.rc_facts.specs.Flow.{facts_in, set_at}
use Rattle.rc_edges.specs.Reading.{Loses}
use Rattle.rc_code.specs.declared.image.Function.{Function}
use Rattle.rc_code.specs.Running.{Reading, function_at}
use Rattle.rc_sealed.specs.Carrying.{is_target}
use Rattle.rc_prove.specs.Sets.{Sets, rank, framed, IsIn, Claims, ProveFunction, AreFrames, Lowers}
use Rattle.rc_prove.specs.Passing.{Passing}

-- nothing is lost
pub told_by : (lost : Bool) (old new : List Known) → MatchBool lost (facts_in new < facts_in old) (new ≡ old) → lost ≡ false → new ≡ old
told_by lost old new l e = subst (λ b. MatchBool b (facts_in new < facts_in old) (new ≡ old)) e l

-- ---- proofs that claim what is in sets

module _ (image : Reading) (g : ℕ) where
  pub is_in : (proofs : Annotation) (sets : Sets) → Claims image proofs g sets → IsIn image proofs g sets
  is_in proofs sets c = record { before = λ at fact is. sym (c.before at fact) ∙ is; entry = λ h fact is. sym (c.entry h fact) ∙ is; exit = λ h fact is. sym (c.exit h fact) ∙ is }

  -- with those of others at other functions
  abbrev pub before_by : Bool → (theirs ours : Facts) → Facts
  before_by true theirs ours = ours
  before_by false theirs ours = theirs

  abbrev pub filled : Annotation → Sets → Annotation
  filled others sets = record {
    before = λ k at. before_by (nat_eq k g) (others.before k at) (framed (function_at image g) sets.frames at);
    entry = set_at sets.entries;
    exit = set_at sets.exits;
  }

  pub inside_filled : (proofs : Annotation) (sets : Sets) → IsIn image proofs g sets → Inside proofs (filled proofs sets)
  inside_filled proofs sets i = record { before = λ k at fact. by k at fact (nat_eq k g) refl; entry = i.entry; exit = i.exit }
    where
      by : (k at : ℕ) (fact : Fact) (b : Bool) → nat_eq k g ≡ b → IsTrue (proofs.before k at fact) → IsTrue (before_by b (proofs.before k at) (framed (function_at image g) sets.frames at) fact)
      by k at fact true e is = i.before at fact (subst (λ h. IsTrue (proofs.before h at fact)) (eqb-true k g e) is)
      by k at fact false e is = is

  -- ---- one after the other

  pub lowers_none : (sets : Sets) → Lowers image g sets sets
  lowers_none sets = record { fewer = λ proofs i. i; keeps = λ proofs p i. i }

  pub lowers_then : (old mid new : Sets) → Lowers image g old mid → Lowers image g mid new → Lowers image g old new
  lowers_then old mid new a b = record { fewer = λ proofs i. a.fewer proofs (b.fewer proofs i); keeps = λ proofs p i. b.keeps proofs p (a.keeps proofs p i) }

  -- the working set stays
  pub passing_then : (stage : Annotation → Fact → Type 0) (l1 l2 : Bool) (old mid new : Sets) (work : Facts) → Passing image g stage old mid work l1 → Lowers image g mid new → (l2 ≡ false → new ≡ mid) → AreFrames image g new → Passing image g stage old new work (l1 || l2)
  passing_then stage l1 l2 old mid new work p l same frames = record {
    ready = p.ready;
    frames = frames;
    above = λ proofs i. p.above proofs (l.fewer proofs i);
    below = λ e. p.below (first l1 l2 e);
    lowers = lowers_then old mid new p.lowers l;
    told = λ e. same (second l1 l2 e) ∙ p.told (first l1 l2 e);
  }
    where
      first : (a b : Bool) → (a || b) ≡ false → a ≡ false
      first true b e = e
      first false b e = refl

      second : (a b : Bool) → (a || b) ≡ false → b ≡ false
      second true b e = absurd (not_both e)
        where
          not_both : true ≡ false → ⊥
          not_both c = cc
      second false b e = e

  -- ---- one list

  pub entries_lower : (lost : Bool) (sets : Sets) (new : List Known) (stays : ℕ → Fact → Type 0) → Loses lost sets.entries new stays
      → ((proofs : Annotation) → ProveFunction image proofs g → IsIn image proofs g sets → (h : ℕ) (fact : Fact) → IsTrue (proofs.entry h fact) → stays h fact) → Lowers image g sets (record { entries = new; exits = sets.exits; frames = sets.frames })
  entries_lower lost sets new stays l kept = record {
    fewer = λ proofs i. record { before = i.before; entry = λ h fact is. ((l.facts h fact).0 (i.entry h fact is)).0; exit = i.exit };
    keeps = λ proofs p i. record { before = i.before; entry = λ h fact is. (l.facts h fact).1 (i.entry h fact is, kept proofs p i h fact is); exit = i.exit };
  }

  pub exits_lower : (lost : Bool) (sets : Sets) (new : List Known) (stays : ℕ → Fact → Type 0) → Loses lost sets.exits new stays
      → ((proofs : Annotation) → ProveFunction image proofs g → IsIn image proofs g sets → (h : ℕ) (fact : Fact) → IsTrue (proofs.exit h fact) → stays h fact) → Lowers image g sets (record { entries = sets.entries; exits = new; frames = sets.frames })
  exits_lower lost sets new stays l kept = record {
    fewer = λ proofs i. record { before = i.before; entry = i.entry; exit = λ h fact is. ((l.facts h fact).0 (i.exit h fact is)).0 };
    keeps = λ proofs p i. record { before = i.before; entry = i.entry; exit = λ h fact is. (l.facts h fact).1 (i.exit h fact is, kept proofs p i h fact is) };
  }

  pub frames_lower : (lost : Bool) (sets : Sets) (new : List Known) (stays : ℕ → Fact → Type 0) → Loses lost sets.frames new stays
      → ((proofs : Annotation) → ProveFunction image proofs g → IsIn image proofs g sets → (at : ℕ) (fact : Fact) → IsTrue (proofs.before g at fact) → stays (rank (function_at image g) at) fact) → Lowers image g sets (record { entries = sets.entries; exits = sets.exits; frames = new })
  frames_lower lost sets new stays l kept = record {
    fewer = λ proofs i. record { before = λ at fact is. fewer at fact (i.before at fact is); entry = i.entry; exit = i.exit };
    keeps = λ proofs p i. record { before = λ at fact is. stay at fact (i.before at fact is) (kept proofs p i at fact is); entry = i.entry; exit = i.exit };
  }
    where
      f : Function
      f = function_at image g

      fewer : (at : ℕ) (fact : Fact) → IsTrue (framed f new at fact) → IsTrue (framed f sets.frames at fact)
      fewer at fact is = let b = and_parts (is_target f at) (set_at new (rank f at) fact) is in and_from (is_target f at) (set_at sets.frames (rank f at) fact) b.0 ((l.facts (rank f at) fact).0 b.1).0

      stay : (at : ℕ) (fact : Fact) → IsTrue (framed f sets.frames at fact) → stays (rank f at) fact → IsTrue (framed f new at fact)
      stay at fact is s = let b = and_parts (is_target f at) (set_at sets.frames (rank f at) fact) is in and_from (is_target f at) (set_at new (rank f at) fact) b.0 ((l.facts (rank f at) fact).1 (b.1, s))

  pub fewer_frames : (lost : Bool) (sets : Sets) (new : List Known) (stays : ℕ → Fact → Type 0) → Loses lost sets.frames new stays → AreFrames image g sets → AreFrames image g (record { entries = sets.entries; exits = sets.exits; frames = new })
  fewer_frames lost sets new stays l over r fact is = over r fact ((l.facts r fact).0 is).0
