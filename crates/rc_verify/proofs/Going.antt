-- A pass goes on over an instruction.
use Rattle.std.proofs.Common.{◌≡◌, ◌∙◌, ◌↔◌, ℕ, zero, suc, ◌+◌, ◌<◌, true, false, IsTrue, Option, Some, None, Vec, Global, refl, sym, subst, arith}
use Rattle.std.specs.Prelude.{◌≤◌, length, MatchOption}
use Rattle.std.specs.List.{All}
use Rattle.rc_facts.specs.declared.fact.Fact.{Fact}
use Rattle.rc_facts.specs.Derivable.{Derivable}
use Rattle.rc_facts.specs.Facts.{Known, holds, is_over}
use Rattle.rc_annotations.specs.Annotations.{Annotation}
use Rattle.rc_code.specs.Running.{Reading}
use Rattle.rc_sealed.specs.ImageVariables.{scratch}
use Rattle.rc_sealed.specs.Proved.{AtEntry, EntryIsProved, Proved}
use Rattle.rc_carrying.specs.declared.step.Step.{Step}
use Rattle.rc_carrying.specs.Asked.{Passed}
use Rattle.rc_carrying.specs.Passing.{listed, Fits, Serves, StandsFor, Visited}
use Rattle.rc_carrying.proofs.Asking.{passed_proved, proved_passed}
use Rattle.rc_carrying.proofs.Visits.{anew_ready, frame_over, has_stopped, over_next, reached_next, reached_target, visited_ready}
use Rattle.rc_image_steps.specs.Sites.{function_in, image_of}
use Rattle.rc_verify.specs.declared.passing.Pass.{Pass}
use Rattle.rc_verify.specs.Passes.{claimed, count, IsAt, IsPass}
use Rattle.rc_verify.specs.Firsts.{IsFirstUnproved}
use Rattle.rc_verify.proofs.Entering.{frames_over}

-- of a frame, if there is one
abbrev pub Restarted : (n : ℕ) → Option (Vec Fact Global) → (old new : Known) → Type 0
Restarted n frame old new = MatchOption frame (new ≡ old) (λ facts. (fact : Fact) → IsTrue (holds new fact) ↔ Derivable n (listed facts.items) fact)

module _ (pass : Pass) (is : IsPass pass) where
  abbrev image : Reading
  image = image_of pass.site

  abbrev proofs : Annotation
  proofs = claimed pass

  abbrev s : ℕ
  s = scratch image (function_in pass.site)

  pub serves : Serves image proofs pass.site.number s pass.exits.now
  serves = record { last = refl; leaves = is.leaves; frames = frames_over pass is }

  module _ (at : ℕ) (step : Step) (stands : StandsFor image proofs pass.site.number at step) (fits : Fits (count pass) s pass.exits.now step) (old : Known) (here : IsAt pass at old) where
    pub frame_below : MatchOption step.frame (Unit {0}) (λ facts. All (λ p. IsTrue (is_over (count pass) p)) facts.items)
    frame_below = by step.frame refl
      where
        by : (o : Option (Vec Fact Global)) → step.frame ≡ o → MatchOption o (Unit {0}) (λ facts. All (λ p. IsTrue (is_over (count pass) p)) facts.items)
        by None e = tt
        by (Some facts) e = over_next (count pass) s facts.items refl (frame_over (count pass) s pass.exits.now step facts fits e)

    pub goes_on : (visited after : Known) → Visited (count pass) s pass.exits.now step (holds old) (holds visited) true → visited.variables ≡ count pass → after.variables ≡ visited.variables → Restarted (count pass) step.frame visited after → IsAt pass (at + 1) after
    goes_on visited after v vars same restarted = by step.frame refl restarted
      where
        by : (o : Option (Vec Fact Global)) → step.frame ≡ o → Restarted (count pass) o visited after → IsAt pass (at + 1) after
        by None e r = subst (IsAt pass (at + 1)) (sym r) (record {
          same = vars;
          ready = visited_ready (count pass) s pass.exits.now step (holds old) (holds visited) fits here.ready v;
          reached = reached_next image proofs pass.site.number s at pass.exits.now step serves stands (count pass) refl old (holds visited) fits v e here.reached;
        })
        by (Some facts) e r = record {
          same = same ∙ vars;
          ready = anew_ready (count pass) s facts.items (holds after) refl (frame_over (count pass) s pass.exits.now step facts fits e) r;
          reached = reached_target image proofs pass.site.number s at pass.exits.now step serves stands (count pass) refl old (holds visited) (holds after) facts fits v e r here.reached;
        }

    pub stops_here : (visited : Known) → Visited (count pass) s pass.exits.now step (holds old) (holds visited) false → Passed image proofs pass.site.number at → ⊥
    stops_here visited v = has_stopped image proofs pass.site.number s at pass.exits.now step serves stands (count pass) refl old (holds visited) fits v here.reached.has

  -- ---- from the entry on

  at_entry : EntryIsProved image proofs pass.site.number 0 → (k : ℕ) → AtEntry image proofs pass.site.number k k
  at_entry entry zero = entry
  at_entry entry (suc k) = tt

  module _ (entry : EntryIsProved image proofs pass.site.number 0) where
    proved_before : (at : ℕ) (set : Known) → IsAt pass at set → (k : ℕ) → k < at → Proved image proofs pass.site.number k
    proved_before at set here k lt = passed_proved image proofs pass.site.number k (here.reached.passed k lt) (at_entry entry k)

    pub fails_at : (at : ℕ) (set : Known) → IsAt pass at set → at < length (function_in pass.site).code → (Passed image proofs pass.site.number at → ⊥) → IsFirstUnproved pass.site.parts.now proofs pass.site.number at
    fails_at at set here lt refuted = record { inside = lt; before = proved_before at set here; fails = λ p. refuted (proved_passed image proofs pass.site.number at p) }

    pub none_fails : (at : ℕ) (set : Known) → IsAt pass at set → length (function_in pass.site).code ≤ at → (k : ℕ) → k < length (function_in pass.site).code → Proved image proofs pass.site.number k
    none_fails at set here le k lt = proved_before at set here k (omega (arith, le, lt))

  pub fails_first : (EntryIsProved image proofs pass.site.number 0 → ⊥) → IsFirstUnproved pass.site.parts.now proofs pass.site.number 0
  fails_first refuted = record { inside = (is.site.sound.functions pass.site.number is.site.there).begins; before = λ k l. absurd (omega (arith, l)); fails = λ p. refuted p.first }
