-- What a pass over a function goes by, and what it has shown before an instruction.
use Rattle.std.specs.Prelude.{◌≡◌, ◌<◌, ◌↔◌, ℕ, Bool, false, IsTrue, List, length, get_or}
use Rattle.rc_facts.specs.declared.fact.Fact.{Fact}
use Rattle.rc_facts.specs.Derivable.{Derivable}
use Rattle.rc_facts.specs.Facts.{Known, holds}
use Rattle.rc_facts.specs.Flow.{no_set, set_at}
use Rattle.rc_annotations.specs.Annotations.{Annotation}
use Rattle.rc_code.specs.declared.image.Function.{Function}
use Rattle.rc_code.specs.declared.image.Parts.{Parts}
use Rattle.rc_code.specs.Image.{FieldsFit}
use Rattle.rc_code.specs.Running.{reading_of, function_at}
use Rattle.rc_code.specs.Soundness.{Sound}
use Rattle.rc_claims.specs.declared.proofs.Known.{Known as Claims}
use Rattle.rc_claims.specs.declared.proofs.Proofs.{Proofs}
use Rattle.rc_claims.specs.Bits.{claims}
use Rattle.rc_claims.specs.Claims.{known_at, ProofsFit}
use Rattle.rc_claims.specs.Counts.{exit_count}
use Rattle.rc_deleters.specs.Calls.{TellsDeleters}
use Rattle.rc_sealed.specs.Faults.{NoneIsWide}
use Rattle.rc_sealed.specs.Proved.{EntryIsProved}
use Rattle.rc_sealed.specs.ImageVariables.{scratch, variables}
use Rattle.rc_sealed.specs.Claimed.{annotation_of}
use Rattle.rc_carrying.specs.Left.{IsReady}
use Rattle.rc_crossing.specs.Fitting.{lacks}
use Rattle.rc_carrying.specs.Passing.{listed, Reached}
use Rattle.rc_image_steps.specs.Sites.{function_in, image_of, AreExits, IsSite}
use Rattle.rc_verify.specs.declared.passing.Pass.{Pass}
use Rattle.rc_verify.specs.declared.verifying.Checks.{Checks}

abbrev pub claimed : Pass → Annotation
claimed pass = annotation_of pass.site.parts.now pass.proofs.now

abbrev pub count : Pass → ℕ
count pass = variables (image_of pass.site) (function_in pass.site)

-- the proofs fit the image, the exits have their facts, and the set of no fact has as many variables as the function
pub record IsPass (pass : Pass) : Type 0 where
  pub site : IsSite pass.site
  pub claims : ProofsFit pass.site.parts.now pass.proofs.now
  pub exits : AreExits pass.site.parts.now pass.exits.now
  pub leaves : (h : ℕ) (fact : Fact) → set_at pass.exits.now h fact ≡ (claimed pass).exit h fact
  pub variables : pass.none.now.variables ≡ count pass
  pub none : (fact : Fact) → holds pass.none.now fact ≡ false

-- the instructions before this one pass, and the set has what follows from the facts before it
pub record IsAt (pass : Pass) (at : ℕ) (set : Known) : Type 0 where
  pub same : set.variables ≡ count pass
  pub ready : IsReady (count pass) (scratch (image_of pass.site) (function_in pass.site)) (holds set)
  pub reached : Reached (image_of pass.site) (claimed pass) pass.site.number (count pass) at (holds set)

-- at the first one, where the entry is proved
pub record Entered (pass : Pass) (set : Known) : Type 0 where
  pub proved : EntryIsProved (image_of pass.site) (claimed pass) pass.site.number 0
  pub here : IsAt pass 0 set

-- the facts before have all of these, and the set has what is derivable of these alone
pub record Taken (before : Fact → Bool) (frame : List Fact) (set : Known) : Type 0 where
  pub has : lacks before frame ≡ false
  pub closed : (fact : Fact) → IsTrue (holds set fact) ↔ Derivable set.variables (listed frame) fact

-- it has the facts that are claimed of a function's exit
pub record IsExit (f : Function) (known : Claims) (set : Known) : Type 0 where
  pub variables : set.variables ≡ exit_count f
  pub facts : (fact : Fact) → holds set fact ≡ claims (exit_count f) known.exit fact

-- those of the first functions
pub record AreFirstExits (parts : Parts) (proofs : Proofs) (number : ℕ) (exits : List Known) : Type 0 where
  pub long : length exits ≡ number
  pub each : (h : ℕ) → h < number → IsExit (function_at (reading_of parts) h) (known_at proofs h) (get_or exits h no_set)

-- the exits have the facts that the proofs claim
pub record AreClaimed (parts : Parts) (proofs : Proofs) (sets : List Known) : Type 0 where
  pub exits : AreExits parts sets
  pub leaves : (h : ℕ) (fact : Fact) → set_at sets h fact ≡ (annotation_of parts proofs).exit h fact

-- what functions are checked by
pub record AreChecks (checks : Checks) : Type 0 where
  pub fields : FieldsFit checks.parts.now
  pub sound : Sound checks.parts.now
  pub claims : ProofsFit checks.parts.now checks.proofs.now
  pub narrow : NoneIsWide checks.parts.now
  pub exits : AreClaimed checks.parts.now checks.proofs.now checks.exits.now
  pub deleters : TellsDeleters checks.parts.now checks.deleters.now

abbrev pub proofs_of : Checks → Annotation
proofs_of checks = annotation_of checks.parts.now checks.proofs.now
