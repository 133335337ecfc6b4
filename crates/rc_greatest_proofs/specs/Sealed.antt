-- What `prove` answers: the image with its greatest proofs, and with the marks that these prove, or why there is none.
use Rattle.std.specs.Prelude.{◌≡◌, ◌<◌, ◌↔◌, ℕ, Bool, true, nat_eq, length}
use Rattle.std.specs.List.{list_any}
use Rattle.rc_annotations.specs.Annotations.{Annotation}
use Rattle.rc_annotations.specs.Laws.{Inside}
use Rattle.rc_code.specs.declared.instruction.Instruction.TheVariants as instruction
use Rattle.rc_code.specs.declared.image.Parts.{Parts}
use Rattle.rc_code.specs.Running.{reading_of, function_at}
use Rattle.rc_code.specs.Soundness.{instruction_at}
use Rattle.rc_loader.specs.Unmarked.{unmarked}
use Rattle.rc_claims.specs.declared.proofs.Frame.{Frame}
use Rattle.rc_claims.specs.declared.proofs.Proofs.{Proofs}
use Rattle.rc_claims.specs.Claims.{known_at, ProofsFit}
use Rattle.rc_sealed.specs.declared.fault.ProofFault.{ProofFault}
use Rattle.rc_sealed.specs.declared.fault.ProofFault.TheVariants.{Facts, Pins, Wide, Memory}
use Rattle.rc_sealed.specs.Carrying.{is_target}
use Rattle.rc_sealed.specs.Pinned.{Pinned}
use Rattle.rc_sealed.specs.AllProved.{AllProved}
use Rattle.rc_sealed.specs.Faults.{NoneIsWide, FirstWide, StandsBefore}
use Rattle.rc_sealed.specs.Claimed.{annotation_of}
use Rattle.rc_greatest_proofs.specs.Admitted.{IsAdmitted, Provable}

pub record IsSealedAs (parts sealed : Parts) (proofs : Proofs) : Type 0 where
  -- it is the same image but for the marks of its stores, and a store has its mark exactly where some proofs prove its check
  pub same : unmarked sealed ≡ unmarked parts
  pub marks : (g at path : ℕ) (marked : Bool) → g < length parts.functions → at < length (function_at (reading_of parts) g).code → instruction_at (function_at (reading_of sealed) g) at ≡ instruction.Store path marked → (marked ≡ true) ↔ Provable parts g at path
  -- the proofs fit it and prove it, and no function is wide
  pub fits : ProofsFit sealed proofs
  pub proved : AllProved sealed (annotation_of sealed proofs)
  pub narrow : NoneIsWide sealed
  -- there is a frame before each target, and none elsewhere
  pub frames : (g at : ℕ) → g < length parts.functions → list_any (λ (frame : Frame). nat_eq frame.at at) (known_at proofs g).frames ≡ is_target (function_at (reading_of parts) g) at
  -- all proofs that count are inside of these
  pub greatest : (others : Annotation) → IsAdmitted parts others → Inside others (annotation_of sealed proofs)

-- the first instruction that doesn't pin what it has to
pub record FirstUnpinned (parts : Parts) (f i : ℕ) : Type 0 where
  pub there : f < length parts.functions
  pub inside : i < length (function_at (reading_of parts) f).code
  pub before : (g at : ℕ) → StandsBefore g at f i → at < length (function_at (reading_of parts) g).code → Pinned (reading_of parts) g at
  pub fails : Pinned (reading_of parts) f i → ⊥

-- a wide function is told before all else; facts never fail
abbrev pub IsPinFault : Parts → ProofFault → Type 0
IsPinFault parts (Facts f i) = ⊥
IsPinFault parts (Pins f i) = NoneIsWide parts × FirstUnpinned parts f i
IsPinFault parts (Wide f) = FirstWide parts f
IsPinFault parts Memory = Unit {0}
