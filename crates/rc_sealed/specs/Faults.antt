-- Why proofs of an image aren't accepted, or no facts are looked for in it. A function with too many variables is told before all
-- else, then the first instruction that isn't proved, or doesn't pin what it has to.
use Rattle.std.specs.Prelude.{◌≡◌, ◌⊎◌, ℕ, ◌<◌, length}
use Rattle.rc_annotations.specs.Annotations.{Annotation}
use Rattle.rc_code.specs.declared.image.Parts.{Parts}
use Rattle.rc_code.specs.Running.{reading_of, function_at}
use Rattle.rc_sealed.specs.declared.fault.ProofFault.{ProofFault}
use Rattle.rc_sealed.specs.declared.fault.ProofFault.TheVariants.{Facts, Pins, Wide, Memory}
use Rattle.rc_sealed.specs.ImageVariables.{variables}
use Rattle.rc_sealed.specs.Proved.{Proved}
use Rattle.rc_sealed.specs.Pinned.{Pinned}

-- ---- wide functions

-- more variables than a set of facts has
abbrev pub IsWide : Parts → (f : ℕ) → Type 0
IsWide parts f = 128 < variables (reading_of parts) (function_at (reading_of parts) f)

abbrev pub NoneIsWide : Parts → Type 0
NoneIsWide parts = (f : ℕ) → f < length parts.functions → IsWide parts f → ⊥

pub record FirstWide (parts : Parts) (f : ℕ) : Type 0 where
  pub there : f < length parts.functions
  pub wide : IsWide parts f
  pub first : (g : ℕ) → g < f → IsWide parts g → ⊥

-- ---- instructions that fail

-- in the order of functions, and of the instructions of one
abbrev pub StandsBefore : (g at f i : ℕ) → Type 0
StandsBefore g at f i = (g < f) ⊎ ((g ≡ f) × (at < i))

-- each instruction before that one is proved, and pins what it has to
pub record FirstFailure (parts : Parts) (proofs : Annotation) (f i : ℕ) : Type 0 where
  pub there : f < length parts.functions
  pub inside : i < length (function_at (reading_of parts) f).code
  pub proved : (g at : ℕ) → StandsBefore g at f i → at < length (function_at (reading_of parts) g).code → Proved (reading_of parts) proofs g at
  pub pinned : (g at : ℕ) → StandsBefore g at f i → at < length (function_at (reading_of parts) g).code → Pinned (reading_of parts) g at

-- of one instruction the facts are told before the pins
abbrev pub IsProofFault : Parts → Annotation → ProofFault → Type 0
IsProofFault parts proofs (Facts f i) = NoneIsWide parts × (FirstFailure parts proofs f i × (Proved (reading_of parts) proofs f i → ⊥))
IsProofFault parts proofs (Pins f i) = NoneIsWide parts × (FirstFailure parts proofs f i × (Proved (reading_of parts) proofs f i × (Pinned (reading_of parts) f i → ⊥)))
IsProofFault parts proofs (Wide f) = FirstWide parts f
IsProofFault parts proofs Memory = Unit {0}
