-- What is told of one function: of its first instruction that isn't proved, or doesn't pin what it has to.
use Rattle.std.specs.Prelude.{◌≡◌, ◌<◌, ℕ, length, Option, MatchOption}
use Rattle.rc_annotations.specs.Annotations.{Annotation}
use Rattle.rc_code.specs.declared.image.Parts.{Parts}
use Rattle.rc_code.specs.Running.{reading_of, function_at}
use Rattle.rc_sealed.specs.Proved.{Proved}
use Rattle.rc_sealed.specs.Pinned.{Pinned}
use Rattle.rc_sealed.specs.declared.fault.ProofFault.{ProofFault}
use Rattle.rc_sealed.specs.declared.fault.ProofFault.TheVariants.{Facts, Pins, Wide, Memory}

module _ (parts : Parts) (proofs : Annotation) (g : ℕ) where
  abbrev size : ℕ
  size = length (function_at (reading_of parts) g).code

  pub record IsFirstUnproved (at : ℕ) : Type 0 where
    pub inside : at < size
    pub before : (k : ℕ) → k < at → Proved (reading_of parts) proofs g k
    pub fails : Proved (reading_of parts) proofs g at → ⊥

  -- where none is found, each instruction is proved
  abbrev pub TellsUnproved : Option ℕ → Type 0
  TellsUnproved found = MatchOption found ((k : ℕ) → k < size → Proved (reading_of parts) proofs g k) IsFirstUnproved

  -- all before that instruction are proved, and pin what they have to
  pub record UpTo (at : ℕ) : Type 0 where
    pub inside : at < size
    pub proved : (k : ℕ) → k < at → Proved (reading_of parts) proofs g k
    pub pinned : (k : ℕ) → k < at → Pinned (reading_of parts) g k

  pub record AllRight : Type 0 where
    pub proved : (k : ℕ) → k < size → Proved (reading_of parts) proofs g k
    pub pinned : (k : ℕ) → k < size → Pinned (reading_of parts) g k

  -- what is told of the function
  abbrev pub FaultIn : ProofFault → Type 0
  FaultIn (Facts f at) = (f ≡ g) × (UpTo at × (Proved (reading_of parts) proofs g at → ⊥))
  FaultIn (Pins f at) = (f ≡ g) × (UpTo at × (Proved (reading_of parts) proofs g at × (Pinned (reading_of parts) g at → ⊥)))
  FaultIn (Wide f) = ⊥
  FaultIn Memory = ⊥
