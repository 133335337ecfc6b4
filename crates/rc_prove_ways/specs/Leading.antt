-- The set of the target that an instruction names.
use Rattle.std.specs.Prelude.{◌≡◌, ℕ, Bool, true, false, List, get_or, Option, MatchOption}
use Rattle.rc_code.specs.declared.instruction.Instruction.{Instruction}
use Rattle.rc_claims.specs.Counts.{trues}
use Rattle.rc_image_steps.specs.Ways.{ways_of}

-- the set at that number, if so, and if it is a target
abbrev pub IsSetOf : List Bool → (so : Bool) → (at : ℕ) → Option ℕ → Type 0
IsSetOf targets so at set = MatchOption set (so ≡ true → get_or targets at false ≡ false) (λ r. (so ≡ true) × (get_or targets at false ≡ true) × (trues targets at ≡ r))

abbrev pub IsJumped : List Bool → Instruction → Option ℕ → Type 0
IsJumped targets i set = IsSetOf targets (ways_of i).leads (ways_of i).to set
