-- What a pass looks at in an instruction.
use Rattle.std.specs.Prelude.{◌≡◌, ◌⊎◌, ℕ, suc, Bool, true, false, Option, Some, None}
use Rattle.rc_code.specs.declared.opcode.Simple.TheVariants as simple
use Rattle.rc_code.specs.declared.instruction.Instruction.{Instruction}
use Rattle.rc_code.specs.declared.instruction.Instruction.TheVariants as instruction
use Rattle.rc_code.specs.Running.{Reading, function_at}
use Rattle.rc_code.specs.Soundness.{instruction_at}
use Rattle.rc_sealed.specs.Carrying.{is_target}
use Rattle.rc_sealed.specs.Proved.{Way}
use Rattle.rc_prove.specs.Sets.{rank}

abbrev pub returns : Instruction → Bool
returns (instruction.Simple simple.Return) = true
returns i = false

-- the sets of the targets to which the run may go from it: one that the instruction names, and the next one. And the set of the next
-- instruction, if it is a target, whether the run goes there or not.
pub record LeadsFrom (image : Reading) (g at : ℕ) (jumped fallen next : Option ℕ) : Type 0 where
  pub whole : (to : ℕ) → Way (instruction_at (function_at image g) at) at to → is_target (function_at image g) to ≡ true → (jumped ≡ Some (rank (function_at image g) to)) ⊎ (fallen ≡ Some (rank (function_at image g) to))
  pub jumps : (r : ℕ) → jumped ≡ Some r → (to : ℕ) × Way (instruction_at (function_at image g) at) at to × (is_target (function_at image g) to ≡ true) × (rank (function_at image g) to ≡ r)
  pub falls : (r : ℕ) → fallen ≡ Some r → (to : ℕ) × Way (instruction_at (function_at image g) at) at to × (is_target (function_at image g) to ≡ true) × (rank (function_at image g) to ≡ r)
  pub follows : (r : ℕ) → next ≡ Some r → (is_target (function_at image g) (suc at) ≡ true) × (rank (function_at image g) (suc at) ≡ r)
  pub alone : next ≡ None → is_target (function_at image g) (suc at) ≡ false
