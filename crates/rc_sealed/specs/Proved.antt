-- When proofs prove an instruction.
use Rattle.std.specs.Prelude.{◌≡◌, ◌⊎◌, ℕ, zero, suc, true, false, IsTrue, get_or, take, Some, ◌||◌, ◌-◌}
use Rattle.rc_core.specs.Layout.{note_of}
use Rattle.rc_facts.specs.declared.fact.Fact.{Fact}
use Rattle.rc_facts.specs.Derivable.{Derivable}
use Rattle.rc_annotations.specs.Annotations.{Annotation, some_pair, fact_with, renamed, asked}
use Rattle.rc_code.specs.declared.opcode.Jump.TheVariants as jump
use Rattle.rc_code.specs.declared.opcode.Simple.TheVariants as simple
use Rattle.rc_code.specs.declared.instruction.Instruction.{Instruction}
use Rattle.rc_code.specs.declared.instruction.Instruction.TheVariants as instruction
use Rattle.rc_code.specs.declared.image.Function.{Function}
use Rattle.rc_code.specs.Running.{Reading, path_at, function_at, cell_at}
use Rattle.rc_code.specs.Soundness.{instruction_at}
use Rattle.rc_claims.specs.Counts.{regionals, copies, place}
use Rattle.rc_sealed.specs.ImageVariables.{result_variable, variables}
use Rattle.rc_sealed.specs.Carrying.{is_target, regional_places, height, lowest, Follows, entry_pairs, Carried, Before}

-- where the run may go from an instruction
abbrev pub Way : Instruction → (at to : ℕ) → Type 0
Way (instruction.Jump jump.Always target) at to = to ≡ target
Way (instruction.Jump jump.IfZero target) at to = (to ≡ target) ⊎ (to ≡ suc at)
Way (instruction.Jump jump.Back target) at to = to ≡ target
Way (instruction.Simple simple.Return) at to = ⊥
Way i at to = to ≡ suc at

module _ (image : Reading) (proofs : Annotation) (g at : ℕ) where
  abbrev f : Function
  f = function_at image g

  -- of a called function, by the places of the arguments
  abbrev pub EntryIsGiven : Instruction → Type 0
  EntryIsGiven (instruction.Call h pins) = (fact : Fact) → IsTrue (proofs.entry h fact)
      → Follows (variables image f) (Before image proofs g at) (fact_with (λ v. get_or (regional_places f (take (function_at image h).parameters (regionals (function_at image h))) (lowest image f at)) v 0) fact)
  EntryIsGiven i = Unit {0}

  -- of the function, at a return
  abbrev pub ExitIsGiven : Instruction → Type 0
  ExitIsGiven (instruction.Simple simple.Return) = (fact : Fact) → IsTrue (proofs.exit g fact) → Follows (variables image f) (Carried image proofs g at (Before image proofs g at)) (fact_with (renamed (copies f) (result_variable image f)) fact)
  ExitIsGiven i = Unit {0}

  -- what the check of a store with the mark asks
  abbrev pub CheckIsProved : Instruction → Type 0
  CheckIsProved (instruction.Store path true) = (fact : Fact) → asked (note_of (cell_at image (path_at image path))) (place f (height image f at - 1)) (place f (lowest image f at)) ≡ Some fact → Follows (variables image f) (Before image proofs g at) fact
  CheckIsProved i = Unit {0}

  -- at the first instruction
  pub record EntryIsProved : Type 0 where
    pub target : is_target f 0 ≡ true → (fact : Fact) → IsTrue (proofs.before g 0 fact) → Derivable (variables image f) (λ p. proofs.entry g p || some_pair (entry_pairs (copies f) (copies f)) p) fact
    pub main : g ≡ image.parts.main → (fact : Fact) → IsTrue (proofs.entry g fact) → Derivable (copies f) (λ p. false) fact

  abbrev pub AtEntry : ℕ → Type 0
  AtEntry zero = EntryIsProved
  AtEntry (suc n) = Unit {0}

  pub record Proved : Type 0 where
    pub targets : (to : ℕ) → Way (instruction_at f at) at to → is_target f to ≡ true → (fact : Fact) → IsTrue (proofs.before g to fact) → Follows (variables image f) (Carried image proofs g at (Before image proofs g at)) fact
    pub entry : EntryIsGiven (instruction_at f at)
    pub exit : ExitIsGiven (instruction_at f at)
    pub check : CheckIsProved (instruction_at f at)
    pub first : AtEntry at
