-- What greater proofs give to smaller ones.
use Rattle.std.specs.Prelude.{◌≡◌, ◌||◌, ℕ, true, false, IsTrue, List, take, get_or}
use Rattle.rc_facts.specs.declared.fact.Fact.{Fact}
use Rattle.rc_facts.specs.Derivable.{Derivable}
use Rattle.rc_annotations.specs.Annotations.{Annotation, fact_with, renamed, some_pair}
use Rattle.rc_annotations.specs.Laws.{Inside}
use Rattle.rc_code.specs.declared.opcode.Simple.TheVariants as simple
use Rattle.rc_code.specs.declared.instruction.Instruction.TheVariants as instruction
use Rattle.rc_code.specs.Running.{Reading, function_at}
use Rattle.rc_code.specs.Soundness.{instruction_at}
use Rattle.rc_claims.specs.Counts.{copies, regionals}
use Rattle.rc_sealed.specs.ImageVariables.{result_variable, variables}
use Rattle.rc_sealed.specs.Carrying.{is_target, regional_places, lowest, entry_pairs, Follows, Carried, Before}
use Rattle.rc_sealed.specs.Proved.{Way}
use Rattle.rc_greatest_proofs.specs.Marks.{ProvedBare}

-- at an instruction, all that these claims ask follows from these facts
pub record Gives (image : Reading) (claims facts : Annotation) (g at : ℕ) : Type 0 where
  pub targets : (to : ℕ) → Way (instruction_at (function_at image g) at) at to → is_target (function_at image g) to ≡ true → (fact : Fact) → IsTrue (claims.before g to fact)
      → Follows (variables image (function_at image g)) (Carried image facts g at (Before image facts g at)) fact
  pub calls : (h : ℕ) (pins : List ℕ) → instruction_at (function_at image g) at ≡ instruction.Call h pins → (fact : Fact) → IsTrue (claims.entry h fact)
      → Follows (variables image (function_at image g)) (Before image facts g at) (fact_with (λ v. get_or (regional_places (function_at image g) (take (function_at image h).parameters (regionals (function_at image h))) (lowest image (function_at image g) at)) v 0) fact)
  pub returns : instruction_at (function_at image g) at ≡ instruction.Simple simple.Return → (fact : Fact) → IsTrue (claims.exit g fact)
      → Follows (variables image (function_at image g)) (Carried image facts g at (Before image facts g at)) (fact_with (renamed (copies (function_at image g)) (result_variable image (function_at image g))) fact)
  pub begins : at ≡ 0 → is_target (function_at image g) 0 ≡ true → (fact : Fact) → IsTrue (claims.before g 0 fact)
      → Derivable (variables image (function_at image g)) (λ p. facts.entry g p || some_pair (entry_pairs (copies (function_at image g)) (copies (function_at image g))) p) fact

-- So what proofs ask that prove an instruction follows from the facts of any proofs that they are inside of, at that instruction. A search that
-- begins with all facts, and loses only what doesn't follow, never loses one of theirs.
abbrev pub GreaterGive : Type 0
GreaterGive = (image : Reading) (fewer more : Annotation) → Inside fewer more → (g at : ℕ) → ProvedBare image fewer g at → Gives image fewer more g at

-- And proofs that give all that they ask themselves, and claim nothing where `main` begins, prove the instruction.
abbrev pub GivingIsProved : Type 0
GivingIsProved = (image : Reading) (proofs : Annotation) (g at : ℕ) → Gives image proofs proofs g at → (g ≡ image.parts.main → (fact : Fact) → IsTrue (proofs.entry g fact) → Derivable (copies (function_at image g)) (λ p. false) fact) → ProvedBare image proofs g at
