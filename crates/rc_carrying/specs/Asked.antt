-- What an instruction asks, as facts that have to follow: of those known before it, and of those carried over it.
use Rattle.std.specs.Prelude.{◌≡◌, ◌-◌, ℕ, true, IsTrue, List, take, get_or, Some}
use Rattle.rc_core.specs.Layout.{note_of}
use Rattle.rc_facts.specs.declared.fact.Fact.{Fact}
use Rattle.rc_annotations.specs.Annotations.{Annotation, asked, fact_with, renamed}
use Rattle.rc_code.specs.declared.opcode.Simple.TheVariants as simple
use Rattle.rc_code.specs.declared.instruction.Instruction.TheVariants as instruction
use Rattle.rc_code.specs.declared.image.Function.{Function}
use Rattle.rc_code.specs.Running.{Reading, path_at, function_at, cell_at}
use Rattle.rc_code.specs.Soundness.{instruction_at}
use Rattle.rc_claims.specs.Counts.{regionals, copies, place}
use Rattle.rc_sealed.specs.ImageVariables.{result_variable, variables}
use Rattle.rc_sealed.specs.Carrying.{is_target, lowest, height, regional_places, Follows, Carried, Before}
use Rattle.rc_sealed.specs.Proved.{Way, AtEntry, Proved}

module _ (image : Reading) (proofs : Annotation) (g at : ℕ) where
  abbrev f : Function
  f = function_at image g

  pub data AskedBefore : Fact → Type 0 where
    entry : {h : ℕ} {pins : List ℕ} {fact : Fact} → instruction_at f at ≡ instruction.Call h pins → IsTrue (proofs.entry h fact)
        → AskedBefore (fact_with (λ v. get_or (regional_places f (take (function_at image h).parameters (regionals (function_at image h))) (lowest image f at)) v 0) fact)
    check : {path : ℕ} {fact : Fact} → instruction_at f at ≡ instruction.Store path true → asked (note_of (cell_at image (path_at image path))) (place f (height image f at - 1)) (place f (lowest image f at)) ≡ Some fact → AskedBefore fact

  pub data AskedBehind : Fact → Type 0 where
    exit : {fact : Fact} → instruction_at f at ≡ instruction.Simple simple.Return → IsTrue (proofs.exit g fact) → AskedBehind (fact_with (renamed (copies f) (result_variable image f)) fact)
    target : {to : ℕ} {fact : Fact} → Way (instruction_at f at) at to → is_target f to ≡ true → IsTrue (proofs.before g to fact) → AskedBehind fact

  -- all that it asks follows
  pub record Passed : Type 0 where
    pub before : (fact : Fact) → AskedBefore fact → Follows (variables image f) (Before image proofs g at) fact
    pub behind : (fact : Fact) → AskedBehind fact → Follows (variables image f) (Carried image proofs g at (Before image proofs g at)) fact

-- an instruction is proved where all that it asks follows, and the first one proves the entry
abbrev pub PassedIsProved : Type 0
PassedIsProved = (image : Reading) (proofs : Annotation) (g at : ℕ) → Passed image proofs g at → AtEntry image proofs g at at → Proved image proofs g at

abbrev pub ProvedIsPassed : Type 0
ProvedIsPassed = (image : Reading) (proofs : Annotation) (g at : ℕ) → Proved image proofs g at → Passed image proofs g at
