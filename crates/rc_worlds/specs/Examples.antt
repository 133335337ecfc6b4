-- Small images written out as data: what they mean, and which of them are sound.
use Rattle.std.specs.Prelude.{◌≡◌, ℕ, pos, false, List, [], ◌∷◌, map, Some, None}
use Rattle.rc_base.specs.Acts.{Act, Write}
use Rattle.rc_base.specs.declared.ends.End.TheVariants.{Exit, Trapped, Spent}
use Rattle.rc_base.specs.declared.ends.Trap.TheVariants.{Reference}
use Rattle.rc_base.specs.declared.ends.Limits.{Limits}
use Rattle.rc_core.specs.declared.ty.NumberType.TheVariants.{Int}
use Rattle.rc_core.specs.declared.ty.Signedness.TheVariants.{Signed}
use Rattle.rc_core.specs.Runs.{Stop, Ends, Stale}
use Rattle.rc_code.specs.declared.kind.Cell.{Cell}
use Rattle.rc_code.specs.declared.kind.Cell.TheVariants as cell
use Rattle.rc_code.specs.declared.kind.Storage.{Storage}
use Rattle.rc_code.specs.declared.kind.Storage.TheVariants as storage
use Rattle.rc_code.specs.declared.opcode.Typed.TheVariants as typed
use Rattle.rc_code.specs.declared.opcode.Jump.TheVariants as jump
use Rattle.rc_code.specs.declared.opcode.Simple.TheVariants as simple
use Rattle.rc_code.specs.declared.instruction.Instruction.{Instruction}
use Rattle.rc_code.specs.declared.instruction.Instruction.TheVariants as instruction
use Rattle.rc_code.specs.declared.image.Path.{Path}
use Rattle.rc_code.specs.declared.image.Function.{Function}
use Rattle.rc_code.specs.declared.image.Parts.{Parts}
use Rattle.rc_code.specs.Soundness.{Sound}
use Rattle.rc_code.specs.ImageMeaning.{image_meaning}

abbrev pub limits : (turns : ℕ) → Limits
limits turns = record { turns = turns; regions = 10; blocks = 10 }

-- it has this end, and wrote these bytes, on an empty input and within these turns
abbrev pub Runs : Parts → (turns : ℕ) → List Act → Stop → Type 0
Runs image turns acts end = image_meaning image [] (limits turns) ≡ record { acts = acts; taken = 0; end = end }

abbrev pub IsRefused : Parts → Type 0
IsRefused image = Sound image → ⊥

-- each instruction with its line
abbrev pub main_with : List Storage → List (Instruction × ℕ) → Function
main_with locals code = record { parameters = 0; locals = locals; result = Some (storage.Number Int); code = map (λ (i : Instruction × ℕ). i.0) code; lines = map (λ (i : Instruction × ℕ). i.1) code }

abbrev pub image_with : List (List Cell) → List Path → List Storage → List (Instruction × ℕ) → Parts
image_with types paths locals code = record { types = types; globals = []; paths = paths; functions = main_with locals code ∷ []; main = 0 }

abbrev pub on_one_line : List Instruction → List (Instruction × ℕ)
on_one_line code = map (λ (i : Instruction). (i, 1)) code

abbrev pub only : List Instruction → Parts
only code = image_with [] [] [] (on_one_line code)

abbrev pub hello : Parts
hello = only (instruction.Constant Signed 72 ∷ instruction.Simple simple.PutChar ∷ instruction.Simple simple.Pop ∷ instruction.Constant Signed 0 ∷ instruction.Simple simple.Return ∷ [])

-- it deletes a region and then asks for a subregion of it
abbrev pub stale : Parts
stale = image_with [] [] (storage.Region ∷ []) (on_one_line (instruction.Simple simple.NewRegion ∷ instruction.Set 0 ∷ instruction.Get 0 ∷ instruction.Delete [] ∷ instruction.Get 0
    ∷ instruction.Simple simple.NewSubregion ∷ instruction.Simple simple.Pop ∷ instruction.Constant Signed 0 ∷ instruction.Simple simple.Return ∷ []))

-- it keeps a pointer into a region that it deletes, with these locals pinned, and gives a number that it read there
abbrev pub pointed : (pins : List ℕ) → Parts
pointed pins = image_with ((cell.Number Int ∷ cell.Region ∷ []) ∷ []) (record { type_number = 0; shift = None; offset = 0; indices = [] } ∷ []) (storage.Region ∷ storage.Pointer 0 ∷ [])
    ((instruction.Simple simple.NewRegion, 1) ∷ (instruction.Set 0, 1) ∷ (instruction.Get 0, 2) ∷ (instruction.Typed typed.Allocate 0, 2) ∷ (instruction.Set 1, 2)
    ∷ (instruction.Get 1, 3) ∷ (instruction.Constant Signed 5, 3) ∷ (instruction.Store 0 false, 3) ∷ (instruction.Get 1, 4) ∷ (instruction.Load 0, 4)
    ∷ (instruction.Get 0, 5) ∷ (instruction.Delete pins, 5) ∷ (instruction.Simple simple.Return, 6) ∷ [])

pub record Examples : Type 0 where
  pub hello_writes : Runs hello 1 (Write 72 ∷ []) (Ends (Exit (pos 0)))
  pub hello_needs_a_turn : Runs hello 0 [] (Ends Spent)
  pub hello_is_sound : Sound hello
  pub dead_region_is_touched : Runs stale 1 [] (Stale 1)
  pub value_is_read : Runs (pointed []) 1 [] (Ends (Exit (pos 5)))
  pub pinned_value_is_a_reference : Runs (pointed (1 ∷ [])) 1 [] (Ends (Trapped Reference 5))
  pub jump_out_of_the_code : IsRefused (only (instruction.Jump jump.Always 9 ∷ []))
  pub jump_to_itself : IsRefused (only (instruction.Jump jump.Always 0 ∷ []))
  pub result_is_missing : IsRefused (only (instruction.Simple simple.Return ∷ []))
  pub result_of_another_kind : IsRefused (only (instruction.Simple simple.NewRegion ∷ instruction.Simple simple.Return ∷ []))
  pub function_is_missing : IsRefused (only (instruction.Call 5 [] ∷ []))
