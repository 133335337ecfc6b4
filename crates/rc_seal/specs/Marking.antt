-- An image with marks: a list for each function, with a mark for each instruction. A store has its own; behind the last one none is set.
use Rattle.std.specs.Prelude.{◌≡◌, ℕ, Bool, false, List, [], ◌∷◌, drop, get_or}
use Rattle.std.specs.declared.vec.Vec.{Vec}
use Rattle.std.specs.declared.alloc.Global.{Global}
use Rattle.rc_code.specs.declared.instruction.Instruction.{Instruction}
use Rattle.rc_code.specs.declared.instruction.Instruction.TheVariants as instruction
use Rattle.rc_code.specs.declared.image.Function.{Function}
use Rattle.rc_code.specs.declared.image.Parts.{Parts}
use Rattle.rc_code.specs.Running.{reading_of, function_at}
use Rattle.rc_code.specs.Soundness.{instruction_at}
use Rattle.rc_loader.specs.Unmarked.{unmarked}

abbrev pub bits_of : Vec Bool Global → List Bool
bits_of marks = marks.items

abbrev pub marked_instruction : Bool → Instruction → Instruction
marked_instruction mark (instruction.Store path proved) = instruction.Store path mark
marked_instruction mark i = i

abbrev pub marked_code : List Bool → List Instruction → List Instruction
marked_code marks [] = []
marked_code marks (i ∷ is) = marked_instruction (get_or marks 0 false) i ∷ marked_code (drop 1 marks) is

abbrev pub marked_function : List Bool → Function → Function
marked_function marks f = record f { code = marked_code marks f.code }

abbrev pub marked_functions : List (List Bool) → List Function → List Function
marked_functions marks [] = []
marked_functions marks (f ∷ fs) = marked_function (get_or marks 0 []) f ∷ marked_functions (drop 1 marks) fs

abbrev pub with_marks : List (List Bool) → Parts → Parts
with_marks marks parts = record parts { functions = marked_functions marks parts.functions }

-- it is the same image but for its marks, which are these
pub record IsMarked (marks : List (List Bool)) (parts marked : Parts) : Type 0 where
  pub same : unmarked marked ≡ unmarked parts
  pub marks_are : (g at path : ℕ) (mark : Bool) → instruction_at (function_at (reading_of marked) g) at ≡ instruction.Store path mark → mark ≡ get_or (get_or marks g []) at false
