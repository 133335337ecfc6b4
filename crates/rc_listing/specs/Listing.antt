-- The listing of an image: a line for each instruction, functions and instructions numbered from 0. A line has the number of the function,
-- that of the instruction, the instruction's line of source, its name, and its operands in the order of the table, with one blank between
-- them. Pins are their count and they themselves. The operand of INT is signed, every other number is not.
use Rattle.std.specs.Prelude.{ℕ, suc, pos, List, [], ◌∷◌, ◌++◌, codes, get_or}
use Rattle.std.specs.Fmt.{decimal, signed_decimal}
use Rattle.rc_core.specs.declared.ty.Signedness.TheVariants.{Signed}
use Rattle.rc_core.specs.Arithmetic.{as_int}
use Rattle.rc_code.specs.declared.instruction.Instruction.{Instruction}
use Rattle.rc_code.specs.declared.instruction.Instruction.TheVariants as instruction
use Rattle.rc_code.specs.declared.image.Function.{Function}
use Rattle.rc_code.specs.declared.image.Parts.{Parts}
use Rattle.rc_code.specs.Table.{name_of}
use Rattle.rc_code.specs.Image.{opcode_of, operands_of}

-- numbers, each behind a blank
abbrev pub behind_blanks : List ℕ → List ℕ
behind_blanks [] = []
behind_blanks (n ∷ ns) = (codes " " ++ decimal n) ++ behind_blanks ns

abbrev pub operands_text : Instruction → List ℕ
operands_text (instruction.Constant Signed value) = codes " " ++ signed_decimal (as_int (pos value))
operands_text i = behind_blanks (operands_of i)

abbrev pub instruction_text : Instruction → List ℕ
instruction_text i = name_of (opcode_of i) ++ operands_text i

-- and each before one
abbrev pub numbers_text : List ℕ → List ℕ
numbers_text [] = []
numbers_text (n ∷ ns) = (decimal n ++ codes " ") ++ numbers_text ns

abbrev pub line_text : (function at line : ℕ) → Instruction → List ℕ
line_text function at line i = numbers_text (function ∷ at ∷ line ∷ []) ++ instruction_text i ++ codes "\n"

-- the instructions of a function from one on, with the lines of them all
abbrev pub code_text : (function at : ℕ) → List Instruction → (lines : List ℕ) → List ℕ
code_text function at [] lines = []
code_text function at (i ∷ is) lines = line_text function at (get_or lines at 0) i ++ code_text function (suc at) is lines

-- the functions from one on
abbrev pub functions_text : (number : ℕ) → List Function → List ℕ
functions_text number [] = []
functions_text number (f ∷ fs) = code_text number 0 f.code f.lines ++ functions_text (suc number) fs

abbrev pub listing : Parts → List ℕ
listing parts = functions_text 0 parts.functions
