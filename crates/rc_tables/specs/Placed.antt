-- A function's stack code as an image has it: a step back says to which place it leads. And the numbers of types and of paths in tables.
use Rattle.std.specs.Prelude.{◌≤◌, ℕ, ◌-◌, List, length, map}
use Rattle.rc_core.specs.Types.{Ty}
use Rattle.rc_rlang.specs.RegionCode.{Access}
use Rattle.rc_emission.specs.KeptOperands.{place_in}
use Rattle.rc_emission.specs.StackCode.{Instruction, Line, StackFunction, back}
use Rattle.rc_numbering.specs.Names.{path_of, same_path}
use Rattle.rc_tables.specs.Numbers.{number_in}
use Rattle.rc_tables.specs.declared.numbers.Numbers.{Numbers}

abbrev pub type_number : Numbers → Ty → ℕ
type_number n ty = number_in n.types.now ty

abbrev pub path_number : Numbers → Access → ℕ
path_number n a = place_in same_path n.paths.now (path_of (type_number n) a)

-- of a function with so many instructions
module _ (total : ℕ) where
  abbrev pub placed : Instruction → Instruction
  placed (back n) = back (total - n)
  placed i = i

  abbrev pub placed_line : Line → Line
  placed_line l = record { line = l.line; instruction = placed l.instruction }

  abbrev pub placed_code : List Line → List Line
  placed_code code = map placed_line code

  -- it leads to no place behind the end
  abbrev pub BackFits : Instruction → Type 0
  BackFits (back to) = to ≤ total
  BackFits i = Unit {0}

abbrev pub in_place : StackFunction → StackFunction
in_place f = record { locals = f.locals; code = placed_code (length f.code) f.code }
