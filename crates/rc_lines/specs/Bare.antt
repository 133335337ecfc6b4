-- Stack code without what no image says of it: the type of a local that is set, the type of a cell, the cells of what is made, the types
-- of a call's arguments and of what is given back. A step back says how many instructions there are from where it leads up to the end
-- of the function; so what stands before a piece of code isn't said in it.
use Rattle.std.specs.Prelude.{ℕ, ◌+◌, ◌-◌, List, [], map}
use Rattle.rc_core.specs.Types.{int}
use Rattle.rc_core.specs.Shapes.{ty_of}
use Rattle.rc_rlang.specs.RegionCode.{Access}
use Rattle.rc_rlang.specs.Shapes.{access_of}
use Rattle.rc_emission.specs.StackCode.{Instruction, Line, number, null, global, get, set, arithmetic, unary, zero_test, null_test, same, convert, move, load, store, new_region, new_subregion, region_of, allocate, allocate_array, delete, call, perform, leave, putchar, getchar, jump, jump_zero, back, pop}
use Rattle.rc_lines.specs.declared.instruction.Reach.{Reach}
use Rattle.rc_lines.specs.declared.instruction.Instruction.{Instruction as CodeInstruction}
use Rattle.rc_lines.specs.declared.instruction.Instruction.TheVariants as code
use Rattle.rc_lines.specs.declared.instruction.Line.{Line as CodeLine}
use Rattle.rc_lines.specs.declared.instruction.When.{When}
use Rattle.rc_lines.specs.declared.instruction.When.TheVariants.{Always, IfZero}

abbrev pub bare_access : Access → Access
bare_access a = record a { cell = int }

-- `total` is the number of the function's instructions
module _ (total : ℕ) where
  abbrev pub bare : Instruction → Instruction
  bare (number s n) = number s n
  bare (null ty) = null ty
  bare (global g) = global g
  bare (get x) = get x
  bare (set x ty) = set x int
  bare (arithmetic operator s) = arithmetic operator s
  bare (unary operator s) = unary operator s
  bare zero_test = zero_test
  bare (null_test ty) = null_test ty
  bare (same ty) = same ty
  bare (convert to) = convert to
  bare (move ty s direction) = move ty s direction
  bare (load a) = load (bare_access a)
  bare (store a) = store (bare_access a)
  bare new_region = new_region
  bare new_subregion = new_subregion
  bare (region_of ty) = region_of ty
  bare (allocate ty layout) = allocate ty []
  bare (allocate_array ty layout) = allocate_array ty []
  bare (delete pins) = delete pins
  bare (call f tys pins) = perform f [] pins
  bare (perform f tys pins) = perform f [] pins
  bare (leave tys) = leave []
  bare putchar = putchar
  bare getchar = getchar
  bare (jump n) = jump n
  bare (jump_zero n) = jump_zero n
  bare (back to) = back (total - to)
  bare pop = pop

  abbrev pub bare_line : Line → Line
  bare_line l = record { line = l.line; instruction = bare l.instruction }

  abbrev pub bare_code : List Line → List Line
  bare_code code = map bare_line code

-- what the code's types stand for

abbrev pub reach_of : Reach → Access
reach_of a = record (bare_access (access_of a.access.now)) { offset = a.access.now.offset + a.further }

abbrev pub instruction_of : CodeInstruction → Instruction
instruction_of (code.Number s n) = number s n
instruction_of (code.Null ty) = null (ty_of ty.now)
instruction_of (code.Global g) = global g
instruction_of (code.Get x) = get x
instruction_of (code.Set x) = set x int
instruction_of (code.Arithmetic operator s) = arithmetic operator s
instruction_of (code.Unary operator s) = unary operator s
instruction_of code.ZeroTest = zero_test
instruction_of (code.NullTest ty) = null_test (ty_of ty.now)
instruction_of (code.Same ty) = same (ty_of ty.now)
instruction_of (code.Convert to) = convert to
instruction_of (code.Move ty s direction) = move (ty_of ty.now) s direction
instruction_of (code.Load a) = load (reach_of a)
instruction_of (code.Store a) = store (reach_of a)
instruction_of code.NewRegion = new_region
instruction_of code.NewSubregion = new_subregion
instruction_of (code.RegionOf ty) = region_of (ty_of ty.now)
instruction_of (code.Allocate ty) = allocate (ty_of ty.now) []
instruction_of (code.AllocateArray ty) = allocate_array (ty_of ty.now) []
instruction_of (code.Delete pins) = delete pins.now
instruction_of (code.Call f pins) = perform f [] pins.now
instruction_of code.Leave = leave []
instruction_of code.Putchar = putchar
instruction_of code.Getchar = getchar
instruction_of (code.Jump n) = jump n
instruction_of (code.JumpZero n) = jump_zero n
instruction_of (code.Back n) = back n
instruction_of code.Pop = pop

abbrev pub line_of : CodeLine → Line
line_of l = record { line = l.line; instruction = instruction_of l.instruction }

-- a list of the code's lines
abbrev pub lines_of : List CodeLine → List Line
lines_of lines = map line_of lines

abbrev pub instructions_of : List CodeInstruction → List Instruction
instructions_of instructions = map instruction_of instructions

-- what instructions are without what no image says, which is the same wherever they stand: none of them is a step back
abbrev pub bare_all : List Instruction → List Instruction
bare_all instructions = map (bare 0) instructions

-- a jump past so many instructions
abbrev pub jump_past : When → ℕ → Instruction
jump_past Always n = jump n
jump_past IfZero n = jump_zero n
