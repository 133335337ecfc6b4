-- The image of region code: its stack code, with a number in place of each name. A type or a path is named by its place in its table, and
-- a target by the number of the instruction that a jump leads to. Strings stand behind the globals, with the zero at their ends. An
-- instruction keeps its place and its line, and no store has a mark.
use Rattle.std.specs.Prelude.{ℕ, suc, ◌+◌, ℤ, false, List, [], ◌∷◌, ◌++◌, length, map, Option, Some, None, unsigned_abs}
use Rattle.std.specs.Option.{option_map}
use Rattle.rc_core.specs.declared.ty.NumberType.{NumberType}
use Rattle.rc_core.specs.declared.ty.NumberType.TheVariants.{Int, Unsigned, Char}
use Rattle.rc_core.specs.declared.operators.UnaryOperator.{UnaryOperator}
use Rattle.rc_core.specs.declared.operators.UnaryOperator.TheVariants as unary
use Rattle.rc_core.specs.declared.operators.Operator.{Operator}
use Rattle.rc_core.specs.declared.operators.Operator.TheVariants as operator
use Rattle.rc_core.specs.Types.{Ty, int, unsigned, char, region, struct, pointer, CellKind, int_cell, unsigned_cell, char_cell, region_cell, pointer_cell}
use Rattle.rc_core.specs.Layout.{Layout, cells}
use Rattle.rc_core.specs.Arithmetic.{wrapped}
use Rattle.rc_core.specs.Programs.{Global}
use Rattle.rc_core.specs.WellTyped.{elements}
use Rattle.rc_rlang.specs.RegionCode.{Access, Routine, Rlang}
use Rattle.rc_translation.specs.Translation.{pointee}
use Rattle.rc_emission.specs.StackCode.{Line, StackFunction}
use Rattle.rc_emission.specs.StackCode as From
use Rattle.rc_emission.specs.KeptOperands.{place_in, same_type}
use Rattle.rc_code.specs.declared.kind.Cell.{Cell}
use Rattle.rc_code.specs.declared.kind.Cell.TheVariants as cell
use Rattle.rc_code.specs.declared.kind.Storage.{Storage}
use Rattle.rc_code.specs.declared.kind.Storage.TheVariants as storage
use Rattle.rc_code.specs.declared.opcode.Arithmetic.{Arithmetic}
use Rattle.rc_code.specs.declared.opcode.Arithmetic.TheVariants as arithmetic
use Rattle.rc_code.specs.declared.opcode.Typed.{Typed}
use Rattle.rc_code.specs.declared.opcode.Typed.TheVariants as typed
use Rattle.rc_code.specs.declared.opcode.Jump.TheVariants as jump
use Rattle.rc_code.specs.declared.opcode.Simple.{Simple}
use Rattle.rc_code.specs.declared.opcode.Simple.TheVariants as simple
use Rattle.rc_code.specs.declared.instruction.Instruction.{Instruction}
use Rattle.rc_code.specs.declared.instruction.Instruction.TheVariants as instruction
use Rattle.rc_code.specs.declared.image.Initial.{Initial}
use Rattle.rc_code.specs.declared.image.Initial.TheVariants as initial
use Rattle.rc_code.specs.declared.image.Global.{Global as ImageGlobal}
use Rattle.rc_code.specs.declared.image.Function.{Function}
use Rattle.rc_code.specs.declared.image.Parts.{Parts}
use Rattle.rc_numbering.specs.Names.{types_of, same_path, path_of, paths_of, stack_of}

-- modulo 2 to the power 32
abbrev pub word_of : ℤ → ℕ
word_of n = unsigned_abs (wrapped n)

-- the rows of operators; stack code has the other comparisons by their opposites, and no unary plus (`has_row`, `has_unary_row` of Sayable)
abbrev pub row_of : Operator → Arithmetic
row_of operator.Multiply = arithmetic.Multiply
row_of operator.Divide = arithmetic.Divide
row_of operator.Remainder = arithmetic.Remainder
row_of operator.Add = arithmetic.Add
row_of operator.Subtract = arithmetic.Subtract
row_of operator.ShiftLeft = arithmetic.ShiftLeft
row_of operator.ShiftRight = arithmetic.ShiftRight
row_of operator.Less = arithmetic.Less
row_of operator.LessEqual = arithmetic.LessEqual
row_of operator.Equal = arithmetic.Equal
row_of operator.And = arithmetic.And
row_of operator.Xor = arithmetic.Xor
row_of operator.Or = arithmetic.Or
-- these never come, and what stands for them counts nowhere
row_of operator.Greater = arithmetic.LessEqual
row_of operator.GreaterEqual = arithmetic.Less
row_of operator.NotEqual = arithmetic.Equal

abbrev pub unary_row : UnaryOperator → Arithmetic
unary_row unary.Negate = arithmetic.Negate
unary_row unary.Complement = arithmetic.Complement
-- nor does this
unary_row unary.Plus = arithmetic.Negate

abbrev pub conversion : NumberType → Simple
conversion Int = simple.ToInt
conversion Unsigned = simple.ToUnsigned
conversion Char = simple.ToChar

module _ (type_number : Ty → ℕ) (path_number : Access → ℕ) where
  abbrev pub cell_of : CellKind → Cell
  cell_of int_cell = cell.Number Int
  cell_of unsigned_cell = cell.Number Unsigned
  cell_of char_cell = cell.Number Char
  cell_of region_cell = cell.Region
  cell_of (pointer_cell note target) = cell.Pointer note (type_number target)

  abbrev pub storage_of : Ty → Storage
  storage_of int = storage.Number Int
  storage_of unsigned = storage.Number Unsigned
  storage_of char = storage.Number Char
  storage_of region = storage.Region
  storage_of (struct k) = storage.Region
  storage_of (pointer note target) = storage.Pointer (type_number target)

  -- of a region, or of a pointer to a type
  abbrev pub by_type : Simple → Typed → Ty → Instruction
  by_type row row_typed int = instruction.Simple row
  by_type row row_typed unsigned = instruction.Simple row
  by_type row row_typed char = instruction.Simple row
  by_type row row_typed region = instruction.Simple row
  by_type row row_typed (struct k) = instruction.Simple row
  by_type row row_typed (pointer note target) = instruction.Typed row_typed (type_number target)

  -- an instruction that stands at a place
  abbrev pub numbered : (at : ℕ) → From.Instruction → Instruction
  numbered at (From.number s n) = instruction.Constant s (word_of n)
  numbered at (From.null ty) = by_type simple.NullRegion typed.Null ty
  numbered at (From.global g) = instruction.Global g
  numbered at (From.get x) = instruction.Get x
  numbered at (From.set x ty) = instruction.Set x
  numbered at (From.arithmetic operator s) = instruction.Arithmetic (row_of operator) s
  numbered at (From.unary operator s) = instruction.Arithmetic (unary_row operator) s
  numbered at From.zero_test = instruction.Simple simple.IsZero
  numbered at (From.null_test ty) = by_type simple.IsNullRegion typed.IsNull ty
  numbered at (From.same ty) = by_type simple.SameRegion typed.Same ty
  numbered at (From.convert to) = instruction.Simple (conversion to)
  numbered at (From.move ty s direction) = instruction.Move (type_number (pointee ty)) s direction
  numbered at (From.load a) = instruction.Load (path_number a)
  numbered at (From.store a) = instruction.Store (path_number a) false
  numbered at From.new_region = instruction.Simple simple.NewRegion
  numbered at From.new_subregion = instruction.Simple simple.NewSubregion
  numbered at (From.region_of ty) = instruction.Typed typed.RegionOf (type_number (pointee ty))
  numbered at (From.allocate ty layout) = instruction.Typed typed.Allocate (type_number ty)
  numbered at (From.allocate_array ty layout) = instruction.Typed typed.AllocateArray (type_number ty)
  numbered at (From.delete pins) = instruction.Delete pins
  numbered at (From.call f parameters pins) = instruction.Call f pins
  numbered at (From.perform f parameters pins) = instruction.Call f pins
  numbered at (From.leave values) = instruction.Simple simple.Return
  numbered at From.putchar = instruction.Simple simple.PutChar
  numbered at From.getchar = instruction.Simple simple.GetChar
  numbered at (From.jump n) = instruction.Jump jump.Always (suc at + n)
  numbered at (From.jump_zero n) = instruction.Jump jump.IfZero (suc at + n)
  numbered at (From.back to) = instruction.Jump jump.Back to
  numbered at From.pop = instruction.Simple simple.Pop

  abbrev pub numbered_from : (at : ℕ) → List Line → List Instruction
  numbered_from at [] = []
  numbered_from at (l ∷ code) = numbered at l.instruction ∷ numbered_from (suc at) code

  abbrev pub function_of : StackFunction → Routine → Function
  function_of s f = record {
    parameters = f.parameters;
    locals = map storage_of s.locals;
    result = option_map storage_of f.result;
    code = numbered_from 0 s.code;
    lines = map (λ (l : Line). l.line) s.code;
  }

  -- a single number is written as its 32 bits, or as a byte; everything else begins as zero
  abbrev pub initial_of : Ty → Option ℕ → ℤ → Initial
  initial_of ty (Some count) n = initial.Zeros
  initial_of int None n = initial.Number (word_of n)
  initial_of unsigned None n = initial.Number (word_of n)
  initial_of char None n = initial.Number (word_of n)
  initial_of region None n = initial.Zeros
  initial_of (struct k) None n = initial.Zeros
  initial_of (pointer note target) None n = initial.Zeros

  abbrev pub global_of : Global → ImageGlobal
  global_of g = record { type_number = type_number g.ty; elements = elements g.count; initial = initial_of g.ty g.count g.initial }

  abbrev pub string_of : List ℕ → ImageGlobal
  string_of bytes = record { type_number = type_number char; elements = suc (length bytes); initial = initial.Bytes (bytes ++ 0 ∷ []) }

-- the numbers of types and paths
abbrev pub type_in : Rlang → Ty → ℕ
type_in r ty = place_in same_type (types_of r) ty

abbrev pub path_in : Rlang → Access → ℕ
path_in r a = place_in same_path (paths_of (type_in r) r) (path_of (type_in r) a)

abbrev pub layouts_in : Rlang → List Layout
layouts_in r = map (cells r.structs) (types_of r)

abbrev pub image_of : Rlang → Parts
image_of r = record {
  types = map (map (cell_of (type_in r) (path_in r))) (layouts_in r);
  globals = map (global_of (type_in r) (path_in r)) r.globals ++ map (string_of (type_in r) (path_in r)) r.strings;
  paths = paths_of (type_in r) r;
  functions = map (λ f. function_of (type_in r) (path_in r) (stack_of r f) f) r.functions;
  main = r.main;
}
