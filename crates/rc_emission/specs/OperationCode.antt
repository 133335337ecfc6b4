-- What each operation of region code becomes. A temporary is the operand at its height on the stack, so an operation becomes the
-- instructions that take its operands from the top. Comparisons that stack code hasn't are the opposites of those that it has. An
-- `unsigned` that is tested, or counts a shift, is looked at as an `int`, and one that becomes a `char` becomes an `int` first. Where an
-- expression forks the stack has to be empty, so the operands that stand there go into locals of their own, one for each height and type,
-- and come back behind the fork. They do that too where two operands change places, for which there is no instruction.
use Rattle.std.specs.Prelude.{ℕ, suc, ◌+◌, Bool, true, false, List, [], ◌∷◌, ◌++◌, length, map}
use Rattle.rc_core.specs.declared.ty.NumberType.{NumberType}
use Rattle.rc_core.specs.declared.ty.NumberType.TheVariants.{Int, Unsigned, Char}
use Rattle.rc_core.specs.declared.ty.Signedness.{Signedness}
use Rattle.rc_core.specs.declared.operators.Operator.{Operator}
use Rattle.rc_core.specs.declared.operators.Operator.TheVariants.{Greater, GreaterEqual, NotEqual, Less, LessEqual, Equal}
use Rattle.rc_core.specs.Types.{Ty, int, unsigned, char}
use Rattle.rc_core.specs.Typing.{is_shift}
use Rattle.rc_rlang.specs.RegionCode as From
use Rattle.rc_rlang.specs.RegionCode.{Index, Access, Operation, Step, Steps, set, fork, none, more}
use Rattle.rc_rlang.specs.RegionKinds.{signed_of}
use Rattle.rc_emission.specs.StackCode.{Instruction, Line}
use Rattle.rc_emission.specs.StackCode as To

-- an instruction, and several, of a line
abbrev pub line_of : (line : ℕ) → Instruction → Line
line_of line i = record { line = line; instruction = i }

abbrev pub at : (line : ℕ) → List Instruction → List Line
at line is = map (λ i. record { line = line; instruction = i }) is

-- 1 where the operand is zero or null, and else 0
abbrev pub zero_test : Ty → List Instruction
zero_test int = To.zero_test ∷ []
zero_test unsigned = To.convert Int ∷ To.zero_test ∷ []
zero_test char = To.zero_test ∷ []
zero_test ty = To.null_test ty ∷ []

-- 0 where the operand is zero or null
abbrev pub test_code : Ty → List Instruction
test_code int = []
test_code unsigned = To.convert Int ∷ []
test_code char = []
test_code ty = To.null_test ty ∷ To.zero_test ∷ []

-- the opposite, unless the value itself is wanted
abbrev pub wanted_code : Bool → List Instruction
wanted_code true = []
wanted_code false = To.zero_test ∷ []

-- comparisons the other way are the opposites of those that there are; a shift's count is an `int`
abbrev pub compared : Operator → Signedness → List Instruction
compared Greater s = To.arithmetic LessEqual s ∷ To.zero_test ∷ []
compared GreaterEqual s = To.arithmetic Less s ∷ To.zero_test ∷ []
compared NotEqual s = To.arithmetic Equal s ∷ To.zero_test ∷ []
compared operator s = To.arithmetic operator s ∷ []

abbrev pub count_code : Bool → Ty → List Instruction
count_code true unsigned = To.convert Int ∷ []
count_code b ty = []

-- a `char` is an `int` as it is
abbrev pub convert_code : NumberType → NumberType → List Instruction
convert_code Char Int = []
convert_code Int Int = []
convert_code Unsigned Unsigned = []
convert_code Char Char = []
convert_code Unsigned Char = To.convert Int ∷ To.convert Char ∷ []
convert_code from to = To.convert to ∷ []

-- of an operation whose result has a type; `pins` are those of a call
abbrev pub operation_code : (pins : List ℕ) → Ty → Operation → List Instruction
operation_code pins ty (From.constant s n) = To.number s n ∷ []
operation_code pins ty From.null = To.null ty ∷ []
operation_code pins ty (From.static g) = To.global g ∷ []
operation_code pins ty (From.copy x) = To.get x ∷ []
operation_code pins ty (From.load a) = To.load a ∷ []
operation_code pins ty (From.step direction pointed n) = To.move pointed (signed_of n) direction ∷ []
operation_code pins ty (From.step_from n pointed) = []
operation_code pins ty (From.unary operator s) = To.unary operator s ∷ []
operation_code pins ty (From.binary operator s right) = count_code (is_shift operator) right ++ compared operator s
operation_code pins ty (From.convert from to) = convert_code from to
operation_code pins ty (From.not_zero of) = zero_test of
operation_code pins ty (From.truth of) = zero_test of ++ To.zero_test ∷ []
operation_code pins ty (From.is_null wanted of) = To.null_test of ∷ wanted_code wanted
operation_code pins ty (From.same wanted of) = To.same of ∷ wanted_code wanted
operation_code pins ty (From.call f tys) = To.call f tys pins ∷ []
operation_code pins ty From.new_region = To.new_region ∷ []
operation_code pins ty From.new_subregion = To.new_subregion ∷ []
operation_code pins ty (From.region_of of) = To.region_of of ∷ []
operation_code pins ty (From.allocate made layout) = To.allocate made layout ∷ []
operation_code pins ty (From.allocate_array made layout) = To.allocate_array made layout ∷ []
operation_code pins ty From.putchar = To.putchar ∷ []
operation_code pins ty From.getchar = To.getchar ∷ []

-- a local that keeps an operand keeps all of it
abbrev pub wide : Ty → Ty
wide char = int
wide ty = ty

-- `slot h ty` is the local that keeps an operand of the type at the height
module _ (slot : ℕ → Ty → ℕ) where
  -- the operands on the stack go into their locals, from the top; `base` is the height of the lowest
  abbrev pub spills : (base : ℕ) → List Ty → List Instruction
  spills base [] = []
  spills base (ty ∷ tys) = To.set (slot (base + length tys) ty) (wide ty) ∷ spills base tys

  -- and come back, the lowest first
  abbrev pub reloads : (base : ℕ) → List Ty → List Instruction
  reloads base [] = []
  reloads base (ty ∷ tys) = reloads base tys ++ To.get (slot (base + length tys) ty) ∷ []

  -- there is no instruction that exchanges two operands
  abbrev pub exchange : (h : ℕ) → (low high : Ty) → List Instruction
  exchange h low high = To.set (slot (suc h) high) (wide high) ∷ To.set (slot h low) (wide low) ∷ To.get (slot (suc h) high) ∷ To.get (slot h low) ∷ []
