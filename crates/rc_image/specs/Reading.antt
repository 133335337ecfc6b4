-- Reading from left to right, with the first fault that is met.
use Rattle.std.specs.Prelude.{◌≡◌, ℕ, zero, suc, ◌-◌, Bool, true, false, not, nat_lt, ◌==◌, List, [], ◌∷◌, ◌++◌, length, replicate, Option, Some, None, Result, Ok, Err, if◌then◌else◌}
use Rattle.rc_core.specs.declared.operators.Direction.{Direction}
use Rattle.rc_core.specs.declared.operators.Direction.TheVariants.{Forward, Backward}
use Rattle.rc_code.specs.declared.kind.Storage.{Storage}
use Rattle.rc_code.specs.declared.opcode.Opcode.{Opcode}
use Rattle.rc_code.specs.declared.opcode.Opcode.TheVariants as opcode
use Rattle.rc_code.specs.declared.instruction.Instruction.{Instruction}
use Rattle.rc_code.specs.declared.instruction.Instruction.TheVariants as instruction
use Rattle.rc_code.specs.declared.image.Function.{Function}
use Rattle.rc_code.specs.declared.image.Parts.{Parts}
use Rattle.rc_code.specs.Table.{numbered}
use Rattle.rc_fields.specs.Reading.{Fault, wrong_magic, wrong_version, short, extra, field, ◌>>=◌, Read, number_at, number_within, many, counted_at, kind_at, types_at, global_at, path_at, storage_at, result_at}
use Rattle.rc_image.specs.declared.fault.ImageFault.{ImageFault}
use Rattle.rc_image.specs.declared.fault.ImageFault.TheVariants as image
use Rattle.rc_fields.specs.declared.stop.Stop.{Stop}
use Rattle.rc_fields.specs.declared.stop.Stop.TheVariants as stop
use Rattle.rc_image.specs.declared.run.Run.{Run}
use Rattle.rc_image.specs.declared.version.Version.{Version}
use Rattle.rc_image.specs.declared.version.Version.TheVariants.{One, Two}

-- ---- instructions

abbrev pub direction_of : (left : ℕ) → ℕ → List ℕ → Read Direction
direction_of left zero rest = Ok (Forward, rest)
direction_of left (suc zero) rest = Ok (Backward, rest)
direction_of left (suc (suc n)) rest = Err (field left)

unfoldable pub direction_at : List ℕ → Read Direction
direction_at bytes = number_at bytes >>= λ n. direction_of (length bytes) n.0 n.1

abbrev pub bit_of : (left : ℕ) → ℕ → List ℕ → Read Bool
bit_of left zero rest = Ok (false, rest)
bit_of left (suc zero) rest = Ok (true, rest)
bit_of left (suc (suc n)) rest = Err (field left)

unfoldable pub bit_at : List ℕ → Read Bool
bit_at bytes = number_at bytes >>= λ n. bit_of (length bytes) n.0 n.1

abbrev pub pins_at : List ℕ → Read (List ℕ)
pins_at bytes = counted_at number_at bytes

abbrev pub move_at : List ℕ → Read Instruction
move_at bytes = number_at bytes >>= λ type. kind_at type.1 >>= λ kind. direction_at kind.1 >>= λ direction. Ok (instruction.Move type.0 kind.0 direction.0, direction.1)

abbrev pub store_at : List ℕ → Read Instruction
store_at bytes = number_at bytes >>= λ path. bit_at path.1 >>= λ proved. Ok (instruction.Store path.0 proved.0, proved.1)

abbrev pub call_at : List ℕ → Read Instruction
call_at bytes = number_at bytes >>= λ function. pins_at function.1 >>= λ pins. Ok (instruction.Call function.0 pins.0, pins.1)

abbrev pub operands_at : Opcode → List ℕ → Read Instruction
operands_at (opcode.Constant kind) bytes = number_at bytes >>= λ n. Ok (instruction.Constant kind n.0, n.1)
operands_at opcode.Global bytes = number_at bytes >>= λ n. Ok (instruction.Global n.0, n.1)
operands_at opcode.Get bytes = number_at bytes >>= λ n. Ok (instruction.Get n.0, n.1)
operands_at opcode.Set bytes = number_at bytes >>= λ n. Ok (instruction.Set n.0, n.1)
operands_at opcode.Load bytes = number_at bytes >>= λ n. Ok (instruction.Load n.0, n.1)
operands_at (opcode.Typed typed) bytes = number_at bytes >>= λ n. Ok (instruction.Typed typed n.0, n.1)
operands_at (opcode.Arithmetic arithmetic) bytes = kind_at bytes >>= λ kind. Ok (instruction.Arithmetic arithmetic kind.0, kind.1)
operands_at opcode.Move bytes = move_at bytes
operands_at opcode.Store bytes = store_at bytes
operands_at (opcode.Simple simple) bytes = Ok (instruction.Simple simple, bytes)
operands_at opcode.Delete bytes = pins_at bytes >>= λ pins. Ok (instruction.Delete pins.0, pins.1)
operands_at opcode.Call bytes = call_at bytes
operands_at (opcode.Jump jump) bytes = number_at bytes >>= λ n. Ok (instruction.Jump jump n.0, n.1)

abbrev pub instruction_of : (left : ℕ) → Option Opcode → List ℕ → Read Instruction
instruction_of left None bytes = Err (field left)
instruction_of left (Some o) bytes = operands_at o bytes

unfoldable pub instruction_at : List ℕ → Read Instruction
instruction_at bytes = number_at bytes >>= λ number. instruction_of (length bytes) (numbered number.0) number.1

-- ---- lines

abbrev pub is_same : Option ℕ → ℕ → Bool
is_same None line = false
is_same (Some before) line = before == line

-- a run has at least one line, and as many as are left exactly where it is the last
abbrev pub run_breaks : (more left count : ℕ) → Bool
run_breaks more left count = if count == 0 then true else if more == 0 then not (count == left) else not (nat_lt count left)

unfoldable pub run_at : (more left : ℕ) → Option ℕ → List ℕ → Read Run
run_at more left before bytes = number_at bytes >>= λ count.
    if run_breaks more left count.0 then Err (field (length bytes)) else number_at count.1 >>= λ line.
    if is_same before line.0 then Err (field (length count.1)) else Ok (record { count = count.0; line = line.0 }, line.1)

-- so many runs, for so many lines, behind a run with a line
unfoldable pub runs_at : (more left : ℕ) → Option ℕ → List ℕ → Read (List ℕ)
runs_at zero left before bytes = Ok ([], bytes)
runs_at (suc more) left before bytes =
    run_at more left before bytes >>= λ run. runs_at more (left - run.0.count) (Some run.0.line) run.1 >>= λ lines. Ok (replicate run.0.count run.0.line ++ lines.0, lines.1)

-- there are no runs exactly where there are no lines
unfoldable pub shared_at : (count : ℕ) → List ℕ → Read (List ℕ)
shared_at count bytes = number_at bytes >>= λ number.
    if count == 0 then (if number.0 == 0 then Ok ([], number.1) else Err (field (length bytes))) else (if number.0 == 0 then Err (field (length bytes)) else runs_at number.0 count None number.1)

abbrev pub lines_at : Version → (count : ℕ) → List ℕ → Read (List ℕ)
lines_at One count bytes = many number_at count bytes
lines_at Two count bytes = shared_at count bytes

-- ---- functions and the whole

-- the number of parameters, and the locals
unfoldable pub head_at : (types : ℕ) → List ℕ → Result (ℕ × List Storage × List ℕ) Fault
head_at types bytes = do
  parameters ← number_at bytes
  count ← number_within parameters.0 4294967296 parameters.1
  locals ← many (storage_at types) count.0 count.1
  Ok (parameters.0, locals.0, locals.1)

-- the instructions and their lines
unfoldable pub body_at : Version → List ℕ → Result (List Instruction × List ℕ × List ℕ) Fault
body_at v bytes = do
  code ← counted_at instruction_at bytes
  lines ← lines_at v (length code.0) code.1
  Ok (code.0, lines.0, lines.1)

unfoldable pub function_at : Version → (types : ℕ) → List ℕ → Read Function
function_at v types bytes = do
  head ← head_at types bytes
  result ← result_at types head.2
  body ← body_at v result.1
  Ok (record { parameters = head.0; locals = head.1; result = result.0; code = body.0; lines = body.1 }, body.2)

unfoldable pub proofs_at : Version → List ℕ → Result (List ℕ) Fault
proofs_at One bytes = Ok bytes
proofs_at Two bytes = number_within 0 1 bytes >>= λ n. Ok n.1

-- the parts, up to `main`
unfoldable pub fields_at : Version → List ℕ → Read Parts
fields_at v bytes = do
  types ← types_at bytes
  globals ← counted_at (global_at types.0) types.1
  paths ← counted_at (path_at types.0) globals.1
  functions ← counted_at (function_at v (length types.0)) paths.1
  main ← number_within 0 (length functions.0) functions.1
  Ok (record { types = types.0; globals = globals.0; paths = paths.0; functions = functions.0; main = main.0 }, main.1)

unfoldable pub parts_at : Version → List ℕ → Read Parts
parts_at v bytes = do
  parts ← fields_at v bytes
  rest ← proofs_at v parts.1
  Ok (parts.0, rest)

-- a letter of the magic
abbrev pub letter_at : (letter : ℕ) → List ℕ → Result (List ℕ) Fault
letter_at letter [] = Err short
letter_at letter (b ∷ rest) = if b == letter then Ok rest else Err wrong_magic

abbrev pub version_at : List ℕ → Read Version
version_at [] = Err short
version_at (b ∷ rest) = if b == 1 then Ok (One, rest) else (if b == 2 then Ok (Two, rest) else Err wrong_version)

-- the magic, as far as the bytes go, and then the version
unfoldable pub start_at : List ℕ → Read Version
start_at bytes = letter_at 82 bytes >>= λ a. letter_at 67 a >>= λ b. letter_at 73 b >>= λ c. letter_at 77 c >>= λ d. version_at d

-- all of the bytes
unfoldable pub parts_of : List ℕ → Result Parts Fault
parts_of bytes = do
  start ← start_at bytes
  parts ← parts_at start.0 start.1
  if length parts.1 == 0 then Ok parts.0 else Err extra

-- ---- the answer of a reader

-- a field's offset is counted from the first byte of so many
abbrev pub answered : (total : ℕ) → Stop → ImageFault
answered total stop.Memory = image.Memory
answered total stop.Magic = image.Magic
answered total stop.Version = image.Version
answered total stop.Short = image.Short
answered total stop.Extra = image.Extra
answered total (stop.Field left) = image.Field (total - left)

abbrev pub Refuses : {A : Type 0} → (total : ℕ) → ImageFault → Result A Fault → Type 0
Refuses total image.Memory read = Unit {0}
Refuses total image.Magic read = read ≡ Err wrong_magic
Refuses total image.Version read = read ≡ Err wrong_version
Refuses total image.Short read = read ≡ Err short
Refuses total image.Extra read = read ≡ Err extra
Refuses total (image.Field offset) read = (left : ℕ) × (read ≡ Err (field left)) × (offset ≡ total - left)

abbrev pub Answers : {A : Type 0} → (total : ℕ) → Result A ImageFault → Result A Fault → Type 0
Answers total (Ok x) read = read ≡ Ok x
Answers total (Err e) read = Refuses total e read
