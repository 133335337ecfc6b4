-- The bytes of an image, in each version, one field after the other.
use Rattle.std.specs.Prelude.{ℕ, suc, ◌==◌, List, [], ◌∷◌, ◌++◌, if◌then◌else◌}
use Rattle.rc_code.specs.declared.instruction.Instruction.{Instruction}
use Rattle.rc_code.specs.declared.image.Function.{Function}
use Rattle.rc_code.specs.declared.image.Parts.{Parts}
use Rattle.rc_code.specs.Table.{number_of}
use Rattle.rc_code.specs.Image.{opcode_of, operands_of}
use Rattle.rc_fields.specs.Spelling.{number, numbers, counted, type_bytes, global_bytes, path_bytes, storage_bytes, result_bytes}
use Rattle.rc_image.specs.declared.run.Run.{Run}
use Rattle.rc_image.specs.declared.version.Version.{Version}
use Rattle.rc_image.specs.declared.version.Version.TheVariants.{One, Two}

-- ---- functions

-- its number and its operands
abbrev pub instruction_bytes : Instruction → List ℕ
instruction_bytes i = number (number_of (opcode_of i)) ++ numbers (operands_of i)

-- Equal lines side by side are one run: how many they are, and the line. The first run has so many already.
abbrev pub runs_from : (count line : ℕ) → List ℕ → List Run
runs_from count line [] = record { count = count; line = line } ∷ []
runs_from count line (l ∷ ls) = if l == line then runs_from (suc count) line ls else record { count = count; line = line } ∷ runs_from 1 l ls

abbrev pub runs : List ℕ → List Run
runs [] = []
runs (l ∷ ls) = runs_from 1 l ls

abbrev pub run_bytes : Run → List ℕ
run_bytes run = number run.count ++ number run.line

abbrev pub lines_bytes : Version → List ℕ → List ℕ
lines_bytes One lines = numbers lines
lines_bytes Two lines = counted run_bytes (runs lines)

abbrev pub function_bytes : Version → Function → List ℕ
function_bytes version f = number f.parameters ++ counted storage_bytes f.locals ++ result_bytes f.result ++ counted instruction_bytes f.code ++ lines_bytes version f.lines

-- ---- the whole

abbrev pub version_numbered : ℕ → Version
version_numbered number = if number == 1 then One else Two

abbrev pub version_number : Version → ℕ
version_number One = 1
version_number Two = 2

-- the magic and the version
abbrev pub start_bytes : Version → List ℕ
start_bytes version = 82 ∷ 67 ∷ 73 ∷ 77 ∷ version_number version ∷ []

-- the number of proofs, which is none
abbrev pub proofs_bytes : Version → List ℕ
proofs_bytes One = []
proofs_bytes Two = number 0

-- the parts, up to `main`
abbrev pub fields_bytes : Version → Parts → List ℕ
fields_bytes version p = counted type_bytes p.types ++ counted global_bytes p.globals ++ counted path_bytes p.paths ++ counted (function_bytes version) p.functions ++ number p.main

abbrev pub parts_bytes : Version → Parts → List ℕ
parts_bytes version p = fields_bytes version p ++ proofs_bytes version

abbrev pub spelling : Version → Parts → List ℕ
spelling version p = start_bytes version ++ parts_bytes version p
