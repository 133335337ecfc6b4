-- What instructions give, and what paths lead to.
use Rattle.std.proofs.Common.{◌≡◌, ◌∙◌, ℕ, true, [], ◌∷◌, map, get_or, refl, ap}
use Rattle.std.proofs.Math.ListN.{get_or-map}
use Rattle.rc_core.specs.declared.ty.NumberType.TheVariants.{Int}
use Rattle.rc_core.specs.declared.ty.Signedness.{Signedness}
use Rattle.rc_core.specs.Types.{int_cell}
use Rattle.rc_code.specs.declared.kind.Cell.TheVariants as cell
use Rattle.rc_code.specs.declared.opcode.Arithmetic.{Arithmetic}
use Rattle.rc_code.specs.declared.opcode.Jump.{Jump}
use Rattle.rc_code.specs.declared.opcode.Jump.TheVariants as jump
use Rattle.rc_code.specs.declared.instruction.Instruction.TheVariants as instruction
use Rattle.rc_code.specs.declared.image.Path.{Path}
use Rattle.rc_code.specs.declared.image.Function.{Function}
use Rattle.rc_code.specs.declared.image.Parts.{Parts}
use Rattle.rc_code.specs.Image.{cells_at}
use Rattle.rc_code.specs.Running.{Reading, reading_of, cell_at, cell_kind, layout_of}
use Rattle.rc_code.specs.Soundness.{gives}
use Rattle.rc_code.proofs.Kinding.{constant_gives, arithmetic_gives}
use Rattle.rc_pinning.specs.Operands.{is_numeric}

pub cell_led_to : (parts : Parts) (path : Path) → cell_at (reading_of parts) path ≡ cell_kind (get_or (cells_at parts.types path.type_number) path.offset (cell.Number Int))
cell_led_to parts path =
    ap (λ cells. get_or cells path.offset int_cell) (get_or-map layout_of parts.types path.type_number [])
    ∙ get_or-map cell_kind (cells_at parts.types path.type_number) path.offset (cell.Number Int)

pub constant_is_numeric : (image : Reading) (f : Function) (s : Signedness) (n : ℕ) → map is_numeric (gives image f (instruction.Constant s n)) ≡ true ∷ []
constant_is_numeric image f s n = ap (map is_numeric) (constant_gives image f s n)

pub arithmetic_is_numeric : (image : Reading) (f : Function) (row : Arithmetic) (s : Signedness) → map is_numeric (gives image f (instruction.Arithmetic row s)) ≡ true ∷ []
arithmetic_is_numeric image f row s = ap (map is_numeric) (arithmetic_gives image f row s)

pub jump_gives_nothing : (image : Reading) (f : Function) (j : Jump) (to : ℕ) → map is_numeric (gives image f (instruction.Jump j to)) ≡ []
jump_gives_nothing image f jump.Always to = refl
jump_gives_nothing image f jump.IfZero to = refl
jump_gives_nothing image f jump.Back to = refl
