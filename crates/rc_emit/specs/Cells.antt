-- The cells of types as an image has them: each pointer names a type by its number. And stack code whose steps back lead to places of it.
use Rattle.std.specs.Prelude.{◌≡◌, ℕ, List, length, map, slice_get, Some}
use Rattle.std.specs.List.{AllByRecursion as Every}
use Rattle.std.specs.declared.vec.Vec.{Vec}
use Rattle.std.specs.declared.alloc.Global.{Global}
use Rattle.rc_core.specs.Layout.{Layout}
use Rattle.rc_rlang.specs.RegionCode.{Routine, Rlang}
use Rattle.rc_emission.specs.StackCode.{Line}
use Rattle.rc_code.specs.declared.kind.Cell.{Cell}
use Rattle.rc_numbering.specs.Names.{stack_of}
use Rattle.rc_numbering.specs.Numbered.{cell_of}
use Rattle.rc_tables.specs.Placed.{type_number, path_number, BackFits}
use Rattle.rc_tables.specs.declared.numbers.Numbers.{Numbers}

abbrev pub cells_with : Numbers → Layout → List Cell
cells_with n layout = map (cell_of (type_number n) (path_number n)) layout

-- they are the cells of these layouts
abbrev pub AreCells : Numbers → List Layout → List (Vec Cell Global) → Type 0
AreCells n layouts cells = map (λ (v : Vec Cell Global). v.items) cells ≡ map (cells_with n) layouts

-- no step back of the program's functions leads behind a function's end
abbrev pub BacksFit : Rlang → Type 0
BacksFit r = (k : ℕ) (f : Routine) → slice_get r.functions k ≡ Some f → Every (λ (l : Line). BackFits (length (stack_of r f).code) l.instruction) (stack_of r f).code
