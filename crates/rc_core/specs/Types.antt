-- Types as definitions speak of them, and the kinds of cells.
use Rattle.std.specs.Prelude.{ℕ}
use Rattle.rc_core.specs.declared.ty.Note.{Note}

pub data Ty : Type 0 where
  int : Ty
  unsigned : Ty
  char : Ty
  region : Ty
  struct : ℕ → Ty
  pointer : Note → Ty → Ty

-- a cell holds one number, region or pointer
pub data CellKind : Type 0 where
  int_cell : CellKind
  unsigned_cell : CellKind
  char_cell : CellKind
  region_cell : CellKind
  pointer_cell : Note → Ty → CellKind
