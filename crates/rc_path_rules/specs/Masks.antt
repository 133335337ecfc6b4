-- Rows and masks of an image's types.
use Rattle.std.specs.Prelude.{◌≡◌, ℕ, List, slice_get, Some}
use Rattle.rc_code.specs.declared.kind.Cell.{Cell}
use Rattle.rc_code.specs.Image.{cells_at}
use Rattle.rc_reached.specs.Masks.{IsMask}
use Rattle.rc_reached.specs.Numbered.{IsNumbered}
use Rattle.rc_path_rules.specs.declared.masks.Mask.{Mask}
use Rattle.rc_path_rules.specs.declared.masks.Row.{Row}
use Rattle.rc_path_rules.specs.declared.masks.Masks.{Masks}

-- each mask marks the cells of its type that are as its cell
abbrev pub AreMasks : (types : List (List Cell)) → List Mask → Type 0
AreMasks types masks = (k : ℕ) (m : Mask) → slice_get masks k ≡ Some m → IsMask m.cell (cells_at types m.type_number) m.words.items

-- each row is of the cells of its type
abbrev pub AreRows : (types : List (List Cell)) → List Row → Type 0
AreRows types rows = (k : ℕ) (r : Row) → slice_get rows k ≡ Some r → IsNumbered (cells_at types r.type_number) r.row

pub record AreRight (types : List (List Cell)) (m : Masks) : Type 0 where
  pub rows : AreRows types m.rows.items
  pub masks : AreMasks types m.made.items
