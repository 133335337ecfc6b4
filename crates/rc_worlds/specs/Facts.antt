-- An image that may be run, in the form in which the proofs use it: its rules, and of its fields what a run needs. Of an image as it
-- is written, the rules of its fields say these.
use Rattle.std.specs.Prelude.{◌≡◌, ℕ, ◌+◌, ◌<◌, ◌≤◌, true, List, length, get_or}
use Rattle.std.specs.List.{list_all}
use Rattle.rc_core.specs.Types.{int_cell}
use Rattle.rc_core.specs.Layout.{note_of}
use Rattle.rc_core.specs.Heap.{Value}
use Rattle.rc_core.specs.Source.{chosen_in_range, cells_chosen}
use Rattle.rc_code.specs.declared.image.Path.{Path}
use Rattle.rc_code.specs.Running.{Reading, layout_at, path_at, function_at, cell_at, storage_of, chosen_values}
use Rattle.rc_code.specs.Soundness.{ReadingIsSound}
use Rattle.rc_worlds.specs.Worlds.{Compared, may_mark}

-- all cells that indices in range reach are inside the type and have one kind
pub record PathIsSound (image : Reading) (p : Path) : Type 0 where
  pub inside : (vs : List Value) → length vs ≡ length p.indices → list_all chosen_in_range (chosen_values p.indices vs) ≡ true → p.offset + cells_chosen (chosen_values p.indices vs) < length (layout_at image p.type_number)
  pub alike : (vs : List Value) → length vs ≡ length p.indices → list_all chosen_in_range (chosen_values p.indices vs) ≡ true
      → storage_of image (get_or (layout_at image p.type_number) (p.offset + cells_chosen (chosen_values p.indices vs)) int_cell) ≡ storage_of image (cell_at image p)
  pub noted : (vs : List Value) → length vs ≡ length p.indices → list_all chosen_in_range (chosen_values p.indices vs) ≡ true
      → note_of (get_or (layout_at image p.type_number) (p.offset + cells_chosen (chosen_values p.indices vs)) int_cell) ≡ note_of (cell_at image p)

pub record ImageIsSound (image : Compared) : Type 0 where
  pub rules : ReadingIsSound (may_mark image.marks) image.code
  pub paths : (p : ℕ) → p < length image.code.parts.paths → PathIsSound image.code (path_at image.code p)
  pub parameters : (f : ℕ) → f < length image.code.parts.functions → (function_at image.code f).parameters ≤ length (function_at image.code f).locals
  pub main : image.code.parts.main < length image.code.parts.functions
