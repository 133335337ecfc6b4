-- When the marks of an image are right. A store with the mark makes no check; so on no input of bytes and no limits may such a store meet
-- a value that doesn't fit.
use Rattle.std.specs.Prelude.{◌≡◌, ℕ, ◌+ℤ◌, pos, true, List, drop, Some}
use Rattle.std.specs.Prelude.{slice_get}
use Rattle.std.specs.List.{AllByRecursion as Every, list_all}
use Rattle.rc_base.specs.declared.ends.Limits.{Limits}
use Rattle.rc_core.specs.Heap.{Value, Pointer, Address, is_fresh, fits}
use Rattle.rc_core.specs.Layout.{note_of}
use Rattle.rc_core.specs.Numbers.{IsByte}
use Rattle.rc_core.specs.Runs.{Go, Target}
use Rattle.rc_core.specs.Source.{is_index, chosen_in_range}
use Rattle.rc_core.specs.Store.{Store}
use Rattle.rc_code.specs.declared.instruction.Instruction.TheVariants as instruction
use Rattle.rc_code.specs.declared.image.Parts.{Parts}
use Rattle.rc_code.specs.Running.{Reading, reading_of, path_at, function_at, cell_at, storage_of, value_at, kept, target_on}
use Rattle.rc_code.specs.StoreModel.{Held, lives, parent_in, object_in, kind_in, spot_at, stored}
use Rattle.rc_code.specs.Steps.{State, goes, first_steps}
use Rattle.rc_code.specs.ImageMeaning.{first_held}

-- a store passes all tests but that of the annotation: its pointer leads to a live region, the element and each index are within
-- their bounds, and the value names no dead region
pub record WouldWrite (value : Value) (target : Target) (store : Store) (address : Address) : Type 0 where
  pub pointer : target.pointer ≡ Pointer address
  pub live : lives store address.region ≡ true
  pub inside : is_index (pos address.index +ℤ target.shift) (object_in store address.region address.object).count ≡ true
  pub chosen : list_all chosen_in_range target.chosen ≡ true
  pub fresh : is_fresh (lives store) value ≡ true

-- the value keeps the annotation of the cell that the target comes to
abbrev pub FitsAt : Value → Target → Store → Address → Type 0
FitsAt value target store address = fits (parent_in store) (note_of (kind_in store (spot_at address target))) address.region value ≡ true

-- where a store by this path comes to with these operands, and what the cell keeps of the topmost
abbrev pub stored_to : Reading → (path : ℕ) → List Value → Target
stored_to image path stack = target_on (path_at image path) (drop 1 stack)

abbrev pub stored_value : Reading → (path : ℕ) → List Value → Value
stored_value image path stack = kept (storage_of image (cell_at image (path_at image path))) (value_at stack 0)

-- wherever the store would write its value, that fits
abbrev pub MarkIsRight : Reading → (path : ℕ) → State Held → Held → Type 0
MarkIsRight image path s w =
    (a : Address) → WouldWrite (stored_value image path s.stack) (stored_to image path s.stack) w.store a → FitsAt (stored_value image path s.stack) (stored_to image path s.stack) w.store a

-- of each marked store that a run comes to, after however many steps
abbrev pub Faithful : Parts → Type 0
Faithful parts = (input : List ℕ) → Every IsByte input → (limits : Limits) (n : ℕ) (s : State Held) (w : Held) (path : ℕ)
    → first_steps stored (reading_of parts) n (first_held (reading_of parts) input limits) ≡ Go (goes s) w
    → slice_get (function_at (reading_of parts) s.function).code s.at ≡ Some (instruction.Store path true)
    → MarkIsRight (reading_of parts) path s w
