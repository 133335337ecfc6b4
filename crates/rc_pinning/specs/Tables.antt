-- Tables of a function, by which its pins are looked at.
use Rattle.std.specs.Prelude.{◌≡◌, ◌<◌, ℕ, suc, Bool, true, false, nat_eq, IsTrue, List, length, get_or, Option, Some, None}
use Rattle.std.specs.List.{list_any}
use Rattle.rc_base.specs.BitSets.{marks}
use Rattle.rc_code.specs.declared.instruction.Instruction.{Instruction}
use Rattle.rc_code.specs.declared.instruction.Instruction.TheVariants as instruction
use Rattle.rc_code.specs.declared.image.Parts.{Parts}
use Rattle.rc_code.specs.Image.{FieldsFit}
use Rattle.rc_code.specs.Running.{reading_of, function_at}
use Rattle.rc_code.specs.Soundness.{Sound}
use Rattle.rc_stops.specs.Rows.{row_at}
use Rattle.rc_sealed.specs.Faults.{IsWide}
use Rattle.rc_deleters.specs.declared.deleters.Deleters.{Deleters}
use Rattle.rc_deleters.specs.Calls.{first_in, TellsDeleters}
use Rattle.rc_pinning.specs.declared.tables.Tables.{Tables}
use Rattle.rc_pinning.specs.Numbers.{AreNumbers}
use Rattle.rc_pinning.specs.Stops.{TellsUsed}
use Rattle.rc_pinning.specs.Operands.{TellsAboveNumbers}

pub record AreTables (parts : Parts) (g : ℕ) (tables : Tables) : Type 0 where
  pub numbers : AreNumbers (function_at (reading_of parts) g).locals tables.numbers.items
  pub rows : TellsUsed (function_at (reading_of parts) g) tables.rows.items
  pub above : TellsAboveNumbers (reading_of parts) (function_at (reading_of parts) g) tables.above.items

-- all is there by which the function's pins are looked at
pub record IsReady (parts : Parts) (g : ℕ) (d : Deleters) (t : Tables) : Type 0 where
  pub fields : FieldsFit parts
  pub sound : Sound parts
  pub there : g < length parts.functions
  pub narrow : IsWide parts g → ⊥
  pub deleters : TellsDeleters parts d
  pub tables : AreTables parts g t

-- the function is there, and it is known which functions may delete
pub record IsKnown (parts : Parts) (g : ℕ) (d : Deleters) : Type 0 where
  pub sound : Sound parts
  pub there : g < length parts.functions
  pub deleters : TellsDeleters parts d

-- ---- which instructions have to pin

abbrev pub may_delete : Deleters → ℕ → Bool
may_delete deleters h = marks (row_at deleters.rows.items (first_in deleters.firsts.items h)) 0

abbrev pub where_so : Bool → List ℕ → Option (List ℕ)
where_so true pins = Some pins
where_so false pins = None

-- the pins of one that has to pin
abbrev pub pins_of : Deleters → Instruction → Option (List ℕ)
pins_of deleters (instruction.Delete pins) = Some pins
pins_of deleters (instruction.Call h pins) = where_so (may_delete deleters h) pins
pins_of deleters i = None

-- a called function is one of those that are told of
abbrev pub CallsWithin : Deleters → Instruction → Type 0
CallsWithin deleters (instruction.Call h pins) = first_in deleters.firsts.items h < length deleters.rows.items
CallsWithin deleters i = Unit {0}

-- ---- what they have to pin

-- it is the number of one of the pins
abbrev pub has_number : List ℕ → (pins : List ℕ) → ℕ → Bool
has_number numbers pins n = list_any (λ x. nat_eq n (get_or numbers x 0)) pins

pub record PinsByTables (tables : Tables) (at : ℕ) (pins : List ℕ) : Type 0 where
  pub above : get_or tables.above.items at false ≡ true
  pub used : (n : ℕ) → IsTrue (marks (row_at tables.rows.items (suc at)) n) → IsTrue (has_number tables.numbers.items pins n)
