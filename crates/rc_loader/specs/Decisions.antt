-- The rules at one instruction as tests that a loader makes, of the image as it is written. Operands stand in the order in which
-- they were pushed.
use Rattle.std.specs.Prelude.{◌≡◌, ◌<◌, ℕ, suc, ◌-◌, Bool, true, false, ◌&&◌, ◌||◌, not, nat_lt, nat_le, ◌==◌, List, [], ◌∷◌, ◌++◌, length, map, drop, reverse, get_or, Option, Some, None, option_to_list, Result, Ok, Err, if◌then◌else◌}
use Rattle.rc_core.specs.declared.ty.NumberType.TheVariants as numbers
use Rattle.rc_core.specs.Layout.{note_of, is_plain}
use Rattle.rc_code.specs.declared.kind.Cell.{Cell}
use Rattle.rc_code.specs.declared.kind.Cell.TheVariants as cell
use Rattle.rc_code.specs.declared.kind.Storage.{Storage}
use Rattle.rc_code.specs.declared.opcode.Jump.TheVariants as jump
use Rattle.rc_code.specs.declared.opcode.Simple.TheVariants as simple
use Rattle.rc_code.specs.declared.instruction.Instruction.{Instruction}
use Rattle.rc_code.specs.declared.instruction.Instruction.TheVariants as instruction
use Rattle.rc_code.specs.declared.image.Path.{Path}
use Rattle.rc_code.specs.declared.image.Function.{Function}
use Rattle.rc_code.specs.declared.image.Parts.{Parts}
use Rattle.rc_code.specs.Image.{kind_number, cells_at}
use Rattle.rc_code.specs.Running.{reading_of, cell_kind, pointee, storage_by, path_at}
use Rattle.rc_code.specs.Soundness.{Kind, numbers as number_kind, handles, pointers, operand_kind, place_kinds, local_in, is_regional, takes, gives, count_off, kinds_before, ends}
use Rattle.rc_loader.specs.Violations.{rank, KeepsAt}
use Rattle.rc_loader.specs.Codes.{kind_in}
use Rattle.rc_loader.specs.declared.operand.Operand.{Operand}
use Rattle.rc_loader.specs.declared.taken.Taken.{Taken}
use Rattle.rc_loader.specs.declared.taken.Taken.TheVariants as taken
use Rattle.rc_loader.specs.declared.demands.Demands.{Demands}
use Rattle.rc_loader.specs.declared.fault.Rule.{Rule}
use Rattle.rc_loader.specs.declared.fault.Rule.TheVariants as rule

-- ---- kinds

abbrev pub same_kind : Kind → Kind → Bool
same_kind (number_kind s) (number_kind t) = kind_number s == kind_number t
same_kind handles handles = true
same_kind (pointers t) (pointers u) = t == u
same_kind a b = false

abbrev pub same_kinds : List Kind → List Kind → Bool
same_kinds [] [] = true
same_kinds (a ∷ ks) (b ∷ ls) = same_kind a b && same_kinds ks ls
same_kinds ks ls = false

-- the cell at a path's offset
abbrev pub reached_cell : Parts → Path → Cell
reached_cell parts path = get_or (cells_at parts.types path.type_number) path.offset (cell.Number numbers.Int)

-- a local that holds what a cell holds
abbrev pub storage_in : Cell → Storage
storage_in c = storage_by pointee (cell_kind c)

abbrev pub is_annotated : Cell → Bool
is_annotated c = not (is_plain (note_of (cell_kind c)))

-- the kinds of operands that are taken
abbrev pub pushed : Taken → List Kind
pushed taken.Nothing = []
pushed (taken.One a) = kind_in a ∷ []
pushed (taken.Two a b) = kind_in a ∷ kind_in b ∷ []
pushed (taken.Place path) = place_kinds path.now
pushed (taken.Stored path value) = place_kinds path.now ++ kind_in value ∷ []
pushed (taken.Arguments parameters) = map operand_kind parameters.now
pushed taken.Anything = []

abbrev pub count_of : Taken → ℕ
count_of taken.Anything = 1
count_of t = length (pushed t)

abbrev pub is_any : Taken → Bool
is_any taken.Anything = true
is_any t = false

abbrev pub is_pop : Instruction → Bool
is_pop (instruction.Simple simple.Pop) = true
is_pop i = false

-- how many of so many operands are below, where they are there
abbrev pub left_below : (count height : ℕ) → Option ℕ
left_below count height = if nat_le count height then Some (height - count) else None

abbrev pub are_taken : Taken → List Operand → Bool
are_taken taken.Anything operands = true
are_taken t operands = same_kinds (map kind_in operands) (pushed t)

-- ---- names

abbrev pub is_before : ℕ → List ℕ → Bool
is_before x [] = true
is_before x (y ∷ pins) = nat_lt x y

abbrev pub is_pin : Function → ℕ → Bool
is_pin f x = nat_lt x (length f.locals) && is_regional (local_in f x)

abbrev pub are_pins : Function → List ℕ → Bool
are_pins f [] = true
are_pins f (x ∷ pins) = is_pin f x && is_before x pins && are_pins f pins

-- by a store to that cell
abbrev pub may_be_marked : Cell → (proved : Bool) → Bool
may_be_marked c false = true
may_be_marked c true = is_annotated c

abbrev pub names_what_is_there : Parts → Function → Instruction → Bool
names_what_is_there parts f (instruction.Global g) = nat_lt g (length parts.globals)
names_what_is_there parts f (instruction.Get x) = nat_lt x (length f.locals)
names_what_is_there parts f (instruction.Set x) = nat_lt x (length f.locals)
names_what_is_there parts f (instruction.Load path) = nat_lt path (length parts.paths)
names_what_is_there parts f (instruction.Typed row type) = nat_lt type (length parts.types)
names_what_is_there parts f (instruction.Move type kind direction) = nat_lt type (length parts.types)
names_what_is_there parts f (instruction.Store path proved) = nat_lt path (length parts.paths) && may_be_marked (reached_cell parts (path_at (reading_of parts) path)) proved
names_what_is_there parts f (instruction.Delete pins) = are_pins f pins
names_what_is_there parts f (instruction.Call g pins) = nat_lt g (length parts.functions) && are_pins f pins
names_what_is_there parts f i = true

-- ---- targets

abbrev pub leads_inside : (size n : ℕ) → Instruction → Bool
leads_inside size n (instruction.Jump jump.Always to) = nat_lt n to && nat_lt to size
leads_inside size n (instruction.Jump jump.IfZero to) = nat_lt n to && nat_lt to size
leads_inside size n (instruction.Jump jump.Back to) = nat_le to n && nat_lt to size
leads_inside size n i = true

abbrev pub may_end : (size n : ℕ) → Instruction → Bool
may_end size n i = if suc n == size then ends i else true

-- a jump among these leads to that number
abbrev pub leads_to : ℕ → Instruction → Bool
leads_to n (instruction.Jump row to) = to == n
leads_to n i = false

abbrev pub is_named : List Instruction → ℕ → Bool
is_named [] n = false
is_named (i ∷ code) n = leads_to n i || is_named code n

-- ---- heights

-- it leaves no operands below its own
abbrev pub empties : Instruction → Bool
empties (instruction.Jump row to) = true
empties (instruction.Simple simple.Return) = true
empties i = false

-- of the operands that are left below those that are taken, and of all that stand before the instruction
abbrev pub is_empty_enough : (empties target : Bool) → (below height : ℕ) → Bool
is_empty_enough empties target below height = (if empties then below == 0 else true) && (if target then height == 0 else true)

-- ---- all of them

-- `POP` takes one of any kind
abbrev pub are_kinds : Parts → Function → Instruction → List Operand → Bool
are_kinds parts f i operands = if is_pop i then true else same_kinds (map kind_in operands) (reverse (takes (reading_of parts) f i))

abbrev pub checked_kinds : Parts → Function → Instruction → List Operand → (below : ℕ) → Result ℕ Rule
checked_kinds parts f i stack below = if are_kinds parts f i (drop below stack) then Ok below else Err rule.Kind

abbrev pub checked_height : Parts → Function → Instruction → (target : Bool) → List Operand → Option ℕ → Result ℕ Rule
checked_height parts f i target stack None = Err rule.Height
checked_height parts f i target stack (Some below) = if is_empty_enough (empties i) target below (length stack) then checked_kinds parts f i stack below else Err rule.Height

-- at an instruction, before which these operands stand: how many of them it leaves, or the rule that is broken
abbrev pub checked : Parts → Function → (n : ℕ) → Instruction → (target : Bool) → List Operand → Result ℕ Rule
checked parts f n i target stack =
    if names_what_is_there parts f i then
    (if leads_inside (length f.code) n i && may_end (length f.code) n i then checked_height parts f i target stack (left_below (count_off (reading_of parts) f i) (length stack))
    else Err rule.Target) else Err rule.Number

-- ---- the same, of what an instruction demands

-- what an instruction that names what is there asks and gives
pub record AreDemands (parts : Parts) (f : Function) (n : ℕ) (i : Instruction) (d : Demands) : Type 0 where
  pub named : names_what_is_there parts f i ≡ true
  pub leads : d.leads ≡ leads_inside (length f.code) n i
  pub empties : d.empties ≡ empties i
  pub kinds : reverse (pushed d.taken) ≡ takes (reading_of parts) f i
  pub any : is_any d.taken ≡ is_pop i
  pub given : map kind_in (option_to_list d.given) ≡ gives (reading_of parts) f i

abbrev pub met_kinds : Demands → List Operand → (below : ℕ) → Result ℕ Rule
met_kinds d stack below = if are_taken d.taken (drop below stack) then Ok below else Err rule.Kind

abbrev pub met_height : Demands → (target : Bool) → List Operand → Option ℕ → Result ℕ Rule
met_height d target stack None = Err rule.Height
met_height d target stack (Some below) = if is_empty_enough d.empties target below (length stack) then met_kinds d stack below else Err rule.Height

-- whether it `ends` well is whether it isn't the last one, or nothing behind it is run
abbrev pub met : Demands → (ends target : Bool) → List Operand → Result ℕ Rule
met d ends target stack = if d.leads && ends then met_height d target stack (left_below (count_of d.taken) (length stack)) else Err rule.Target

-- ---- what a loader knows before an instruction

-- these operands stand before it
abbrev pub Stand : Parts → Function → (n : ℕ) → List Operand → Type 0
Stand parts f n stack = map kind_in stack ≡ reverse (kinds_before (reading_of parts) f n)

abbrev pub KeepsAll : Parts → Function → (n : ℕ) → Type 0
KeepsAll parts f n = (r : Rule) → KeepsAt (reading_of parts) f n r

-- the rule is broken, and none that is asked before
pub record BreaksHere (parts : Parts) (f : Function) (n : ℕ) (r : Rule) : Type 0 where
  pub broken : KeepsAt (reading_of parts) f n r → ⊥
  pub earlier : (s : Rule) → rank s < rank r → KeepsAt (reading_of parts) f n s
