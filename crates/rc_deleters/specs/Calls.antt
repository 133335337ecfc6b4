-- The stops of an image's deletions and calls, function by function.
use Rattle.std.specs.Prelude.{◌≡◌, ◌<◌, ◌↔◌, ℕ, zero, suc, ◌+◌, true, false, IsTrue, List, [], ◌∷◌, ◌++◌, length, get_or, Option, Some, None}
use Rattle.rc_base.specs.BitSets.{marks}
use Rattle.rc_code.specs.declared.opcode.Simple.TheVariants as simple
use Rattle.rc_code.specs.declared.instruction.Instruction.{Instruction}
use Rattle.rc_code.specs.declared.instruction.Instruction.TheVariants as instruction
use Rattle.rc_code.specs.declared.image.Function.{Function}
use Rattle.rc_code.specs.declared.image.Parts.{Parts}
use Rattle.rc_code.specs.Running.{reading_of, no_function}
use Rattle.rc_stops.specs.declared.stop.Stop.{Stop}
use Rattle.rc_stops.specs.Rows.{row_at}
use Rattle.rc_sealed.specs.Pinned.{MayDelete}
use Rattle.rc_deleters.specs.declared.deleters.Deleters.{Deleters}

-- a deletion gets a thing, which has the number 0
abbrev pub deletion_stop : Stop
deletion_stop = record { gets = Some 0; sets = None; falls = true; leads = None }

-- a call leads to the called function's first stop as well
abbrev pub call_stop : (first : ℕ) → Stop
call_stop first = record { gets = None; sets = None; falls = true; leads = Some first }

abbrev pub end_stop : Stop
end_stop = record { gets = None; sets = None; falls = false; leads = None }

-- a call leads to the number of the called function, before first stops are known
abbrev pub as_numbered : ℕ → ℕ
as_numbered h = h

abbrev pub in_code : List Instruction → ℕ → Instruction
in_code code at = get_or code at (instruction.Simple simple.Return)

abbrev pub stops_if : (first : ℕ → ℕ) → Instruction → List Stop
stops_if first (instruction.Delete pins) = deletion_stop ∷ []
stops_if first (instruction.Call h pins) = call_stop (first h) ∷ []
stops_if first i = []

-- of code; the end of a function is a stop that leads nowhere
abbrev pub code_stops : (first : ℕ → ℕ) → List Instruction → List Stop
code_stops first [] = end_stop ∷ []
code_stops first (i ∷ code) = stops_if first i ++ code_stops first code

-- how many they are
abbrev pub stop_count : List Instruction → ℕ
stop_count code = length (code_stops (λ h. 0) code)

abbrev pub image_stops : (first : ℕ → ℕ) → List Function → List Stop
image_stops first [] = []
image_stops first (f ∷ fs) = code_stops first f.code ++ image_stops first fs

-- a stop that leads elsewhere
abbrev pub relead : (first : ℕ → ℕ) → Option ℕ → Option ℕ
relead first None = None
relead first (Some h) = Some (first h)

abbrev pub releading : (first : ℕ → ℕ) → Stop → Stop
releading first stop = record { gets = stop.gets; sets = stop.sets; falls = stop.falls; leads = relead first stop.leads }

abbrev pub code_at : List Function → ℕ → List Instruction
code_at functions g = (get_or functions g no_function).code

-- the first stop of each function
abbrev pub first_of : List Function → ℕ → ℕ
first_of [] g = 0
first_of (f ∷ fs) zero = 0
first_of (f ∷ fs) (suc g) = stop_count f.code + first_of fs g

abbrev pub first_in : List ℕ → ℕ → ℕ
first_in firsts h = get_or firsts h 0

-- a table of them
pub record AreFirsts (functions : List Function) (firsts : List ℕ) : Type 0 where
  pub long : length firsts ≡ length functions
  pub each : (g : ℕ) → g < length functions → get_or firsts g 0 ≡ first_of functions g

-- ---- what is told of an image

pub record TellsDeleters (parts : Parts) (d : Deleters) : Type 0 where
  pub there : (g : ℕ) → g < length parts.functions → first_in d.firsts.items g < length d.rows.items
  pub told : (g : ℕ) → g < length parts.functions → IsTrue (marks (row_at d.rows.items (first_in d.firsts.items g)) 0) ↔ MayDelete (reading_of parts) g
