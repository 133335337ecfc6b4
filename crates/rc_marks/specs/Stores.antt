-- The stores of region code to annotated cells, each with its line and its annotation: its sites, function after function. And those of stack
-- code.
use Rattle.std.specs.Prelude.{◌≡◌, ℕ, List, [], ◌∷◌, ◌++◌, map, flat_map}
use Rattle.rc_core.specs.declared.ty.Note.{Note}
use Rattle.rc_core.specs.declared.ty.Note.TheVariants.{Plain, SameRegion, ParentPtr, Traditional}
use Rattle.rc_core.specs.Types.{Ty, int, unsigned, char, region, struct, pointer}
use Rattle.rc_rlang.specs.declared.order.Order.TheVariants.{Points}
use Rattle.rc_rlang.specs.RegionCode.{Routine, Rlang}
use Rattle.rc_rlang.specs.Sites.{Site, code_sites}
use Rattle.rc_emission.specs.StackCode.{Instruction, Line}
use Rattle.rc_emission.specs.StackCode as To
use Rattle.rc_numbering.specs.Names.{stack_of}

pub record Store : Type 0 where
  pub line : ℕ
  pub note : Note

abbrev pub note_on : Ty → Note
note_on int = Plain
note_on unsigned = Plain
note_on char = Plain
note_on region = Plain
note_on (struct k) = Plain
note_on (pointer note target) = note

-- a store to a cell with this annotation
abbrev pub annotated : Note → (line : ℕ) → List Store
annotated Plain line = []
annotated SameRegion line = record { line = line; note = SameRegion } ∷ []
annotated ParentPtr line = record { line = line; note = ParentPtr } ∷ []
annotated Traditional line = record { line = line; note = Traditional } ∷ []

-- a site as a store
abbrev pub store_of : Site → Store
store_of s = record { line = s.line; note = s.note }

abbrev pub stores : Rlang → List Store
stores r = flat_map (λ (f : Routine). map store_of (code_sites Points f.body 1)) r.functions

-- ---- of stack code

abbrev pub written_one : (line : ℕ) → Instruction → List Store
written_one line (To.store a) = annotated (note_on a.cell) line
written_one line i = []

abbrev pub written : List Line → List Store
written [] = []
written (l ∷ lines) = written_one l.line l.instruction ++ written lines

-- the stores that are written for each function's code are those of the code
abbrev pub WritesItsStores : Rlang → Type 0
WritesItsStores r = flat_map (λ (f : Routine). written (stack_of r f).code) r.functions ≡ stores r
