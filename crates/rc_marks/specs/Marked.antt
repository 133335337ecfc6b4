-- The image of region code with marks. The stores to annotated cells are numbered from 0 in the order of the code, an image's through its
-- functions, one after another; a store has the mark just where the mask says so at its number. Everything else is as without marks.
use Rattle.std.specs.Prelude.{◌≡◌, ℕ, suc, ◌+◌, Bool, false, List, [], ◌∷◌, ◌++◌, length, flat_map}
use Rattle.rc_core.specs.declared.ty.Note.{Note}
use Rattle.rc_core.specs.declared.ty.Note.TheVariants.{Plain, SameRegion, ParentPtr, Traditional}
use Rattle.rc_core.specs.Types.{Ty}
use Rattle.rc_core.specs.Layout.{note_of}
use Rattle.rc_rlang.specs.RegionCode.{Access, Routine, Rlang}
use Rattle.rc_emission.specs.StackCode.{Line}
use Rattle.rc_emission.specs.StackCode as From
use Rattle.rc_code.specs.declared.instruction.Instruction.{Instruction}
use Rattle.rc_code.specs.declared.instruction.Instruction.TheVariants as instruction
use Rattle.rc_code.specs.declared.image.Function.{Function}
use Rattle.rc_code.specs.declared.image.Parts.{Parts}
use Rattle.rc_code.specs.Running.{Reading, reading_of, path_at, cell_at}
use Rattle.rc_numbering.specs.Names.{stack_of}
use Rattle.rc_numbering.specs.Numbered.{numbered, function_of, type_in, path_in, image_of}
use Rattle.rc_marks.specs.Stores.{Store, note_on, written_one, written, stores}

abbrev pub mark_by : (mask : ℕ → Bool) → (number : ℕ) → Note → Bool
mark_by mask n Plain = false
mark_by mask n SameRegion = mask n
mark_by mask n ParentPtr = mask n
mark_by mask n Traditional = mask n

module _ (type_number : Ty → ℕ) (path_number : Access → ℕ) (mask : ℕ → Bool) where
  -- an instruction, with as many stores to annotated cells before it
  abbrev pub marked_one : (before at : ℕ) → From.Instruction → Instruction
  marked_one n at (From.store a) = instruction.Store (path_number a) (mark_by mask n (note_on a.cell))
  marked_one n at i = numbered type_number path_number at i

  abbrev pub marked_from : (before at : ℕ) → List Line → List Instruction
  marked_from n at [] = []
  marked_from n at (l ∷ lines) = marked_one n at l.instruction ∷ marked_from (n + length (written_one l.line l.instruction)) (suc at) lines

abbrev pub marked_functions : (mask : ℕ → Bool) → Rlang → (before : ℕ) → List Routine → List Function
marked_functions mask r n [] = []
marked_functions mask r n (f ∷ fs) =
    record (function_of (type_in r) (path_in r) (stack_of r f) f) { code = marked_from (type_in r) (path_in r) mask n 0 (stack_of r f).code }
    ∷ marked_functions mask r (n + length (written (stack_of r f).code)) fs

abbrev pub marked_image : (mask : ℕ → Bool) → Rlang → Parts
marked_image mask r = record (image_of r) { functions = marked_functions mask r 0 r.functions }

-- ---- the stores of an image to annotated cells, in order

pub record Stored : Type 0 where
  pub line : ℕ
  pub note : Note
  pub proved : Bool

abbrev pub stored_with : Note → (line : ℕ) → (proved : Bool) → List Stored
stored_with Plain line proved = []
stored_with SameRegion line proved = record { line = line; note = SameRegion; proved = proved } ∷ []
stored_with ParentPtr line proved = record { line = line; note = ParentPtr; proved = proved } ∷ []
stored_with Traditional line proved = record { line = line; note = Traditional; proved = proved } ∷ []

abbrev pub stored_one : Reading → (line : ℕ) → Instruction → List Stored
stored_one code line (instruction.Store path proved) = stored_with (note_of (cell_at code (path_at code path))) line proved
stored_one code line i = []

-- each instruction with its line
abbrev pub stored_by : Reading → List Instruction → (lines : List ℕ) → List Stored
stored_by code [] lines = []
stored_by code (i ∷ is) [] = []
stored_by code (i ∷ is) (line ∷ lines) = stored_one code line i ++ stored_by code is lines

abbrev pub image_stores : Parts → List Stored
image_stores parts = flat_map (λ (f : Function). stored_by (reading_of parts) f.code f.lines) parts.functions

-- the stores of the code, each with the bit at its number
abbrev pub with_bits : (mask : ℕ → Bool) → (number : ℕ) → List Store → List Stored
with_bits mask n [] = []
with_bits mask n (s ∷ ss) = record { line = s.line; note = s.note; proved = mask n } ∷ with_bits mask (suc n) ss

-- so for each line, annotation and bit there are as many of the image as of the code
abbrev pub HasItsMarks : (mask : ℕ → Bool) → Rlang → Type 0
HasItsMarks mask r = image_stores (marked_image mask r) ≡ with_bits mask 0 (stores r)
