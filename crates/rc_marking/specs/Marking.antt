-- An image with marks. Its stores to annotated cells take the bits of a list one after another, function after function, each as its mark;
-- where no bit is left they have none. A store to any other cell stays as it is, and so does everything else.
use Rattle.std.specs.Prelude.{ℕ, Bool, false, List, [], ◌∷◌, get_or, drop}
use Rattle.rc_core.specs.declared.ty.Note.{Note}
use Rattle.rc_core.specs.declared.ty.Note.TheVariants.{Plain, SameRegion, ParentPtr, Traditional}
use Rattle.rc_core.specs.Layout.{note_of}
use Rattle.rc_code.specs.declared.instruction.Instruction.{Instruction}
use Rattle.rc_code.specs.declared.instruction.Instruction.TheVariants as instruction
use Rattle.rc_code.specs.declared.image.Function.{Function}
use Rattle.rc_code.specs.declared.image.Parts.{Parts}
use Rattle.rc_code.specs.Running.{reading_of, path_at, cell_at}

-- the annotation of the cell to which a path leads
abbrev pub note_at : Parts → (path : ℕ) → Note
note_at parts path = note_of (cell_at (reading_of parts) (path_at (reading_of parts) path))

-- the mark of a store to a cell with this annotation, where it had this one
abbrev pub mark_by : Note → (bits : List Bool) → (proved : Bool) → Bool
mark_by Plain bits proved = proved
mark_by SameRegion bits proved = get_or bits 0 false
mark_by ParentPtr bits proved = get_or bits 0 false
mark_by Traditional bits proved = get_or bits 0 false

-- the bits that it leaves
abbrev pub left_by : Note → (bits : List Bool) → List Bool
left_by Plain bits = bits
left_by SameRegion bits = drop 1 bits
left_by ParentPtr bits = drop 1 bits
left_by Traditional bits = drop 1 bits

module _ (note : (path : ℕ) → Note) where
  abbrev pub marked_one : (bits : List Bool) → Instruction → Instruction
  marked_one bits (instruction.Store path proved) = instruction.Store path (mark_by (note path) bits proved)
  marked_one bits i = i

  abbrev pub left_by_one : (bits : List Bool) → Instruction → List Bool
  left_by_one bits (instruction.Store path proved) = left_by (note path) bits
  left_by_one bits i = bits

  abbrev pub marked_code : (bits : List Bool) → List Instruction → List Instruction
  marked_code bits [] = []
  marked_code bits (i ∷ code) = marked_one bits i ∷ marked_code (left_by_one bits i) code

  abbrev pub left_by_code : (bits : List Bool) → List Instruction → List Bool
  left_by_code bits [] = bits
  left_by_code bits (i ∷ code) = left_by_code (left_by_one bits i) code

  abbrev pub marked_function : (bits : List Bool) → Function → Function
  marked_function bits f = record f { code = marked_code bits f.code }

  abbrev pub marked_functions : (bits : List Bool) → List Function → List Function
  marked_functions bits [] = []
  marked_functions bits (f ∷ fs) = marked_function bits f ∷ marked_functions (left_by_code bits f.code) fs

  abbrev pub left_by_functions : (bits : List Bool) → List Function → List Bool
  left_by_functions bits [] = bits
  left_by_functions bits (f ∷ fs) = left_by_functions (left_by_code bits f.code) fs

abbrev pub with_marks : (bits : List Bool) → Parts → Parts
with_marks bits parts = record parts { functions = marked_functions (note_at parts) bits parts.functions }
