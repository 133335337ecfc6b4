-- Stack code of labelled region code, with its labels read: the line of each instruction, and the marks of the stores to annotated cells,
-- in order.
use Rattle.std.specs.Prelude.{ℕ, Bool, List, [], ◌∷◌, ◌++◌, map}
use Rattle.rc_emission.specs.StackCode.{Instruction, Line, store}
use Rattle.rc_labels.specs.Labels.{Numbering, mark_at, line_in}
use Rattle.rc_marks.specs.Stores.{Store, written_one}

-- with the line that its label tells
abbrev pub told : Numbering → Line → Line
told n l = record { line = line_in n l.line; instruction = l.instruction }

-- which cell of its element an instruction stores to
abbrev pub offset_stored : Instruction → ℕ
offset_stored (store a) = a.offset
offset_stored i = 0

-- of a store to an annotated cell, and of no other instruction
abbrev pub marks_of_one : Numbering → Line → List Bool
marks_of_one n l = map (λ (s : Store). mark_at (n.label l.line) (offset_stored l.instruction)) (written_one (line_in n l.line) l.instruction)

abbrev pub marks_told : Numbering → List Line → List Bool
marks_told n [] = []
marks_told n (l ∷ lines) = marks_of_one n l ++ marks_told n lines
