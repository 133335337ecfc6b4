use Rattle.std.proofs.Common.{◌≡◌, ◌++◌, take, drop}
use Rattle.rc_marking.specs.Marking.{left_by_code, marked_code, note_at}
use Rattle.rc_marking.proofs.marking.mark_code.Given as goal

abbrev pub invariant-loop-at : goal.invariant-loop-at
invariant-loop-at l =
    (take l.at l.code ++ marked_code (note_at l.parts) l.rest (drop l.at l.code) ≡ marked_code (note_at l.parts) l.bits l.fn.code)
    × (left_by_code (note_at l.parts) l.rest (drop l.at l.code) ≡ left_by_code (note_at l.parts) l.bits l.fn.code)
