use Rattle.std.proofs.Common.{◌≡◌, ◌++◌, take, drop}
use Rattle.rc_marking.specs.Marking.{marked_functions, note_at}
use Rattle.rc_marking.proofs.marking.mark_functions.Given as goal

abbrev pub invariant-loop-number : goal.invariant-loop-number
invariant-loop-number l =
    (take l.number l.functions ++ marked_functions (note_at l.parts) l.rest (drop l.number l.functions) ≡ marked_functions (note_at l.parts) l.bits l.fn.functions)
