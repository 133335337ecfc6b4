use Rattle.std.proofs.Common.{◌≡◌, ◌++◌, map, take, drop}
use Rattle.rc_seal.specs.Marking.{bits_of, marked_functions}
use Rattle.rc_seal.proofs.marking.mark_functions.Given as goal

abbrev pub invariant-loop-number : goal.invariant-loop-number
invariant-loop-number l = l.functions ≡ marked_functions (map bits_of l.marks) (take l.number l.fn.functions) ++ drop l.number l.fn.functions
