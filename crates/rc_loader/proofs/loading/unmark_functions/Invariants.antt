use Rattle.std.proofs.Common.{◌≡◌, ◌++◌, map, take, drop}
use Rattle.rc_loader.specs.Unmarked.{unmarked_function}
use Rattle.rc_loader.proofs.loading.unmark_functions.Given as goal

abbrev pub invariant-loop-number : goal.invariant-loop-number
invariant-loop-number l = l.functions ≡ map unmarked_function (take l.number l.fn.functions) ++ drop l.number l.fn.functions
