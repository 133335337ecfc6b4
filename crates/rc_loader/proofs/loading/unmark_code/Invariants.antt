use Rattle.std.proofs.Common.{◌≡◌, ◌++◌, map, take, drop}
use Rattle.rc_loader.specs.Unmarked.{unmarked_instruction}
use Rattle.rc_loader.proofs.loading.unmark_code.Given as goal

abbrev pub invariant-loop-at : goal.invariant-loop-at
invariant-loop-at l = l.code ≡ map unmarked_instruction (take l.at l.fn.code) ++ drop l.at l.fn.code
