use Rattle.std.proofs.Common.{◌≡◌, ◌++◌, drop}
use Rattle.rc_deleters.specs.Calls.{as_numbered, code_stops}
use Rattle.rc_deleters.proofs.blocks.put_code.Given as goal

abbrev pub invariant-loop-at : goal.invariant-loop-at
invariant-loop-at l = l.out.items ++ code_stops as_numbered (drop l.at l.code) ≡ l.fn.out.items ++ code_stops as_numbered l.code
