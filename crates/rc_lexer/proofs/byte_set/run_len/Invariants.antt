use Rattle.std.proofs.Common.{◌≡◌, ◌+◌, drop}
use Rattle.std.specs.List.{prefix_len}
use Rattle.rc_lexer.specs.Shapes.{passes}
use Rattle.rc_lexer.proofs.byte_set.run_len.Given as goal

abbrev pub invariant-loop-i : goal.invariant-loop-i
invariant-loop-i l = prefix_len (passes l.set) l.bytes ≡ l.i + prefix_len (passes l.set) (drop l.i l.bytes)
