use Rattle.std.proofs.Common.{◌≡◌, ◌++◌, length}
use Rattle.rc_lines.specs.Bare.{lines_of}
use Rattle.rc_program_code.specs.Onward.{onward}
use Rattle.rc_program_code.proofs.fronts.put_piece.Given as goal

abbrev pub invariant-loop-line : goal.invariant-loop-line
invariant-loop-line l = lines_of l.piece.items ++ onward l.out.items ≡ lines_of l.fn.piece.items ++ onward l.fn.out.items

abbrev pub decreases-loop-line : goal.decreases-loop-line
decreases-loop-line l = length l.piece.items
