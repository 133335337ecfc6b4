use Rattle.rc_lines.proofs.Copies.{Copying}
use Rattle.rc_lines.proofs.acts.copy_cells.Given as goal

abbrev pub invariant-loop-further : goal.invariant-loop-further
invariant-loop-further l = Copying l.body l.line l.places.left.now l.places.right.now l.places.left_operands.now l.places.right_operands.now l.fn.out.items l.count l.out.items l.further
