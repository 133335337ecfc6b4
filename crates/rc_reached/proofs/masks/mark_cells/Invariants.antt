use Rattle.rc_reached.specs.Masks.{IsMask}
use Rattle.rc_reached.proofs.masks.mark_cells.Given as goal

abbrev pub invariant-loop-place : goal.invariant-loop-place
invariant-loop-place l = IsMask l.cell l.cells l.words
