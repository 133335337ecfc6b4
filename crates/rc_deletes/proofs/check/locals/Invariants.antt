use Rattle.std.proofs.Common.{◌≡◌, drop, map}
use Rattle.rc_syntax.specs.Shape as tree
use Rattle.rc_core.specs.Shapes as program
use Rattle.rc_deletes.specs.First.{clear}
use Rattle.rc_deletes.specs.Places as rule
use Rattle.rc_deletes.proofs.check.locals.Given as goal

abbrev pub invariant-loop-i : goal.invariant-loop-i
invariant-loop-i l = clear (rule.locals (map program.function_of l.functions) l.deletes (map tree.local_of l.locals) (program.stmts_of l.steps)) ≡ clear (rule.locals (map program.function_of l.functions) l.deletes (map tree.local_of (drop l.i l.locals)) (program.stmts_of (drop l.i l.steps)))
