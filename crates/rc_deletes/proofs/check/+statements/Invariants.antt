use Rattle.std.proofs.Common.{◌≡◌, drop, map}
use Rattle.rc_syntax.specs.Shape as tree
use Rattle.rc_core.specs.Shapes as program
use Rattle.rc_deletes.specs.First.{clear}
use Rattle.rc_deletes.specs.Places as rule
use Rattle.rc_deletes.proofs.check.+statements.Given as goal

abbrev pub invariant-statements-loop-i : goal.invariant-statements-loop-i
invariant-statements-loop-i l = clear (rule.stmts (map program.function_of l.functions) l.deletes (tree.stmts_of l.body) (program.stmts_of l.steps)) ≡ clear (rule.stmts (map program.function_of l.functions) l.deletes (tree.stmts_of (drop l.i l.body)) (program.stmts_of (drop l.i l.steps)))
