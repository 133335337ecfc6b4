use Rattle.std.proofs.Common.{drop}
use Rattle.rc_syntax.specs.Shape.{stmts_of}
use Rattle.rc_deletes.specs.Ranges.{StmtsInRange}
use Rattle.rc_typing.proofs.bounds.+statements.Given as goal

abbrev pub invariant-statements-loop-s : goal.invariant-statements-loop-s
invariant-statements-loop-s l = record { rest : StmtsInRange (stmts_of (drop l.s-index l.body)) → StmtsInRange (stmts_of l.body) }
