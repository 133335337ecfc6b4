use Rattle.std.proofs.Common.{◌≡◌, map}
use Rattle.rc_syntax.specs.Grammar.{joined, stmts_of}
use Rattle.rc_syntax.specs.Shape.{local_of, stmts_of as all_of}
use Rattle.rc_stmt.proofs.blocks.with_locals.Given as goal

abbrev pub invariant-loop-local : goal.invariant-loop-local
invariant-loop-local l = all_of l.statements.items ≡ joined (all_of l.fn.before.items) (stmts_of (map local_of l.yielded))
