-- What the parts of trees that the code reads are, as the grammar speaks of them.
use Rattle.std.specs.declared.boxed.Box.{Box}
use Rattle.std.specs.declared.alloc.Global.{Global}
use Rattle.rc_syntax.specs.declared.tree.Simple.{Simple}
use Rattle.rc_syntax.specs.declared.tree.ForStart.{ForStart}
use Rattle.rc_syntax.specs.declared.tree.Stmt.{Stmt}
use Rattle.rc_syntax.specs.Shape.{simple_of, start_of, stmt_of, mapped}
use Rattle.rc_syntax.specs.Tree as t
use Rattle.rc_syntax.specs.Grammar as g
use Rattle.rc_expr.specs.Goes.{boxed_of}
use Rattle.rc_stmt.specs.declared.locals.LocalDeclarator.{LocalDeclarator}

-- what lies in memory of its own
abbrev pub boxed_simple : Box Simple Global → t.Simple
boxed_simple b = simple_of b.value

abbrev pub boxed_start : Box ForStart Global → t.ForStart
boxed_start b = start_of b.value

abbrev pub boxed_stmt : Box Stmt Global → t.Stmt
boxed_stmt b = stmt_of b.value

abbrev pub local_declarator_of : LocalDeclarator → g.LocalDeclarator
local_declarator_of d = record { spot = d.spot; stars = d.stars.items; name = d.name; initial = mapped boxed_of d.initial }
