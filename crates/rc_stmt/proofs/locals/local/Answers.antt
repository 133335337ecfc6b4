use Rattle.std.proofs.Common.{Option, ap, ◌∙◌}
use Rattle.rc_syntax.specs.Tree as t
use Rattle.rc_syntax.specs.Grammar as g
use Rattle.rc_syntax.specs.Shape.{expr_of, mapped}
use Rattle.rc_stmt.specs.declared.locals.LocalDeclarator.{LocalDeclarator}
use Rattle.rc_stmt.proofs.Values.{expr_given}
use Rattle.rc_stmt.proofs.locals.local.Goals as goal

abbrev given : LocalDeclarator → Option t.Expr → g.LocalDeclarator
given d e = record { spot = d.spot; stars = d.stars.items; name = d.name; initial = e }

pub returns-clause-ok : goal.returns-clause-ok
returns-clause-ok c =
    let d = c.args.declarator in
    ap (λ b. g.local b (given d (mapped expr_of c.unboxed.result))) c.in_ok-base.ensures.ok
    ∙ ap (λ e. g.local c.args.base.now (given d e)) (expr_given d.initial c.unboxed.result c.unboxed.ensures)
