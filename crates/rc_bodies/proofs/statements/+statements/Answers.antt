use Rattle.std.proofs.Common.{◌≡◌, ap, sym, ◌∙◌, subst, IfOk, IfErr, OnOk}
use Rattle.rc_core.specs.Shapes.{stmt_of}
use Rattle.rc_syntax.specs.Shape as written
use Rattle.rc_syntax.specs.Tree as tree
use Rattle.rc_syntax.proofs.Rows.{block_is}
use Rattle.rc_deletes.specs.Judged.{Holds}
use Rattle.rc_deletes.specs.Statements.{outside, behind_stmts, behind_stmt, stmt}
use Rattle.rc_typed_values.specs.Stops.{StopsAt}
use Rattle.rc_bodies.specs.Enclosing.{context_at, gives_at}
use Rattle.rc_bodies.specs.declared.enclosing.Enclosing.{Enclosing}
use Rattle.rc_bodies.specs.Here.{here_of}
use Rattle.rc_bodies.proofs.Blocks.{block_own, for_own, for_end}
use Rattle.rc_defined.proofs.Lists.{on_any}
use Rattle.rc_bodies.proofs.statements.+statements.Goals as goal

pub type_block-returns-clause-behind : goal.type_block-returns-clause-behind
type_block-returns-clause-behind t c =
    let context = context_at c.args.enclosing.now in
    let own = block_own context (here_of c.args.here.now) (here_of c.enter.new.self) (here_of c.stmts.new.here) (written.stmts_of c.args.body.now) c.in_ok-enter.ensures.ok c.in_ok-steps.ensures.behind in
    on_any c.block.result
    (c.leave.ensures c.args.here.now c.outer-outer.ensures own.0 own.1
    ∙ ap (outside (here_of c.args.here.now)) (c.in_ok-steps.ensures.behind ∙ ap (λ h. behind_stmts context h (written.stmts_of c.args.body.now)) c.in_ok-enter.ensures.ok))

pub type_for-returns-clause-behind : goal.type_for-returns-clause-behind
type_for-returns-clause-behind t c =
    let context = context_at c.args.enclosing.now in
    let start = written.start_of c.args.start.now in
    let test = written.mapped written.expr_of c.args.c.now in
    let next = written.mapped written.simple_of c.args.next.now in
    let a = written.stmt_of c.args.a.now in
    let walked = c.in_ok-body.ensures.behind ∙ ap (λ (e : Enclosing). behind_stmt (context_at e) (here_of c.own_simple_option.new.here) a) c.in_loop.ensures in
    let own = for_own context (here_of c.args.here.now) (here_of c.enter.new.self) (here_of c.for_start.new.here) (here_of c.own_condition_option.new.here) (here_of c.own_simple_option.new.here) (here_of c.stmt.new.here) start test next a
    c.in_ok-enter.ensures.ok c.in_ok-begin.ensures.behind c.in_ok-test.ensures.behind c.in_ok-third.ensures.behind walked in
    on_any c.for_loop.result
    (c.leave.ensures c.args.here.now c.outer-outer.ensures own.0 own.1
    ∙ for_end context (here_of c.args.here.now) (here_of c.enter.new.self) (here_of c.for_start.new.here) (here_of c.own_condition_option.new.here) (here_of c.own_simple_option.new.here) (here_of c.stmt.new.here) start test next a
    c.in_ok-enter.ensures.ok c.in_ok-begin.ensures.behind c.in_ok-test.ensures.behind c.in_ok-third.ensures.behind walked)

pub stmt-returns-in-Block-clause-ok : goal.stmt-returns-in-Block-clause-ok
stmt-returns-in-Block-clause-ok t c =
    let e = block_is c.args.s.now c.in-Block.field-0 c.in-Block.body c.in-Block.is ∙ ap (λ xs. tree.block c.in-Block.field-0 (written.stmts_of xs)) (sym c.deref.ensures.value) in
    subst (λ (x : tree.Stmt). IfOk c.type_block.result (λ r. stmt (context_at c.args.enclosing.now) (gives_at c.args.enclosing.now) c.args.enclosing.now.looping (here_of c.args.here.now) x ≡ Holds (stmt_of r.value))) (sym e) c.type_block.ensures.ok

pub stmt-returns-in-Block-clause-behind : goal.stmt-returns-in-Block-clause-behind
stmt-returns-in-Block-clause-behind t c =
    let e = block_is c.args.s.now c.in-Block.field-0 c.in-Block.body c.in-Block.is ∙ ap (λ xs. tree.block c.in-Block.field-0 (written.stmts_of xs)) (sym c.deref.ensures.value) in
    subst (λ (x : tree.Stmt). OnOk c.type_block.result (here_of c.type_block.new.here ≡ behind_stmt (context_at c.args.enclosing.now) (here_of c.args.here.now) x)) (sym e) c.type_block.ensures.behind

pub stmt-returns-in-Block-clause-err : goal.stmt-returns-in-Block-clause-err
stmt-returns-in-Block-clause-err t c =
    let e = block_is c.args.s.now c.in-Block.field-0 c.in-Block.body c.in-Block.is ∙ ap (λ xs. tree.block c.in-Block.field-0 (written.stmts_of xs)) (sym c.deref.ensures.value) in
    subst (λ (x : tree.Stmt). IfErr c.type_block.result (StopsAt (stmt (context_at c.args.enclosing.now) (gives_at c.args.enclosing.now) c.args.enclosing.now.looping (here_of c.args.here.now) x))) (sym e) c.type_block.ensures.err

pub stmt-returns-in-Do-clause-ok : goal.stmt-returns-in-Do-clause-ok
stmt-returns-in-Do-clause-ok t c =
    let e = ap written.stmt_of c.in-Do.is ∙ ap (λ x. tree.do_while c.in-Do.at (written.stmt_of x) (written.expr_of c.in-Do.c)) (sym c.deref-in-Do.ensures) in
    subst (λ (x : tree.Stmt). IfOk c.type_do.result (λ r. stmt (context_at c.args.enclosing.now) (gives_at c.args.enclosing.now) c.args.enclosing.now.looping (here_of c.args.here.now) x ≡ Holds (stmt_of r.value))) (sym e) c.type_do.ensures.ok
