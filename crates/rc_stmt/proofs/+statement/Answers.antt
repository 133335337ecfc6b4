use Rattle.std.proofs.Common.{◌≤◌, ◌+◌, Some, refl, sym, ap, ◌∙◌, arith}
use Rattle.rc_syntax.specs.declared.word.Key.TheVariants.{If, While, Do, For}
use Rattle.rc_syntax.specs.declared.word.Key.TheVariants as y
use Rattle.rc_syntax.specs.declared.word.Mark.TheVariants as m
use Rattle.rc_syntax.specs.declared.tree.Spot.{Spot}
use Rattle.rc_syntax.specs.Tokens.{mark, key}
use Rattle.rc_syntax.specs.Tree as t
use Rattle.rc_syntax.specs.Grammar.{TreeOf, Stmt, Block, Body, ForStart, ExprEnd, SimpleEnd, joined}
use Rattle.rc_syntax.specs.reader.Todo.{Todo, build, read, sees, enter, only, when}
use Rattle.rc_syntax.specs.reader.Reading as r
use Rattle.rc_syntax.specs.reader.Reading.{is_open, is_else}
use Rattle.rc_syntax.specs.Shape.{mapped, stmts_of as all_of}
use Rattle.rc_stmt.specs.Shapes.{boxed_simple, boxed_start, boxed_stmt}
use Rattle.rc_expr.specs.Goes.{boxed_of}
use Rattle.rc_syntax.specs.reader.Steps.{run}
use Rattle.rc_syntax.proofs.Rows.{block_is}
use Rattle.rc_words.specs.Words.{from, spot_of}
use Rattle.rc_expr.specs.Goes.{amid, inside}
use Rattle.rc_words.proofs.Standing.{word_stands}
use Rattle.rc_expr.proofs.Running.{opens}
use Rattle.rc_expr.proofs.Tests.{open_else}
use Rattle.rc_stmt.specs.Along.{for_rest, behind_body}
use Rattle.rc_stmt.proofs.Going.{fails, fails_first, fails_start, flat, first_word, first_refused, word, no_word, word_refused, part, part_refused, ends_plain}
use Rattle.rc_stmt.proofs.Tests.{else_else, open_brace_else}
use Rattle.rc_stmt.proofs.Stated.{first_part_at, first_part_refused_at, nested_in, too_deep_at, condition_part, condition_refused, stmt_block, grows, grows_not, grows_fails, body_stmt, body_refused, body_read}
use Rattle.rc_stmt.proofs.+statement.Goals as goal

-- A block that is a statement.
abbrev block_given : Spot → t.Stmts → Todo Stmt
block_given sp b = build (t.block sp b)

pub blocks::block_statement-returns-in_err-body-clause-reads : goal.blocks::block_statement-returns-in_err-body-clause-reads
blocks::block_statement-returns-in_err-body-clause-reads n c =
    let ts = c.args.tokens.now in
    let at = c.args.at in
    fails_start c.from_residual.ensures.1
    (first_part_refused_at Block block_given (λ v. all_of v.items) _ (stmt_block ts at (word_stands ts at (mark m.OpenBrace) c.requires.here)) c.in_err-body.ensures.reads)

pub blocks::block_statement-returns-clause-reads : goal.blocks::block_statement-returns-clause-reads
blocks::block_statement-returns-clause-reads n c =
    let ts = c.args.tokens.now in
    let at = c.args.at in
    let sp = spot_of ts at in
    let body = c.in_ok-body.body in
    let end = c.in_ok-body.end in
    let past = c.in_ok-body.ensures.place in
    let le : at ≤ end = omega (arith, past) in
    first_part_at Block end block_given (λ v. all_of v.items) body (stmt_block ts at (word_stands ts at (mark m.OpenBrace) c.requires.here)) c.in_ok-body.ensures.reads
    (ends_plain end _ (t.block sp (all_of body.items)) (ap (λ s. t.block s (all_of body.items)) (sym c.spot_at.ensures) ∙ sym (block_is c.in_ok-whole.whole.value c.spot_at.result body c.in_ok-whole.ensures.ok)) le (λ p. refl))

-- If.
abbrev if_given : Spot → t.Expr → Todo Stmt
if_given sp e = enter Stmt (r.if_done sp e)

pub branches::if_statement-returns-in_err-test-clause-reads : goal.branches::if_statement-returns-in_err-test-clause-reads
branches::if_statement-returns-in_err-test-clause-reads n c =
    let at = c.args.at in
    let sp = spot_of c.args.tokens.now at in
    fails_start c.from_residual.ensures.1
    (first_word (at + 1) (key If) (r.tested (r.if_done sp)) c.requires.shallow c.requires.here refl refl refl
    (condition_refused (if_given sp) (λ e. refl) _ c.in_err-test.ensures.reads))

pub branches::if_statement-returns-in_err-then-clause-reads : goal.branches::if_statement-returns-in_err-then-clause-reads
branches::if_statement-returns-in_err-then-clause-reads n c =
    let at = c.args.at in
    let sp = spot_of c.args.tokens.now at in
    let test = c.in_ok-test.test in
    let place = c.in_ok-test.place in
    let past = c.in_ok-test.ensures.place in
    let le : at ≤ place = omega (arith, past) in
    fails_start c.from_residual-in_err-then.ensures.1
    (first_word (at + 1) (key If) (r.tested (r.if_done sp)) c.requires.shallow c.requires.here refl refl refl
    (condition_part (if_given sp) (λ e. refl) place test c.in_ok-test.ensures.reads
    (part_refused Stmt place (r.if_done sp (boxed_of test)) boxed_stmt _ c.in_err-then.ensures.reads le)))

pub branches::if_statement-returns-clause-reads : goal.branches::if_statement-returns-clause-reads
branches::if_statement-returns-clause-reads n c =
    let at = c.args.at in
    let sp = spot_of c.args.tokens.now at in
    let test = c.in_ok-test.test in
    let place = c.in_ok-test.place in
    let then' = c.in_ok-then.then in
    let behind = c.in_ok-then.behind in
    let past = c.in_ok-test.ensures.place in
    let le : at ≤ place = omega (arith, past) in
    first_word (at + 1) (key If) (r.tested (r.if_done sp)) c.requires.shallow c.requires.here refl refl refl
    (condition_part (if_given sp) (λ e. refl) place test c.in_ok-test.ensures.reads
    (part Stmt place behind (r.if_done sp (boxed_of test)) boxed_stmt then' c.in_ok-then.ensures.reads le
    c.if_done.ensures.reads))

-- Else.
abbrev else_given : Spot → t.Expr → t.Stmt → t.Stmt → Todo Stmt
else_given sp e a b = build (t.if_else sp e a b)

pub branches::if_done-returns-then-not-is_key-clause-reads : goal.branches::if_done-returns-then-not-is_key-clause-reads
branches::if_done-returns-then-not-is_key-clause-reads n c =
    let sp = spot_of c.args.tokens.now c.args.at in
    let test = boxed_of c.args.test in
    let then' = boxed_stmt c.args.then in
    let place = c.args.place in
    let past = c.requires.behind in
    let le : c.args.at ≤ place = omega (arith, past) in
    no_word place is_else (enter Stmt (else_given sp test then')) (build (t.if_then sp test then')) (key y.Else) (c.if-not-is_key.ensures.no refl) else_else
    (ends_plain place _ (t.if_then sp test then') (ap (λ s. t.if_then s test then') (sym c.spot_at.ensures) ∙ sym c.in_ok-whole.ensures.ok) le (λ p. refl))

pub branches::if_done-returns-in_err-other-clause-reads : goal.branches::if_done-returns-in_err-other-clause-reads
branches::if_done-returns-in_err-other-clause-reads n c =
    let sp = spot_of c.args.tokens.now c.args.at in
    let test = boxed_of c.args.test in
    let then' = boxed_stmt c.args.then in
    let place = c.args.place in
    let past = c.requires.behind in
    let le : c.args.at ≤ place = omega (arith, past) in
    let le2 : c.args.at ≤ place + 1 = omega (arith, past) in
    fails c.from_residual-in_err-other.ensures.1
    (word place (place + 1) is_else (enter Stmt (else_given sp test then')) (build (t.if_then sp test then')) (key y.Else) c.requires.shallow le (c.if-not-is_key.ensures.yes refl, refl) refl refl
    (part_refused Stmt (place + 1) (else_given sp test then') boxed_stmt _ c.in_err-other.ensures.reads le2))

pub branches::if_done-returns-clause-reads : goal.branches::if_done-returns-clause-reads
branches::if_done-returns-clause-reads n c =
    let sp = spot_of c.args.tokens.now c.args.at in
    let test = boxed_of c.args.test in
    let then' = boxed_stmt c.args.then in
    let place = c.args.place in
    let other = c.in_ok-other.other in
    let end = c.in_ok-other.end in
    let past = c.requires.behind in
    let past2 = c.in_ok-other.ensures.place in
    let le : c.args.at ≤ place = omega (arith, past) in
    let le2 : c.args.at ≤ place + 1 = omega (arith, past) in
    let le3 : c.args.at ≤ end = omega (arith, past, past2) in
    word place (place + 1) is_else (enter Stmt (else_given sp test then')) (build (t.if_then sp test then')) (key y.Else) c.requires.shallow le (c.if-not-is_key.ensures.yes refl, refl) refl refl
    (part Stmt (place + 1) end (else_given sp test then') boxed_stmt other c.in_ok-other.ensures.reads le2
    (ends_plain end _ (t.if_else sp test then' (boxed_stmt other)) (ap (λ s. t.if_else s test then' (boxed_stmt other)) (sym c.spot_at-2.ensures) ∙ sym c.in_ok-whole-2.ensures.ok) le3 (λ p. refl)))

-- While.
abbrev while_given : Spot → t.Expr → t.Stmt → Todo Stmt
while_given sp e a = build (t.while_do sp e a)

abbrev while_test : Spot → t.Expr → Todo Stmt
while_test sp e = enter Stmt (while_given sp e)

pub loops::while_statement-returns-in_err-test-clause-reads : goal.loops::while_statement-returns-in_err-test-clause-reads
loops::while_statement-returns-in_err-test-clause-reads n c =
    let at = c.args.at in
    let sp = spot_of c.args.tokens.now at in
    fails_start c.from_residual.ensures.1
    (first_word (at + 1) (key While) (r.tested (while_given sp)) c.requires.shallow c.requires.here refl refl refl
    (condition_refused (while_test sp) (λ e. refl) _ c.in_err-test.ensures.reads))

pub loops::while_statement-returns-in_err-body-clause-reads : goal.loops::while_statement-returns-in_err-body-clause-reads
loops::while_statement-returns-in_err-body-clause-reads n c =
    let at = c.args.at in
    let sp = spot_of c.args.tokens.now at in
    let test = c.in_ok-test.test in
    let place = c.in_ok-test.place in
    let past = c.in_ok-test.ensures.place in
    let le : at ≤ place = omega (arith, past) in
    fails_start c.from_residual-in_err-body.ensures.1
    (first_word (at + 1) (key While) (r.tested (while_given sp)) c.requires.shallow c.requires.here refl refl refl
    (condition_part (while_test sp) (λ e. refl) place test c.in_ok-test.ensures.reads
    (part_refused Stmt place (while_given sp (boxed_of test)) boxed_stmt _ c.in_err-body.ensures.reads le)))

pub loops::while_statement-returns-clause-reads : goal.loops::while_statement-returns-clause-reads
loops::while_statement-returns-clause-reads n c =
    let at = c.args.at in
    let sp = spot_of c.args.tokens.now at in
    let test = c.in_ok-test.test in
    let place = c.in_ok-test.place in
    let body = c.in_ok-body.body in
    let end = c.in_ok-body.end in
    let past = c.in_ok-test.ensures.place in
    let past2 = c.in_ok-body.ensures.place in
    let le : at ≤ place = omega (arith, past) in
    let le2 : at ≤ end = omega (arith, past, past2) in
    first_word (at + 1) (key While) (r.tested (while_given sp)) c.requires.shallow c.requires.here refl refl refl
    (condition_part (while_test sp) (λ e. refl) place test c.in_ok-test.ensures.reads
    (part Stmt place end (while_given sp (boxed_of test)) boxed_stmt body c.in_ok-body.ensures.reads le
    (ends_plain end _ (t.while_do sp (boxed_of test) (boxed_stmt body)) (ap (λ s. t.while_do s (boxed_of test) (boxed_stmt body)) (sym c.spot_at.ensures) ∙ sym c.in_ok-whole.ensures.ok) le2 (λ p. refl))))

-- Do.
pub loops::do_statement-returns-in_err-body-clause-reads : goal.loops::do_statement-returns-in_err-body-clause-reads
loops::do_statement-returns-in_err-body-clause-reads n c =
    let at = c.args.at in
    let sp = spot_of c.args.tokens.now at in
    let le : at ≤ at + 1 = omega arith in
    fails_start c.from_residual.ensures.1
    (first_word (at + 1) (key Do) (enter Stmt (r.until sp)) c.requires.shallow c.requires.here refl refl refl
    (part_refused Stmt (at + 1) (r.until sp) boxed_stmt _ c.in_err-body.ensures.reads le))

pub loops::do_statement-returns-clause-reads : goal.loops::do_statement-returns-clause-reads
loops::do_statement-returns-clause-reads n c =
    let at = c.args.at in
    let sp = spot_of c.args.tokens.now at in
    let le : at ≤ at + 1 = omega arith in
    first_word (at + 1) (key Do) (enter Stmt (r.until sp)) c.requires.shallow c.requires.here refl refl refl
    (part Stmt (at + 1) c.in_ok-body.place (r.until sp) boxed_stmt c.in_ok-body.body c.in_ok-body.ensures.reads le
    c.until.ensures.reads)

-- For.
pub loops::for_statement-returns-in_err-inside-clause-reads : goal.loops::for_statement-returns-in_err-inside-clause-reads
loops::for_statement-returns-in_err-inside-clause-reads n c =
    let at = c.args.at in
    let sp = spot_of c.args.tokens.now at in
    fails_start c.from_residual.ensures.1
    (first_word (at + 1) (key For) (read (sees is_open (r.for_head sp))) c.requires.shallow c.requires.here refl refl refl
    (word_refused (at + 1) is_open (r.for_head sp) (mark m.OpenParenthesis) _ c.in_err-inside.ensures open_else))

pub loops::for_statement-returns-in_err-start-clause-reads : goal.loops::for_statement-returns-in_err-start-clause-reads
loops::for_statement-returns-in_err-start-clause-reads n c =
    let at = c.args.at in
    let sp = spot_of c.args.tokens.now at in
    let inner = c.in_ok-inside.inside in
    let next = c.in_ok-inside.ensures.1 in
    let le : at ≤ at + 1 = omega arith in
    let le2 : at ≤ inner = omega (arith, next) in
    fails_start c.from_residual-in_err-start.ensures.1
    (first_word (at + 1) (key For) (read (sees is_open (r.for_head sp))) c.requires.shallow c.requires.here refl refl refl
    (word (at + 1) inner is_open (r.for_head sp) _ (mark m.OpenParenthesis) c.requires.shallow le c.in_ok-inside.ensures refl refl
    (part_refused ForStart inner (for_rest sp) boxed_start _ c.in_err-start.ensures.reads le2)))

pub loops::for_statement-returns-clause-reads : goal.loops::for_statement-returns-clause-reads
loops::for_statement-returns-clause-reads n c =
    let at = c.args.at in
    let sp = spot_of c.args.tokens.now at in
    let inner = c.in_ok-inside.inside in
    let next = c.in_ok-inside.ensures.1 in
    let le : at ≤ at + 1 = omega arith in
    let le2 : at ≤ inner = omega (arith, next) in
    first_word (at + 1) (key For) (read (sees is_open (r.for_head sp))) c.requires.shallow c.requires.here refl refl refl
    (word (at + 1) inner is_open (r.for_head sp) _ (mark m.OpenParenthesis) c.requires.shallow le c.in_ok-inside.ensures refl refl
    (part ForStart inner c.in_ok-start.place (for_rest sp) boxed_start c.in_ok-start.start c.in_ok-start.ensures.reads le2
    c.for_started.ensures.reads))

abbrev for_given : Spot → TreeOf ForStart → TreeOf ExprEnd → TreeOf SimpleEnd → t.Stmt → Todo Stmt
for_given sp start e x a = build (t.for_do sp start e x a)

abbrev for_stepped : Spot → TreeOf ForStart → TreeOf ExprEnd → TreeOf SimpleEnd → Todo Stmt
for_stepped sp start e x = enter Stmt (for_given sp start e x)

abbrev for_tested : Spot → TreeOf ForStart → TreeOf ExprEnd → Todo Stmt
for_tested sp start e = enter SimpleEnd (for_stepped sp start e)

pub loops::for_started-returns-in_err-test-clause-reads : goal.loops::for_started-returns-in_err-test-clause-reads
loops::for_started-returns-in_err-test-clause-reads n c =
    let sp = spot_of c.args.tokens.now c.args.at in
    let start = boxed_start c.args.start in
    let past = c.requires.behind in
    let le : c.args.at ≤ c.args.place = omega (arith, past) in
    fails c.from_residual.ensures.1 (part_refused ExprEnd c.args.place (for_tested sp start) (λ e. mapped boxed_of e) _ c.in_err-test.ensures.reads le)

pub loops::for_started-returns-in_err-then-clause-reads : goal.loops::for_started-returns-in_err-then-clause-reads
loops::for_started-returns-in_err-then-clause-reads n c =
    let sp = spot_of c.args.tokens.now c.args.at in
    let start = boxed_start c.args.start in
    let test = c.in_ok-test.test in
    let next = c.in_ok-test.next in
    let past = c.requires.behind in
    let past2 = c.in_ok-test.ensures.place in
    let le : c.args.at ≤ c.args.place = omega (arith, past) in
    let le2 : c.args.at ≤ next = omega (arith, past, past2) in
    fails c.from_residual-in_err-then.ensures.1
    (part ExprEnd c.args.place next (for_tested sp start) (λ e. mapped boxed_of e) test c.in_ok-test.ensures.reads le
    (part_refused SimpleEnd next (for_stepped sp start (mapped boxed_of test)) (λ e. mapped boxed_simple e) _ c.in_err-then.ensures.reads le2))

pub loops::for_started-returns-in_err-body-clause-reads : goal.loops::for_started-returns-in_err-body-clause-reads
loops::for_started-returns-in_err-body-clause-reads n c =
    let sp = spot_of c.args.tokens.now c.args.at in
    let start = boxed_start c.args.start in
    let test = c.in_ok-test.test in
    let next = c.in_ok-test.next in
    let then' = c.in_ok-then.then in
    let inner = c.in_ok-then.inside in
    let past = c.requires.behind in
    let past2 = c.in_ok-test.ensures.place in
    let past3 = c.in_ok-then.ensures.place in
    let le : c.args.at ≤ c.args.place = omega (arith, past) in
    let le2 : c.args.at ≤ next = omega (arith, past, past2) in
    let le3 : c.args.at ≤ inner = omega (arith, past, past2, past3) in
    fails c.from_residual-in_err-body.ensures.1
    (part ExprEnd c.args.place next (for_tested sp start) (λ e. mapped boxed_of e) test c.in_ok-test.ensures.reads le
    (part SimpleEnd next inner (for_stepped sp start (mapped boxed_of test)) (λ e. mapped boxed_simple e) then' c.in_ok-then.ensures.reads le2
    (part_refused Stmt inner (for_given sp start (mapped boxed_of test) (mapped boxed_simple then')) boxed_stmt _ c.in_err-body.ensures.reads le3)))

pub loops::for_started-returns-clause-reads : goal.loops::for_started-returns-clause-reads
loops::for_started-returns-clause-reads n c =
    let sp = spot_of c.args.tokens.now c.args.at in
    let start = boxed_start c.args.start in
    let test = c.in_ok-test.test in
    let next = c.in_ok-test.next in
    let then' = c.in_ok-then.then in
    let inner = c.in_ok-then.inside in
    let body = c.in_ok-body.body in
    let end = c.in_ok-body.end in
    let past = c.requires.behind in
    let past2 = c.in_ok-test.ensures.place in
    let past3 = c.in_ok-then.ensures.place in
    let past4 = c.in_ok-body.ensures.place in
    let le : c.args.at ≤ c.args.place = omega (arith, past) in
    let le2 : c.args.at ≤ next = omega (arith, past, past2) in
    let le3 : c.args.at ≤ inner = omega (arith, past, past2, past3) in
    let le4 : c.args.at ≤ end = omega (arith, past, past2, past3, past4) in
    part ExprEnd c.args.place next (for_tested sp start) (λ e. mapped boxed_of e) test c.in_ok-test.ensures.reads le
    (part SimpleEnd next inner (for_stepped sp start (mapped boxed_of test)) (λ e. mapped boxed_simple e) then' c.in_ok-then.ensures.reads le2
    (part Stmt inner end (for_given sp start (mapped boxed_of test) (mapped boxed_simple then')) boxed_stmt body c.in_ok-body.ensures.reads le3
    (ends_plain end _ (t.for_do sp start (mapped boxed_of test) (mapped boxed_simple then') (boxed_stmt body))
    (ap (λ s. t.for_do s start (mapped boxed_of test) (mapped boxed_simple then') (boxed_stmt body)) (sym c.spot_at.ensures) ∙ sym c.in_ok-whole.ensures.ok) le4 (λ p. refl))))

-- Blocks.
pub blocks::block-returns-in_err-inside-clause-reads : goal.blocks::block-returns-in_err-inside-clause-reads
blocks::block-returns-in_err-inside-clause-reads n c =
    let ts = c.args.tokens.now in
    let at = c.args.at in
    fails_first c.from_residual.ensures.1 (flat (record { none = refl; plain = λ z l. refl })
    (first_refused _ (λ p here. ap (λ b. only (when b r.block_body)) (open_brace_else p.word (λ same. c.in_err-inside.ensures.0 (here ∙ ap Some same)))) c.in_err-inside.ensures.1))

pub blocks::block-returns-clause-reads : goal.blocks::block-returns-clause-reads
blocks::block-returns-clause-reads n c =
    let at = c.args.at in
    flat (record { none = refl; plain = λ z l. refl })
    (first_word c.in_ok-inside.inside (mark m.OpenBrace) r.block_body c.requires.shallow c.in_ok-inside.ensures.0 c.in_ok-inside.ensures.1 refl refl c.body.ensures.reads)

-- Statements in a block.
abbrev more : t.Stmts → t.Stmt → t.Stmts
more before a = joined before (t.next a t.done)

pub blocks::next_statement-returns-in_err-statement-clause-reads : goal.blocks::next_statement-returns-in_err-statement-clause-reads
blocks::next_statement-returns-in_err-statement-clause-reads n c =
    let ts = c.args.tokens.now in
    let before = all_of c.args.before.items in
    grows_fails c.from_residual.ensures.1
    (grows_not Stmt (more before) boxed_stmt c.requires.open c.requires.later (body_stmt ts c.args.inside c.args.place before c.requires.untyped) _ c.in_err-statement.ensures.reads)

pub blocks::next_statement-returns-clause-reads : goal.blocks::next_statement-returns-clause-reads
blocks::next_statement-returns-clause-reads n c =
    let ts = c.args.tokens.now in
    let before = all_of c.args.before.items in
    grows Stmt (more before) boxed_stmt c.requires.open c.requires.later (body_stmt ts c.args.inside c.args.place before c.requires.untyped)
    c.in_ok-statement.end c.in_ok-statement.statement c.in_ok-longer.longer c.in_ok-statement.ensures.reads (sym c.in_ok-longer.ensures.ok)

pub blocks::body-loop-alloc-init : goal.blocks::body-loop-alloc-init
blocks::body-loop-alloc-init n c =
    let ts = c.args.tokens.now in
    let at = c.args.at in
    let inner = c.args.inside in
    let same : inner ≤ inner = omega arith in (
      λ root round k a.
          opens round ts at inner Body t.done behind_body k
          ∙ ap (λ l. run round (amid {s = Body} ts inner inner (build (all_of l)) (inside {j = Body} ts at inner behind_body k)) (from ts inner)) (sym c.new-statements.ensures.items),
      same,
      c.requires.within,
    )

pub blocks::body-returns-in_err-longer-clause-reads : goal.blocks::body-returns-in_err-longer-clause-reads
blocks::body-returns-in_err-longer-clause-reads n c =
    fails c.from_residual.ensures.1 (body_refused c.loop-alloc.invariant.0 _ c.in_err-longer.ensures.reads)

pub blocks::body-loop-alloc-preserved : goal.blocks::body-loop-alloc-preserved
blocks::body-loop-alloc-preserved n c =
    let past = c.loop-alloc.invariant.1 in
    let past2 = c.in_ok-longer.ensures.place in
    let le : c.args.inside ≤ c.in_ok-longer.end = omega (arith, past, past2) in (
      λ root round k a. c.loop-alloc.invariant.0 root round k a ∙ c.in_ok-longer.ensures.reads.goes root round k a,
      le,
      past2.1,
    )

pub blocks::body-returns-clause-reads : goal.blocks::body-returns-clause-reads
blocks::body-returns-clause-reads n c =
    let past = c.requires.behind in
    let le : c.args.at ≤ c.args.inside = omega (arith, past) in
    body_read c.loop-alloc.invariant.0 c.loop-alloc.statements refl c.requires.shallow le c.loop-alloc.invariant.1 (c.loop-alloc-test.ensures.yes refl)

-- Statements by their depth.
pub statements::statement-returns-clause-reads : goal.statements::statement-returns-clause-reads
statements::statement-returns-clause-reads n c = nested_in c.nested.ensures.reads

pub statements::statement-returns-then-depth-ge-MOST_DEPTH-clause-reads : goal.statements::statement-returns-then-depth-ge-MOST_DEPTH-clause-reads
statements::statement-returns-then-depth-ge-MOST_DEPTH-clause-reads n c =
    let deep : 200 ≤ c.args.depth = omega arith in
    too_deep_at c.too_deep.result deep c.too_deep.ensures.deep c.too_deep.ensures.none
