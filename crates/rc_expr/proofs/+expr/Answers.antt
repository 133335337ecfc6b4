use Rattle.std.proofs.Common.{◌≡◌, ◌≤◌, ◌<◌, ◌+◌, [], ◌∷◌, ◌++◌, refl, ap, sym, ◌∙◌, arith}
use Rattle.rc_syntax.specs.declared.word.Mark.TheVariants as m
use Rattle.rc_syntax.specs.Tokens.{mark, key}
use Rattle.rc_syntax.specs.Tree as tr
use Rattle.rc_syntax.specs.declared.tree.Spot.{Spot}
use Rattle.rc_syntax.specs.declared.tree.Name.{Name}
use Rattle.rc_syntax.specs.WordShapes.{word_of}
use Rattle.rc_syntax.specs.Grammar.{Level, Unary, Arguments, with_last}
use Rattle.rc_syntax.specs.reader.Todo.{Todo, build, read, sees, try, enter}
use Rattle.rc_syntax.specs.reader.Reading.{is_close, is_comma, is_colon, is_open, is_close_bracket, otherwise, unary_in, call, allocated, array_allocated}
use Rattle.rc_syntax.specs.Shape.{expr_of, exprs_of, type_of}
use Rattle.rc_syntax.specs.reader.Steps.{run}
use Rattle.rc_words.specs.Words.{spot_of, from}
use Rattle.rc_expr.specs.Goes.{boxed_of, amid, inside, typed_rest}
use Rattle.rc_expr.proofs.Running.{passes, goes_along, begins_with, around, deeper, closes, enters, part, took, far_fault, expected, expected_fault, missed}
use Rattle.rc_expr.proofs.Tests.{open_else, close_else, close_bracket_else, comma_else, colon_else, quiet_unary, quiet_level, quiet_expression, quiet_arguments}
use Rattle.rc_expr.proofs.Values.{exprs_with_last}
use Rattle.rc_expr.proofs.Parts as p
use Rattle.rc_expr.proofs.+expr.Goals as goal

-- Conditionals.
pub expressions::conditional-returns-clause-reads : goal.expressions::conditional-returns-clause-reads
expressions::conditional-returns-clause-reads t c = λ root round k a.
    let ts = c.args.tokens.now in
    goes_along round ts (λ e q. amid ts c.args.at q (build (boxed_of e)) k) _ _ c.choice.result
    (c.in_ok-test.ensures.reads root round k a) (c.choice.ensures.reads root round k a)

pub expressions::choice-returns-in_err-yes-clause-reads : goal.expressions::choice-returns-in_err-yes-clause-reads
expressions::choice-returns-in_err-yes-clause-reads t c = λ root round k a.
    let ts = c.args.tokens.now in
    let at = c.args.at in
    let test = boxed_of c.args.test in
    let inner = c.in_ok-inside.inside in
    let here = c.in_ok-inside.ensures in
    let next = here.1 in
    let past = c.requires.behind in
    let none : c.args.depth + 0 ≡ c.args.depth = omega arith in
    let le : at ≤ inner = omega (arith, past, next) in
    let h = p.behind_yes (spot_of ts at) test in
    passes round ts _ _ _ _ _ c.from_residual-in_err-yes.ensures.1
    (p.question c.args.place inner test a c.requires.shallow past here.0 c.requires.here next)
    (c.in_err-yes.ensures.reads root round (inside ts at inner h k) (deeper c.args.depth inner h a none le))

pub expressions::choice-returns-in_err-behind-clause-reads : goal.expressions::choice-returns-in_err-behind-clause-reads
expressions::choice-returns-in_err-behind-clause-reads t c = λ root round k a.
    let ts = c.args.tokens.now in
    let at = c.args.at in
    let test = boxed_of c.args.test in
    let inner = c.in_ok-inside.inside in
    let yes = boxed_of c.in_ok-yes.yes in
    let colon = c.in_ok-yes.colon in
    let here = c.in_ok-inside.ensures in
    let next = here.1 in
    let past = c.requires.behind in
    let shallow = c.requires.shallow in
    let past2 = c.in_ok-yes.ensures.place in
    let none : c.args.depth + 0 ≡ c.args.depth = omega arith in
    let d0 : c.args.depth + 0 ≤ 200 = omega (arith, shallow) in
    let le : at ≤ inner = omega (arith, past, next) in
    let le2 : inner ≤ colon = omega (arith, past2) in
    let le3 : at ≤ colon = omega (arith, past, next, past2) in
    let h = p.behind_yes (spot_of ts at) test in
    passes round ts _ _ _ _ _ c.from_residual-in_err-behind.ensures.1
    (p.question c.args.place inner test a shallow past here.0 c.requires.here next
    ∙ c.in_ok-yes.ensures.reads root round (inside ts at inner h k) (deeper c.args.depth inner h a none le)
    ∙ closes (Level 0) round ts at inner colon yes h k le le2 (quiet_expression ts colon (spot_of ts inner) yes c.in_ok-yes.ensures.quiet))
    (expected_fault colon is_colon (otherwise (spot_of ts at) test yes) (mark m.Colon) _ (around a) d0 le3 c.in_err-behind.ensures refl (λ n. refl) colon_else)

pub expressions::choice-returns-in_err-no-clause-reads : goal.expressions::choice-returns-in_err-no-clause-reads
expressions::choice-returns-in_err-no-clause-reads t c = λ root round k a.
    let ts = c.args.tokens.now in
    let at = c.args.at in
    let test = boxed_of c.args.test in
    let inner = c.in_ok-inside.inside in
    let yes = boxed_of c.in_ok-yes.yes in
    let colon = c.in_ok-yes.colon in
    let behind = c.in_ok-behind.behind in
    let here = c.in_ok-inside.ensures in
    let next = here.1 in
    let past = c.requires.behind in
    let shallow = c.requires.shallow in
    let past2 = c.in_ok-yes.ensures.place in
    let next2 = c.in_ok-behind.ensures.2 in
    let none : c.args.depth + 0 ≡ c.args.depth = omega arith in
    let d0 : c.args.depth + 0 ≤ 200 = omega (arith, shallow) in
    let le : at ≤ inner = omega (arith, past, next) in
    let le2 : inner ≤ colon = omega (arith, past2) in
    let le3 : at ≤ colon = omega (arith, past, next, past2) in
    let le4 : at ≤ behind = omega (arith, past, next, past2, next2) in
    let h = p.behind_yes (spot_of ts at) test in
    let h2 = p.behind_arm (spot_of ts at) test yes in
    passes round ts _ _ _ _ _ c.from_residual-in_err-no.ensures.1
    (p.question c.args.place inner test a shallow past here.0 c.requires.here next
    ∙ c.in_ok-yes.ensures.reads root round (inside ts at inner h k) (deeper c.args.depth inner h a none le)
    ∙ closes (Level 0) round ts at inner colon yes h k le le2 (quiet_expression ts colon (spot_of ts inner) yes c.in_ok-yes.ensures.quiet)
    ∙ expected colon behind is_colon (otherwise (spot_of ts at) test yes) (mark m.Colon) (around a) d0 le3 c.in_ok-behind.ensures refl (λ n. refl)
    ∙ p.arm round ts at behind h2 k)
    (c.in_err-no.ensures.reads root round (inside ts behind behind build (inside ts at behind h2 k)) (p.arm_within c.args.depth behind h2 a none le4))

pub expressions::choice-returns-clause-reads : goal.expressions::choice-returns-clause-reads
expressions::choice-returns-clause-reads t c = λ root round k a.
    let ts = c.args.tokens.now in
    let at = c.args.at in
    let test = boxed_of c.args.test in
    let inner = c.in_ok-inside.inside in
    let yes = boxed_of c.in_ok-yes.yes in
    let colon = c.in_ok-yes.colon in
    let behind = c.in_ok-behind.behind in
    let no' = boxed_of c.in_ok-no.no in
    let end = c.in_ok-no.end in
    let here = c.in_ok-inside.ensures in
    let next = here.1 in
    let past = c.requires.behind in
    let shallow = c.requires.shallow in
    let past2 = c.in_ok-yes.ensures.place in
    let next2 = c.in_ok-behind.ensures.2 in
    let past3 = c.in_ok-no.ensures.place in
    let none : c.args.depth + 0 ≡ c.args.depth = omega arith in
    let d0 : c.args.depth + 0 ≤ 200 = omega (arith, shallow) in
    let le : at ≤ inner = omega (arith, past, next) in
    let le2 : inner ≤ colon = omega (arith, past2) in
    let le3 : at ≤ colon = omega (arith, past, next, past2) in
    let le4 : at ≤ behind = omega (arith, past, next, past2, next2) in
    let le5 : behind ≤ end = omega (arith, past3) in
    let h = p.behind_yes (spot_of ts at) test in
    let h2 = p.behind_arm (spot_of ts at) test yes in
    p.question c.args.place inner test a shallow past here.0 c.requires.here next
    ∙ c.in_ok-yes.ensures.reads root round (inside ts at inner h k) (deeper c.args.depth inner h a none le)
    ∙ closes (Level 0) round ts at inner colon yes h k le le2 (quiet_expression ts colon (spot_of ts inner) yes c.in_ok-yes.ensures.quiet)
    ∙ expected colon behind is_colon (otherwise (spot_of ts at) test yes) (mark m.Colon) (around a) d0 le3 c.in_ok-behind.ensures refl (λ n. refl)
    ∙ p.arm round ts at behind h2 k
    ∙ c.in_ok-no.ensures.reads root round (inside ts behind behind build (inside ts at behind h2 k)) (p.arm_within c.args.depth behind h2 a none le4)
    ∙ p.arm_closes round ts at behind end no' h2 k le4 le5 c.in_ok-no.ensures.quiet
    ∙ ap (λ x. run round (amid ts at end (build x) k) (from ts end)) (ap (λ s. tr.conditional s test yes no') (sym c.spot_at.ensures) ∙ sym c.in_ok-chosen.ensures.ok)

-- Operators.
pub expressions::beside-returns-in_err-right-clause-reads : goal.expressions::beside-returns-in_err-right-clause-reads
expressions::beside-returns-in_err-right-clause-reads t c = λ root round k a.
    let ts = c.args.tokens.now in
    let at = c.args.left.at in
    let left = boxed_of c.args.left.operand in
    let inner = c.in_ok-inside.inside in
    let here = c.in_ok-inside.ensures in
    let next = here.1 in
    let past = c.requires.behind in
    let none : c.args.depth + 0 ≡ c.args.depth = omega arith in
    let le : at ≤ inner = omega (arith, past, next) in
    let h = p.behind_right (spot_of ts at) left c.args.left.op in
    passes round ts _ _ _ _ _ c.from_residual-in_err-right.ensures.1
    (p.operator c.args.place inner left c.args.left.op c.tightness.result a c.requires.shallow past here.0 c.requires.here c.requires.tight next c.tightness.ensures.value)
    (c.in_err-right.ensures.reads root round (inside ts at inner h k) (deeper c.args.depth inner h a none le))

pub expressions::beside-returns-clause-reads : goal.expressions::beside-returns-clause-reads
expressions::beside-returns-clause-reads t c = λ root round k a.
    let ts = c.args.tokens.now in
    let at = c.args.left.at in
    let left = boxed_of c.args.left.operand in
    let op = c.args.left.op in
    let n = c.tightness.result in
    let inner = c.in_ok-inside.inside in
    let right = boxed_of c.in_ok-right.right in
    let end = c.in_ok-right.end in
    let here = c.in_ok-inside.ensures in
    let next = here.1 in
    let past = c.requires.behind in
    let past2 = c.in_ok-right.ensures.place in
    let none : c.args.depth + 0 ≡ c.args.depth = omega arith in
    let le : at ≤ inner = omega (arith, past, next) in
    let le2 : inner ≤ end = omega (arith, past2) in
    let low : 1 ≤ n + 1 = omega arith in
    let h = p.behind_right (spot_of ts at) left op in
    p.operator c.args.place inner left op n a c.requires.shallow past here.0 c.requires.here c.requires.tight next c.tightness.ensures.value
    ∙ c.in_ok-right.ensures.reads root round (inside ts at inner h k) (deeper c.args.depth inner h a none le)
    ∙ closes (Level (n + 1)) round ts at inner end right h k le le2 (quiet_level ts end (n + 1) (spot_of ts inner) right c.in_ok-right.ensures.quiet low)
    ∙ ap (λ x. run round (amid ts at end (build x) k) (from ts end)) (ap (λ s. tr.binary s op left right) (sym c.spot_at.ensures) ∙ sym c.in_ok-both.ensures.ok)

-- Prefixes.
pub operands::prefixed-returns-in_err-value-clause-reads : goal.operands::prefixed-returns-in_err-value-clause-reads
operands::prefixed-returns-in_err-value-clause-reads t c = λ root round k a.
    let ts = c.args.tokens.now in
    let at = c.args.at in
    let le : at ≤ at + 1 = omega arith in
    let h : tr.Expr → Todo Unary = λ e. build (tr.unary (spot_of ts at) c.args.op e) in
    passes round ts _ _ _ _ _ c.from_residual.ensures.1
    (enters round ts at (at + 1) Unary h k)
    (c.in_err-value.ensures.reads root round (inside ts at (at + 1) h k) (deeper (c.args.depth + 1) (at + 1) h a refl le))

pub operands::prefixed-returns-clause-reads : goal.operands::prefixed-returns-clause-reads
operands::prefixed-returns-clause-reads t c = λ root round k a.
    let ts = c.args.tokens.now in
    let at = c.args.at in
    let value = boxed_of c.in_ok-value.value in
    let end = c.in_ok-value.end in
    let past = c.in_ok-value.ensures.place in
    let le : at ≤ at + 1 = omega arith in
    let le2 : at + 1 ≤ end = omega (arith, past) in
    let h : tr.Expr → Todo Unary = λ e. build (tr.unary (spot_of ts at) c.args.op e) in
    part Unary round ts at (at + 1) end h k value le le2
    (c.in_ok-value.ensures.reads root round (inside ts at (at + 1) h k) (deeper (c.args.depth + 1) (at + 1) h a refl le))
    (quiet_unary ts end (spot_of ts (at + 1)) value c.in_ok-value.ensures.quiet)
    ∙ ap (λ x. run round (amid ts at end (build x) k) (from ts end)) (ap (λ s. tr.unary s c.args.op value) (sym c.spot_at.ensures) ∙ sym c.in_ok-whole.ensures.ok)

-- Casts.
pub operands::cast-returns-in_err-to-clause-reads : goal.operands::cast-returns-in_err-to-clause-reads
operands::cast-returns-in_err-to-clause-reads t c = λ root round k a.
    passes round c.args.tokens.now _ _ _ _ _ c.from_residual.ensures.1 refl (c.in_err-to.ensures.reads root round k a)

pub operands::cast-returns-in_err-value-clause-reads : goal.operands::cast-returns-in_err-value-clause-reads
operands::cast-returns-in_err-value-clause-reads t c = λ root round k a.
    let ts = c.args.tokens.now in
    let at = c.args.at in
    let inner = c.in_ok-to.behind in
    let past = c.in_ok-to.ensures.place in
    let le : at ≤ inner = omega (arith, past) in
    let h : tr.Expr → Todo Unary = λ e. build (tr.cast (spot_of ts at) c.in_ok-to.to e) in
    passes round ts _ _ _ _ _ c.from_residual-in_err-value.ensures.1
    (c.in_ok-to.ensures.reads root round k a ∙ enters round ts at inner Unary h k)
    (c.in_err-value.ensures.reads root round (inside ts at inner h k) (deeper (c.args.depth + 1) inner h a refl le))

pub operands::cast-returns-clause-reads : goal.operands::cast-returns-clause-reads
operands::cast-returns-clause-reads t c = λ root round k a.
    let ts = c.args.tokens.now in
    let at = c.args.at in
    let to = c.in_ok-to.to in
    let inner = c.in_ok-to.behind in
    let value = boxed_of c.in_ok-value.value in
    let end = c.in_ok-value.end in
    let past = c.in_ok-to.ensures.place in
    let past2 = c.in_ok-value.ensures.place in
    let le : at ≤ inner = omega (arith, past) in
    let le2 : inner ≤ end = omega (arith, past2) in
    let h : tr.Expr → Todo Unary = λ e. build (tr.cast (spot_of ts at) to e) in
    c.in_ok-to.ensures.reads root round k a
    ∙ part Unary round ts at inner end h k value le le2
    (c.in_ok-value.ensures.reads root round (inside ts at inner h k) (deeper (c.args.depth + 1) inner h a refl le))
    (quiet_unary ts end (spot_of ts inner) value c.in_ok-value.ensures.quiet)
    ∙ ap (λ x. run round (amid ts at end (build x) k) (from ts end)) (ap (λ s. tr.cast s to value) (sym c.spot_at.ensures) ∙ sym c.in_ok-whole.ensures.ok)

-- Parentheses.
abbrev in_parentheses : tr.Expr → Todo Unary
in_parentheses e = read (sees is_close (build e))

pub operands::grouped-returns-in_err-value-clause-reads : goal.operands::grouped-returns-in_err-value-clause-reads
operands::grouped-returns-in_err-value-clause-reads t c = λ root round k a.
    let ts = c.args.tokens.now in
    let at = c.args.at in
    let le : at ≤ at + 1 = omega arith in
    passes round ts _ _ _ _ _ c.from_residual.ensures.1
    (enters round ts at (at + 1) (Level 0) in_parentheses k)
    (c.in_err-value.ensures.reads root round (inside ts at (at + 1) in_parentheses k) (deeper (c.args.depth + 1) (at + 1) in_parentheses a refl le))

pub operands::grouped-returns-in_err-end-clause-reads : goal.operands::grouped-returns-in_err-end-clause-reads
operands::grouped-returns-in_err-end-clause-reads t c = λ root round k a.
    let ts = c.args.tokens.now in
    let at = c.args.at in
    let value = boxed_of c.in_ok-value.value in
    let place = c.in_ok-value.place in
    let shallow = c.requires.shallow in
    let past = c.in_ok-value.ensures.place in
    let d : c.args.depth + 1 ≤ 200 = omega (arith, shallow) in
    let le : at ≤ at + 1 = omega arith in
    let le2 : at + 1 ≤ place = omega (arith, past) in
    let le3 : at ≤ place = omega (arith, past) in
    passes round ts _ _ _ _ _ c.from_residual-in_err-end.ensures.1
    (p.expression_part round ts at (at + 1) place in_parentheses k value le le2
    (c.in_ok-value.ensures.reads root round (inside ts at (at + 1) in_parentheses k) (deeper (c.args.depth + 1) (at + 1) in_parentheses a refl le))
    c.in_ok-value.ensures.quiet)
    (expected_fault place is_close (build value) (mark m.CloseParenthesis) _ (around a) d le3 c.in_err-end.ensures refl (λ n. refl) close_else)

pub operands::grouped-returns-clause-reads : goal.operands::grouped-returns-clause-reads
operands::grouped-returns-clause-reads t c = λ root round k a.
    let ts = c.args.tokens.now in
    let at = c.args.at in
    let value = boxed_of c.in_ok-value.value in
    let place = c.in_ok-value.place in
    let shallow = c.requires.shallow in
    let past = c.in_ok-value.ensures.place in
    let d : c.args.depth + 1 ≤ 200 = omega (arith, shallow) in
    let le : at ≤ at + 1 = omega arith in
    let le2 : at + 1 ≤ place = omega (arith, past) in
    let le3 : at ≤ place = omega (arith, past) in
    p.expression_part round ts at (at + 1) place in_parentheses k value le le2
    (c.in_ok-value.ensures.reads root round (inside ts at (at + 1) in_parentheses k) (deeper (c.args.depth + 1) (at + 1) in_parentheses a refl le))
    c.in_ok-value.ensures.quiet
    ∙ expected place c.in_ok-end.end is_close (build value) (mark m.CloseParenthesis) (around a) d le3 c.in_ok-end.ensures refl (λ n. refl)

-- Indexes.
abbrev behind_index : Spot → tr.Expr → tr.Expr → Todo Unary
behind_index sp v = λ i. read (sees is_close_bracket (build (tr.index sp v i)))

pub postfixes::index-returns-in_err-index-clause-reads : goal.postfixes::index-returns-in_err-index-clause-reads
postfixes::index-returns-in_err-index-clause-reads t c = λ root round k a.
    let ts = c.args.tokens.now in
    let at = c.args.at in
    let value = boxed_of c.args.value in
    let inner = c.in_ok-inside.inside in
    let here = c.in_ok-inside.ensures in
    let next = here.1 in
    let shallow = c.requires.shallow in
    let past = c.requires.behind in
    let d : c.args.depth + 1 ≤ 200 = omega (arith, shallow) in
    let le : at ≤ c.args.place = omega (arith, past) in
    let le2 : at ≤ inner = omega (arith, past, next) in
    let h = behind_index (spot_of ts at) value in
    passes round ts _ _ _ _ _ c.from_residual-in_err-index.ensures.1
    (took c.args.place inner (build value) (enter (Level 0) h) (mark m.OpenBracket) (around a) d le here.0 c.requires.here next refl
    ∙ enters round ts at inner (Level 0) h k)
    (c.in_err-index.ensures.reads root round (inside ts at inner h k) (deeper (c.args.depth + 1) inner h a refl le2))

pub postfixes::index-returns-in_err-end-clause-reads : goal.postfixes::index-returns-in_err-end-clause-reads
postfixes::index-returns-in_err-end-clause-reads t c = λ root round k a.
    let ts = c.args.tokens.now in
    let at = c.args.at in
    let value = boxed_of c.args.value in
    let inner = c.in_ok-inside.inside in
    let index = boxed_of c.in_ok-index.index in
    let behind = c.in_ok-index.behind in
    let here = c.in_ok-inside.ensures in
    let next = here.1 in
    let shallow = c.requires.shallow in
    let past = c.requires.behind in
    let past2 = c.in_ok-index.ensures.place in
    let d : c.args.depth + 1 ≤ 200 = omega (arith, shallow) in
    let le : at ≤ c.args.place = omega (arith, past) in
    let le2 : at ≤ inner = omega (arith, past, next) in
    let le3 : inner ≤ behind = omega (arith, past2) in
    let le4 : at ≤ behind = omega (arith, past, next, past2) in
    let h = behind_index (spot_of ts at) value in
    passes round ts _ _ _ _ _ c.from_residual-in_err-end.ensures.1
    (took c.args.place inner (build value) (enter (Level 0) h) (mark m.OpenBracket) (around a) d le here.0 c.requires.here next refl
    ∙ p.expression_part round ts at inner behind h k index le2 le3
    (c.in_ok-index.ensures.reads root round (inside ts at inner h k) (deeper (c.args.depth + 1) inner h a refl le2)) c.in_ok-index.ensures.quiet)
    (expected_fault behind is_close_bracket (build (tr.index (spot_of ts at) value index)) (mark m.CloseBracket) _ (around a) d le4 c.in_err-end.ensures refl (λ n. refl) close_bracket_else)

pub postfixes::index-returns-clause-reads : goal.postfixes::index-returns-clause-reads
postfixes::index-returns-clause-reads t c = λ root round k a.
    let ts = c.args.tokens.now in
    let at = c.args.at in
    let value = boxed_of c.args.value in
    let inner = c.in_ok-inside.inside in
    let index = boxed_of c.in_ok-index.index in
    let behind = c.in_ok-index.behind in
    let end = c.in_ok-end.end in
    let here = c.in_ok-inside.ensures in
    let next = here.1 in
    let shallow = c.requires.shallow in
    let past = c.requires.behind in
    let past2 = c.in_ok-index.ensures.place in
    let d : c.args.depth + 1 ≤ 200 = omega (arith, shallow) in
    let le : at ≤ c.args.place = omega (arith, past) in
    let le2 : at ≤ inner = omega (arith, past, next) in
    let le3 : inner ≤ behind = omega (arith, past2) in
    let le4 : at ≤ behind = omega (arith, past, next, past2) in
    let h = behind_index (spot_of ts at) value in
    took c.args.place inner (build value) (enter (Level 0) h) (mark m.OpenBracket) (around a) d le here.0 c.requires.here next refl
    ∙ p.expression_part round ts at inner behind h k index le2 le3
    (c.in_ok-index.ensures.reads root round (inside ts at inner h k) (deeper (c.args.depth + 1) inner h a refl le2)) c.in_ok-index.ensures.quiet
    ∙ expected behind end is_close_bracket (build (tr.index (spot_of ts at) value index)) (mark m.CloseBracket) (around a) d le4 c.in_ok-end.ensures refl (λ n. refl)
    ∙ ap (λ x. run round (amid ts at end (build x) k) (from ts end)) (ap (λ s. tr.index s value index) (sym c.spot_at.ensures) ∙ sym c.in_ok-whole.ensures.ok)

-- Allocations.
abbrev allocating : Spot → tr.Expr → Todo Unary
allocating sp e = typed_rest (tr.ralloc sp e)

pub calls::ralloc-returns-in_err-inside-clause-reads : goal.calls::ralloc-returns-in_err-inside-clause-reads
calls::ralloc-returns-in_err-inside-clause-reads t c = λ root round k a.
    let ts = c.args.tokens.now in
    let at = c.args.at in
    let shallow = c.requires.shallow in
    let d : c.args.depth + 1 ≤ 200 = omega (arith, shallow) in
    let le : at ≤ at + 1 = omega arith in
    passes round ts _ _ _ _ _ c.from_residual.ensures.1 refl
    (expected_fault (at + 1) is_open (allocated (spot_of ts at)) (mark m.OpenParenthesis) _ (around a) d le c.in_err-inside.ensures refl (λ n. refl) open_else)

pub calls::ralloc-returns-in_err-region-clause-reads : goal.calls::ralloc-returns-in_err-region-clause-reads
calls::ralloc-returns-in_err-region-clause-reads t c = λ root round k a.
    let ts = c.args.tokens.now in
    let at = c.args.at in
    let inner = c.in_ok-inside.inside in
    let next = c.in_ok-inside.ensures.2 in
    let shallow = c.requires.shallow in
    let d : c.args.depth + 1 ≤ 200 = omega (arith, shallow) in
    let le : at ≤ at + 1 = omega arith in
    let le2 : at ≤ inner = omega (arith, next) in
    let h = allocating (spot_of ts at) in
    passes round ts _ _ _ _ _ c.from_residual-in_err-region.ensures.1
    (expected (at + 1) inner is_open (allocated (spot_of ts at)) (mark m.OpenParenthesis) (around a) d le c.in_ok-inside.ensures refl (λ n. refl)
    ∙ enters round ts at inner (Level 0) h k)
    (c.in_err-region.ensures.reads root round (inside ts at inner h k) (deeper (c.args.depth + 1) inner h a refl le2))

pub calls::ralloc-returns-in_err-type_name-clause-reads : goal.calls::ralloc-returns-in_err-type_name-clause-reads
calls::ralloc-returns-in_err-type_name-clause-reads t c = λ root round k a.
    let ts = c.args.tokens.now in
    let at = c.args.at in
    let inner = c.in_ok-inside.inside in
    let next = c.in_ok-inside.ensures.2 in
    let region = boxed_of c.in_ok-region.region in
    let place = c.in_ok-region.place in
    let past = c.in_ok-region.ensures.place in
    let shallow = c.requires.shallow in
    let d : c.args.depth + 1 ≤ 200 = omega (arith, shallow) in
    let le : at ≤ at + 1 = omega arith in
    let le2 : at ≤ inner = omega (arith, next) in
    let le3 : inner ≤ place = omega (arith, past) in
    let h = allocating (spot_of ts at) in
    passes round ts _ _ _ _ _ c.from_residual-in_err-type_name.ensures.1
    (expected (at + 1) inner is_open (allocated (spot_of ts at)) (mark m.OpenParenthesis) (around a) d le c.in_ok-inside.ensures refl (λ n. refl)
    ∙ p.expression_part round ts at inner place h k region le2 le3
    (c.in_ok-region.ensures.reads root round (inside ts at inner h k) (deeper (c.args.depth + 1) inner h a refl le2)) c.in_ok-region.ensures.quiet)
    (c.in_err-type_name.ensures.reads (tr.ralloc (spot_of ts at) region) root round k a)

pub calls::ralloc-returns-clause-reads : goal.calls::ralloc-returns-clause-reads
calls::ralloc-returns-clause-reads t c = λ root round k a.
    let ts = c.args.tokens.now in
    let at = c.args.at in
    let inner = c.in_ok-inside.inside in
    let next = c.in_ok-inside.ensures.2 in
    let region = boxed_of c.in_ok-region.region in
    let place = c.in_ok-region.place in
    let ty = type_of c.in_ok-type_name.type_name in
    let end = c.in_ok-type_name.end in
    let past = c.in_ok-region.ensures.place in
    let shallow = c.requires.shallow in
    let d : c.args.depth + 1 ≤ 200 = omega (arith, shallow) in
    let le : at ≤ at + 1 = omega arith in
    let le2 : at ≤ inner = omega (arith, next) in
    let le3 : inner ≤ place = omega (arith, past) in
    let h = allocating (spot_of ts at) in
    expected (at + 1) inner is_open (allocated (spot_of ts at)) (mark m.OpenParenthesis) (around a) d le c.in_ok-inside.ensures refl (λ n. refl)
    ∙ p.expression_part round ts at inner place h k region le2 le3
    (c.in_ok-region.ensures.reads root round (inside ts at inner h k) (deeper (c.args.depth + 1) inner h a refl le2)) c.in_ok-region.ensures.quiet
    ∙ c.in_ok-type_name.ensures.reads (tr.ralloc (spot_of ts at) region) root round k a
    ∙ ap (λ x. run round (amid ts at end (build x) k) (from ts end)) (ap (λ s. tr.ralloc s region ty) (sym c.spot_at.ensures) ∙ sym c.in_ok-whole.ensures.ok)

abbrev counting : Spot → tr.Expr → tr.Expr → Todo Unary
counting sp r n = typed_rest (tr.rarrayalloc sp r n)

abbrev behind_region : Spot → tr.Expr → Todo Unary
behind_region sp r = read (sees is_comma (enter (Level 0) (counting sp r)))

pub calls::rarrayalloc-returns-in_err-inside-clause-reads : goal.calls::rarrayalloc-returns-in_err-inside-clause-reads
calls::rarrayalloc-returns-in_err-inside-clause-reads t c = λ root round k a.
    let ts = c.args.tokens.now in
    let at = c.args.at in
    let shallow = c.requires.shallow in
    let d : c.args.depth + 1 ≤ 200 = omega (arith, shallow) in
    let le : at ≤ at + 1 = omega arith in
    passes round ts _ _ _ _ _ c.from_residual.ensures.1 refl
    (expected_fault (at + 1) is_open (array_allocated (spot_of ts at)) (mark m.OpenParenthesis) _ (around a) d le c.in_err-inside.ensures refl (λ n. refl) open_else)

pub calls::rarrayalloc-returns-in_err-region-clause-reads : goal.calls::rarrayalloc-returns-in_err-region-clause-reads
calls::rarrayalloc-returns-in_err-region-clause-reads t c = λ root round k a.
    let ts = c.args.tokens.now in
    let at = c.args.at in
    let inner = c.in_ok-inside.inside in
    let next = c.in_ok-inside.ensures.2 in
    let shallow = c.requires.shallow in
    let d : c.args.depth + 1 ≤ 200 = omega (arith, shallow) in
    let le : at ≤ at + 1 = omega arith in
    let le2 : at ≤ inner = omega (arith, next) in
    let h = behind_region (spot_of ts at) in
    passes round ts _ _ _ _ _ c.from_residual-in_err-region.ensures.1
    (expected (at + 1) inner is_open (array_allocated (spot_of ts at)) (mark m.OpenParenthesis) (around a) d le c.in_ok-inside.ensures refl (λ n. refl)
    ∙ enters round ts at inner (Level 0) h k)
    (c.in_err-region.ensures.reads root round (inside ts at inner h k) (deeper (c.args.depth + 1) inner h a refl le2))

pub calls::rarrayalloc-returns-in_err-behind-clause-reads : goal.calls::rarrayalloc-returns-in_err-behind-clause-reads
calls::rarrayalloc-returns-in_err-behind-clause-reads t c = λ root round k a.
    let ts = c.args.tokens.now in
    let at = c.args.at in
    let inner = c.in_ok-inside.inside in
    let next = c.in_ok-inside.ensures.2 in
    let region = boxed_of c.in_ok-region.region in
    let comma = c.in_ok-region.comma in
    let past = c.in_ok-region.ensures.place in
    let shallow = c.requires.shallow in
    let d : c.args.depth + 1 ≤ 200 = omega (arith, shallow) in
    let le : at ≤ at + 1 = omega arith in
    let le2 : at ≤ inner = omega (arith, next) in
    let le3 : inner ≤ comma = omega (arith, past) in
    let le4 : at ≤ comma = omega (arith, next, past) in
    let h = behind_region (spot_of ts at) in
    passes round ts _ _ _ _ _ c.from_residual-in_err-behind.ensures.1
    (expected (at + 1) inner is_open (array_allocated (spot_of ts at)) (mark m.OpenParenthesis) (around a) d le c.in_ok-inside.ensures refl (λ n. refl)
    ∙ p.expression_part round ts at inner comma h k region le2 le3
    (c.in_ok-region.ensures.reads root round (inside ts at inner h k) (deeper (c.args.depth + 1) inner h a refl le2)) c.in_ok-region.ensures.quiet)
    (expected_fault comma is_comma (enter (Level 0) (counting (spot_of ts at) region)) (mark m.Comma) _ (around a) d le4 c.in_err-behind.ensures refl (λ n. refl) comma_else)

pub calls::rarrayalloc-returns-in_err-count-clause-reads : goal.calls::rarrayalloc-returns-in_err-count-clause-reads
calls::rarrayalloc-returns-in_err-count-clause-reads t c = λ root round k a.
    let ts = c.args.tokens.now in
    let at = c.args.at in
    let inner = c.in_ok-inside.inside in
    let next = c.in_ok-inside.ensures.2 in
    let region = boxed_of c.in_ok-region.region in
    let comma = c.in_ok-region.comma in
    let past = c.in_ok-region.ensures.place in
    let behind = c.in_ok-behind.behind in
    let next2 = c.in_ok-behind.ensures.2 in
    let shallow = c.requires.shallow in
    let d : c.args.depth + 1 ≤ 200 = omega (arith, shallow) in
    let le : at ≤ at + 1 = omega arith in
    let le2 : at ≤ inner = omega (arith, next) in
    let le3 : inner ≤ comma = omega (arith, past) in
    let le4 : at ≤ comma = omega (arith, next, past) in
    let le5 : at ≤ behind = omega (arith, next, past, next2) in
    let h = behind_region (spot_of ts at) in
    let h2 = counting (spot_of ts at) region in
    passes round ts _ _ _ _ _ c.from_residual-in_err-count.ensures.1
    (expected (at + 1) inner is_open (array_allocated (spot_of ts at)) (mark m.OpenParenthesis) (around a) d le c.in_ok-inside.ensures refl (λ n. refl)
    ∙ p.expression_part round ts at inner comma h k region le2 le3
    (c.in_ok-region.ensures.reads root round (inside ts at inner h k) (deeper (c.args.depth + 1) inner h a refl le2)) c.in_ok-region.ensures.quiet
    ∙ expected comma behind is_comma (enter (Level 0) h2) (mark m.Comma) (around a) d le4 c.in_ok-behind.ensures refl (λ n. refl)
    ∙ enters round ts at behind (Level 0) h2 k)
    (c.in_err-count.ensures.reads root round (inside ts at behind h2 k) (deeper (c.args.depth + 1) behind h2 a refl le5))

pub calls::rarrayalloc-returns-in_err-type_name-clause-reads : goal.calls::rarrayalloc-returns-in_err-type_name-clause-reads
calls::rarrayalloc-returns-in_err-type_name-clause-reads t c = λ root round k a.
    let ts = c.args.tokens.now in
    let at = c.args.at in
    let inner = c.in_ok-inside.inside in
    let next = c.in_ok-inside.ensures.2 in
    let region = boxed_of c.in_ok-region.region in
    let comma = c.in_ok-region.comma in
    let past = c.in_ok-region.ensures.place in
    let behind = c.in_ok-behind.behind in
    let next2 = c.in_ok-behind.ensures.2 in
    let count = boxed_of c.in_ok-count.count in
    let place = c.in_ok-count.place in
    let past2 = c.in_ok-count.ensures.place in
    let shallow = c.requires.shallow in
    let d : c.args.depth + 1 ≤ 200 = omega (arith, shallow) in
    let le : at ≤ at + 1 = omega arith in
    let le2 : at ≤ inner = omega (arith, next) in
    let le3 : inner ≤ comma = omega (arith, past) in
    let le4 : at ≤ comma = omega (arith, next, past) in
    let le5 : at ≤ behind = omega (arith, next, past, next2) in
    let le6 : behind ≤ place = omega (arith, past2) in
    let h = behind_region (spot_of ts at) in
    let h2 = counting (spot_of ts at) region in
    passes round ts _ _ _ _ _ c.from_residual-in_err-type_name.ensures.1
    (expected (at + 1) inner is_open (array_allocated (spot_of ts at)) (mark m.OpenParenthesis) (around a) d le c.in_ok-inside.ensures refl (λ n. refl)
    ∙ p.expression_part round ts at inner comma h k region le2 le3
    (c.in_ok-region.ensures.reads root round (inside ts at inner h k) (deeper (c.args.depth + 1) inner h a refl le2)) c.in_ok-region.ensures.quiet
    ∙ expected comma behind is_comma (enter (Level 0) h2) (mark m.Comma) (around a) d le4 c.in_ok-behind.ensures refl (λ n. refl)
    ∙ p.expression_part round ts at behind place h2 k count le5 le6
    (c.in_ok-count.ensures.reads root round (inside ts at behind h2 k) (deeper (c.args.depth + 1) behind h2 a refl le5)) c.in_ok-count.ensures.quiet)
    (c.in_err-type_name.ensures.reads (tr.rarrayalloc (spot_of ts at) region count) root round k a)

pub calls::rarrayalloc-returns-clause-reads : goal.calls::rarrayalloc-returns-clause-reads
calls::rarrayalloc-returns-clause-reads t c = λ root round k a.
    let ts = c.args.tokens.now in
    let at = c.args.at in
    let inner = c.in_ok-inside.inside in
    let next = c.in_ok-inside.ensures.2 in
    let region = boxed_of c.in_ok-region.region in
    let comma = c.in_ok-region.comma in
    let past = c.in_ok-region.ensures.place in
    let behind = c.in_ok-behind.behind in
    let next2 = c.in_ok-behind.ensures.2 in
    let count = boxed_of c.in_ok-count.count in
    let place = c.in_ok-count.place in
    let past2 = c.in_ok-count.ensures.place in
    let ty = type_of c.in_ok-type_name.type_name in
    let end = c.in_ok-type_name.end in
    let shallow = c.requires.shallow in
    let d : c.args.depth + 1 ≤ 200 = omega (arith, shallow) in
    let le : at ≤ at + 1 = omega arith in
    let le2 : at ≤ inner = omega (arith, next) in
    let le3 : inner ≤ comma = omega (arith, past) in
    let le4 : at ≤ comma = omega (arith, next, past) in
    let le5 : at ≤ behind = omega (arith, next, past, next2) in
    let le6 : behind ≤ place = omega (arith, past2) in
    let h = behind_region (spot_of ts at) in
    let h2 = counting (spot_of ts at) region in
    expected (at + 1) inner is_open (array_allocated (spot_of ts at)) (mark m.OpenParenthesis) (around a) d le c.in_ok-inside.ensures refl (λ n. refl)
    ∙ p.expression_part round ts at inner comma h k region le2 le3
    (c.in_ok-region.ensures.reads root round (inside ts at inner h k) (deeper (c.args.depth + 1) inner h a refl le2)) c.in_ok-region.ensures.quiet
    ∙ expected comma behind is_comma (enter (Level 0) h2) (mark m.Comma) (around a) d le4 c.in_ok-behind.ensures refl (λ n. refl)
    ∙ p.expression_part round ts at behind place h2 k count le5 le6
    (c.in_ok-count.ensures.reads root round (inside ts at behind h2 k) (deeper (c.args.depth + 1) behind h2 a refl le5)) c.in_ok-count.ensures.quiet
    ∙ c.in_ok-type_name.ensures.reads (tr.rarrayalloc (spot_of ts at) region count) root round k a
    ∙ ap (λ x. run round (amid ts at end (build x) k) (from ts end)) (ap (λ s. tr.rarrayalloc s region count ty) (sym c.spot_at.ensures) ∙ sym c.in_ok-whole.ensures.ok)

pub expressions::conditional-returns-in_err-test-clause-reads : goal.expressions::conditional-returns-in_err-test-clause-reads
expressions::conditional-returns-in_err-test-clause-reads t c = λ root round k a.
    passes round c.args.tokens.now _ _ _ _ _ c.from_residual.ensures.1 refl (c.in_err-test.ensures.reads root round k a)

-- Chains of operators.
pub expressions::binary-returns-in_err-first-clause-reads : goal.expressions::binary-returns-in_err-first-clause-reads
expressions::binary-returns-in_err-first-clause-reads t c = λ root round k a.
    let ts = c.args.tokens.now in
    let at = c.args.at in
    let none : c.args.depth + 0 ≡ c.args.depth = omega arith in
    let same : at ≤ at = omega arith in
    passes round ts _ _ _ _ _ c.from_residual.ensures.1 (begins_with round ts at build k (λ p. refl))
    (c.in_err-first.ensures.reads root round (inside ts at at build k) (deeper c.args.depth at build a none same))

pub expressions::binary-loop-op-init : goal.expressions::binary-loop-op-init
expressions::binary-loop-op-init t c =
    let ts = c.args.tokens.now in
    let at = c.args.at in
    let first = boxed_of c.in_ok-first.first in
    let after = c.in_ok-first.after in
    let past = c.in_ok-first.ensures.place in
    let none : c.args.depth + 0 ≡ c.args.depth = omega arith in
    let same : at ≤ at = omega arith in
    let le : at ≤ after = omega (arith, past) in (
      λ root round k a.
          begins_with round ts at build k (λ p. refl)
          ∙ c.in_ok-first.ensures.reads root round (inside ts at at build k) (deeper c.args.depth at build a none same)
          ∙ closes Unary round ts at at after first build k same le (quiet_unary ts after (spot_of ts at) first c.in_ok-first.ensures.quiet),
      past.0,
      past.1,
    )

pub expressions::binary-returns-in_err-both-clause-reads : goal.expressions::binary-returns-in_err-both-clause-reads
expressions::binary-returns-in_err-both-clause-reads t c = λ root round k a.
    passes round c.args.tokens.now _ _ _ _ _ c.from_residual-in_err-both.ensures.1 (c.loop-op.invariant.0 root round k a) (c.in_err-both.ensures.reads root round k a)

-- Postfixes.
pub postfixes::postfixes-returns-in_err-index-in-Some-OpenBracket-clause-reads : goal.postfixes::postfixes-returns-in_err-index-in-Some-OpenBracket-clause-reads
postfixes::postfixes-returns-in_err-index-in-Some-OpenBracket-clause-reads t c = λ root round k a.
    passes round c.args.tokens.now _ _ _ _ _ c.from_residual.ensures.1 (c.loop-value.invariant.0 root round k a) (c.in_err-index-in-Some-OpenBracket.ensures.reads root round k a)

pub postfixes::postfixes-returns-in_err-member-in-Some-Dot-clause-reads : goal.postfixes::postfixes-returns-in_err-member-in-Some-Dot-clause-reads
postfixes::postfixes-returns-in_err-member-in-Some-Dot-clause-reads t c = λ root round k a.
    passes round c.args.tokens.now _ _ _ _ _ c.from_residual-in_err-member-in-Some-Dot.ensures.1 (c.loop-value.invariant.0 root round k a) (c.in_err-member-in-Some-Dot.ensures.reads root round k a)

pub postfixes::postfixes-returns-in_err-longer-in-Some-Arrow-clause-reads : goal.postfixes::postfixes-returns-in_err-longer-in-Some-Arrow-clause-reads
postfixes::postfixes-returns-in_err-longer-in-Some-Arrow-clause-reads t c = λ root round k a.
    passes round c.args.tokens.now _ _ _ _ _ c.from_residual-in_err-longer-in-Some-Arrow.ensures.1 (c.loop-value.invariant.0 root round k a) (c.in_err-longer-in-Some-Arrow.ensures.reads root round k a)

-- Arguments.
abbrev first_value : tr.Expr → Todo Arguments
first_value e = build (tr.more e tr.none)

abbrev next_value : tr.Exprs → tr.Expr → Todo Arguments
next_value v e = build (with_last v e)

pub calls::arguments-returns-in_err-value-clause-reads : goal.calls::arguments-returns-in_err-value-clause-reads
calls::arguments-returns-in_err-value-clause-reads t c = λ root round k a.
    let ts = c.args.tokens.now in
    let at = c.args.at in
    let none : c.args.depth + 0 ≡ c.args.depth = omega arith in
    let same : at ≤ at = omega arith in
    passes round ts _ _ _ _ _ c.from_residual.ensures.1 (begins_with round ts at first_value k (λ p. refl))
    (c.in_err-value.ensures.reads root round (inside ts at at first_value k) (deeper c.args.depth at first_value a none same))

pub calls::arguments-loop-alloc-init : goal.calls::arguments-loop-alloc-init
calls::arguments-loop-alloc-init t c =
    let ts = c.args.tokens.now in
    let at = c.args.at in
    let value = c.in_ok-value.value in
    let after = c.in_ok-value.after in
    let past = c.in_ok-value.ensures.place in
    let none : c.args.depth + 0 ≡ c.args.depth = omega arith in
    let same : at ≤ at = omega arith in
    let le : at ≤ after = omega (arith, past) in (
      λ root round k a.
          begins_with round ts at first_value k (λ p. refl)
          ∙ c.in_ok-value.ensures.reads root round (inside ts at at first_value k) (deeper c.args.depth at first_value a none same)
          ∙ closes (Level 0) round ts at at after (boxed_of value) first_value k same le (quiet_expression ts after (spot_of ts at) (boxed_of value) c.in_ok-value.ensures.quiet)
          ∙ ap (λ x. run round (amid ts at after (build (exprs_of x)) k) (from ts after)) (sym (c.in_ok-add.ensures.ok ∙ ap (λ l. l ++ c.into_inner.result ∷ []) c.new-values.ensures.items ∙ ap (λ e. e ∷ []) c.into_inner.ensures)),
      past.0,
      past.1,
    )

pub calls::arguments-returns-in_err-value-2-clause-reads : goal.calls::arguments-returns-in_err-value-2-clause-reads
calls::arguments-returns-in_err-value-2-clause-reads t c = λ root round k a.
    let ts = c.args.tokens.now in
    let at = c.args.at in
    let place = c.loop-alloc.place in
    let v = exprs_of c.loop-alloc.values.items in
    let inner = c.in_ok-inside.inside in
    let here = c.in_ok-inside.ensures in
    let next = here.1 in
    let past = c.loop-alloc.invariant.1 in
    let shallow = c.requires.shallow in
    let d : c.args.depth + 0 ≤ 200 = omega (arith, shallow) in
    let none : c.args.depth + 0 ≡ c.args.depth = omega arith in
    let le : at ≤ place = omega (arith, past) in
    let le2 : at ≤ inner = omega (arith, past, next) in
    passes round ts _ _ _ _ _ c.from_residual-in_err-value-2.ensures.1
    (c.loop-alloc.invariant.0 root round k a
    ∙ took place inner (build v) (enter (Level 0) (next_value v)) (mark m.Comma) (around a) d le here.0 (c.loop-alloc-test.ensures.yes refl) next refl
    ∙ enters round ts at inner (Level 0) (next_value v) k)
    (c.in_err-value-2.ensures.reads root round (inside ts at inner (next_value v) k) (deeper c.args.depth inner (next_value v) a none le2))

pub calls::arguments-loop-alloc-preserved : goal.calls::arguments-loop-alloc-preserved
calls::arguments-loop-alloc-preserved t c =
    let ts = c.args.tokens.now in
    let at = c.args.at in
    let place = c.loop-alloc.place in
    let es = c.loop-alloc.values.items in
    let v = exprs_of es in
    let inner = c.in_ok-inside.inside in
    let value = c.in_ok-value-2.value in
    let end = c.in_ok-value-2.end in
    let here = c.in_ok-inside.ensures in
    let next = here.1 in
    let past = c.loop-alloc.invariant.1 in
    let past2 = c.in_ok-value-2.ensures.place in
    let shallow = c.requires.shallow in
    let d : c.args.depth + 0 ≤ 200 = omega (arith, shallow) in
    let none : c.args.depth + 0 ≡ c.args.depth = omega arith in
    let le : at ≤ place = omega (arith, past) in
    let le2 : at ≤ inner = omega (arith, past, next) in
    let le3 : inner ≤ end = omega (arith, past2) in
    let lt : at < end = omega (arith, past, next, past2) in (
      λ root round k a.
          c.loop-alloc.invariant.0 root round k a
          ∙ took place inner (build v) (enter (Level 0) (next_value v)) (mark m.Comma) (around a) d le here.0 (c.loop-alloc-test.ensures.yes refl) next refl
          ∙ p.expression_part round ts at inner end (next_value v) k (boxed_of value) le2 le3
          (c.in_ok-value-2.ensures.reads root round (inside ts at inner (next_value v) k) (deeper c.args.depth inner (next_value v) a none le2)) c.in_ok-value-2.ensures.quiet
          ∙ ap (λ x. run round (amid ts at end (build x) k) (from ts end)) (sym (ap exprs_of c.in_ok-add-2.ensures.ok ∙ exprs_with_last es c.into_inner-in-loop-alloc.result ∙ ap (λ e. with_last v (expr_of e)) c.into_inner-in-loop-alloc.ensures)),
      lt,
      past2.1,
    )

-- Calls.
abbrev behind_values : Name → tr.Exprs → Todo Unary
behind_values x v = read (sees is_close (build (tr.call x v)))

pub calls::call-returns-in_err-values-clause-reads : goal.calls::call-returns-in_err-values-clause-reads
calls::call-returns-in_err-values-clause-reads t c = λ root round k a.
    let ts = c.args.tokens.now in
    let at = c.args.at in
    let place = c.args.place in
    let x = c.args.name in
    let past = c.requires.behind in
    let le : at ≤ place = omega (arith, past) in
    let misses = c.is_mark.ensures.no c.if-is_mark.false in
    passes round ts _ _ _ _ _ c.from_residual-in_err-values.ensures.1
    (missed round ts at place is_close (build (tr.call x tr.none)) (enter Arguments (behind_values x)) k (mark m.CloseParenthesis) misses close_else
    ∙ enters round ts at place Arguments (behind_values x) k)
    (c.in_err-values.ensures.reads root round (inside ts at place (behind_values x) k) (deeper (c.args.depth + 1) place (behind_values x) a refl le))

pub calls::call-returns-in_err-end-2-clause-reads : goal.calls::call-returns-in_err-end-2-clause-reads
calls::call-returns-in_err-end-2-clause-reads t c = λ root round k a.
    let ts = c.args.tokens.now in
    let at = c.args.at in
    let place = c.args.place in
    let x = c.args.name in
    let v = exprs_of c.in_ok-values.values.items in
    let behind = c.in_ok-values.behind in
    let past = c.requires.behind in
    let shallow = c.requires.shallow in
    let past2 = c.in_ok-values.ensures.place in
    let d : c.args.depth + 1 ≤ 200 = omega (arith, shallow) in
    let le : at ≤ place = omega (arith, past) in
    let le2 : place ≤ behind = omega (arith, past2) in
    let le3 : at ≤ behind = omega (arith, past, past2) in
    let misses = c.is_mark.ensures.no c.if-is_mark.false in
    passes round ts _ _ _ _ _ c.from_residual-in_err-end-2.ensures.1
    (missed round ts at place is_close (build (tr.call x tr.none)) (enter Arguments (behind_values x)) k (mark m.CloseParenthesis) misses close_else
    ∙ part Arguments round ts at place behind (behind_values x) k v le le2
    (c.in_ok-values.ensures.reads root round (inside ts at place (behind_values x) k) (deeper (c.args.depth + 1) place (behind_values x) a refl le))
    (quiet_arguments ts behind (spot_of ts place) v c.in_ok-values.ensures.quiet))
    (expected_fault behind is_close (build (tr.call x v)) (mark m.CloseParenthesis) _ (around a) d le3 c.in_err-end-2.ensures refl (λ n. refl) close_else)

pub calls::call-returns-clause-reads : goal.calls::call-returns-clause-reads
calls::call-returns-clause-reads t c = λ root round k a.
    let ts = c.args.tokens.now in
    let at = c.args.at in
    let place = c.args.place in
    let x = c.args.name in
    let v = exprs_of c.in_ok-values.values.items in
    let behind = c.in_ok-values.behind in
    let end = c.in_ok-end-2.end in
    let past = c.requires.behind in
    let shallow = c.requires.shallow in
    let past2 = c.in_ok-values.ensures.place in
    let d : c.args.depth + 1 ≤ 200 = omega (arith, shallow) in
    let le : at ≤ place = omega (arith, past) in
    let le2 : place ≤ behind = omega (arith, past2) in
    let le3 : at ≤ behind = omega (arith, past, past2) in
    let misses = c.is_mark.ensures.no c.if-is_mark.false in
    missed round ts at place is_close (build (tr.call x tr.none)) (enter Arguments (behind_values x)) k (mark m.CloseParenthesis) misses close_else
    ∙ part Arguments round ts at place behind (behind_values x) k v le le2
    (c.in_ok-values.ensures.reads root round (inside ts at place (behind_values x) k) (deeper (c.args.depth + 1) place (behind_values x) a refl le))
    (quiet_arguments ts behind (spot_of ts place) v c.in_ok-values.ensures.quiet)
    ∙ expected behind end is_close (build (tr.call x v)) (mark m.CloseParenthesis) (around a) d le3 c.in_ok-end-2.ensures refl (λ n. refl)
    ∙ ap (λ e. run round (amid ts at end (build e) k) (from ts end)) (sym c.in_ok-whole-2.ensures.ok)

-- Names.
pub calls::named-returns-in_err-inside-clause-reads : goal.calls::named-returns-in_err-inside-clause-reads
calls::named-returns-in_err-inside-clause-reads t c = λ root round k a.
    let ts = c.args.tokens.now in
    let at = c.args.at in
    let x : Name = record { spot = spot_of ts at; text = c.args.text.now } in
    let shallow = c.requires.shallow in
    let d : c.args.depth + 1 ≤ 200 = omega (arith, shallow) in
    let le : at ≤ at + 1 = omega arith in
    passes round ts _ _ _ _ _ c.from_residual-in_err-inside.ensures.1 refl
    (far_fault (at + 1) (try (sees is_open (call x)) (build (tr.variable x))) (call x) (mark m.OpenParenthesis) _ (around a) d le (c.if-not-is_mark.ensures.yes refl) c.in_err-inside.ensures refl)

pub calls::named-returns-clause-reads : goal.calls::named-returns-clause-reads
calls::named-returns-clause-reads t c = λ root round k a.
    let ts = c.args.tokens.now in
    let at = c.args.at in
    let inner = c.in_ok-inside.inside in
    let here = c.in_ok-inside.ensures in
    let x : Name = record { spot = spot_of ts at; text = c.args.text.now } in
    let shallow = c.requires.shallow in
    let d : c.args.depth + 1 ≤ 200 = omega (arith, shallow) in
    let le : at ≤ at + 1 = omega arith in
    goes_along round ts (λ e q. amid ts at q (build (boxed_of e)) k) _ _ c.call.result
    (took (at + 1) inner (try (sees is_open (call x)) (build (tr.variable x))) (call x) (mark m.OpenParenthesis) (around a) d le here.0 (c.if-not-is_mark.ensures.yes refl) here.1 refl
    ∙ ap (λ s. run round (amid ts at inner (call (record { spot = s; text = c.args.text.now })) k) (from ts inner)) (sym c.spot_at-spot.ensures)
    ∙ ap (λ b. run round (amid ts at inner (call (record { spot = c.spot_at-spot.result; text = b })) k) (from ts inner)) (sym c.in_ok-text.ensures.ok))
    (c.call.ensures.reads root round k a)

-- Operands.
pub operands::operand-returns-in_err-value-clause-reads : goal.operands::operand-returns-in_err-value-clause-reads
operands::operand-returns-in_err-value-clause-reads t c = λ root round k a.
    let ts = c.args.tokens.now in
    let ok = c.in_ok-enter.ensures.ok in
    passes round ts _ _ _ _ _ c.from_residual-in_err-value.ensures.1
    (p.operand_begins c.args.at (word_of c.in-Some.word.now) a ok.0 ok.1 c.in-Some.ensures (sym c.if-not-begins.ensures))
    (c.in_err-value.ensures.reads root round k a)

pub operands::operand-returns-clause-reads : goal.operands::operand-returns-clause-reads
operands::operand-returns-clause-reads t c = λ root round k a.
    let ts = c.args.tokens.now in
    let ok = c.in_ok-enter.ensures.ok in
    goes_along round ts (λ e q. amid ts c.args.at q (build (boxed_of e)) k) _ _ c.postfixes.result
    (p.operand_begins c.args.at (word_of c.in-Some.word.now) a ok.0 ok.1 c.in-Some.ensures (sym c.if-not-begins.ensures)
    ∙ c.in_ok-value.ensures.reads root round k a)
    (c.postfixes.ensures.reads root round k a)

pub operands::parenthesis-returns-in-None-clause-reads : goal.operands::parenthesis-returns-in-None-clause-reads
operands::parenthesis-returns-in-None-clause-reads t c = λ root round k a.
    let ts = c.args.tokens.now in
    let at = c.args.at in
    goes_along round ts (λ e q. amid ts at q (build (boxed_of e)) k) _ _ c.grouped.result
    (p.no_cast_here round ts at (at + 1) k (sym c.in-None.ensures.value))
    (c.grouped.ensures.reads root round k a)

-- What the first word of an operand begins.
pub operands::core-returns-in-Name-clause-reads : goal.operands::core-returns-in-Name-clause-reads
operands::core-returns-in-Name-clause-reads t c = λ root round k a.
    let ts = c.args.tokens.now in
    let at = c.args.at in
    goes_along round ts (λ e q. amid ts at q (build (boxed_of e)) k) _ _ c.named.result
    (ap (λ x. run round (amid ts at (at + 1) (unary_in (spot_of ts at) (word_of x)) k) (from ts (at + 1))) c.in-Name.is)
    (c.named.ensures.reads root round k a)

pub operands::core-returns-in-Key-clause-reads : goal.operands::core-returns-in-Key-clause-reads
operands::core-returns-in-Key-clause-reads t c = λ root round k a.
    let ts = c.args.tokens.now in
    let at = c.args.at in
    goes_along round ts (λ e q. amid ts at q (build (boxed_of e)) k) _ _ c.keyed.result
    (ap (λ x. run round (amid ts at (at + 1) (unary_in (spot_of ts at) (word_of x)) k) (from ts (at + 1))) c.in-Key.is)
    (c.keyed.ensures.reads root round k a)

pub operands::core-returns-in-Mark-clause-reads : goal.operands::core-returns-in-Mark-clause-reads
operands::core-returns-in-Mark-clause-reads t c = λ root round k a.
    let ts = c.args.tokens.now in
    let at = c.args.at in
    goes_along round ts (λ e q. amid ts at q (build (boxed_of e)) k) _ _ c.marked.result
    (ap (λ x. run round (amid ts at (at + 1) (unary_in (spot_of ts at) (word_of x)) k) (from ts (at + 1))) c.in-Mark.is)
    (c.marked.ensures.reads root round k a)

pub operands::keyed-returns-in-Ralloc-clause-reads : goal.operands::keyed-returns-in-Ralloc-clause-reads
operands::keyed-returns-in-Ralloc-clause-reads t c = λ root round k a.
    let ts = c.args.tokens.now in
    let at = c.args.at in
    goes_along round ts (λ e q. amid ts at q (build (boxed_of e)) k) _ _ c.ralloc.result
    (ap (λ x. run round (amid ts at (at + 1) (unary_in (spot_of ts at) (key x)) k) (from ts (at + 1))) c.in-Ralloc.is)
    (c.ralloc.ensures.reads root round k a)

pub operands::keyed-returns-in-RarrayAlloc-clause-reads : goal.operands::keyed-returns-in-RarrayAlloc-clause-reads
operands::keyed-returns-in-RarrayAlloc-clause-reads t c = λ root round k a.
    let ts = c.args.tokens.now in
    let at = c.args.at in
    goes_along round ts (λ e q. amid ts at q (build (boxed_of e)) k) _ _ c.rarrayalloc.result
    (ap (λ x. run round (amid ts at (at + 1) (unary_in (spot_of ts at) (key x)) k) (from ts (at + 1))) c.in-RarrayAlloc.is)
    (c.rarrayalloc.ensures.reads root round k a)

pub operands::marked-returns-in-Some-clause-reads : goal.operands::marked-returns-in-Some-clause-reads
operands::marked-returns-in-Some-clause-reads t c = λ root round k a.
    let ts = c.args.tokens.now in
    let at = c.args.at in
    goes_along round ts (λ e q. amid ts at q (build (boxed_of e)) k) _ _ c.prefixed.result
    (ap (λ td. run round (amid ts at (at + 1) td k) (from ts (at + 1))) (p.prefix_reads (spot_of ts at) c.args.first c.in-Some.op (sym c.in-Some.ensures)))
    (c.prefixed.ensures.reads root round k a)

pub operands::marked-returns-in-None-clause-reads : goal.operands::marked-returns-in-None-clause-reads
operands::marked-returns-in-None-clause-reads t c = λ root round k a.
    let ts = c.args.tokens.now in
    let at = c.args.at in
    goes_along round ts (λ e q. amid ts at q (build (boxed_of e)) k) _ _ c.parenthesis.result
    (ap (λ td. run round (amid ts at (at + 1) td k) (from ts (at + 1))) (p.no_prefix_reads (spot_of ts at) c.args.first c.requires.begun (sym c.in-None.ensures)))
    (c.parenthesis.ensures.reads root round k a)
