use Rattle.std.proofs.Common.{◌≡◌, ◌++◌, sym, subst, map, IfOk, IfErr, OnOk}
use Rattle.rc_core.specs.Shapes.{bytes_of}
use Rattle.rc_syntax.specs.Shape as written
use Rattle.rc_syntax.specs.Tree as tree
use Rattle.rc_deletes.specs.Judged.{Judged, Holds}
use Rattle.rc_deletes.specs.Expressions as rule
use Rattle.rc_deletes.specs.Values.{Meant}
use Rattle.rc_typed_values.specs.Shapes.{typed_of, meant_of}
use Rattle.rc_typed_values.specs.Stops.{StopsAt}
use Rattle.rc_defined.specs.Contexts.{context_in, scope_in}
use Rattle.rc_terms.proofs.Arms.{call_written, array_is, choice_is}
use Rattle.rc_terms.proofs.expressions.+expressions.Goals as goal

pub meant-returns-in-Call-clause-ok : goal.meant-returns-in-Call-clause-ok
meant-returns-in-Call-clause-ok t c =
    let e = call_written c.args.e.now c.in-Call.name c.in-Call.given c.deref.result.now c.in-Call.is c.deref.ensures.value in
    subst (λ (x : tree.Expr). IfOk c.type_call.result (λ m. rule.meant (context_in c.args.environment.now) (scope_in c.args.environment.now) (map bytes_of c.args.strings.now.items) x ≡ Holds (meant_of m))) (sym e) c.type_call.ensures.ok

pub meant-returns-in-Call-clause-strings : goal.meant-returns-in-Call-clause-strings
meant-returns-in-Call-clause-strings t c =
    let e = call_written c.args.e.now c.in-Call.name c.in-Call.given c.deref.result.now c.in-Call.is c.deref.ensures.value in
    subst (λ (x : tree.Expr). OnOk c.type_call.result (map bytes_of c.type_call.new.strings.items ≡ map bytes_of c.args.strings.now.items ++ rule.strings_in x)) (sym e) c.type_call.ensures.strings

pub meant-returns-in-Call-clause-err : goal.meant-returns-in-Call-clause-err
meant-returns-in-Call-clause-err t c =
    let e = call_written c.args.e.now c.in-Call.name c.in-Call.given c.deref.result.now c.in-Call.is c.deref.ensures.value in
    subst (λ (x : tree.Expr). IfErr c.type_call.result (StopsAt (rule.meant (context_in c.args.environment.now) (scope_in c.args.environment.now) (map bytes_of c.args.strings.now.items) x))) (sym e) c.type_call.ensures.err

pub type_rarrayalloc-returns-clause-ok : goal.type_rarrayalloc-returns-clause-ok
type_rarrayalloc-returns-clause-ok t c =
    let e = array_is (context_in c.args.environment.now) (scope_in c.args.environment.now) (map bytes_of c.args.strings.now.items) (written.expr_of c.args.r.now) (written.expr_of c.args.k.now) (typed_of c.in_ok-region.region) (map bytes_of c.value.new.strings.items) c.in_ok-region.ensures.ok c.in_ok-region.ensures.strings
    c.args.at (written.type_of c.args.n.now) (typed_of c.in_ok-number.number) c.in_ok-number.ensures.ok in
    subst (λ (x : Judged Meant). IfOk c.allocate_array.result (λ m. x ≡ Holds (meant_of m))) (sym e) c.allocate_array.ensures.ok

pub type_rarrayalloc-returns-clause-err : goal.type_rarrayalloc-returns-clause-err
type_rarrayalloc-returns-clause-err t c =
    let e = array_is (context_in c.args.environment.now) (scope_in c.args.environment.now) (map bytes_of c.args.strings.now.items) (written.expr_of c.args.r.now) (written.expr_of c.args.k.now) (typed_of c.in_ok-region.region) (map bytes_of c.value.new.strings.items) c.in_ok-region.ensures.ok c.in_ok-region.ensures.strings
    c.args.at (written.type_of c.args.n.now) (typed_of c.in_ok-number.number) c.in_ok-number.ensures.ok in
    subst (λ (x : Judged Meant). IfErr c.allocate_array.result (StopsAt x)) (sym e) c.allocate_array.ensures.err

pub type_conditional-returns-clause-err : goal.type_conditional-returns-clause-err
type_conditional-returns-clause-err t c =
    let e = choice_is (context_in c.args.environment.now) (scope_in c.args.environment.now) (map bytes_of c.args.strings.now.items) (written.expr_of c.args.c.now) (written.expr_of c.args.a.now) (typed_of c.in_ok-test.test) (map bytes_of c.value.new.strings.items) c.in_ok-test.ensures.ok c.in_ok-test.ensures.strings
    c.args.at (written.expr_of c.args.b.now) (typed_of c.in_ok-v.v) (map bytes_of c.value-2.new.strings.items) c.in_ok-v.ensures.ok c.in_ok-v.ensures.strings (typed_of c.in_ok-w.w) c.in_ok-w.ensures.ok in
    subst (λ (x : Judged Meant). IfErr c.choose.result (StopsAt x)) (sym e) c.choose.ensures.err
