use Rattle.std.proofs.Common.{◌≤◌, Bool, Option, List, map, refl, sym, ap, ◌∙◌, arith}
use Rattle.rc_syntax.specs.declared.tree.Spot.{Spot}
use Rattle.rc_syntax.specs.declared.tree.Name.{Name}
use Rattle.rc_syntax.specs.Tree as t
use Rattle.rc_syntax.specs.Grammar.{Item, ParamsEnd, FunctionEnd, FunctionEnding}
use Rattle.rc_syntax.specs.reader.Todo.{Todo, build, enter}
use Rattle.rc_syntax.specs.reader.Reading.{function_of}
use Rattle.rc_syntax.specs.Shape.{item_of, param_of, type_of, mapped}
use Rattle.rc_words.specs.Words.{spot_of}
use Rattle.rc_parser.specs.Shapes.{ending_of}
use Rattle.rc_stmt.proofs.Going.{fails, part, part_refused, ends_plain}
use Rattle.rc_parser.proofs.functions.function_params.Goals as goal

abbrev ended : Spot → Bool → Option t.TypeName → Name → List t.Param → FunctionEnding → Todo Item
ended sp d ty x ps end = build (function_of sp d ty x ps end)

abbrev with_params : Spot → Bool → Option t.TypeName → Name → List t.Param → Todo Item
with_params sp d ty x ps = enter FunctionEnd (ended sp d ty x ps)

pub returns-in_err-params-clause-reads : goal.returns-in_err-params-clause-reads
returns-in_err-params-clause-reads c =
    let sp = spot_of c.args.tokens.now c.args.at in
    let ty = mapped type_of c.args.returned in
    let past = c.requires.behind in
    let le : c.args.at ≤ c.args.place = omega (arith, past) in
    fails c.from_residual.ensures.1 (part_refused ParamsEnd c.args.place (with_params sp c.args.deletes ty c.args.name) (λ v. map param_of v.items) _ c.in_err-params.ensures.reads le)

pub returns-in_err-ending-clause-reads : goal.returns-in_err-ending-clause-reads
returns-in_err-ending-clause-reads c =
    let sp = spot_of c.args.tokens.now c.args.at in
    let ty = mapped type_of c.args.returned in
    let behind = c.in_ok-params.behind in
    let params = c.in_ok-params.params in
    let past = c.requires.behind in
    let past2 = c.in_ok-params.ensures.place in
    let le : c.args.at ≤ c.args.place = omega (arith, past) in
    let le2 : c.args.at ≤ behind = omega (arith, past, past2) in
    fails c.from_residual-in_err-ending.ensures.1 (part ParamsEnd c.args.place behind (with_params sp c.args.deletes ty c.args.name) (λ v. map param_of v.items) params c.in_ok-params.ensures.reads le
    (part_refused FunctionEnd behind (ended sp c.args.deletes ty c.args.name (map param_of params.items)) ending_of _ c.in_err-ending.ensures.reads le2))

pub returns-clause-reads : goal.returns-clause-reads
returns-clause-reads c =
    let sp = spot_of c.args.tokens.now c.args.at in
    let ty = mapped type_of c.args.returned in
    let behind = c.in_ok-params.behind in
    let params = c.in_ok-params.params in
    let ps = map param_of params.items in
    let ending = c.in_ok-ending.ending in
    let end = c.in_ok-ending.end in
    let past = c.requires.behind in
    let past2 = c.in_ok-params.ensures.place in
    let past3 = c.in_ok-ending.ensures.place in
    let le : c.args.at ≤ c.args.place = omega (arith, past) in
    let le2 : c.args.at ≤ behind = omega (arith, past, past2) in
    let le3 : c.args.at ≤ end = omega (arith, past, past2, past3) in
    part ParamsEnd c.args.place behind (with_params sp c.args.deletes ty c.args.name) (λ v. map param_of v.items) params c.in_ok-params.ensures.reads le
    (part FunctionEnd behind end (ended sp c.args.deletes ty c.args.name ps) ending_of ending c.in_ok-ending.ensures.reads le2
    (ends_plain end c.in_ok-items.items (function_of sp c.args.deletes ty c.args.name ps (ending_of ending))
    (sym (ap (map item_of) c.in_ok-items.ensures.ok ∙ c.function_of-function.ensures ∙ ap (λ s. function_of s c.args.deletes ty c.args.name ps (ending_of ending)) c.spot_at.ensures)) le3 (λ p. refl)))
