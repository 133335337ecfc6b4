use Rattle.std.proofs.Common.{◌≤◌, map, refl, arith}
use Rattle.rc_syntax.specs.declared.word.Mark.TheVariants as m
use Rattle.rc_syntax.specs.Tokens.{mark}
use Rattle.rc_syntax.specs.Grammar.{TreeOf, Params, ParamsEnd}
use Rattle.rc_syntax.specs.reader.Todo.{Todo, build, read, sees}
use Rattle.rc_syntax.specs.reader.Reading.{is_close}
use Rattle.rc_syntax.specs.Shape.{param_of}
use Rattle.rc_expr.proofs.Tests.{close_else}
use Rattle.rc_stmt.proofs.Going.{fails_first, flat, first_part, first_part_refused, word, word_refused, ends_plain}
use Rattle.rc_parser.proofs.Declared.{params_begin}
use Rattle.rc_parser.proofs.params.some_params.Goals as goal

abbrev closed_params : TreeOf Params → Todo ParamsEnd
closed_params ps = read (sees is_close (build ps))

pub returns-in_err-params-clause-reads : goal.returns-in_err-params-clause-reads
returns-in_err-params-clause-reads c =
    fails_first c.from_residual.ensures.1 (flat (record { none = refl; plain = λ n r. refl }) (first_part_refused Params closed_params (λ v. map param_of v.items) _ (params_begin c.args.tokens.now c.args.at c.requires.some c.requires.typed) c.in_err-params.ensures.reads))

pub returns-in_err-end-clause-reads : goal.returns-in_err-end-clause-reads
returns-in_err-end-clause-reads c =
    let behind = c.in_ok-params.behind in
    let params = c.in_ok-params.params in
    fails_first c.from_residual-in_err-end.ensures.1 (flat (record { none = refl; plain = λ n r. refl }) (first_part Params behind closed_params (λ v. map param_of v.items) params (params_begin c.args.tokens.now c.args.at c.requires.some c.requires.typed) c.in_ok-params.ensures.reads
    (word_refused behind is_close (build (map param_of params.items)) (mark m.CloseParenthesis) _ c.in_err-end.ensures close_else)))

pub returns-clause-reads : goal.returns-clause-reads
returns-clause-reads c =
    let behind = c.in_ok-params.behind in
    let params = c.in_ok-params.params in
    let end = c.in_ok-end.end in
    let past = c.in_ok-params.ensures.place in
    let next = c.in_ok-end.ensures.1 in
    let le : c.args.at ≤ behind = omega (arith, past) in
    let le2 : c.args.at ≤ end = omega (arith, past, next) in
    flat (record { none = refl; plain = λ n r. refl }) (first_part Params behind closed_params (λ v. map param_of v.items) params (params_begin c.args.tokens.now c.args.at c.requires.some c.requires.typed) c.in_ok-params.ensures.reads
    (word behind end is_close (build (map param_of params.items)) _ (mark m.CloseParenthesis) c.requires.shallow le c.in_ok-end.ensures refl refl
    (ends_plain end _ (map param_of params.items) refl le2 (λ p. refl))))
