use Rattle.std.proofs.Common.{◌≤◌, Bool, Option, refl, arith}
use Rattle.rc_syntax.specs.declared.word.Mark.TheVariants as m
use Rattle.rc_syntax.specs.declared.tree.Spot.{Spot}
use Rattle.rc_syntax.specs.declared.tree.Name.{Name}
use Rattle.rc_syntax.specs.Tokens.{mark}
use Rattle.rc_syntax.specs.Tree as t
use Rattle.rc_syntax.specs.Grammar.{Item}
use Rattle.rc_syntax.specs.reader.Todo.{Todo, stop, read, sees}
use Rattle.rc_syntax.specs.reader.Reading.{is_open, function_params}
use Rattle.rc_syntax.specs.Shape.{type_of, mapped}
use Rattle.rc_words.specs.Words.{spot_of}
use Rattle.rc_expr.proofs.Tests.{open_else}
use Rattle.rc_stmt.proofs.Going.{fails, name_read, name_refused, word, word_refused}
use Rattle.rc_parser.proofs.functions.function_named.Goals as goal

abbrev opened : Spot → Bool → Option t.TypeName → Name → Todo Item
opened sp d ty x = read (sees is_open (function_params sp d ty x))

pub returns-in_err-name-clause-reads : goal.returns-in_err-name-clause-reads
returns-in_err-name-clause-reads c =
    fails c.from_residual.ensures.1 (name_refused c.args.place (opened (spot_of c.args.tokens.now c.args.at) c.args.deletes (mapped type_of c.args.returned)) _ c.in_err-name.ensures)

pub returns-in_err-inside-clause-reads : goal.returns-in_err-inside-clause-reads
returns-in_err-inside-clause-reads c =
    let sp = spot_of c.args.tokens.now c.args.at in
    let ty = mapped type_of c.args.returned in
    let name = c.in_ok-name.name in
    let d : 0 ≤ 200 = omega arith in
    let past = c.requires.behind in
    let le : c.args.at ≤ c.args.place = omega (arith, past) in
    fails c.from_residual-in_err-inside.ensures.1 (name_read c.args.place c.in_ok-name.behind (opened sp c.args.deletes ty) stop name d le c.in_ok-name.ensures refl
    (word_refused c.in_ok-name.behind is_open (function_params sp c.args.deletes ty name) (mark m.OpenParenthesis) _ c.in_err-inside.ensures open_else))

pub returns-clause-reads : goal.returns-clause-reads
returns-clause-reads c =
    let sp = spot_of c.args.tokens.now c.args.at in
    let ty = mapped type_of c.args.returned in
    let name = c.in_ok-name.name in
    let behind = c.in_ok-name.behind in
    let d : 0 ≤ 200 = omega arith in
    let past = c.requires.behind in
    let next = c.in_ok-name.ensures.2 in
    let le : c.args.at ≤ c.args.place = omega (arith, past) in
    let le2 : c.args.at ≤ behind = omega (arith, past, next) in
    name_read c.args.place behind (opened sp c.args.deletes ty) stop name d le c.in_ok-name.ensures refl
    (word behind c.in_ok-inside.inside is_open (function_params sp c.args.deletes ty name) stop (mark m.OpenParenthesis) d le2 c.in_ok-inside.ensures refl refl c.function_params.ensures.reads)
