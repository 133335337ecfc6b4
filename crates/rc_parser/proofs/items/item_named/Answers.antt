use Rattle.std.proofs.Common.{◌≤◌, ◌+◌, ◌-◌, Some, false, refl, arith}
use Rattle.rc_syntax.specs.declared.word.Mark.TheVariants as m
use Rattle.rc_syntax.specs.Tokens.{mark}
use Rattle.rc_syntax.specs.Grammar.{typed}
use Rattle.rc_syntax.specs.reader.Reading.{is_open, function_params, global_named}
use Rattle.rc_words.specs.Words.{spot_of}
use Rattle.rc_expr.proofs.Tests.{open_else}
use Rattle.rc_stmt.proofs.Going.{word, no_word}
use Rattle.rc_parser.proofs.items.item_named.Goals as goal

pub returns-then-not-is_mark-clause-reads : goal.returns-then-not-is_mark-clause-reads
returns-then-not-is_mark-clause-reads c =
    let ts = c.args.tokens.now in
    let ns = c.args.head.stars.items in
    no_word c.args.place is_open (function_params (spot_of ts c.args.at) false (Some (typed c.args.base ns)) c.args.head.name) (global_named c.args.base (spot_of ts c.args.head.at) (c.args.head.at - c.args.at) ns c.args.head.name)
    (mark m.OpenParenthesis) (c.if-not-is_mark.ensures.no refl) open_else c.globals.ensures.reads

pub returns-clause-reads : goal.returns-clause-reads
returns-clause-reads c =
    let ts = c.args.tokens.now in
    let ns = c.args.head.stars.items in
    let place = c.args.place in
    let d : 0 ≤ 200 = omega arith in
    let past = c.requires.later in
    let past2 = c.requires.behind in
    let le : c.args.at ≤ place = omega (arith, past, past2) in
    word place (place + 1) is_open (function_params (spot_of ts c.args.at) false (Some (typed c.args.base ns)) c.args.head.name) (global_named c.args.base (spot_of ts c.args.head.at) (c.args.head.at - c.args.at) ns c.args.head.name)
    (mark m.OpenParenthesis) d le (c.if-not-is_mark.ensures.yes refl, refl) refl refl c.function_params.ensures.reads
