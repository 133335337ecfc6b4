use Rattle.std.proofs.Common.{◌≤◌, ◌+◌, map, refl, subst, arith}
use Rattle.rc_syntax.specs.declared.word.Mark.TheVariants as m
use Rattle.rc_syntax.specs.declared.tree.Base.TheVariants as b
use Rattle.rc_syntax.specs.Tokens.{mark}
use Rattle.rc_syntax.specs.Grammar.{Item}
use Rattle.rc_syntax.specs.reader.Reading.{is_open_brace, struct_fields, item_based}
use Rattle.rc_syntax.specs.Shape.{item_of}
use Rattle.rc_words.specs.Words.{spot_of}
use Rattle.rc_stmt.specs.Along.{Proceeds}
use Rattle.rc_stmt.proofs.Going.{word, no_word}
use Rattle.rc_stmt.proofs.Tests.{open_brace_else}
use Rattle.rc_parser.proofs.items.struct_named.Goals as goal

pub returns-then-is_mark-clause-reads : goal.returns-then-is_mark-clause-reads
returns-then-is_mark-clause-reads c =
    let sp = spot_of c.args.tokens.now c.args.at in
    let place = c.args.place in
    let d : 0 ≤ 200 = omega arith in
    let past = c.requires.behind in
    let le : c.args.at ≤ place = omega (arith, past) in
    word place (place + 1) is_open_brace (struct_fields sp c.args.name) (item_based sp (b.Struct sp c.args.name)) (mark m.OpenBrace) d le (c.if-is_mark.ensures.yes refl, refl) refl refl c.struct_fields.ensures.reads

pub returns-clause-reads : goal.returns-clause-reads
returns-clause-reads c =
    let ts = c.args.tokens.now in
    let sp = spot_of ts c.args.at in
    no_word c.args.place is_open_brace (struct_fields sp c.args.name) (item_based sp (b.Struct sp c.args.name)) (mark m.OpenBrace) (c.if-is_mark.ensures.no refl) open_brace_else
    (subst (λ s. Proceeds Item 0 ts c.args.at c.args.place (item_based sp (b.Struct s c.args.name)) (λ v. map item_of v.items) c.item_based.result) c.spot_at.ensures c.item_based.ensures.reads)
