use Rattle.std.proofs.Common.{◌≤◌, ◌+◌, refl, arith}
use Rattle.rc_syntax.specs.declared.word.Key.TheVariants.{Struct}
use Rattle.rc_syntax.specs.Tokens.{key}
use Rattle.rc_syntax.specs.reader.Todo.{stop, read}
use Rattle.rc_syntax.specs.reader.Reading.{named, struct_named}
use Rattle.rc_words.specs.Words.{spot_of}
use Rattle.rc_stmt.proofs.Going.{fails_first, flat, first_word, name_read, name_refused}
use Rattle.rc_parser.proofs.items.struct_item.Goals as goal

pub returns-in_err-name-clause-reads : goal.returns-in_err-name-clause-reads
returns-in_err-name-clause-reads c =
    let at = c.args.at in
    let sp = spot_of c.args.tokens.now at in
    let d : 0 ≤ 200 = omega arith in
    fails_first c.from_residual.ensures.1 (flat (record { none = refl; plain = λ n r. refl }) (first_word (at + 1) (key Struct) (read (named (struct_named sp))) d c.requires.here refl refl refl
    (name_refused (at + 1) (struct_named sp) _ c.in_err-name.ensures)))

pub returns-clause-reads : goal.returns-clause-reads
returns-clause-reads c =
    let at = c.args.at in
    let sp = spot_of c.args.tokens.now at in
    let d : 0 ≤ 200 = omega arith in
    let le : at ≤ at + 1 = omega arith in
    flat (record { none = refl; plain = λ n r. refl }) (first_word (at + 1) (key Struct) (read (named (struct_named sp))) d c.requires.here refl refl refl
    (name_read (at + 1) c.in_ok-name.place (struct_named sp) stop c.in_ok-name.name d le c.in_ok-name.ensures refl c.struct_named.ensures.reads))
