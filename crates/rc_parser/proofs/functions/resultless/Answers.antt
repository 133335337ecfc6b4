use Rattle.std.proofs.Common.{◌≤◌, ◌+◌, None, false, refl, arith}
use Rattle.rc_syntax.specs.declared.word.Key.TheVariants.{Void}
use Rattle.rc_syntax.specs.Tokens.{key}
use Rattle.rc_syntax.specs.reader.Reading.{function_named}
use Rattle.rc_words.specs.Words.{spot_of}
use Rattle.rc_stmt.proofs.Going.{flat, first_word}
use Rattle.rc_parser.proofs.functions.resultless.Goals as goal

pub returns-clause-reads : goal.returns-clause-reads
returns-clause-reads c =
    let at = c.args.at in
    let d : 0 ≤ 200 = omega arith in
    flat (record { none = refl; plain = λ n r. refl }) (first_word (at + 1) (key Void) (function_named (spot_of c.args.tokens.now at) false None) d c.requires.here refl refl refl c.function_named.ensures.reads)
