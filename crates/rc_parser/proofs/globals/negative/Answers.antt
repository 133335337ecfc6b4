use Rattle.std.proofs.Common.{◌≤◌, ◌+◌, ℕ, Bool, refl, sym, ap, arith}
use Rattle.rc_syntax.specs.declared.word.Mark.TheVariants as m
use Rattle.rc_syntax.specs.declared.tree.Spot.{Spot}
use Rattle.rc_syntax.specs.declared.tree.Constant.TheVariants as k
use Rattle.rc_syntax.specs.Tokens.{mark}
use Rattle.rc_syntax.specs.Grammar.{Constant}
use Rattle.rc_syntax.specs.reader.Todo.{Todo, build}
use Rattle.rc_syntax.specs.reader.Reading.{constant_in}
use Rattle.rc_words.specs.Words.{spot_of}
use Rattle.rc_stmt.proofs.Going.{fails_first, flat, first_word, ends_plain}
use Rattle.rc_parser.proofs.Numbers.{number_read, number_refused}
use Rattle.rc_parser.proofs.globals.negative.Goals as goal

abbrev given : Spot → ℕ → Bool → Todo Constant
given sp i unsigned = build (k.Negative sp i unsigned)

pub returns-in_err-number-clause-reads : goal.returns-in_err-number-clause-reads
returns-in_err-number-clause-reads c =
    let at = c.args.at in
    let sp = spot_of c.args.tokens.now at in
    fails_first c.from_residual.ensures.1 (flat (record { none = refl; plain = λ n r. refl }) (first_word (at + 1) (mark m.Minus) (constant_in sp (mark m.Minus)) c.requires.shallow c.requires.here refl refl refl
    (number_refused (at + 1) (given sp) _ c.in_err-number.ensures)))

pub returns-clause-reads : goal.returns-clause-reads
returns-clause-reads c =
    let at = c.args.at in
    let sp = spot_of c.args.tokens.now at in
    let number = c.in_ok-number.number in
    let end = c.in_ok-number.end in
    let next = c.in_ok-number.ensures.1 in
    let le : at ≤ at + 1 = omega arith in
    let le2 : at ≤ end = omega (arith, next) in
    flat (record { none = refl; plain = λ n r. refl }) (first_word (at + 1) (mark m.Minus) (constant_in sp (mark m.Minus)) c.requires.shallow c.requires.here refl refl refl
    (number_read (at + 1) end (given sp) number.value number.unsigned c.requires.shallow le c.in_ok-number.ensures refl
    (ends_plain end _ (k.Negative sp number.value number.unsigned) (ap (λ s. k.Negative s number.value number.unsigned) (sym c.spot_at.ensures)) le2 (λ p. refl))))
