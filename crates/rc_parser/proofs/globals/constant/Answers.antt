use Rattle.std.proofs.Common.{◌≡◌, ◌≤◌, ◌+◌, Some, refl, sym, ap, ◌∙◌, arith}
use Rattle.rc_syntax.specs.reader.Todo.{build, only}
use Rattle.rc_syntax.specs.WordShapes.{word_of}
use Rattle.rc_words.specs.Words.{spot_of}
use Rattle.rc_words.proofs.Standing.{word_stands}
use Rattle.rc_parser.specs.Items.{constant_of}
use Rattle.rc_stmt.proofs.Going.{flat, first_word, ends_plain}
use Rattle.rc_parser.proofs.Declared.{given, constant_reads}
use Rattle.rc_parser.proofs.globals.constant.Goals as goal

pub returns-clause-reads : goal.returns-clause-reads
returns-clause-reads c =
    let ts = c.args.tokens.now in
    let at = c.args.at in
    let sp = spot_of ts at in
    let x = word_of c.in-Some.word.now in
    let constant = c.in-Some-constant_of.constant in
    let stands = c.in-Some.ensures in
    let le : at ≤ at + 1 = omega arith in
    let same : constant_of sp x ≡ Some constant = ap (λ s. constant_of s x) (sym c.spot_at.ensures) ∙ sym c.constant_of.ensures ∙ c.in-Some-constant_of.is in
    flat (record { none = refl; plain = λ n r. refl })
    (first_word (at + 1) x (build constant) c.requires.shallow stands refl
    (ap only (constant_reads sp x (λ e. c.if-is_mark.ensures.no refl (word_stands ts at x stands ∙ ap Some e)) ∙ ap given same)) refl
    (ends_plain (at + 1) constant constant refl le (λ p. refl)))
