use Rattle.std.proofs.Common.{ℕ, ◌≤◌, ◌+◌, Some, None, Bool, refl, sym, ap, arith}
use Rattle.rc_syntax.specs.declared.word.Mark.TheVariants as m
use Rattle.rc_syntax.specs.declared.tree.Spot.{Spot}
use Rattle.rc_syntax.specs.Tokens.{mark}
use Rattle.rc_syntax.specs.reader.Todo.{build, read, sees}
use Rattle.rc_syntax.specs.Grammar.{FieldDeclarator}
use Rattle.rc_syntax.specs.reader.Reading.{is_open_bracket, is_close_bracket, length_in}
use Rattle.rc_words.specs.Words.{spot_of}
use Rattle.rc_expr.proofs.Tests.{close_bracket_else}
use Rattle.rc_stmt.proofs.Going.{fails, word, no_word, word_refused, ends_plain}
use Rattle.rc_parser.proofs.Numbers.{number_read, number_refused}
use Rattle.rc_stmt.proofs.Tests.{open_bracket_else}
use Rattle.rc_parser.proofs.fields.field_named.Goals as goal

pub returns-then-not-is_mark-clause-reads : goal.returns-then-not-is_mark-clause-reads
returns-then-not-is_mark-clause-reads c =
    let ts = c.args.tokens.now in
    let at = c.args.head.at in
    let place = c.args.place in
    let past = c.requires.behind in
    let le : at ≤ place = omega (arith, past) in
    let plain : Spot → FieldDeclarator = λ sp. record { spot = sp; stars = c.args.head.stars.items; name = c.args.head.name; length = None } in
    no_word place is_open_bracket _ (build (plain (spot_of ts at))) (mark m.OpenBracket) (c.if-not-is_mark.ensures.no refl) open_bracket_else
    (ends_plain place _ (plain (spot_of ts at)) (ap plain (sym c.spot_at-spot.ensures)) le (λ p. refl))

pub returns-in_err-number-clause-reads : goal.returns-in_err-number-clause-reads
returns-in_err-number-clause-reads c =
    let ts = c.args.tokens.now in
    let at = c.args.head.at in
    let place = c.args.place in
    let past = c.requires.behind in
    let le : at ≤ place = omega (arith, past) in
    let array : ℕ → Bool → FieldDeclarator = λ i unsigned. record { spot = spot_of ts at; stars = c.args.head.stars.items; name = c.args.head.name; length = Some i } in
    fails c.from_residual.ensures.1
    (word place (place + 1) is_open_bracket (length_in array) _ (mark m.OpenBracket) c.requires.shallow le (c.if-not-is_mark.ensures.yes refl, refl) refl refl
    (number_refused (place + 1) (λ i unsigned. read (sees is_close_bracket (build (array i unsigned)))) _ c.in_err-number.ensures))

pub returns-in_err-end-clause-reads : goal.returns-in_err-end-clause-reads
returns-in_err-end-clause-reads c =
    let ts = c.args.tokens.now in
    let at = c.args.head.at in
    let place = c.args.place in
    let past = c.requires.behind in
    let le : at ≤ place = omega (arith, past) in
    let le2 : at ≤ place + 1 = omega (arith, past) in
    let number = c.in_ok-number.number in
    let array : ℕ → Bool → FieldDeclarator = λ i unsigned. record { spot = spot_of ts at; stars = c.args.head.stars.items; name = c.args.head.name; length = Some i } in
    fails c.from_residual-in_err-end.ensures.1
    (word place (place + 1) is_open_bracket (length_in array) _ (mark m.OpenBracket) c.requires.shallow le (c.if-not-is_mark.ensures.yes refl, refl) refl refl
    (number_read (place + 1) c.in_ok-number.behind (λ i unsigned. read (sees is_close_bracket (build (array i unsigned)))) number.value number.unsigned c.requires.shallow le2 c.in_ok-number.ensures refl
    (word_refused c.in_ok-number.behind is_close_bracket (build (array number.value number.unsigned)) (mark m.CloseBracket) _ c.in_err-end.ensures close_bracket_else)))

pub returns-clause-reads : goal.returns-clause-reads
returns-clause-reads c =
    let ts = c.args.tokens.now in
    let at = c.args.head.at in
    let place = c.args.place in
    let behind = c.in_ok-number.behind in
    let end = c.in_ok-end.end in
    let past = c.requires.behind in
    let next = c.in_ok-number.ensures.1 in
    let next2 = c.in_ok-end.ensures.1 in
    let le : at ≤ place = omega (arith, past) in
    let le2 : at ≤ place + 1 = omega (arith, past) in
    let le3 : at ≤ behind = omega (arith, past, next) in
    let le4 : at ≤ end = omega (arith, past, next, next2) in
    let number = c.in_ok-number.number in
    let array : ℕ → Bool → FieldDeclarator = λ i unsigned. record { spot = spot_of ts at; stars = c.args.head.stars.items; name = c.args.head.name; length = Some i } in
    let given : Spot → FieldDeclarator = λ sp. record { spot = sp; stars = c.args.head.stars.items; name = c.args.head.name; length = Some number.value } in
    word place (place + 1) is_open_bracket (length_in array) _ (mark m.OpenBracket) c.requires.shallow le (c.if-not-is_mark.ensures.yes refl, refl) refl refl
    (number_read (place + 1) behind (λ i unsigned. read (sees is_close_bracket (build (array i unsigned)))) number.value number.unsigned c.requires.shallow le2 c.in_ok-number.ensures refl
    (word behind end is_close_bracket (build (array number.value number.unsigned)) _ (mark m.CloseBracket) c.requires.shallow le3 c.in_ok-end.ensures refl refl
    (ends_plain end _ (given (spot_of ts at)) (ap given (sym c.spot_at-spot.ensures)) le4 (λ p. refl))))
