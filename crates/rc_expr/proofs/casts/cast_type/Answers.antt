use Rattle.std.proofs.Common.{◌≤◌, ◌+◌, ◌-◌, ap, refl, ◌∙◌, arith}
use Rattle.rc_syntax.specs.Tokens.{key}
use Rattle.rc_syntax.specs.reader.Reading.{parenthesized, cast_to}
use Rattle.rc_syntax.specs.reader.Steps.{run}
use Rattle.rc_words.specs.Words.{spot_of, from}
use Rattle.rc_expr.specs.Goes.{amid, cast_rest, key_of}
use Rattle.rc_expr.proofs.Running.{passes, goes_along, around, took, far_fault}
use Rattle.rc_expr.proofs.Parts.{cast_step}
use Rattle.rc_expr.proofs.casts.cast_type.Goals as goal

pub returns-in_err-place-clause-reads : goal.returns-in_err-place-clause-reads
returns-in_err-place-clause-reads c = λ root round k a.
    let ts = c.args.tokens.now in
    let at = c.args.at in
    let first = c.args.first in
    let shallow = c.requires.shallow in
    let d : c.args.depth + 1 ≤ 200 = omega (arith, shallow) in
    let le : at ≤ at + 1 = omega arith in
    passes round ts _ _ _ _ _ c.from_residual.ensures.1 refl
    (far_fault (at + 1) (parenthesized (spot_of ts at)) (cast_rest (spot_of ts at) first) (key (key_of first)) _ (around a) d le c.requires.here c.in_err-place.ensures
    (cast_step (spot_of ts at) (spot_of ts (at + 1)) ((at + 1) - at) k first))

pub returns-in-Unsigned-clause-reads : goal.returns-in-Unsigned-clause-reads
returns-in-Unsigned-clause-reads c = λ root round k a.
    let ts = c.args.tokens.now in
    let at = c.args.at in
    let first = c.args.first in
    let place = c.in_ok-place.place in
    let here = c.in_ok-place.ensures in
    let shallow = c.requires.shallow in
    let d : c.args.depth + 1 ≤ 200 = omega (arith, shallow) in
    let le : at ≤ at + 1 = omega arith in
    goes_along round ts (λ to e. amid ts at e (cast_to (spot_of ts at) to) k) _ _ c.unsigned_end.result
    (took (at + 1) place (parenthesized (spot_of ts at)) (cast_rest (spot_of ts at) first) (key (key_of first)) (around a) d le here.0 c.requires.here here.1
    (cast_step (spot_of ts at) (spot_of ts (at + 1)) ((at + 1) - at) k first)
    ∙ ap (λ x. run round (amid ts at place (cast_rest (spot_of ts at) x) k) (from ts place)) c.in-Unsigned.is)
    (c.unsigned_end.ensures.reads root round k a)

pub returns-in-Int-clause-reads : goal.returns-in-Int-clause-reads
returns-in-Int-clause-reads c = λ root round k a.
    let ts = c.args.tokens.now in
    let at = c.args.at in
    let first = c.args.first in
    let place = c.in_ok-place.place in
    let here = c.in_ok-place.ensures in
    let shallow = c.requires.shallow in
    let d : c.args.depth + 1 ≤ 200 = omega (arith, shallow) in
    let le : at ≤ at + 1 = omega arith in
    goes_along round ts (λ to e. amid ts at e (cast_to (spot_of ts at) to) k) _ _ c.cast_end.result
    (took (at + 1) place (parenthesized (spot_of ts at)) (cast_rest (spot_of ts at) first) (key (key_of first)) (around a) d le here.0 c.requires.here here.1
    (cast_step (spot_of ts at) (spot_of ts (at + 1)) ((at + 1) - at) k first)
    ∙ ap (λ x. run round (amid ts at place (cast_rest (spot_of ts at) x) k) (from ts place)) c.in-Int.is)
    (c.cast_end.ensures.reads root round k a)

pub returns-in-Char-clause-reads : goal.returns-in-Char-clause-reads
returns-in-Char-clause-reads c = λ root round k a.
    let ts = c.args.tokens.now in
    let at = c.args.at in
    let first = c.args.first in
    let place = c.in_ok-place.place in
    let here = c.in_ok-place.ensures in
    let shallow = c.requires.shallow in
    let d : c.args.depth + 1 ≤ 200 = omega (arith, shallow) in
    let le : at ≤ at + 1 = omega arith in
    goes_along round ts (λ to e. amid ts at e (cast_to (spot_of ts at) to) k) _ _ c.cast_end-in-Char.result
    (took (at + 1) place (parenthesized (spot_of ts at)) (cast_rest (spot_of ts at) first) (key (key_of first)) (around a) d le here.0 c.requires.here here.1
    (cast_step (spot_of ts at) (spot_of ts (at + 1)) ((at + 1) - at) k first)
    ∙ ap (λ x. run round (amid ts at place (cast_rest (spot_of ts at) x) k) (from ts place)) c.in-Char.is)
    (c.cast_end-in-Char.ensures.reads root round k a)
