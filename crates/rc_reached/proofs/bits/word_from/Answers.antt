use Rattle.std.proofs.Common.{◌/◌, ◌%◌, ◌-◌, ◌*◌, ◌^◌, ◌<◌, get_or, bit_or, ap, ◌∙◌, arith}
use Rattle.std.proofs.lemmas.Nat.{pow_pos}
use Rattle.rc_reached.specs.Masks.{is_set}
use Rattle.rc_reached.proofs.Rows.{whole_word, two_words}
use Rattle.rc_reached.proofs.bits.word_from.Goals as goal

pub returns-then-by-eq0 : goal.returns-then-by-eq0
returns-then-by-eq0 c = λ k lt. ap (λ w. is_set w k) c.word_at-low.ensures ∙ whole_word c.args.words.now c.args.place k c.if-by-eq0.true lt

pub returns : goal.returns
returns c = λ k lt.
    (let small : get_or c.args.words.now (c.args.place / 64) 0 < 18446744073709551616 = omega (arith, c.type_inv.words (c.args.place / 64)) in
    let some : 0 < 2 ^ (64 - c.args.place % 64) = pow_pos (64 - c.args.place % 64) in
    ap (λ w. is_set (bit_or (w / 2 ^ (c.args.place % 64)) (c.word_at.result * 2 ^ (64 - c.args.place % 64) % 18446744073709551616)) k) c.word_at-low.ensures
    ∙ ap (λ w. is_set (bit_or (get_or c.args.words.now (c.args.place / 64) 0 / 2 ^ (c.args.place % 64)) (w * 2 ^ (64 - c.args.place % 64) % 18446744073709551616)) k) c.word_at.ensures
    ∙ two_words c.args.words.now c.args.place k lt small some)
