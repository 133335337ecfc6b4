use Rattle.std.proofs.Common.{◌/◌, ◌%◌, ◌^◌, nat_eq, bit_and, ap, ◌∙◌}
use Rattle.rc_reached.proofs.Rows.{marked}
use Rattle.rc_reached.proofs.bits.is_marked.Goals as goal

pub returns : goal.returns
returns c = ap (λ w. nat_eq (bit_and (w / 2 ^ (c.args.place % 64)) 1) 1) c.word_at.ensures ∙ marked c.args.words.now c.args.place
