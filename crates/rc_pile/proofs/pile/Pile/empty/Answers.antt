use Rattle.std.proofs.Common.{◌≡◌, ◌∙◌, length, ap, rules}
use Rattle.std.proofs.lemmas.List.{length-replicate}
use Rattle.rc_pile.specs.Words.{zero_word}
use Rattle.rc_pile.proofs.StackLaws.{empty_is}
use Rattle.rc_pile.proofs.pile.Pile.empty.Goals as goal

pub returns : goal.returns
returns c =
    let n : length c.in_ok-zeros.zeros ≡ c.args.words = ap length c.in_ok-zeros.ensures ∙ length-replicate c.args.words zero_word in
    let m : length c.in_ok-waits.waits.items ≡ c.args.frames = search rules in
    empty_is c.in_ok-zeros.zeros c.in_ok-waits.waits.items c.args.words c.args.frames n m
