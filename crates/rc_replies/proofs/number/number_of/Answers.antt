use Rattle.std.proofs.Common.{◌∙◌, arith, sym}
use Rattle.rc_replies.proofs.Numbers.{number_found}
use Rattle.rc_replies.proofs.number.number_of.Goals as goal

pub returns : goal.returns
returns c = number_found c.in_ok-number.number c.args.word.now (omega arith) (sym c.is_printed.ensures ∙ c.if-not-is_printed.false)
