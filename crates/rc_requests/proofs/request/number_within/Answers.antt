use Rattle.std.proofs.Common.{◌∙◌, arith, sym}
use Rattle.rc_requests.proofs.Numbers.{number_found}
use Rattle.rc_requests.proofs.request.number_within.Goals as goal

pub returns-clause-is : goal.returns-clause-is
returns-clause-is c = number_found c.args.most c.in_ok-number.number c.args.word.now (omega arith) (omega arith) (sym c.is_printed.ensures ∙ c.if-not-is_printed.false)
