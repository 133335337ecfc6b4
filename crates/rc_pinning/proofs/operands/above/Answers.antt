use Rattle.std.proofs.Common.{◌∙◌, ap}
use Rattle.std.specs.Prelude.{option_to_list}
use Rattle.rc_pinning.proofs.Heights.{nothing_above, one_above}
use Rattle.rc_pinning.proofs.operands.above.Goals as goal

pub returns-in-None-clause-count : goal.returns-in-None-clause-count
returns-in-None-clause-count c = λ kinds taken more counted left gives. nothing_above kinds taken c.args.left c.args.numbers more counted left (gives ∙ ap option_to_list c.in-None.is)

pub returns-in-Some-clause-count : goal.returns-in-Some-clause-count
returns-in-Some-clause-count c = λ kinds taken more counted left gives. one_above kinds taken c.args.left c.args.numbers c.raised.result c.in-Some.is_number more counted left (gives ∙ ap option_to_list c.in-Some.is) c.raised.ensures
