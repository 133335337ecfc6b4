use Rattle.std.proofs.Common.{sym, ap, ◌∙◌}
use Rattle.rc_loader.specs.Decisions.{are_taken}
use Rattle.rc_loader.proofs.Operands.{none_are_none}
use Rattle.rc_loader.proofs.taken.Taken.are.Goals as goal

pub returns-in-Nothing : goal.returns-in-Nothing
returns-in-Nothing c = c.is_empty.ensures ∙ none_are_none c.args.operands.now ∙ sym (ap (λ t. are_taken t c.args.operands.now) c.in-Nothing.is)
