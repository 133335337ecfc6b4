use Rattle.std.proofs.Common.{◌∙◌, sym, ap}
use Rattle.rc_pinning.specs.Stops.{stop_in}
use Rattle.rc_pinning.proofs.stops.stop_of.Goals as goal

pub returns-in-Jump : goal.returns-in-Jump
returns-in-Jump c = c.of_jump.ensures c.args.function.now ∙ ap (stop_in c.args.function.now) (sym c.in-Jump.is)

pub returns-in-Simple : goal.returns-in-Simple
returns-in-Simple c = c.of_simple.ensures c.args.function.now ∙ ap (stop_in c.args.function.now) (sym c.in-Simple.is)
