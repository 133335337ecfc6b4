use Rattle.rc_stack_rules.proofs.PinRules.{pins_fit}
use Rattle.rc_stack_rules.proofs.pins_stand_in_order.Goals as goal

pub returns : goal.returns
returns c locals live = pins_fit locals live
