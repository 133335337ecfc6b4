use Rattle.std.specs.Prelude.{false}
use Rattle.rc_translation.proofs.StatementFitting.{statement_fits}
use Rattle.rc_translation.proofs.translation.temporaries_stand_in_order.Goals as goal

pub returns : goal.returns
returns c program well k f there = statement_fits program f false f.body (well.functions k f there).body
