use Rattle.std.proofs.Common.{◌∙◌, sym, ap}
use Rattle.std.specs.Prelude.{option_map}
use Rattle.rc_core.specs.Heap.{Null}
use Rattle.rc_values.specs.Values.{value_of}
use Rattle.rc_core.proofs.Entries.{get_missing, get_there}
use Rattle.rc_nodes.proofs.expressions.local_at.Goals as goal

pub returns-in-None : goal.returns-in-None
returns-in-None c = sym (get_missing c.args.locals.now c.args.x Null (sym c.get.ensures ∙ ap (option_map value_of) c.in-None.is))

pub returns-in-Some : goal.returns-in-Some
returns-in-Some c = sym (get_there c.args.locals.now c.args.x (value_of c.in-Some.value) Null (sym c.get.ensures ∙ ap (option_map value_of) c.in-Some.is))
