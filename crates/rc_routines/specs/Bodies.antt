-- What the code of a statement depends on, of the function that it stands in: the locals and the result.
use Rattle.std.specs.Prelude.{List, false, Option}
use Rattle.rc_core.specs.Programs.{block, done, Function}
use Rattle.rc_core.specs.Types.{Ty}

abbrev pub with_locals : List Ty → Option Ty → Function
with_locals locals result = record { parameters = 0; locals = locals; result = result; deletes = false; line = 0; body = block done }
