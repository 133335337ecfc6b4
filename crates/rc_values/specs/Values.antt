-- What the evaluator's values and places stand for.
use Rattle.std.specs.Prelude.{List}
use Rattle.rc_core.specs.Heap.{Value, Number, Null, Handle, Pointer, Address}
use Rattle.rc_core.specs.Runs.{Chosen}
use Rattle.rc_values.specs.declared.value.Value.{Value as CodeValue}
use Rattle.rc_values.specs.declared.value.Value.TheVariants.{Number as CodeNumber, Null as CodeNull, Handle as CodeHandle, Pointer as CodePointer}
use Rattle.rc_values.specs.declared.value.Address.{Address as CodeAddress}
use Rattle.rc_values.specs.declared.target.Chosen.{Chosen as CodeChosen}

abbrev pub address_of : CodeAddress → Address
address_of a = record { region = a.region; object = a.object; index = a.index }

abbrev pub value_of : CodeValue → Value
value_of (CodeNumber n) = Number n
value_of CodeNull = Null
value_of (CodeHandle r) = Handle r
value_of (CodePointer a) = Pointer (address_of a)

abbrev pub chosen_of : CodeChosen → Chosen
chosen_of c = record { index = c.index; count = c.count; stride = c.stride }

abbrev pub ValueList : Type 0
ValueList = List Value
