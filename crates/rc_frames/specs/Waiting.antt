-- What waits in the evaluator's calls, the innermost first: the values that no deletion may leave dangling.
use Rattle.std.specs.Prelude.{Bool, true, false, List, [], ◌∷◌, ◌++◌, reverse, Option, Some, None}
use Rattle.rc_core.specs.Heap.{Value}
use Rattle.rc_frames.specs.declared.calls.Activation.{Activation as CodeActivation}

abbrev pub CodeActivations : Type 0
CodeActivations = List CodeActivation

-- the values that wait in a call, and after them the others
abbrev pub held_over : Option (List Value) → List Value → List Value
held_over None rest = rest
held_over (Some values) rest = values ++ rest

-- the same, where they wait if the called function deletes
abbrev pub held_by : (deletes : Bool) → (held rest : List Value) → List Value
held_by false held rest = rest
held_by true held rest = held ++ rest

abbrev pub waiting_of : List CodeActivation → List Value
waiting_of [] = []
waiting_of (a ∷ below) = held_over a.held (waiting_of below)

-- where the innermost is the last
abbrev pub waiting_over : List CodeActivation → List Value
waiting_over callers = waiting_of (reverse callers)
