-- Where a run of a program begins.
use Rattle.std.specs.Prelude.{◌≡◌, ◌-◌, [], false}
use Rattle.rc_base.specs.declared.ends.Limits.{Limits}
use Rattle.rc_core.specs.Execution.{first_locals, run_main}
use Rattle.rc_core.specs.Heap.{Value, first_heap}
use Rattle.rc_core.specs.Programs.{Function, Program}
use Rattle.rc_core.specs.Runs.{Run}
use Rattle.rc_slow.specs.declared.machine.Machine.{Machine as CodeMachine}
use Rattle.rc_memory.specs.Kept.{kept_heap}
use Rattle.rc_memory.specs.KeptWorld.{KeptWorld, kept}
use Rattle.rc_slow.specs.Standing.{activation_of}
use Rattle.rc_slow.specs.Whole.{Activation}

-- the world of a program that has not begun, with the input and the acts of w
abbrev pub beginning : Program → Limits → KeptWorld → KeptWorld
beginning program limits w = record w { turns = limits.turns; heap = kept_heap (first_heap program); waiting = []; regions = limits.regions; blocks = limits.blocks }

abbrev pub from_beginning : Program → Limits → KeptWorld → Run KeptWorld Value
from_beginning program limits w = run_main kept program (beginning program limits w)

-- `main`, where nothing in it was done
abbrev pub main_call : Limits → Function → Activation
main_call limits f = record { function = f; frames = []; locals = first_locals f []; calls = limits.turns; deletes = false; waits = [] }

-- the machine where `main` begins, after its turn
pub record Begins (program : Program) (limits : Limits) (f : Function) (m : CodeMachine) : Type 0 where
  pub now : activation_of m.now ≡ main_call limits f
  pub below : m.below ≡ []
  pub heap : m.heap ≡ kept_heap (first_heap program)
  pub turns : m.turns ≡ limits.turns - 1
