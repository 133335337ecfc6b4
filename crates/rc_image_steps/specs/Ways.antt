-- Where the run may go from an instruction, and what it asks before it.
use Rattle.std.specs.Prelude.{ℕ, true, false, List, []}
use Rattle.rc_rlang.specs.RegionFlow.{Effect, called}
use Rattle.rc_code.specs.declared.opcode.Simple.TheVariants as simple
use Rattle.rc_code.specs.declared.opcode.Jump.TheVariants as jump
use Rattle.rc_code.specs.declared.instruction.Instruction.{Instruction}
use Rattle.rc_code.specs.declared.instruction.Instruction.TheVariants as instruction
use Rattle.rc_image_steps.specs.declared.ways.Ways.{Ways}
use Rattle.rc_image_steps.specs.declared.ways.Asks.{Asks}
use Rattle.rc_image_steps.specs.declared.ways.Asks.TheVariants.{Entry, Check, Nothing}

abbrev pub ways_of : Instruction → Ways
ways_of (instruction.Jump jump.Always to) = record { falls = false; leads = true; to = to; leaves = false }
ways_of (instruction.Jump jump.IfZero to) = record { falls = true; leads = true; to = to; leaves = false }
ways_of (instruction.Jump jump.Back to) = record { falls = false; leads = true; to = to; leaves = false }
ways_of (instruction.Simple simple.Return) = record { falls = false; leads = false; to = 0; leaves = true }
ways_of i = record { falls = true; leads = false; to = 0; leaves = false }

-- a call asks the facts of an entry, and a store with the mark what its check asks
abbrev pub asks_of : Instruction → Asks
asks_of (instruction.Call g pins) = Entry g
asks_of (instruction.Store path true) = Check
asks_of i = Nothing

abbrev pub arguments_in : Effect → List ℕ
arguments_in (called x g arguments) = arguments
arguments_in effect = []
