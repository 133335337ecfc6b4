-- What is done outside after a step, and where the step leads then.
use Rattle.std.specs.Prelude.{◌≡◌, ◌≤◌, ℕ, ℤ, pos, List, [], ◌∷◌, Result, Ok, Err, IsErrOf, IsTrue}
use Rattle.rc_base.specs.Acts.{Act, Write, Getchar}
use Rattle.rc_base.specs.Causes.{Rose}
use Rattle.rc_base.specs.Sinks.{SinkState}
use Rattle.rc_base.specs.Sources.{SourceState}
use Rattle.rc_base.specs.declared.ends.Limits.{Limits}
use Rattle.rc_base.specs.declared.ends.RunFault.{RunFault}
use Rattle.rc_base.specs.declared.ends.RunFault.TheVariants.{ReadFault, WriteFault, Memory}
use Rattle.rc_core.specs.Heap.{Number}
use Rattle.rc_core.specs.Runs.{Run, Go, bind}
use Rattle.rc_nodes.specs.declared.control.Control.TheVariants.{Gives}
use Rattle.rc_slow.specs.declared.machine.Machine.{Machine as CodeMachine}
use Rattle.rc_slow.specs.declared.machine.Progress.{Progress as CodeProgress}
use Rattle.rc_slow.specs.declared.machine.Progress.TheVariants.{Onward, Ended, Asks, Writes}
use Rattle.rc_slow.specs.declared.outside.Next.{Next as CodeNext}
use Rattle.rc_slow.specs.declared.outside.Next.TheVariants.{Onward as NextOnward, Ended as NextEnded}
use Rattle.rc_values.specs.declared.stop.Stop.{Stop as CodeStop}
use Rattle.rc_values.specs.declared.stop.Stop.TheVariants.{Ends, Stale, Cut}
use Rattle.rc_values.specs.declared.value.Value.TheVariants.{Number as CodeNumber}
use Rattle.rc_slow.specs.Advancing.{Finishes, standing, state_at}
use Rattle.rc_nodes.specs.Controls.{control_of}
use Rattle.rc_memory.specs.KeptWorld.{KeptWorld, kept, doing}
use Rattle.rc_slow.specs.Outside.{later}
use Rattle.rc_nodes.specs.Stepping.{gives}
use Rattle.rc_values.specs.Values.{value_of}
use Rattle.rc_slow.specs.Whole.{Progress, onward, ended}

abbrev pub acts_of : CodeProgress → List Act
acts_of (Onward control) = []
acts_of (Ended value) = []
acts_of Asks = Getchar ∷ []
acts_of (Writes byte) = Write byte ∷ []

-- the world after them
abbrev pub past : CodeProgress → KeptWorld → KeptWorld
past (Onward control) w = w
past (Ended value) w = w
past Asks w = later (Getchar ∷ []) w
past (Writes byte) w = later (Write byte ∷ []) w

-- where it goes on after them
abbrev pub Follows : CodeProgress → CodeNext → Type 0
Follows (Onward control) next = next ≡ NextOnward control
Follows (Ended value) next = next ≡ NextEnded value
Follows Asks next = (n : ℤ) × (next ≡ NextOnward (Gives (CodeNumber n)))
Follows (Writes byte) next = next ≡ NextOnward (Gives (CodeNumber (pos byte)))

-- the run fails at this fault only where the count rose, and every other answer leaves it
pub record HasFaultCause {T : Type 0} (fault : RunFault) (before after : ℕ) (result : Result T CodeStop) : Type 0 where
  pub never_falls : before ≤ after
  pub failed : IsErrOf result (Cut fault) → Rose before after
  pub kept : ¬ IsErrOf result (Cut fault) → after ≡ before

-- the outside tells as before, nothing was flushed, and a fault of a read or a write comes only where its count rose
pub record LeavesOutside {T : Type 0} (input input' : SourceState) (out out' : SinkState) (result : Result T CodeStop) : Type 0 where
  pub input_tells : input'.tells ≡ input.tells
  pub out_tells : out'.tells ≡ out.tells
  pub flushed : IsTrue out.tells → out'.flushed ≡ out.flushed
  pub read_cause : HasFaultCause ReadFault input.faults input'.faults result
  pub write_cause : HasFaultCause WriteFault out.faults out'.faults result

module _ (limits : Limits) where
  -- the act that could not be done is the step's
  abbrev pub IsCutAt : RunFault → CodeMachine → KeptWorld → Run KeptWorld Progress → Type 0
  IsCutAt ReadFault m w step = step ≡ bind (kept.get_byte (standing limits m w)) (λ n. Go (onward (state_at (gives (Number n)) m)))
  IsCutAt WriteFault m w step = (byte : ℕ) × (step ≡ Go (onward (state_at (gives (Number (pos byte))) m)) (doing (standing limits m w) (Write byte)))
  IsCutAt Memory m w step = ⊥

  abbrev pub Stops : CodeStop → CodeMachine → KeptWorld → Run KeptWorld Progress → Type 0
  Stops (Ends end) m w step = ⊥
  Stops (Stale line) m w step = ⊥
  Stops (Cut fault) m w step = IsCutAt fault m w step

  abbrev pub Performs : CodeProgress → Result CodeNext CodeStop → CodeMachine → KeptWorld → Run KeptWorld Progress → Type 0
  Performs progress (Ok (NextOnward control)) m w step = step ≡ Go (onward (state_at (control_of control) m)) (standing limits m (past progress w))
  Performs progress (Ok (NextEnded value)) m w step = Finishes (ended (value_of value)) (past progress w) step
  Performs progress (Err stop) m w step = Stops stop m w step
