-- How far a run has come: what was done outside since its start, and what is left of it.
use Rattle.std.specs.Prelude.{◌≡◌, ℕ, ℤ, List, Result, Ok, Err, IsTrue}
use Rattle.rc_base.specs.Acts.{Act, Write, Gave, output}
use Rattle.rc_base.specs.Sources.{SourceState}
use Rattle.rc_base.specs.Sinks.{SinkState, Took}
use Rattle.rc_base.specs.declared.ends.Limits.{Limits}
use Rattle.rc_base.specs.declared.ends.RunFault.{RunFault}
use Rattle.rc_base.specs.declared.ends.RunFault.TheVariants.{ReadFault, WriteFault}
use Rattle.rc_core.specs.Heap.{Value}
use Rattle.rc_core.specs.Programs.{Program}
use Rattle.rc_core.specs.Runs.{Stop, Ends as EndsStop, Stale as StaleStop, Run, bind}
use Rattle.rc_slow.specs.declared.machine.Machine.{Machine as CodeMachine}
use Rattle.rc_slow.specs.declared.outside.Next.{Next as CodeNext}
use Rattle.rc_slow.specs.declared.outside.Next.TheVariants.{Onward, Ended}
use Rattle.rc_values.specs.declared.stop.Stop.{Stop as CodeStop}
use Rattle.rc_values.specs.declared.stop.Stop.TheVariants.{Ends, Stale, Cut}
use Rattle.rc_values.specs.declared.value.Value.{Value as CodeValue}
use Rattle.rc_slow.specs.Advancing.{Finishes, Halts, standing, state_at}
use Rattle.rc_nodes.specs.Controls.{control_of}
use Rattle.rc_memory.specs.KeptWorld.{KeptWorld, kept, doing}
use Rattle.rc_slow.specs.Outside.{later}
use Rattle.rc_nodes.specs.Stepping.{Control}
use Rattle.rc_values.specs.Values.{value_of}
use Rattle.rc_slow.specs.Whole.{State, whole}

-- a run from any world, and the outside at its start and now
pub record Way : Type 0 where
  pub start : KeptWorld → Run KeptWorld Value
  pub first_input : SourceState
  pub input : SourceState
  pub first_out : SinkState
  pub out : SinkState

-- a run from a start, and the outside then and now
abbrev pub way_from : (KeptWorld → Run KeptWorld Value) → (first_input input : SourceState) → (first_out out : SinkState) → Way
way_from start first_input input first_out out = record { start = start; first_input = first_input; input = input; first_out = first_out; out = out }

-- with the outside as it is now
abbrev pub at : Way → SourceState → SinkState → Way
at way input out = record way { input = input; out = out }

-- where the input tells its bytes, and the world has these
abbrev pub Fits : SourceState → KeptWorld → Type 0
Fits input w = IsTrue input.tells × (w.input ≡ input.rest)

pub record Came (way : Way) (acts : List Act) : Type 0 where
  pub took : Took (output acts) way.first_out way.out
  pub gave : Gave acts way.first_input way.input

module _ (program : Program) (limits : Limits) where
  pub record Going (way : Way) (control : Control) (m : CodeMachine) : Type 0 where
    pub acts : List Act
    pub came : Came way acts
    pub on : (w : KeptWorld) → Fits way.first_input w → way.start w ≡ whole program (state_at control m) (standing limits m (later acts w))

  pub record Finished (way : Way) (value : Value) : Type 0 where
    pub acts : List Act
    pub came : Came way acts
    pub on : (w : KeptWorld) → Fits way.first_input w → Finishes value (later acts w) (way.start w)

  pub record Halted (way : Way) (stop : Stop) : Type 0 where
    pub acts : List Act
    pub came : Came way acts
    pub on : (w : KeptWorld) → Fits way.first_input w → Halts stop (later acts w) (way.start w)

  -- the run goes on from here, and where a fault stands, with the act that could not be done
  pub record Left (w : KeptWorld) (fault : RunFault) (run : Run KeptWorld Value) : Type 0 where
    pub state : State
    pub world : KeptWorld
    pub acts : world.acts ≡ w.acts
    pub on : run ≡ whole program state world
    pub at_read : fault ≡ ReadFault → (now : KeptWorld) × (now.acts ≡ w.acts) × ((next : ℤ → State) × (run ≡ bind (kept.get_byte now) (λ n. whole program (next n))))
    pub at_write : fault ≡ WriteFault → (now : KeptWorld) × (now.acts ≡ w.acts) × ((byte : ℕ) × ((next : State) × (run ≡ whole program next (doing now (Write byte)))))

  pub record CutOff (way : Way) (fault : RunFault) : Type 0 where
    pub acts : List Act
    pub came : Came way acts
    pub on : (w : KeptWorld) → Fits way.first_input w → Left (later acts w) fault (way.start w)

  abbrev pub StopsAt : Way → CodeStop → Type 0
  StopsAt way (Ends end) = Halted way (EndsStop end)
  StopsAt way (Stale line) = Halted way (StaleStop line)
  StopsAt way (Cut fault) = CutOff way fault

  abbrev pub Comes : Way → Result CodeNext CodeStop → CodeMachine → Type 0
  Comes way (Ok (Onward control)) m = Going way (control_of control) m
  Comes way (Ok (Ended value)) m = Finished way (value_of value)
  Comes way (Err stop) m = StopsAt way stop

  -- wherever a run began, it comes to this, where it has come to this control and this machine
  abbrev pub GoesOn : (input input' : SourceState) → (out out' : SinkState) → Control → CodeMachine → (Way → Type 0) → Type 0
  GoesOn input input' out out' control m Come =
      (start : KeptWorld → Run KeptWorld Value) (first_input : SourceState) (first_out : SinkState) → input.tells ≡ first_input.tells → out.tells ≡ first_out.tells →
      Going (way_from start first_input input first_out out) control m → Come (way_from start first_input input' first_out out')

  -- a run to its end
  abbrev pub Arrives : Way → Result CodeValue CodeStop → Type 0
  Arrives way (Ok value) = Finished way (value_of value)
  Arrives way (Err stop) = StopsAt way stop
