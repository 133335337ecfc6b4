-- What the evaluator's answer to a step says of the step.
use Rattle.std.specs.Prelude.{◌≡◌, pos, Bool, true, false, Result, Ok, Err}
use Rattle.rc_base.specs.Acts.{Write}
use Rattle.rc_base.specs.declared.ends.Limits.{Limits}
use Rattle.rc_base.specs.declared.ends.RunFault.TheVariants.{Memory}
use Rattle.rc_core.specs.Heap.{Number}
use Rattle.rc_core.specs.Programs.{Expr, call, new_region, getchar}
use Rattle.rc_core.specs.Runs.{Stop, Ends, Stale, Run, Go, Stopped, bind}
use Rattle.rc_nodes.specs.declared.control.Control.{Control as CodeControl}
use Rattle.rc_slow.specs.declared.machine.Machine.{Machine as CodeMachine}
use Rattle.rc_slow.specs.declared.machine.Progress.{Progress as CodeProgress}
use Rattle.rc_slow.specs.declared.machine.Progress.TheVariants.{Onward, Ended, Asks, Writes}
use Rattle.rc_values.specs.declared.stop.Stop.{Stop as CodeStop}
use Rattle.rc_values.specs.declared.stop.Stop.TheVariants.{Ends as CodeEnds, Stale as CodeStale, Cut}
use Rattle.rc_nodes.specs.Controls.{control_of}
use Rattle.rc_memory.specs.KeptWorld.{KeptWorld, kept, doing}
use Rattle.rc_slow.specs.Standing.{activation_of, callers_of}
use Rattle.rc_frames.specs.Waiting.{waiting_of}
use Rattle.rc_nodes.specs.Stepping.{Control, gives}
use Rattle.rc_values.specs.Values.{value_of}
use Rattle.rc_slow.specs.Whole.{State, Progress, onward, ended}

-- the machine with this to do, and the world as it keeps it; what it doesn't keep is that of w
abbrev pub state_at : Control → CodeMachine → State
state_at control m = record { control = control; now = activation_of m.now; below = callers_of m.below }

abbrev pub standing : Limits → CodeMachine → KeptWorld → KeptWorld
standing limits m w = record w { turns = m.turns; heap = m.heap; waiting = waiting_of m.below; regions = limits.regions; blocks = limits.blocks }

-- nothing was done outside
pub record Quiet (before after : KeptWorld) : Type 0 where
  pub acts : after.acts ≡ before.acts
  pub input : after.input ≡ before.input

pub record Halts {A : Type 0} (stop : Stop) (w : KeptWorld) (run : Run KeptWorld A) : Type 0 where
  pub world : KeptWorld
  pub is : run ≡ Stopped stop world
  pub quiet : Quiet w world

pub record Finishes {A : Type 0} (result : A) (w : KeptWorld) (run : Run KeptWorld A) : Type 0 where
  pub world : KeptWorld
  pub is : run ≡ Go result world
  pub quiet : Quiet w world

abbrev pub HaltsAs : {A : Type 0} → CodeStop → KeptWorld → Run KeptWorld A → Type 0
HaltsAs (CodeEnds end) w run = Halts (Ends end) w run
HaltsAs (CodeStale line) w run = Halts (Stale line) w run
HaltsAs (Cut fault) w run = fault ≡ Memory

-- it begins without a call, and without a change of the world
abbrev pub begins_alone : Expr → Bool
begins_alone (call line f arguments) = false
begins_alone (new_region line) = false
begins_alone (getchar line) = false
begins_alone _ = true

module _ (limits : Limits) where
  -- of a step that stays inside
  abbrev pub Leads : Result CodeControl CodeStop → CodeMachine → KeptWorld → Run KeptWorld Progress → Type 0
  Leads (Ok control) m w step = step ≡ Go (onward (state_at (control_of control) m)) (standing limits m w)
  Leads (Err stop) m w step = HaltsAs stop w step

  abbrev pub LeadsTo : CodeProgress → CodeMachine → KeptWorld → Run KeptWorld Progress → Type 0
  LeadsTo (Onward control) m w step = step ≡ Go (onward (state_at (control_of control) m)) (standing limits m w)
  LeadsTo (Ended value) m w step = Finishes (ended (value_of value)) w step
  LeadsTo Asks m w step = step ≡ bind (kept.get_byte (standing limits m w)) (λ n. Go (onward (state_at (gives (Number n)) m)))
  LeadsTo (Writes byte) m w step = step ≡ Go (onward (state_at (gives (Number (pos byte))) m)) (doing (standing limits m w) (Write byte))

  abbrev pub Advances : Result CodeProgress CodeStop → CodeMachine → KeptWorld → Run KeptWorld Progress → Type 0
  Advances (Ok progress) m w step = LeadsTo progress m w step
  Advances (Err stop) m w step = HaltsAs stop w step
