-- That a run comes to an end: it takes turns, and between two of them less and less is left to do.
use Rattle.std.specs.Prelude.{◌≡◌, ◌<◌, ◌⊎◌}
use Rattle.rc_slow.specs.declared.machine.Machine.{Machine as CodeMachine}
use Rattle.rc_slow.specs.declared.outside.Next.{Next as CodeNext}
use Rattle.rc_slow.specs.declared.outside.Next.TheVariants.{Onward, Ended}
use Rattle.rc_slow.specs.Advancing.{state_at}
use Rattle.rc_nodes.specs.Controls.{control_of}
use Rattle.rc_slow.specs.Size.{size_of}
use Rattle.rc_nodes.specs.Stepping.{Control}

-- where it goes on, fewer turns are left, or as many and less to do
abbrev pub Lessens : Control → CodeMachine → CodeNext → CodeMachine → Type 0
Lessens control m (Onward next) m1 = (m1.turns < m.turns) ⊎ ((m1.turns ≡ m.turns) × (size_of (state_at (control_of next) m1) < size_of (state_at control m)))
Lessens control m (Ended value) m1 = Unit {0}

-- where it goes on, fewer turns are left
abbrev pub TakesTurn : CodeMachine → CodeNext → CodeMachine → Type 0
TakesTurn m (Onward next) m1 = m1.turns < m.turns
TakesTurn m (Ended value) m1 = Unit {0}
