use Rattle.std.proofs.Common.{◌≡◌}
use Rattle.rc_core.specs.Shapes.{program_of}
use Rattle.rc_slow.specs.Advancing.{state_at}
use Rattle.rc_nodes.specs.Controls.{control_of}
use Rattle.rc_slow.specs.Size.{size_of}
use Rattle.rc_slow.proofs.Goings.{LeavesSoFar, Reaches}
use Rattle.rc_slow.proofs.run.run_to_turn.Given as goal

abbrev pub invariant-steps : goal.invariant-steps
invariant-steps g l = record {
  going : Reaches (program_of l.setting.parts.now) l.setting.limits (g.S.Source.state l.fn.input) (g.O.Sink.state l.fn.out) (control_of l.fn.first) l.fn.machine (g.S.Source.state l.input) (g.O.Sink.state l.out) (control_of l.control) l.machine;
  turns : l.machine.turns ≡ l.fn.machine.turns;
  leaves : LeavesSoFar (g.S.Source.state l.fn.input) (g.S.Source.state l.input) (g.O.Sink.state l.fn.out) (g.O.Sink.state l.out);
}

abbrev pub decreases-steps : goal.decreases-steps
decreases-steps g l = size_of (state_at (control_of l.control) l.machine)
