use Rattle.rc_core.specs.Shapes.{program_of}
use Rattle.rc_nodes.specs.Controls.{control_of}
use Rattle.rc_slow.proofs.Goings.{LeavesSoFar, Reaches}
use Rattle.rc_slow.proofs.run.run_to_end.Given as goal

abbrev pub invariant-turns : goal.invariant-turns
invariant-turns g l = record {
  going : Reaches (program_of l.setting.parts.now) l.setting.limits (g.S.Source.state l.fn.input) (g.O.Sink.state l.fn.out) (control_of l.fn.first) l.fn.machine (g.S.Source.state l.input) (g.O.Sink.state l.out) (control_of l.control) l.machine;
  leaves : LeavesSoFar (g.S.Source.state l.fn.input) (g.S.Source.state l.input) (g.O.Sink.state l.fn.out) (g.O.Sink.state l.out);
}

abbrev pub decreases-turns : goal.decreases-turns
decreases-turns g l = l.machine.turns
