use Rattle.std.proofs.Common.{sym, arith}
use Rattle.rc_core.specs.Shapes.{program_of}
use Rattle.rc_slow.proofs.Beginnings.{nothing_to_run, spent_at_once}
use Rattle.rc_slow.proofs.Goings.{inside_leaves, leaves_value, nothing_left}
use Rattle.rc_slow.proofs.evaluating.run_main.Goals as goal

pub returns-then-setting-eq0-clause-arrives : goal.returns-then-setting-eq0-clause-arrives
returns-then-setting-eq0-clause-arrives g c =
    spent_at_once (program_of c.args.setting.now.parts.now) c.args.setting.now.limits (g.S.Source.state c.args.input.now) (g.O.Sink.state c.args.out.now) c.if-setting-eq0.true

pub returns-in-None-clause-arrives : goal.returns-in-None-clause-arrives
returns-in-None-clause-arrives g c =
    nothing_to_run (program_of c.args.setting.now.parts.now) c.args.setting.now.limits (g.S.Source.state c.args.input.now) (g.O.Sink.state c.args.out.now) (omega (arith, c.if-setting-eq0.false)) (sym c.in-None.ensures)

pub returns-then-setting-eq0-clause-leaves : goal.returns-then-setting-eq0-clause-leaves
returns-then-setting-eq0-clause-leaves g c = inside_leaves (g.S.Source.state c.args.input.now) (g.O.Sink.state c.args.out.now) _ tt

pub returns-in-None-clause-leaves : goal.returns-in-None-clause-leaves
returns-in-None-clause-leaves g c = leaves_value _ _ _ _ tt _ (nothing_left (g.S.Source.state c.args.input.now) (g.O.Sink.state c.args.out.now))
