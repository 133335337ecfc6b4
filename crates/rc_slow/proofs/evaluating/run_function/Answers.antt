use Rattle.std.proofs.Common.{refl}
use Rattle.rc_core.specs.Shapes.{function_of, program_of}
use Rattle.rc_slow.specs.Beginning.{from_beginning}
use Rattle.rc_slow.proofs.Beginnings.{going_on, no_machine_as}
use Rattle.rc_slow.proofs.Goings.{no_memory_leaves}
use Rattle.rc_slow.proofs.evaluating.run_function.Goals as goal

pub returns-in_err-machine-clause-arrives : goal.returns-in_err-machine-clause-arrives
returns-in_err-machine-clause-arrives g c =
    no_machine_as (program_of c.args.setting.now.parts.now) c.args.setting.now.limits (g.S.Source.state c.args.input.now) (g.O.Sink.state c.args.out.now) (function_of c.args.function.now) c.requires.main
    c.from_residual.result _ c.from_residual.ensures.1 c.in_err-machine.ensures.memory c.requires.turn

pub returns-clause-arrives : goal.returns-clause-arrives
returns-clause-arrives g c =
    let program = program_of c.args.setting.now.parts.now in
    let limits = c.args.setting.now.limits in
    c.run_to_end.ensures.arrives (from_beginning program limits) (g.S.Source.state c.args.input.now) (g.O.Sink.state c.args.out.now) refl refl
    (going_on program limits (g.S.Source.state c.args.input.now) (g.O.Sink.state c.args.out.now) (function_of c.args.function.now) c.requires.main c.in_ok-machine.machine c.requires.turn c.in_ok-machine.ensures.begins)

pub returns-in_err-machine-clause-leaves : goal.returns-in_err-machine-clause-leaves
returns-in_err-machine-clause-leaves g c = no_memory_leaves (g.S.Source.state c.args.input.now) (g.O.Sink.state c.args.out.now) c.from_residual.result _ c.from_residual.ensures.1 c.in_err-machine.ensures.memory
