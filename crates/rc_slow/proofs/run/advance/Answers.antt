use Rattle.rc_core.specs.Shapes.{program_of}
use Rattle.rc_nodes.specs.Controls.{control_of}
use Rattle.rc_slow.specs.Going.{way_from}
use Rattle.rc_slow.specs.Performing.{Follows}
use Rattle.rc_slow.proofs.Fallings.{lessens}
use Rattle.rc_slow.proofs.Goings.{halts_inside, inside_leaves, nowhere, performed, step_from, stopped}
use Rattle.rc_nodes.proofs.Results.{if_ok_map}
use Rattle.rc_slow.proofs.run.advance.Goals as goal

pub returns-in-Err-clause-comes : goal.returns-in-Err-clause-comes
returns-in-Err-clause-comes g c = λ start first_input first_out in_tells out_tells going.
    let program = program_of c.args.setting.now.parts.now in
    let limits = c.args.setting.now.limits in
    let control = control_of c.args.control in
    stopped program limits (way_from start first_input (g.S.Source.state c.args.input.now) first_out (g.O.Sink.state c.args.out.now)) control c.args.machine.now c.in-Err.stop going (λ w. c.in-Err.ensures control w c.requires.laid)

pub returns-in-Ok-clause-comes : goal.returns-in-Ok-clause-comes
returns-in-Ok-clause-comes g c = λ start first_input first_out in_tells out_tells going.
    let program = program_of c.args.setting.now.parts.now in
    let limits = c.args.setting.now.limits in
    let control = control_of c.args.control in
    performed program limits (way_from start first_input (g.S.Source.state c.args.input.now) first_out (g.O.Sink.state c.args.out.now)) control c.args.machine.now c.step.new.machine c.in-Ok.progress c.perform.result (g.S.Source.state c.perform.new.input) (g.O.Sink.state c.perform.new.out) in_tells out_tells going
    (λ w told has. c.perform.ensures.leads limits c.step.new.machine w (step_from program limits control c.args.machine.now w) told has (c.in-Ok.ensures control w c.requires.laid))
    c.perform.ensures.took c.perform.ensures.gave c.perform.ensures.none_took c.perform.ensures.none_gave

pub returns-in-Ok-clause-lessens : goal.returns-in-Ok-clause-lessens
returns-in-Ok-clause-lessens g c =
    let program = program_of c.args.setting.now.parts.now in
    let limits = c.args.setting.now.limits in
    let control = control_of c.args.control in
    if_ok_map c.perform.result (Follows c.in-Ok.progress) _
    (λ next follows. lessens program limits control c.args.machine.now c.step.new.machine c.in-Ok.progress next (c.in-Ok.ensures control nowhere c.requires.laid) follows)
    c.perform.ensures.follows

pub returns-in-Ok-clause-leaves : goal.returns-in-Ok-clause-leaves
returns-in-Ok-clause-leaves g c = c.perform.ensures.leaves

pub returns-in-Err-clause-leaves : goal.returns-in-Err-clause-leaves
returns-in-Err-clause-leaves g c =
    inside_leaves (g.S.Source.state c.args.input.now) (g.O.Sink.state c.args.out.now) c.in-Err.stop
    (halts_inside c.in-Err.stop (step_from (program_of c.args.setting.now.parts.now) c.args.setting.now.limits (control_of c.args.control) c.args.machine.now nowhere) (c.in-Err.ensures (control_of c.args.control) nowhere c.requires.laid))
