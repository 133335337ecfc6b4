use Rattle.std.proofs.Common.{refl, sym, ap, subst}
use Rattle.rc_core.specs.Runs.{Run}
use Rattle.rc_core.specs.Shapes.{expr_of, program_of}
use Rattle.rc_slow.specs.declared.machine.Machine.{Machine as CodeMachine}
use Rattle.rc_slow.specs.Advancing.{standing, state_at}
use Rattle.rc_frames.specs.Codes.{frames_of}
use Rattle.rc_nodes.specs.Coming.{Comes}
use Rattle.rc_memory.specs.KeptWorld.{KeptWorld}
use Rattle.rc_nodes.specs.Stepping.{Doing, first_step}
use Rattle.rc_values.specs.Values.{value_of}
use Rattle.rc_slow.proofs.Alone.{inside_code}
use Rattle.rc_slow.proofs.Advances.{stays}
use Rattle.rc_slow.proofs.machine.first_value_to_expression.Goals as goal

pub returns-in-NewSubregion : goal.returns-in-NewSubregion
returns-in-NewSubregion c = λ k w laid.
    let program = program_of c.args.setting.now.parts.now in
    let limits = c.args.setting.now.limits in
    let m0 = c.args.machine.now in
    let fs = frames_of m0.now.frames in
    let W = standing limits m0 w in
    let m1 : CodeMachine = record m0 { heap = c.make_subregion.new.heap } in
    let P : Run KeptWorld Doing → Type 0 = Comes c.make_subregion.result fs m0.now.locals c.make_subregion.new.heap W in
    let comes = subst P (sym (ap (λ e. first_step program (expr_of e) (value_of c.args.value) fs m0.now.locals W) c.in-NewSubregion.is)) (c.make_subregion.ensures program (expr_of c.in-NewSubregion.parent.value) fs m0.now.locals W refl refl) in
    c.proceed.ensures limits m1 w _
    (stays program limits c.make_subregion.result m1 (state_at k m0) w W (first_step program (expr_of c.args.e.now) (value_of c.args.value) fs m0.now.locals W) fs m0.now.locals (record { acts = refl; input = refl }) (λ control. refl) comes)

pub returns-in-Allocate : goal.returns-in-Allocate
returns-in-Allocate c = λ k w laid.
    let program = program_of c.args.setting.now.parts.now in
    let limits = c.args.setting.now.limits in
    let m0 = c.args.machine.now in
    let fs = frames_of m0.now.frames in
    let W = standing limits m0 w in
    let m1 : CodeMachine = record m0 { heap = c.allocate.new.heap } in
    let P : Run KeptWorld Doing → Type 0 = Comes c.allocate.result fs m0.now.locals c.allocate.new.heap W in
    let comes = subst P (sym (ap (λ e. first_step program (expr_of e) (value_of c.args.value) fs m0.now.locals W) c.in-Allocate.is)) (c.allocate.ensures program fs m0.now.locals W laid refl refl) in
    c.proceed-in-Allocate.ensures limits m1 w _
    (stays program limits c.allocate.result m1 (state_at k m0) w W (first_step program (expr_of c.args.e.now) (value_of c.args.value) fs m0.now.locals W) fs m0.now.locals (record { acts = refl; input = refl }) (λ control. refl) comes)

pub returns-in_default : goal.returns-in_default
returns-in_default c = λ k w laid.
    let program = program_of c.args.setting.now.parts.now in
    let limits = c.args.setting.now.limits in
    let m0 = c.args.machine.now in
    let W = standing limits m0 w in
    let m1 : CodeMachine = record m0 { now = record m0.now { frames = c.first_value_to_inner_expression.new.frames } } in
    c.proceed-in_default.ensures limits m1 w _
    (stays program limits c.first_value_to_inner_expression.result m1 (state_at k m0) w W (first_step program (expr_of c.args.e.now) (value_of c.args.value) (frames_of m0.now.frames) m0.now.locals W) (frames_of c.first_value_to_inner_expression.new.frames) m0.now.locals (record { acts = refl; input = refl }) (λ control. refl)
    (c.first_value_to_inner_expression.ensures (inside_code c.args.e.now c.in_default.not-NewSubregion c.in_default.not-Allocate c.in_default.not-Putchar) program m0.now.locals W))
