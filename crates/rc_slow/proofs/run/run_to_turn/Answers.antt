use Rattle.std.proofs.Common.{◌∙◌, Ok, refl, subst}
use Rattle.rc_core.specs.Shapes.{program_of}
use Rattle.rc_slow.specs.declared.outside.Next.{Next as CodeNext}
use Rattle.rc_nodes.specs.Controls.{control_of}
use Rattle.rc_slow.specs.Falling.{Lessens}
use Rattle.rc_slow.specs.Going.{Comes, way_from}
use Rattle.rc_slow.specs.Performing.{LeavesOutside}
use Rattle.rc_slow.proofs.Fallings.{as_many, less_left}
use Rattle.rc_slow.proofs.Goings.{nothing_left, leaves_on, leaves_value}
use Rattle.rc_slow.proofs.run.run_to_turn.Goals as goal

pub returns-then-machine-turns-clause-comes : goal.returns-then-machine-turns-clause-comes
returns-then-machine-turns-clause-comes g c = λ start first_input first_out in_tells out_tells going.
    let so_far = c.steps.invariant in
    subst (λ (next : CodeNext). Comes (program_of c.args.setting.now.parts.now) c.args.setting.now.limits (way_from start first_input (g.S.Source.state c.advance.new.input) first_out (g.O.Sink.state c.advance.new.out)) (Ok next) c.advance.new.machine) c.in-Ok-Onward.field-0-is
    (c.in-Ok-Onward.ensures.comes start first_input first_out (so_far.leaves.input_tells ∙ in_tells) (so_far.leaves.out_tells ∙ out_tells) (so_far.going start first_input first_out in_tells out_tells going))

pub returns-then-machine-turns-clause-leaves : goal.returns-then-machine-turns-clause-leaves
returns-then-machine-turns-clause-leaves g c = leaves_on _ _ _ _ _ _ _ c.steps.invariant.leaves (subst (λ (next : CodeNext). LeavesOutside (g.S.Source.state c.steps.input) (g.S.Source.state c.advance.new.input) (g.O.Sink.state c.steps.out) (g.O.Sink.state c.advance.new.out) (Ok next)) c.in-Ok-Onward.field-0-is c.in-Ok-Onward.ensures.leaves)

pub steps-smaller : goal.steps-smaller
steps-smaller g c =
    let Less : CodeNext → Type 0 = λ next. Lessens (control_of c.steps.control) c.steps.machine next c.advance.new.machine in
    less_left _ _ _ _ _ c.steps.invariant.turns c.if-machine-turns.false (subst Less c.in-Ok-Onward.field-0-is c.in-Ok-Onward.ensures.lessens)

pub steps-preserved : goal.steps-preserved
steps-preserved g c =
    let so_far = c.steps.invariant in
    let step = c.in-Ok-Onward.ensures in
    let Less : CodeNext → Type 0 = λ next. Lessens (control_of c.steps.control) c.steps.machine next c.advance.new.machine in
    record {
      going = λ start first_input first_out in_tells out_tells going. subst (λ (next : CodeNext). Comes (program_of c.args.setting.now.parts.now) c.args.setting.now.limits (way_from start first_input (g.S.Source.state c.advance.new.input) first_out (g.O.Sink.state c.advance.new.out)) (Ok next) c.advance.new.machine) c.in-Ok-Onward.field-0-is
          (step.comes start first_input first_out (so_far.leaves.input_tells ∙ in_tells) (so_far.leaves.out_tells ∙ out_tells) (so_far.going start first_input first_out in_tells out_tells going));
      turns = as_many _ _ _ _ _ so_far.turns c.if-machine-turns.false (subst Less c.in-Ok-Onward.field-0-is step.lessens);
      leaves = leaves_on _ _ _ _ _ _ _ so_far.leaves (leaves_value _ _ _ _ _ tt step.leaves);
    }

pub returns-in-Ok-Ended-clause-comes : goal.returns-in-Ok-Ended-clause-comes
returns-in-Ok-Ended-clause-comes g c = λ start first_input first_out in_tells out_tells going.
    let so_far = c.steps.invariant in
    subst (λ (next : CodeNext). Comes (program_of c.args.setting.now.parts.now) c.args.setting.now.limits (way_from start first_input (g.S.Source.state c.advance.new.input) first_out (g.O.Sink.state c.advance.new.out)) (Ok next) c.advance.new.machine) c.in-Ok-Ended.field-0-is
    (c.in-Ok-Ended.ensures.comes start first_input first_out (so_far.leaves.input_tells ∙ in_tells) (so_far.leaves.out_tells ∙ out_tells) (so_far.going start first_input first_out in_tells out_tells going))

pub returns-in-Ok-Ended-clause-leaves : goal.returns-in-Ok-Ended-clause-leaves
returns-in-Ok-Ended-clause-leaves g c = leaves_on _ _ _ _ _ _ _ c.steps.invariant.leaves (subst (λ (next : CodeNext). LeavesOutside (g.S.Source.state c.steps.input) (g.S.Source.state c.advance.new.input) (g.O.Sink.state c.steps.out) (g.O.Sink.state c.advance.new.out) (Ok next)) c.in-Ok-Ended.field-0-is c.in-Ok-Ended.ensures.leaves)

pub returns-in-Err-clause-comes : goal.returns-in-Err-clause-comes
returns-in-Err-clause-comes g c = λ start first_input first_out in_tells out_tells going.
    let so_far = c.steps.invariant in
    c.in-Err.ensures.comes start first_input first_out (so_far.leaves.input_tells ∙ in_tells) (so_far.leaves.out_tells ∙ out_tells) (so_far.going start first_input first_out in_tells out_tells going)

pub returns-in-Err-clause-leaves : goal.returns-in-Err-clause-leaves
returns-in-Err-clause-leaves g c = leaves_on _ _ _ _ _ _ _ c.steps.invariant.leaves c.in-Err.ensures.leaves

pub steps-init : goal.steps-init
steps-init g c = record { going = λ start first_input first_out in_tells out_tells going. going; turns = refl; leaves = nothing_left (g.S.Source.state c.args.input.now) (g.O.Sink.state c.args.out.now) }
