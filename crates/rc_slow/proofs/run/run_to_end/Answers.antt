use Rattle.std.proofs.Common.{◌∙◌, Ok, subst}
use Rattle.rc_core.specs.Shapes.{program_of}
use Rattle.rc_slow.specs.declared.outside.Next.{Next as CodeNext}
use Rattle.rc_slow.specs.Going.{Comes, way_from}
use Rattle.rc_slow.proofs.Goings.{nothing_left, leaves_on, leaves_stop, leaves_value}
use Rattle.rc_slow.proofs.run.run_to_end.Goals as goal

pub turns-preserved : goal.turns-preserved
turns-preserved g c =
    let so_far = c.turns.invariant in
    let turn = c.in-Ok-Onward.ensures in
    record {
      going = λ start first_input first_out in_tells out_tells going. subst (λ (next : CodeNext). Comes (program_of c.args.setting.now.parts.now) c.args.setting.now.limits (way_from start first_input (g.S.Source.state c.run_to_turn.new.input) first_out (g.O.Sink.state c.run_to_turn.new.out)) (Ok next) c.run_to_turn.new.machine) c.in-Ok-Onward.field-0-is
          (turn.comes start first_input first_out (so_far.leaves.input_tells ∙ in_tells) (so_far.leaves.out_tells ∙ out_tells) (so_far.going start first_input first_out in_tells out_tells going));
      leaves = leaves_on _ _ _ _ _ _ _ so_far.leaves (leaves_value _ _ _ _ _ tt turn.leaves);
    }

pub returns-in-Ok-Ended-clause-arrives : goal.returns-in-Ok-Ended-clause-arrives
returns-in-Ok-Ended-clause-arrives g c = λ start first_input first_out in_tells out_tells going.
    let so_far = c.turns.invariant in
    subst (λ (next : CodeNext). Comes (program_of c.args.setting.now.parts.now) c.args.setting.now.limits (way_from start first_input (g.S.Source.state c.run_to_turn.new.input) first_out (g.O.Sink.state c.run_to_turn.new.out)) (Ok next) c.run_to_turn.new.machine) c.in-Ok-Ended.field-0-is
    (c.in-Ok-Ended.ensures.comes start first_input first_out (so_far.leaves.input_tells ∙ in_tells) (so_far.leaves.out_tells ∙ out_tells) (so_far.going start first_input first_out in_tells out_tells going))

pub returns-in-Ok-Ended-clause-leaves : goal.returns-in-Ok-Ended-clause-leaves
returns-in-Ok-Ended-clause-leaves g c = leaves_value _ _ _ _ _ _ (leaves_on _ _ _ _ _ _ _ c.turns.invariant.leaves c.in-Ok-Ended.ensures.leaves)

pub returns-in-Err-clause-arrives : goal.returns-in-Err-clause-arrives
returns-in-Err-clause-arrives g c = λ start first_input first_out in_tells out_tells going.
    let so_far = c.turns.invariant in
    c.in-Err.ensures.comes start first_input first_out (so_far.leaves.input_tells ∙ in_tells) (so_far.leaves.out_tells ∙ out_tells) (so_far.going start first_input first_out in_tells out_tells going)

pub returns-in-Err-clause-leaves : goal.returns-in-Err-clause-leaves
returns-in-Err-clause-leaves g c = leaves_stop _ _ _ _ _ (leaves_on _ _ _ _ _ _ _ c.turns.invariant.leaves c.in-Err.ensures.leaves)

pub turns-init : goal.turns-init
turns-init g c = record { going = λ start first_input first_out in_tells out_tells going. going; leaves = nothing_left (g.S.Source.state c.args.input.now) (g.O.Sink.state c.args.out.now) }
