use Rattle.std.proofs.Common.{◌∙◌, ap}
use Rattle.rc_code.specs.declared.image.Function.{Function}
use Rattle.rc_code.specs.Soundness.{instruction_at}
use Rattle.rc_image_steps.specs.Ways.{ways_of}
use Rattle.rc_image_steps.proofs.Asked.{behind_tells}
use Rattle.rc_image_steps.proofs.asking.asked_behind.Goals as goal

pub returns : goal.returns
returns c =
    behind_tells c.args.site.now c.args.proofs.now c.args.at c.ways_of-ways.result (c.ways_of-ways.ensures ∙ ap ways_of (c.instruction_of.ensures ∙ ap (λ (f : Function). instruction_at f c.args.at) c.function_of-function.ensures))
    c.new-facts.result.items c.add_exit.new.out.items c.add_target.new.out.items c.add_target-2.new.out.items c.new-facts.ensures.items c.in_ok-add_exit.ensures c.in_ok-add_target.ensures c.in_ok-add_target-2.ensures
