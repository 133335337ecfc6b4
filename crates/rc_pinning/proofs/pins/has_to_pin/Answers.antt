use Rattle.std.proofs.Common.{◌∙◌, ap}
use Rattle.rc_code.specs.declared.image.Function.{Function}
use Rattle.rc_code.specs.Soundness.{instruction_at}
use Rattle.rc_pinning.proofs.Judging.{calls_here, not_asked}
use Rattle.rc_pinning.proofs.pins.has_to_pin.Goals as goal

pub pins_of-requires : goal.pins_of-requires
pins_of-requires c =
    calls_here c.args.parts.now c.args.number c.args.deleters.now c.requires.known c.args.at c.requires.inside c.instruction_of.result.now (c.instruction_of.ensures ∙ ap (λ (f : Function). instruction_at f c.args.at) c.function_of.ensures)

pub returns-in-None : goal.returns-in-None
returns-in-None c is =
    not_asked c.args.parts.now c.args.number c.args.deleters.now c.requires.known c.args.at c.requires.inside c.instruction_of.result.now (c.instruction_of.ensures ∙ ap (λ (f : Function). instruction_at f c.args.at) c.function_of.ensures) c.in-None.ensures
