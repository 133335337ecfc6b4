use Rattle.std.proofs.Common.{◌∙◌, ap}
use Rattle.rc_code.specs.Soundness.{is_regional, local_in}
use Rattle.rc_sealed.specs.Carrying.{when}
use Rattle.rc_pinning.proofs.stops.numbered.Goals as goal

pub returns : goal.returns
returns c =
    c.when.ensures
    ∙ ap (λ b. when b c.number_at.result) (c.is_regional.ensures ∙ ap is_regional c.local_of.ensures)
    ∙ ap (when (is_regional (local_in c.args.function.now c.args.local))) (c.number_at.ensures ∙ c.requires.numbers.each c.args.local c.requires.there)
