use Rattle.std.proofs.Common.{ap, ◌∙◌, max}
use Rattle.rc_elab.proofs.Totals.{variables_are}
use Rattle.rc_elab.proofs.variables.variables_left.Goals as goal

pub returns : goal.returns
returns c =
    variables_are c.args.f.now c.as_slice.result.now c.split_at.result.0.now c.split_at.result.1.now c.in_ok-of_body.of_body c.max-most.result c.in_ok-behind_temporaries.behind_temporaries
    c.in_ok-behind_parameters.behind_parameters c.locals-2.result c.as_slice.ensures.value c.split_at.ensures.front c.split_at.ensures.back (c.in_ok-of_body.ensures.0)
    (c.max-most.ensures ∙ ap (max c.in_ok-of_body.of_body) c.behind_body.ensures.value) c.in_ok-behind_temporaries.ensures c.in_ok-behind_parameters.ensures c.locals-2.ensures
