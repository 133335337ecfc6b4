use Rattle.std.proofs.Common.{length, map, ap, ◌∙◌}
use Rattle.std.proofs.lemmas.List.{length-map}
use Rattle.rc_code.specs.Soundness.{is_regional}
use Rattle.rc_claims.specs.Counts.{trues}
use Rattle.rc_sealed_images.proofs.Loops.{trues_past}
use Rattle.rc_sealed_images.proofs.counts.copies.Goals as goal

pub returns-clause-count : goal.returns-clause-count
returns-clause-count c =
    let locals = c.as_slice-locals.result.now in
    c.regionals_before.ensures.count ∙ ap (trues (map is_regional locals)) c.min.ensures ∙ trues_past (map is_regional locals) (length locals) c.args.function.now.parameters (length-map locals is_regional)
    ∙ ap (λ ls. trues (map is_regional ls) c.args.function.now.parameters) c.as_slice-locals.ensures
