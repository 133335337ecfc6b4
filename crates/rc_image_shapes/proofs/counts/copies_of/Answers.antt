use Rattle.std.proofs.Common.{◌≡◌, List, map, take, length, subst}
use Rattle.rc_code.specs.declared.kind.Storage.{Storage}
use Rattle.rc_code.specs.Soundness.{is_regional}
use Rattle.rc_claims.specs.Counts.{trues}
use Rattle.rc_image_shapes.proofs.Counting.{copies_counted}
use Rattle.rc_image_shapes.proofs.counts.copies_of.Goals as goal

pub returns-clause-copies : goal.returns-clause-copies
returns-clause-copies c =
    let p = c.args.function.now.parameters in
    copies_counted c.args.function.now c.count_regional.result c.requires.parameters (subst (λ (xs : List Storage). c.count_regional.result ≡ trues (map is_regional (take p xs)) (length (take p xs))) c.as_slice.ensures c.count_regional.ensures.count)
