use Rattle.std.proofs.Common.{◌∙◌, ap}
use Rattle.rc_rlang.specs.Shapes.{rlang_of}
use Rattle.rc_elim.specs.Masks.{no_marks, rows_of}
use Rattle.rc_elim.proofs.Unmarked.{all_points, nothing_marked}
use Rattle.rc_elim.proofs.mask.Mask.none.Goals as goal

pub returns-clause-points : goal.returns-clause-points
returns-clause-points c = all_points (rlang_of c.args.code.now) (rows_of c.in_ok-rows.rows.items) (c.in_ok-rows.ensures ∙ ap (λ p. no_marks (rlang_of p)) c.parts-parts.ensures.parts)

pub returns-clause-marks : goal.returns-clause-marks
returns-clause-marks c = nothing_marked (rlang_of c.args.code.now) (rows_of c.in_ok-rows.rows.items) (c.in_ok-rows.ensures ∙ ap (λ p. no_marks (rlang_of p)) c.parts-parts.ensures.parts)
