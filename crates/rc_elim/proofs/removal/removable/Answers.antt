use Rattle.std.proofs.Common.{length, refl, sym, subst}
use Rattle.rc_rlang.specs.Shapes.{rlang_of}
use Rattle.rc_rlang.specs.declared.code.RegionParts.{RegionParts}
use Rattle.rc_edges.specs.Heads.{Inferred}
use Rattle.rc_elim.specs.Masks.{HasPoints, MarksRemovable, marks_in, rows_of}
use Rattle.rc_elim.proofs.Removing.{has_points, marks_removable}
use Rattle.rc_elim.proofs.removal.removable.Goals as goal

pub returns-clause-points : goal.returns-clause-points
returns-clause-points c =
    let parts = c.parts.result.now in
    let inferred = subst (λ (p : RegionParts). Inferred p c.args.facts.now) (sym c.parts.ensures.parts) c.requires in
    subst (λ (p : RegionParts). HasPoints (rlang_of p) (rows_of c.in_ok-rows.rows.items)) c.parts.ensures.parts
    (has_points parts c.args.facts.now (length parts.functions.items) (rows_of c.in_ok-rows.rows.items) refl inferred (c.in_ok-rows.ensures inferred))

pub returns-clause-marks : goal.returns-clause-marks
returns-clause-marks c =
    let parts = c.parts.result.now in
    let inferred = subst (λ (p : RegionParts). Inferred p c.args.facts.now) (sym c.parts.ensures.parts) c.requires in
    subst (λ (p : RegionParts). MarksRemovable (rlang_of p) (marks_in (rows_of c.in_ok-rows.rows.items))) c.parts.ensures.parts
    (marks_removable parts c.args.facts.now (length parts.functions.items) (rows_of c.in_ok-rows.rows.items) refl inferred (c.in_ok-rows.ensures inferred))
