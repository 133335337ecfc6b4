use Rattle.std.proofs.Common.{sym, ◌∙◌}
use Rattle.rc_rlang.specs.Shapes.{rlang_of}
use Rattle.rc_elim.specs.Masks.{has_check}
use Rattle.rc_elim.proofs.Checked.{check_within, marked_where}
use Rattle.rc_elim.proofs.mask.Mask.remove.Goals as goal

pub mark-requires : goal.mark-requires
mark-requires c = check_within (rlang_of c.args.code.now) c.args.self.now c.args.function c.args.point c.requires (sym c.in_ok-there.ensures ∙ c.if-not-there.false)

pub returns-clause-points : goal.returns-clause-points
returns-clause-points c = c.mark.ensures.points (rlang_of c.args.code.now) c.requires

pub returns-clause-marks : goal.returns-clause-marks
returns-clause-marks c h q =
    let there = has_check (rlang_of c.args.code.now) c.args.function c.args.point in
    marked_where there c.mark.new.self c.args.self.now c.args.function c.args.point h q (sym c.in_ok-there.ensures ∙ c.if-not-there.false) (c.mark.ensures.marks h q)
