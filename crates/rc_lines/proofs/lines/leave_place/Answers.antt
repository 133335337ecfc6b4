use Rattle.std.proofs.Common.{ap, ◌∙◌, suc}
use Rattle.rc_lines.proofs.Places.{length_on}
use Rattle.rc_lines.proofs.lines.leave_place.Goals as goal

pub returns-clause-place : goal.returns-clause-place
returns-clause-place c = ap suc (c.len-place.ensures ∙ c.args.out.now.ok.0) ∙ length_on c.args.out.now.items c.push.new.out.items _ c.in_ok-push.ensures
