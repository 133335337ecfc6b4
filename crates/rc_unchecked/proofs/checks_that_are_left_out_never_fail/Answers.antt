use Rattle.rc_unchecked.proofs.Faithful.{marks_are_right}
use Rattle.rc_unchecked.proofs.checks_that_are_left_out_never_fail.Goals as goal

pub returns : goal.returns
returns c program well bounds small = marks_are_right program well bounds small
