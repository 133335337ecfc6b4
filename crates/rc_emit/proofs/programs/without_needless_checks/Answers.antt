use Rattle.rc_elim.specs.Masks.{marks_in}
use Rattle.rc_rlang.specs.Shapes.{rlang_of}
use Rattle.rc_emit.proofs.Whole.{whole_answer}
use Rattle.rc_emit.proofs.programs.without_needless_checks.Goals as goal

pub returns : goal.returns
returns c = whole_answer (rlang_of c.args.code.now) (marks_in c.in_ok-mask.mask) c.in_ok-mask.ensures.marks c.emit.result c.emit.ensures.image c.emit.ensures.small c.emit.ensures.sound
