use Rattle.std.proofs.Common.{sym, ap, ◌∙◌}
use Rattle.rc_rlang.specs.Shapes.{operation_of}
use Rattle.rc_live.specs.Walking.{touch_in}
use Rattle.rc_live.proofs.Doing.{copy_use}
use Rattle.rc_live.proofs.effects.read_by.Goals as goal

pub returns-in-Reads : goal.returns-in-Reads
returns-in-Reads c structs =
    copy_use c.args.names.now c.with.result c.empty-in-Reads.result c.in-Reads.local (operation_of structs c.args.operation.now) (sym (ap touch_in c.in-Reads.is) ∙ c.touch.ensures structs) c.empty-in-Reads.ensures c.with.ensures
