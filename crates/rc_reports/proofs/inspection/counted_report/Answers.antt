use Rattle.std.proofs.Common.{Vec}
use Rattle.std.specs.declared.alloc.Global.{Global}
use Rattle.rc_core.specs.Shapes.{program_of}
use Rattle.rc_rlang.specs.declared.code.RegionParts.{RegionParts}
use Rattle.rc_reports.specs.declared.entry.Entry.{Entry}
use Rattle.rc_reports.proofs.Inspecting.{counted_so, much_so}
use Rattle.rc_reports.proofs.inspection.counted_report.Goals as goal

pub returns-in-Err-clause-within : goal.returns-in-Err-clause-within
returns-in-Err-clause-within c =
    let program = program_of c.args.program.now in
    much_so (Vec Entry Global) program c.too_much.result (c.too_much.ensures program (counted_so RegionParts program c.in-Err.fault c.in-Err.ensures.counts))
