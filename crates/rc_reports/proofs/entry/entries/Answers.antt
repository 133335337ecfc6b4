use Rattle.rc_rlang.specs.Shapes.{rlang_of}
use Rattle.rc_reports.proofs.entry.entries.Goals as goal

pub add_entries-requires : goal.add_entries-requires
add_entries-requires c = record { laid = record { structs = (rlang_of c.args.code.now).structs; laid = c.layouts-layouts.ensures } }
