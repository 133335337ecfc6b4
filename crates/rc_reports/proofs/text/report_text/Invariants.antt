use Rattle.std.proofs.Common.{◌≡◌, ◌++◌, drop}
use Rattle.std.specs.Prelude.{flat_map}
use Rattle.rc_reports.specs.Reports.{entry_text}
use Rattle.rc_reports.proofs.text.report_text.Given as goal

abbrev pub invariant-loop-entry : goal.invariant-loop-entry
invariant-loop-entry l = l.text ++ flat_map entry_text (drop l.entry-index l.entries) ≡ flat_map entry_text l.entries
