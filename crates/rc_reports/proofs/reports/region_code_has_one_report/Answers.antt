use Rattle.rc_reports.proofs.One.{some_report, one_report}
use Rattle.rc_reports.proofs.reports.region_code_has_one_report.Goals as goal

pub returns-clause-some : goal.returns-clause-some
returns-clause-some c = some_report

pub returns-clause-one : goal.returns-clause-one
returns-clause-one c = one_report
