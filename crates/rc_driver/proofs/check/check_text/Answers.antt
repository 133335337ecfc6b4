use Rattle.std.proofs.Common.{List, Ok, refl, subst, sym}
use Rattle.rc_compile.specs.Compiles.{IsReason}
use Rattle.rc_compile.specs.declared.fault.CompileFault.{CompileFault}
use Rattle.rc_compile.specs.declared.refusal.Refusal.{Refusal}
use Rattle.rc_answers.specs.declared.answer.Done.TheVariants.{Refused}
use Rattle.rc_outcomes.specs.Reporting.{MadeReport}
use Rattle.rc_reports.specs.Reports.{report_text}
use Rattle.rc_reports.specs.declared.entry.Entry.{Entry}
use Rattle.rc_driver.specs.Checking.{CheckedText, no_memory, refused, reported}
use Rattle.rc_driver.proofs.check.check_text.Goals as goal

pub returns-in-Ok : goal.returns-in-Ok
returns-in-Ok g c = reported c.in-Ok.entries.items c.report.result c.in-Ok.ensures
    (subst (λ (entries : List Entry). MadeReport (report_text entries) (g.O.Sink.state c.args.out.now) (g.O.Sink.state c.report.new.out) c.report.result) c.as_slice.ensures.value (c.report.ensures (report_text c.as_slice.result.now) c.report_text.ensures))

pub returns-in-Err-Refused : goal.returns-in-Err-Refused
returns-in-Err-Refused g c = subst (λ (refusal : Refusal). CheckedText c.args.text.now (g.O.Sink.state c.args.out.now) (g.O.Sink.state c.args.out.now) (Ok (Refused refusal))) (sym c.in-Err-Refused.refusal-is)
    (refused c.in-Err-Refused.refusal (subst (λ (fault : CompileFault). IsReason c.args.text.now fault) c.in-Err-Refused.field-0-is c.in-Err-Refused.ensures) refl)

pub returns-in-Err-Memory : goal.returns-in-Err-Memory
returns-in-Err-Memory g c = no_memory refl
