-- Reporting on the checks of a file's program.
use Rattle.std.specs.Prelude.{◌≡◌, ℕ, List, Option, Result, Ok, Err, IsTrue}
use Rattle.rc_base.specs.Sinks.{SinkState}
use Rattle.rc_compile.specs.Answers.{IsOnlyRefusal}
use Rattle.rc_compile.specs.declared.refusal.Refusal.{Refusal}
use Rattle.rc_reports.specs.Inspected.{IsReportOfText}
use Rattle.rc_reports.specs.Reports.{report_text}
use Rattle.rc_reports.specs.declared.entry.Entry.{Entry}
use Rattle.rc_answers.specs.declared.answer.Done.{Done}
use Rattle.rc_answers.specs.declared.answer.Done.TheVariants.{Refused, Reported}
use Rattle.rc_answers.specs.declared.answer.Fault.{Fault}
use Rattle.rc_answers.specs.declared.answer.Fault.TheVariants.{Memory}
use Rattle.rc_outcomes.specs.Footprint.{footprint}
use Rattle.rc_outcomes.specs.MayAnswer.{MayAnswer}
use Rattle.rc_outcomes.specs.Outcome.{ReportsOn, as_they_are}
use Rattle.rc_outcomes.specs.Reporting.{MadeReport}
use Rattle.rc_requests.specs.Request.{Request}
use Rattle.rc_files.specs.Texts.{TextOf}

-- the report of the text's program was written, or the text is refused, or there was no memory
pub data CheckedText (text : List ℕ) (out out' : SinkState) : Result Done Fault → Type 0 where
  reported : (entries : List Entry) (result : Result Done Fault) → IsReportOfText text entries → MadeReport (report_text entries) out out' result → CheckedText text out out' result
  refused : (refusal : Refusal) → IsOnlyRefusal text refusal → out' ≡ out → CheckedText text out out' (Ok (Refused refusal))
  no_memory : out' ≡ out → CheckedText text out out' (Err Memory)

-- the rows of the tables say of a request that it reports on the checks of this file's program
pub record ChecksOf (request : Option Request) (name : List ℕ) : Type 0 where
  pub text : TextOf request name as_they_are ReportsOn
  pub writes_out : IsTrue (footprint request).writes_out
  pub may_report : MayAnswer request Reported
