-- Requests that report on the checks of a file's program.
use Rattle.std.proofs.Common.{◌≡◌, ◌∙◌, ℕ, List, Option, Result, IsTrue, refl, sym, ap, subst}
use Rattle.rc_base.specs.Shelves.{ShelfState}
use Rattle.rc_base.specs.Sinks.{SinkState}
use Rattle.rc_compile.specs.Acceptance.{Accepted}
use Rattle.rc_compile.specs.Answers.{IsOnlyProgram, IsOnlyRefusal}
use Rattle.rc_reports.specs.Inspected.{IsReportOfText}
use Rattle.rc_reports.specs.Reports.{report_text}
use Rattle.rc_reports.specs.declared.entry.Entry.{Entry}
use Rattle.rc_reports.proofs.One.{one_report}
use Rattle.rc_translation.specs.Translation.{region_of_program}
use Rattle.rc_answers.specs.declared.answer.Done.{Done}
use Rattle.rc_answers.specs.declared.answer.Fault.{Fault}
use Rattle.rc_outcomes.specs.Footprint.{UsesFiles, footprint}
use Rattle.rc_outcomes.specs.Loading.{Loaded}
use Rattle.rc_outcomes.specs.Outcome.{AnyHeap, Comes, IsOutcome, Outcome, ReportsOn, accepts, as_they_are, reports}
use Rattle.rc_outcomes.specs.Outside.{Outside, outside}
use Rattle.rc_outcomes.specs.Performing.{Performs}
use Rattle.rc_outcomes.proofs.Reports.{made_report, nothing_said}
use Rattle.rc_requests.specs.Request.{Request}
use Rattle.rc_files.proofs.TextFiles.{has_read, made_so, no_memory_then, only_made, refused_text, some_made}
use Rattle.rc_driver.specs.Checking.{CheckedText, ChecksOf, no_memory, refused, reported}

module _ (request : Option Request) (name : List ℕ) (row : ChecksOf request name) (before : Outside) (files' : ShelfState) (text : List ℕ) (l : Loaded name before.files files' (λ bytes. bytes ≡ text)) where
  -- the outcome is this report
  module _ (entries : List Entry) (is : IsReportOfText text entries) where
    some_report : (UsesFiles (footprint request) → IsTrue before.files.tells) → IsOutcome request before.files.names before.input.rest (reports (report_text entries))
    some_report = some_made request name as_they_are ReportsOn row.text before files' (λ bytes. bytes ≡ text) l (reports (report_text entries))
        (λ bytes same. accepts is.program (subst (λ (t : List ℕ). Accepted t is.program) (sym same) is.compiles.accepted) (record { entries = entries; report = is.reports; comes = refl }))

    the_report : (outcome : Outcome) → Comes request before outcome → outcome ≡ reports (report_text entries)
    the_report outcome comes =
        let made = only_made request name as_they_are ReportsOn row.text before files' (λ bytes. bytes ≡ text) l outcome comes in
        let other = made_so (ReportsOn before.input.rest) made.0 outcome is.program (subst (λ (t : List ℕ). IsOnlyProgram t is.program) (sym made.1) is.compiles) made.2 in
        other.comes ∙ ap (λ (all : List Entry). reports (report_text all)) (one_report (region_of_program is.program) other.entries entries other.report is.reports)

  pub checked : (out' : SinkState) (result : Result Done Fault) → CheckedText text before.out out' result → Performs request before (outside files' before.input out' before.err before.heap) result
  checked out' result (reported entries done is made) =
      made_report request before files' out' before.heap (report_text entries) AnyHeap (has_read request name as_they_are ReportsOn row.text before files' (λ bytes. bytes ≡ text) l)
      (record { writes_out = row.writes_out; may_report = row.may_report; outcome = some_report entries is; only = the_report entries is }) (λ e. refl) result made (nothing_said result before.heap)
  checked out' result (refused refusal is same) =
      refused_text request name as_they_are ReportsOn row.text before files' (λ bytes. bytes ≡ text) l before.input out' refusal (λ bytes e. subst (λ (t : List ℕ). IsOnlyRefusal t refusal) (sym e) is) (record { input_same = refl; out_same = same })
  checked out' result (no_memory same) =
      no_memory_then request name as_they_are ReportsOn row.text before files' (λ bytes. bytes ≡ text) l before.input out' (record { input_same = refl; out_same = same })
