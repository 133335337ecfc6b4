-- Requests that soak a number.
use Rattle.std.proofs.Common.{◌≡◌, ◌∙◌, ℕ, List, [], Option, Result, Ok, Err, refl, sym, ap, subst}
use Rattle.rc_base.specs.Sinks.{SinkState}
use Rattle.rc_base.specs.declared.ends.End.{End}
use Rattle.rc_compile.specs.Answers.{IsOnlyProgram, IsOnlyRefusal}
use Rattle.rc_compile.specs.declared.refusal.Refusal.{Refusal}
use Rattle.rc_core.specs.Programs.{Program}
use Rattle.rc_gen.specs.Program.{generated}
use Rattle.rc_reports.specs.Inspected.{IsReportOf}
use Rattle.rc_reports.specs.declared.entry.Entry.{Entry}
use Rattle.rc_reports.proofs.One.{one_report}
use Rattle.rc_store.specs.Kept.{KeptStore}
use Rattle.rc_summaries.specs.Summary.{summary_text}
use Rattle.rc_translation.specs.Translation.{region_of_program}
use Rattle.rc_answers.specs.declared.answer.Done.{Done}
use Rattle.rc_answers.specs.declared.answer.Done.TheVariants.{Refused}
use Rattle.rc_answers.specs.declared.answer.Fault.{Fault}
use Rattle.rc_answers.specs.declared.answer.Fault.TheVariants.{Memory}
use Rattle.rc_outcomes.specs.Footprint.{footprint}
use Rattle.rc_outcomes.specs.Outcome.{Outcome, Soaks, accepts, answers, refuses, reports_leaving, as_left}
use Rattle.rc_outcomes.specs.Outside.{Outside, outside}
use Rattle.rc_outcomes.specs.Performing.{Performs}
use Rattle.rc_outcomes.specs.Reporting.{WritesReport}
use Rattle.rc_outcomes.proofs.Reports.{made_report}
use Rattle.rc_outcomes.proofs.Ways.{HasRead, fails_before, is_not, is_refused, no_memory as fails_by_memory, reads_nothing, untouched}
use Rattle.rc_requests.specs.Request.{Request, usual_limits}
use Rattle.rc_files.proofs.TextFiles.{made_so, refused_so}
use Rattle.rc_driver.specs.Soaking.{EndsSo, Soaked, SoakedText, SoaksOf, no_memory, refused, soaked, summary_of}
use Rattle.rc_driver.proofs.Alone.{one_end}

module _ (request : Option Request) (number : ℕ) (row : SoaksOf request number) (before : Outside) where
  has : HasRead request before before.files
  has = reads_nothing request before row.asks row.uses_none

  is_no_program : (k : Refusal) → IsOnlyRefusal (generated number) k → Performs request before (outside before.files before.input before.out before.err before.heap) (Ok (Refused k))
  is_no_program k only =
      is_refused request before before.files before.input before.out (Refused k) has (untouched before.input before.out) tt (row.may_refuse k)
      (λ told. row.is_outcome before.files.names before.input.rest (answers (Refused k)) (refuses k only.refused refl))
      (λ outcome comes. refused_so (Soaks number) (generated number) outcome k only (row.outcome_is before.files.names before.input.rest outcome comes.comes))

  pub not_made : Performs request before (outside before.files before.input before.out before.err before.heap) (Err Memory)
  not_made = fails_before request before before.files before.input before.out Memory has.only_reads (untouched before.input before.out) (fails_by_memory refl)

  -- what the program of the text comes to
  module _ (program : Program) (entries : List Entry) (end : End) (only : IsOnlyProgram (generated number) program) (report : IsReportOf program entries) (ends : EndsSo program usual_limits end) where
    abbrev outcome_of : List Entry → End → Outcome
    outcome_of all stop = reports_leaving (summary_text (summary_of number program all stop)) (as_left program [] usual_limits)

    only_outcome : (outcome : Outcome) → Soaks number program outcome → outcome ≡ outcome_of entries end
    only_outcome outcome is =
        is.comes
        ∙ ap (λ (all : List Entry). outcome_of all is.end) (one_report (region_of_program program) is.entries entries is.report report)
        ∙ ap (outcome_of entries) (one_end program usual_limits is.end end (record { ends = is.ends }) ends)

    writes_summary : WritesReport request before (summary_text (summary_of number program entries end)) (as_left program [] usual_limits)
    writes_summary = record {
      writes_out = row.writes_out;
      may_report = row.may_report;
      outcome = λ told. row.is_outcome before.files.names before.input.rest (outcome_of entries end) (accepts program only.accepted (record { entries = entries; report = report; end = end; ends = ends.ends; comes = refl }));
      only = λ outcome comes. only_outcome outcome (made_so (Soaks number) (generated number) outcome program only (row.outcome_is before.files.names before.input.rest outcome comes.comes));
    }

    is_summed : (out' : SinkState) (heap' : KeptStore) (result : Result Done Fault) → Soaked number program usual_limits entries end before.out out' heap' result → Performs request before (outside before.files before.input out' before.err heap') result
    is_summed out' heap' result s =
        made_report request before before.files out' heap' (summary_text (summary_of number program entries end)) (as_left program [] usual_limits) has writes_summary
        (λ e. absurd (is_not (footprint request).uses_heap row.uses_heap e)) result s.summed s.left

  as_before : (out' : SinkState) (heap' : KeptStore) (result : Result Done Fault) → out' ≡ before.out → heap' ≡ before.heap → Performs request before (outside before.files before.input before.out before.err before.heap) result → Performs request before (outside before.files before.input out' before.err heap') result
  as_before out' heap' result out_same heap_same p =
      subst (λ (o : SinkState). Performs request before (outside before.files before.input o before.err heap') result) (sym out_same)
      (subst (λ (h : KeptStore). Performs request before (outside before.files before.input before.out before.err h) result) (sym heap_same) p)

  pub soaked_text : (out' : SinkState) (heap' : KeptStore) (result : Result Done Fault) → SoakedText number (generated number) usual_limits before.out out' before.heap heap' result → Performs request before (outside before.files before.input out' before.err heap') result
  soaked_text out' heap' result (soaked program entries end answer only report ends s) = is_summed program entries end only report ends out' heap' answer s
  soaked_text out' heap' result (refused k only out_same heap_same) = as_before out' heap' (Ok (Refused k)) out_same heap_same (is_no_program k only)
  soaked_text out' heap' result (no_memory out_same heap_same) = as_before out' heap' (Err Memory) out_same heap_same not_made
