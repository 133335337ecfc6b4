-- Soaking: a program is made from a number, run, and summed up.
use Rattle.std.specs.Prelude.{◌≡◌, ℕ, List, [], length, Option, None, Result, Ok, Err, OnOk, IsTrue}
use Rattle.rc_base.specs.Shelves.{Names}
use Rattle.rc_base.specs.Sinks.{SinkState}
use Rattle.rc_base.specs.declared.ends.End.{End}
use Rattle.rc_base.specs.declared.ends.Limits.{Limits}
use Rattle.rc_unchecked.specs.Images.{HasImage}
use Rattle.rc_code.specs.declared.image.Parts.{Parts}
use Rattle.rc_code.specs.ImageMeaning.{image_left, image_meaning}
use Rattle.rc_compile.specs.Answers.{IsOnlyProgram, IsOnlyRefusal}
use Rattle.rc_compile.specs.declared.refusal.Refusal.{Refusal}
use Rattle.rc_core.specs.Meaning.{meaning}
use Rattle.rc_core.specs.Programs.{Program}
use Rattle.rc_core.specs.Runs.{Ends}
use Rattle.rc_gen.specs.Program.{generated}
use Rattle.rc_reports.specs.Inspected.{IsReportOf}
use Rattle.rc_reports.specs.Reports.{removed_count}
use Rattle.rc_reports.specs.declared.entry.Entry.{Entry}
use Rattle.rc_store.specs.Kept.{KeptStore}
use Rattle.rc_summaries.specs.Summary.{summary_text}
use Rattle.rc_summaries.specs.declared.summary.Summary.{Summary}
use Rattle.rc_answers.specs.declared.answer.Done.{Done}
use Rattle.rc_answers.specs.declared.answer.Done.TheVariants.{Refused, Reported}
use Rattle.rc_answers.specs.declared.answer.Fault.{Fault}
use Rattle.rc_answers.specs.declared.answer.Fault.TheVariants.{Memory}
use Rattle.rc_outcomes.specs.Footprint.{UsesFiles, footprint}
use Rattle.rc_outcomes.specs.MayAnswer.{MayAnswer}
use Rattle.rc_outcomes.specs.Outcome.{IsLeft, IsOutcome, OfText, Outcome, Soaks, as_left, unpinned}
use Rattle.rc_outcomes.specs.Reporting.{MadeReport}
use Rattle.rc_requests.specs.Request.{Request}
use Rattle.rc_driver.specs.declared.made.Made.{Made}

-- it is the program's image, its report, and the number of its functions
pub record IsMadeOf (program : Program) (made : Made) : Type 0 where
  pub image : HasImage program made.code
  pub report : IsReportOf program made.entries.items
  pub functions : made.functions ≡ length program.functions

-- within these limits and without input the image runs to this end, and the heap is left as its meaning leaves it
pub record RanAlone (image : Parts) (limits : Limits) (end : End) (heap' : KeptStore) : Type 0 where
  pub ends : (image_meaning image [] limits).end ≡ Ends end
  pub left : IsLeft (unpinned limits (image_left image [] limits)) heap'

-- within these limits and without input the program runs to this end
pub record EndsSo (program : Program) (limits : Limits) (end : End) : Type 0 where
  pub ends : (meaning program [] limits).end ≡ Ends end

-- what is said of a program with this report and this end
abbrev pub summary_of : (number : ℕ) → Program → List Entry → End → Summary
summary_of number program entries end = record { number = number; functions = length program.functions; checks = length entries; removed = removed_count entries; end = end }

-- a program with this report and this end was run within the limits, and its summary written
pub record Soaked (number : ℕ) (program : Program) (limits : Limits) (entries : List Entry) (end : End) (out out' : SinkState) (heap' : KeptStore) (result : Result Done Fault) : Type 0 where
  pub summed : MadeReport (summary_text (summary_of number program entries end)) out out' result
  pub left : OnOk result (IsLeft (as_left program [] limits) heap')

-- a text is a program that was soaked, or is refused; or there was no memory to make its image and its report
pub data SoakedText (number : ℕ) (text : List ℕ) (limits : Limits) (out out' : SinkState) (heap heap' : KeptStore) : Result Done Fault → Type 0 where
  soaked : (program : Program) (entries : List Entry) (end : End) (result : Result Done Fault) → IsOnlyProgram text program → IsReportOf program entries → EndsSo program limits end
      → Soaked number program limits entries end out out' heap' result → SoakedText number text limits out out' heap heap' result
  refused : (refusal : Refusal) → IsOnlyRefusal text refusal → out' ≡ out → heap' ≡ heap → SoakedText number text limits out out' heap heap' (Ok (Refused refusal))
  no_memory : out' ≡ out → heap' ≡ heap → SoakedText number text limits out out' heap heap' (Err Memory)

-- the rows of the tables say of a request that it soaks this number
pub record SoaksOf (request : Option Request) (number : ℕ) : Type 0 where
  pub asks : ¬ (request ≡ None)
  pub uses_none : ¬ UsesFiles (footprint request)
  pub writes_out : IsTrue (footprint request).writes_out
  pub uses_heap : IsTrue (footprint request).uses_heap
  pub may_report : MayAnswer request Reported
  pub may_refuse : (refusal : Refusal) → MayAnswer request (Refused refusal)
  pub is_outcome : (files : Names) (input : List ℕ) (outcome : Outcome) → OfText (Soaks number) (generated number) outcome → IsOutcome request files input outcome
  pub outcome_is : (files : Names) (input : List ℕ) (outcome : Outcome) → IsOutcome request files input outcome → OfText (Soaks number) (generated number) outcome
