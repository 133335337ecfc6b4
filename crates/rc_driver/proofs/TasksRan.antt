-- Requests that run the tasks of a file.
use Rattle.std.proofs.Common.{◌≡◌, ◌<◌, ◌∙◌, ℕ, zero, suc, List, [], ◌∷◌, slice_index, Option, Some, Result, Ok, Err, refl, ap, subst, arith, inl}
use Rattle.std.specs.List.{AllByRecursion as Every}
use Rattle.rc_base.specs.Shelves.{ShelfState}
use Rattle.rc_base.specs.Sinks.{SinkState}
use Rattle.rc_base.specs.Sources.{SourceState}
use Rattle.rc_base.specs.declared.ends.Limits.{Limits}
use Rattle.rc_compile.specs.declared.refusal.Refusal.TheVariants as refusal
use Rattle.rc_compile.proofs.OneAnswer.{too_long_only}
use Rattle.rc_core.specs.Numbers.{IsByte}
use Rattle.rc_answers.specs.declared.answer.Done.{Done}
use Rattle.rc_answers.specs.declared.answer.Done.TheVariants.{Refused}
use Rattle.rc_answers.specs.declared.answer.Fault.{Fault}
use Rattle.rc_driver.specs.Executing.{TellsBytes}
use Rattle.rc_outcomes.specs.Footprint.{UsesFiles, footprint}
use Rattle.rc_outcomes.specs.Loading.{Loaded}
use Rattle.rc_outcomes.specs.Outcome.{OfText, RunsTasks, answers, as_left, refuses}
use Rattle.rc_outcomes.specs.Outside.{Outside, outside}
use Rattle.rc_outcomes.specs.Performing.{Performs}
use Rattle.rc_outcomes.proofs.Files.{fails_to_load, has_read}
use Rattle.rc_outcomes.proofs.Tasks.{as_program, by_tasks}
use Rattle.rc_outcomes.proofs.Ways.{is_not, is_refused, not_quiet, same_text, untouched}
use Rattle.rc_requests.specs.Request.{Request}
use Rattle.rc_store.specs.Kept.{KeptStore}
use Rattle.rc_task_text.specs.TaskText.{AreChoices, task_text_of}
use Rattle.rc_task_programs.proofs.Longer.{longer}
use Rattle.rc_files.specs.Texts.{IsTooLong, LoadedText}
use Rattle.rc_files.specs.declared.text_file.NoText.TheVariants.{TooLong, Failed}
use Rattle.rc_files.proofs.RunTexts.{RunsThis, this_ran}
use Rattle.rc_files.proofs.TextFiles.{refused_so}
use Rattle.rc_driver.specs.Tasking.{RanTasks, RunsTasksOf}

-- what a slice of bytes has are bytes
pub each_is_byte : (xs : List ℕ) → ((k : ℕ) → slice_index xs k < 256) → Every IsByte xs
each_is_byte [] small = tt
each_is_byte (x ∷ xs) small = (small zero, each_is_byte xs (λ k. small (suc k)))

module _ (request : Option Request) (name choices : List ℕ) (limits : Limits) (row : RunsTasksOf request name choices limits) (before : Outside) (files' : ShelfState) where
  uses : UsesFiles (footprint request)
  uses = (name, inl row.reads)

  module _ (text : List ℕ) (l : Loaded name before.files files' (λ bytes. bytes ≡ text)) (bytes : Every IsByte text) (are : AreChoices choices) where
    runs_this : RunsThis request before (task_text_of text choices) limits as_left (TellsBytes before.input)
    runs_this = record {
      takes = row.takes;
      writes = row.writes;
      told = λ done run tells. (tells.input (not_quiet done run) row.takes, tells.bytes (not_quiet done run) row.takes row.heap);
      may_end = row.may_end;
      may_refuse = row.may_refuse;
      is_outcome = λ told outcome is. (
          let file = l.holds (told uses) in
          row.is_outcome before.files.names before.input.rest outcome (text, file.1 ∙ ap Some file.2, by_tasks text choices before.input.rest limits bytes are outcome is));
      outcome_is = λ outcome comes. (
          let file = l.holds (comes.told.files uses) in
          let found = row.outcome_is before.files.names before.input.rest outcome comes.comes in
          let same = same_text before.files.names name found.0 file.0 found.1 file.1 ∙ file.2 in
          as_program text choices before.input.rest limits bytes are outcome
          (subst (λ (t : List ℕ). OfText (RunsTasks limits choices (task_text_of t choices) before.input.rest) (task_text_of t choices) outcome) same found.2));
    }

  pub tasks_ran : (text : List ℕ) → Loaded name before.files files' (λ bytes. bytes ≡ text) → AreChoices choices → (input' : SourceState) (out' : SinkState) (heap' : KeptStore) (result : Result Done Fault) → RanTasks choices text limits before.input input' before.out out' before.heap heap' result → Performs request before (outside files' input' out' before.err heap') result
  tasks_ran text l are input' out' heap' result r =
      this_ran request before files' (task_text_of text choices) limits as_left (TellsBytes before.input) (has_read request name row.reads before files' (λ bytes. bytes ≡ text) l row.only) (runs_this text l r.bytes are) input' out' heap' (λ e. absurd (is_not (footprint request).uses_heap row.heap e)) result r.ran

  -- with its lines a file that is longer than a text is too long as well
  pub tasks_too_long : LoadedText name before.files files' (Err TooLong) → Performs request before (outside files' before.input before.out before.err before.heap) (Ok (Refused refusal.TooLong))
  tasks_too_long l =
      is_refused request before files' before.input before.out (Refused refusal.TooLong) (has_read request name row.reads before files' IsTooLong l row.only) (untouched before.input before.out) tt (row.may_refuse refusal.TooLong)
      (λ told. (
      let file = l.holds (told uses) in
      row.is_outcome before.files.names before.input.rest (answers (Refused refusal.TooLong)) (file.0, file.1, refuses refusal.TooLong (too_long_only (task_text_of file.0 choices) (still_longer file.0 file.2)).refused refl)))
      (λ outcome comes. (
      let file = l.holds (comes.told.files uses) in
      let found = row.outcome_is before.files.names before.input.rest outcome comes.comes in
      let long = subst IsTooLong (same_text before.files.names name file.0 found.0 file.1 found.1) file.2 in
      refused_so (RunsTasks limits choices (task_text_of found.0 choices) before.input.rest) (task_text_of found.0 choices) outcome refusal.TooLong (too_long_only (task_text_of found.0 choices) (still_longer found.0 long)) found.2))
    where
      still_longer : (text : List ℕ) → IsTooLong text → IsTooLong (task_text_of text choices)
      still_longer text long = let more = longer text choices in omega (arith, long, more)

  pub tasks_failed : (fault : Fault) → LoadedText name before.files files' (Err (Failed fault)) → Performs request before (outside files' before.input before.out before.err before.heap) (Err fault)
  tasks_failed fault l = fails_to_load request name row.reads before files' fault l
