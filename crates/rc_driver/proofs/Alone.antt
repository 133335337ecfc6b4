-- Runs without input, and with their output thrown away.
use Rattle.std.proofs.Common.{◌≡◌, ◌∙◌, ℕ, [], length, Option, Result, Ok, Err, IfOk, OnOk, ap, subst}
use Rattle.rc_base.specs.Sinks.{SinkState}
use Rattle.rc_base.specs.Sources.{SourceState}
use Rattle.rc_base.specs.declared.ends.End.{End}
use Rattle.rc_base.specs.declared.ends.Limits.{Limits}
use Rattle.rc_base.specs.declared.outside.NoMemory.{NoMemory}
use Rattle.rc_unchecked.specs.Images.{HasImage}
use Rattle.rc_code.specs.declared.image.Parts.{Parts}
use Rattle.rc_code.specs.ImageMeaning.{image_left, image_meaning}
use Rattle.rc_core.specs.Meaning.{Left, Meaning, meaning}
use Rattle.rc_core.specs.Programs.{Program}
use Rattle.rc_core.specs.Runs.{Ends, Stale, Stop}
use Rattle.rc_driver.specs.Executing.{TellsBytes}
use Rattle.rc_store.specs.Kept.{KeptStore}
use Rattle.rc_answers.specs.declared.answer.Done.{Done}
use Rattle.rc_answers.specs.declared.answer.Done.TheVariants.{Ended}
use Rattle.rc_answers.specs.declared.answer.Fault.{Fault}
use Rattle.rc_outcomes.specs.Outcome.{IsLeft, as_left, comes_of, end_as, unpinned}
use Rattle.rc_outcomes.specs.Runs.{Ran}
use Rattle.rc_reports.specs.Reports.{removed_count}
use Rattle.rc_summaries.specs.declared.summary.Summary.{Summary}
use Rattle.rc_driver.specs.Soaking.{EndsSo, IsMadeOf, RanAlone, summary_of}
use Rattle.rc_driver.specs.declared.made.Made.{Made}

ends_so : (stop : Stop) (end : End) → Ended end ≡ end_as stop → stop ≡ Ends end
ends_so (Ends other) end is = cc
ends_so (Stale line) end is = cc

-- the run of an image over no input
pub ran_alone : (image : Parts) (limits : Limits) (input input' : SourceState) (out out' : SinkState) (heap' : KeptStore) (ran : Result Done Fault) (answer : Result End NoMemory) → TellsBytes input → input.rest ≡ []
    → Ran (TellsBytes input) (comes_of image limits) input input' out out' heap' ran → IfOk answer (λ end. ran ≡ Ok (Ended end)) → IfOk answer (λ end. RanAlone image limits end heap')
ran_alone image limits input input' out out' heap' ran (Err _) told none r is = tt
ran_alone image limits input input' out out' heap' ran (Ok end) told none r is =
    let s = subst (Ran (TellsBytes input) (comes_of image limits) input input' out out' heap') is r in
    record {
      ends = subst (λ rest. (image_meaning image rest limits).end ≡ Ends end) none (ends_so (image_meaning image input.rest limits).end end (s.done told));
      left = subst (λ rest. IsLeft (unpinned limits (image_left image rest limits)) heap') none (s.left told);
    }

-- a program's image ends as the program does, and leaves what it leaves
module _ (program : Program) (image : Parts) (has : HasImage program image) (limits : Limits) (end : End) (heap' : KeptStore) (ran : RanAlone image limits end heap') where
  pub ends_as_program : EndsSo program limits end
  ends_as_program = record { ends = subst (λ (m : Meaning). m.end ≡ Ends end) (has.means [] limits tt).0 ran.ends }

  pub left_as_program : IsLeft (as_left program [] limits) heap'
  left_as_program = subst (λ (l : Option Left). IsLeft (unpinned limits l) heap') (has.means [] limits tt).1 ran.left

-- a run has one end
pub one_end : (program : Program) (limits : Limits) (one other : End) → EndsSo program limits one → EndsSo program limits other → one ≡ other
one_end program limits one other is also = same (meaning program [] limits).end is.ends also.ends where
  same : (stop : Stop) → stop ≡ Ends one → stop ≡ Ends other → one ≡ other
  same stop is also = cc

-- what holds anyhow holds behind an answer
pub anyhow : {Holds : Type 0} (result : Result Done Fault) → Holds → OnOk result Holds
anyhow (Ok done) holds = holds
anyhow (Err fault) holds = tt

-- what is said of a program that is made ready, and whose image ended as the program does
pub summary_is : (number : ℕ) (program : Program) (made : Made) (one end : End) → IsMadeOf program made → one ≡ end
    → ◌≡◌ {A = Summary} (record { number = number; functions = made.functions; checks = length made.entries.items; removed = removed_count made.entries.items; end = one }) (summary_of number program made.entries.items end)
summary_is number program made one end is same =
    ap {B = Summary} (λ (n : ℕ). record { number = number; functions = n; checks = length made.entries.items; removed = removed_count made.entries.items; end = one }) is.functions
    ∙ ap (λ (e : End). summary_of number program made.entries.items e) same
