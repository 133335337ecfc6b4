-- The run of a program's image is the run of the program.
use Rattle.std.proofs.Common.{◌≡◌, ◌∙◌, ℕ, List, Option, Result, Ok, Err, sym, ap, subst}
use Rattle.rc_base.specs.Sinks.{SinkState}
use Rattle.rc_base.specs.Sources.{SourceState}
use Rattle.rc_base.specs.declared.ends.End.{End}
use Rattle.rc_base.specs.declared.ends.Limits.{Limits}
use Rattle.rc_unchecked.specs.Images.{HasImage}
use Rattle.rc_code.specs.declared.image.Parts.{Parts}
use Rattle.rc_code.specs.ImageMeaning.{image_left}
use Rattle.rc_compile.specs.Answers.{IsOnlyProgram}
use Rattle.rc_compile.proofs.InPlace.{accepted_in_place}
use Rattle.rc_core.specs.Meaning.{Left, Meaning, meaning}
use Rattle.rc_core.specs.Programs.{Program}
use Rattle.rc_core.specs.Runs.{Stop}
use Rattle.rc_safety.proofs.Never.{never_touches_deleted}
use Rattle.rc_store.specs.Kept.{KeptStore}
use Rattle.rc_answers.specs.declared.answer.Done.{Done}
use Rattle.rc_answers.specs.declared.answer.Done.TheVariants.{Ended, StaleImage, Refused, ImageRefused, UnitRefused, LinkRefused, Wrote, Reported, Usage}
use Rattle.rc_answers.specs.declared.answer.Fault.{Fault}
use Rattle.rc_answers.specs.declared.answer.Fault.TheVariants.{Memory}
use Rattle.rc_driver.specs.Executing.{TellsBytes}
use Rattle.rc_outcomes.specs.Outcome as outcome
use Rattle.rc_outcomes.specs.Outcome.{IsLeft, Outcome, Performed, StoppedShort, as_left, came, end_as, unpinned}
use Rattle.rc_outcomes.specs.Runs.{Ran}
use Rattle.rc_outcomes.proofs.Ways.{an_end}
use Rattle.rc_files.specs.Programs.{RanProgram, comes_of}
use Rattle.rc_driver.specs.Ends.{Ends}

module _ (text : List ℕ) (program : Program) (image : Parts) (only : IsOnlyProgram text program) (has : HasImage program image) (limits : Limits) (input input' : SourceState) (out out' : SinkState) (heap' : KeptStore) where
  same : TellsBytes input → outcome.comes_of image limits input.rest ≡ comes_of as_left program limits input.rest
  same told =
      ap (λ (m : Meaning). came m (unpinned limits (image_left image input.rest limits))) (has.means input.rest limits told.1).0
      ∙ ap (λ (l : Option Left). came (meaning program input.rest limits) (unpinned limits l)) (has.means input.rest limits told.1).1

  never : TellsBytes input → (line : ℕ) → StaleImage line ≡ (comes_of as_left program limits input.rest).done → ⊥
  never told line is =
      let e = an_end (meaning program input.rest limits).end (never_touches_deleted program input.rest limits (accepted_in_place text program only.accepted)) in
      let done : StaleImage line ≡ Ended e.0 = is ∙ ap (λ (s : Stop). end_as s) e.1 in
      cc

  ended : (end : End) → Ran (TellsBytes input) (outcome.comes_of image limits) input input' out out' heap' (Ok (Ended end)) → RanProgram as_left (TellsBytes input) program limits input input' out out' heap' (Ok (Ended end))
  ended end r = record {
    ran = record {
      done = λ told. subst (λ (o : Outcome). Ended end ≡ o.done) (same told) (r.done told);
      performed = λ told. subst (λ (o : Outcome). Performed o.acts input input' out out') (same told) (r.performed told);
      left = λ told. subst (λ (o : Outcome). IsLeft o.left heap') (same told) (r.left told);
      stopped = λ told. tt;
      is_run = tt;
      flushed = r.flushed;
      fault = tt;
      input_later = r.input_later;
      out_later = r.out_later;
      read = r.read;
      write = r.write;
      input_tells = r.input_tells;
      out_tells = r.out_tells;
      input_kept = r.input_kept;
      out_kept = r.out_kept;
    };
    ends = tt;
  }

  stale : (line : ℕ) → Ran (TellsBytes input) (outcome.comes_of image limits) input input' out out' heap' (Ok (StaleImage line)) → RanProgram as_left (TellsBytes input) program limits input input' out out' heap' (Err Memory)
  stale line r = record {
    ran = record {
      done = λ told. tt;
      performed = λ told. tt;
      left = λ told. tt;
      stopped = λ told. absurd (never told line (subst (λ (o : Outcome). StaleImage line ≡ o.done) (same told) (r.done told)));
      is_run = tt;
      flushed = tt;
      fault = tt;
      input_later = r.input_later;
      out_later = r.out_later;
      read = λ is. cc;
      write = λ is. cc;
      input_tells = r.input_tells;
      out_tells = r.out_tells;
      input_kept = λ other. r.input_kept (λ is. cc);
      out_kept = λ ok. cc;
    };
    ends = tt;
  }

  cut : (fault : Fault) → Ran (TellsBytes input) (outcome.comes_of image limits) input input' out out' heap' (Err fault) → RanProgram as_left (TellsBytes input) program limits input input' out out' heap' (Err fault)
  cut fault r = record {
    ran = record {
      done = λ told. tt;
      performed = λ told. tt;
      left = λ told. tt;
      stopped = λ told. subst (λ (o : Outcome). StoppedShort o.acts fault input input' out out') (same told) (r.stopped told);
      is_run = tt;
      flushed = tt;
      fault = r.fault;
      input_later = r.input_later;
      out_later = r.out_later;
      read = r.read;
      write = r.write;
      input_tells = r.input_tells;
      out_tells = r.out_tells;
      input_kept = r.input_kept;
      out_kept = r.out_kept;
    };
    ends = tt;
  }

  pub ran_program : (ran answer : Result Done Fault) → Ran (TellsBytes input) (outcome.comes_of image limits) input input' out out' heap' ran → Ends ran answer → RanProgram as_left (TellsBytes input) program limits input input' out out' heap' answer
  ran_program (Ok (Ended end)) answer r is = subst (RanProgram as_left (TellsBytes input) program limits input input' out out' heap') (sym is) (ended end r)
  ran_program (Ok (StaleImage line)) answer r is = subst (RanProgram as_left (TellsBytes input) program limits input input' out out' heap') (sym is) (stale line r)
  ran_program (Ok (Refused refusal)) answer r is = absurd r.is_run
  ran_program (Ok (ImageRefused refusal)) answer r is = absurd r.is_run
  ran_program (Ok (UnitRefused file refusal)) answer r is = absurd r.is_run
  ran_program (Ok (LinkRefused refusal)) answer r is = absurd r.is_run
  ran_program (Ok Wrote) answer r is = absurd r.is_run
  ran_program (Ok Reported) answer r is = absurd r.is_run
  ran_program (Ok Usage) answer r is = absurd r.is_run
  ran_program (Err fault) answer r is = subst (RanProgram as_left (TellsBytes input) program limits input input' out out' heap') (sym is) (cut fault r)
