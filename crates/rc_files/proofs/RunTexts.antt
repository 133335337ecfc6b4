-- Requests that run the program of a text.
use Rattle.std.proofs.Common.{◌≡◌, ◌∙◌, ℕ, false, List, Option, None, Result, Ok, Err, IsTrue, refl, sym, ap, subst}
use Rattle.rc_base.specs.Shelves.{ShelfState}
use Rattle.rc_base.specs.Sinks.{SinkState}
use Rattle.rc_base.specs.Sources.{SourceState}
use Rattle.rc_base.specs.declared.ends.End.{End}
use Rattle.rc_base.specs.declared.ends.Limits.{Limits}
use Rattle.rc_compile.specs.Answers.{IsOnlyProgram}
use Rattle.rc_compile.specs.declared.refusal.Refusal.{Refusal}
use Rattle.rc_compile.proofs.InPlace.{accepted_in_place}
use Rattle.rc_core.specs.Meaning.{meaning}
use Rattle.rc_core.specs.Programs.{Program}
use Rattle.rc_core.specs.Runs.{Ends, Stop}
use Rattle.rc_safety.specs.Safety.{NeverTouchesDeleted}
use Rattle.rc_safety.proofs.Never.{never_touches_deleted}
use Rattle.rc_store.specs.Kept.{KeptStore}
use Rattle.rc_answers.specs.Answers.{IsRun}
use Rattle.rc_answers.specs.declared.answer.Done.{Done}
use Rattle.rc_answers.specs.declared.answer.Done.TheVariants.{Refused}
use Rattle.rc_answers.specs.declared.answer.Fault.{Fault}
use Rattle.rc_answers.specs.declared.answer.Fault.TheVariants.{Memory}
use Rattle.rc_outcomes.specs.Footprint.{TellsWhatIsUsed, UsesFiles, footprint}
use Rattle.rc_outcomes.specs.Loading.{Loaded}
use Rattle.rc_outcomes.specs.MayAnswer.{MayAnswer}
use Rattle.rc_outcomes.specs.Outcome.{Comes, IsOutcome, Leaving, OfText, Outcome, Runs, accepts, answers, end_as, refuses, runs}
use Rattle.rc_outcomes.specs.Outside.{Outside, outside}
use Rattle.rc_outcomes.specs.Performing.{Performs}
use Rattle.rc_outcomes.proofs.Ways.{HasRead, RunsTo, an_end, fails_before, is_refused, no_memory as fails_by_memory, runs_and_is_cut_short, runs_to_the_end}
use Rattle.rc_requests.specs.Request.{Request}
use Rattle.rc_files.specs.Programs.{IsEnd, RanProgram, RanText, RunsTextOf, comes_of, no_memory, ran, refused}
use Rattle.rc_files.proofs.TextFiles.{has_read, made_so, only_made, refused_so, some_made}

comes_so : (leaves : Leaving) (program : Program) (limits : Limits) (rest : List ℕ) (end : End) → (meaning program rest limits).end ≡ Ends end → comes_of leaves program limits rest ≡ runs (meaning program rest limits).acts end (leaves program rest limits)
comes_so leaves program limits rest end is = ap (λ (s : Stop). record { done = end_as s; acts = (meaning program rest limits).acts; stored = None; left = leaves program rest limits }) is

never_touches : (text : List ℕ) (program : Program) (limits : Limits) → IsOnlyProgram text program → (rest : List ℕ) → NeverTouchesDeleted program rest limits
never_touches text program limits only rest = never_touches_deleted program rest limits (accepted_in_place text program only.accepted)

-- the rows of the tables, and the outside as it was found, say of a request that it runs the program of this text
pub record RunsThis (request : Option Request) (before : Outside) (text : List ℕ) (limits : Limits) (leaves : Leaving) (Told : Type 0) : Type 0 where
  pub takes : IsTrue (footprint request).takes_input
  pub writes : IsTrue (footprint request).writes_out
  pub told : (done : Done) → IsRun done → TellsWhatIsUsed (footprint request) done before → Told
  pub may_end : (done : Done) → IsEnd done → MayAnswer request done
  pub may_refuse : (refusal : Refusal) → MayAnswer request (Refused refusal)
  pub is_outcome : (UsesFiles (footprint request) → IsTrue before.files.tells) → (outcome : Outcome) → OfText (Runs leaves limits before.input.rest) text outcome → IsOutcome request before.files.names before.input.rest outcome
  pub outcome_is : (outcome : Outcome) → Comes request before outcome → OfText (Runs leaves limits before.input.rest) text outcome

module _ (request : Option Request) (before : Outside) (files' : ShelfState) (text : List ℕ) (limits : Limits) (leaves : Leaving) (Told : Type 0) (has : HasRead request before files') (this : RunsThis request before text limits leaves Told) where
  module _ (program : Program) (only : IsOnlyProgram text program) where
    abbrev comes : List ℕ → Outcome
    comes = comes_of leaves program limits

    is_run : (rest : List ℕ) → IsRun (comes rest).done
    is_run rest = let e = an_end (meaning program rest limits).end (never_touches text program limits only rest) in subst (λ (o : Outcome). IsRun o.done) (sym (comes_so leaves program limits rest e.0 e.1)) tt

    the_outcome : (outcome : Outcome) → Comes request before outcome → outcome ≡ comes before.input.rest
    the_outcome outcome is =
        let r = made_so (Runs leaves limits before.input.rest) text outcome program only (this.outcome_is outcome is) in
        r.comes ∙ sym (comes_so leaves program limits before.input.rest r.end r.ends)

    runs_program : RunsTo request before Told comes
    runs_program = record {
      takes = this.takes;
      writes = this.writes;
      is_run = is_run;
      stores_none = λ rest. refl;
      outcome = λ told. (let e = an_end (meaning program before.input.rest limits).end (never_touches text program limits only before.input.rest) in
          this.is_outcome told (comes before.input.rest) (accepts program only.accepted (record { end = e.0; ends = e.1; comes = comes_so leaves program limits before.input.rest e.0 e.1 })));
      only = the_outcome;
      told = λ outcome is. this.told outcome.done (subst (λ (o : Outcome). IsRun o.done) (sym (the_outcome outcome is)) (is_run before.input.rest)) is.told;
    }

  module _ (input' : SourceState) (out' : SinkState) (heap' : KeptStore) (spares : (footprint request).uses_heap ≡ false → heap' ≡ before.heap) where
    ran_program : (program : Program) (result : Result Done Fault) → IsOnlyProgram text program → RanProgram leaves Told program limits before.input input' before.out out' heap' result → Performs request before (outside files' input' out' before.err heap') result
    ran_program program (Ok done) only r =
        runs_to_the_end request before files' input' out' heap' Told (comes_of leaves program limits) has (runs_program program only) spares done (this.may_end done r.ends) r.ran
    ran_program program (Err fault) only r =
        runs_and_is_cut_short request before files' input' out' heap' Told (comes_of leaves program limits) has (runs_program program only) spares fault r.ran

    as_before : (result : Result Done Fault) → heap' ≡ before.heap → Performs request before (outside files' input' out' before.err before.heap) result → Performs request before (outside files' input' out' before.err heap') result
    as_before result same p = subst (λ (h : KeptStore). Performs request before (outside files' input' out' before.err h) result) (sym same) p

    pub this_ran : (result : Result Done Fault) → RanText leaves Told text limits before.input input' before.out out' before.heap heap' result → Performs request before (outside files' input' out' before.err heap') result
    this_ran result (ran program answer only r) = ran_program program answer only r
    this_ran result (refused k only same heap_same) =
        as_before (Ok (Refused k)) heap_same
        (is_refused request before files' input' out' (Refused k) has same tt (this.may_refuse k)
        (λ told. this.is_outcome told (answers (Refused k)) (refuses k only.refused refl))
        (λ outcome comes. refused_so (Runs leaves limits before.input.rest) text outcome k only (this.outcome_is outcome comes)))
    this_ran result (no_memory same heap_same) = as_before (Err Memory) heap_same (fails_before request before files' input' out' Memory has.only_reads same (fails_by_memory has.kept))

-- the text that is made of a file's bytes
module _ (request : Option Request) (name : List ℕ) (text_of : List ℕ → List ℕ) (limits : Limits) (leaves : Leaving) (Told : SourceState → Type 0) (row : RunsTextOf request name text_of limits leaves Told) (before : Outside) (files' : ShelfState) (text : List ℕ) (l : Loaded name before.files files' (λ bytes. bytes ≡ text)) where
  runs_this : RunsThis request before (text_of text) limits leaves (Told before.input)
  runs_this = record {
    takes = row.takes;
    writes = row.writes;
    told = row.told before;
    may_end = row.may_end;
    may_refuse = row.text.may_refuse;
    is_outcome = λ told outcome is.
        some_made request name text_of (Runs leaves limits) row.text before files' (λ bytes. bytes ≡ text) l outcome
        (λ bytes same. subst (λ (b : List ℕ). OfText (Runs leaves limits before.input.rest) (text_of b) outcome) (sym same) is) told;
    outcome_is = λ outcome comes. (let m = only_made request name text_of (Runs leaves limits) row.text before files' (λ bytes. bytes ≡ text) l outcome comes in
        subst (λ (b : List ℕ). OfText (Runs leaves limits before.input.rest) (text_of b) outcome) m.1 m.2);
  }

  pub text_ran : (input' : SourceState) (out' : SinkState) (heap' : KeptStore) → ((footprint request).uses_heap ≡ false → heap' ≡ before.heap) → (result : Result Done Fault) → RanText leaves (Told before.input) (text_of text) limits before.input input' before.out out' before.heap heap' result → Performs request before (outside files' input' out' before.err heap') result
  text_ran = this_ran request before files' (text_of text) limits leaves (Told before.input) (has_read request name text_of (Runs leaves limits) row.text before files' (λ bytes. bytes ≡ text) l) runs_this
