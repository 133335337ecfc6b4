-- Requests that run the image of a file.
use Rattle.std.proofs.Common.{◌≡◌, ◌∙◌, ℕ, List, Option, Some, Result, Ok, Err, refl, sym, ap, subst, arith, inl, inr}
use Rattle.rc_base.specs.Shelves.{ShelfState}
use Rattle.rc_base.specs.Sinks.{SinkState}
use Rattle.rc_base.specs.Sources.{SourceState}
use Rattle.rc_base.specs.declared.ends.Limits.{Limits}
use Rattle.rc_core.specs.Runs.{Stop, Ends, Stale}
use Rattle.rc_code.specs.ImageMeaning.{image_meaning}
use Rattle.rc_code.specs.declared.image.Parts.{Parts}
use Rattle.rc_store.specs.Kept.{KeptStore}
use Rattle.rc_answers.specs.Answers.{IsQuiet, IsRun}
use Rattle.rc_answers.specs.declared.answer.Done.{Done}
use Rattle.rc_answers.specs.declared.answer.Done.TheVariants.{Ended, StaleImage, Refused, ImageRefused, UnitRefused, LinkRefused, Wrote, Reported, Usage}
use Rattle.rc_answers.specs.declared.answer.Fault.{Fault}
use Rattle.rc_answers.specs.declared.answer.Fault.TheVariants.{Memory}
use Rattle.rc_files.proofs.ImageFiles.{has_read, only_made, only_reads, some_made}
use Rattle.rc_outcomes.specs.Footprint.{footprint}
use Rattle.rc_outcomes.specs.MayAnswer.{MayAnswer}
use Rattle.rc_answers.specs.declared.image_refusal.ImageRefusal.{ImageRefusal}
use Rattle.rc_outcomes.specs.Images.{Carried, carried_by}
use Rattle.rc_outcomes.specs.Loading.{Loaded}
use Rattle.rc_outcomes.specs.Outcome.{Admits, Comes, Executes, Outcome, answers, comes_of, end_as, runs_or_refuses}
use Rattle.rc_outcomes.specs.Outside.{Outside, outside}
use Rattle.rc_outcomes.specs.Performing.{Performs}
use Rattle.rc_outcomes.specs.Runs.{Ran}
use Rattle.rc_outcomes.proofs.Admitting.{one_admitted, refused_for}
use Rattle.rc_outcomes.proofs.Ways.{RunsTo, fails_before, is_not, is_refused, no_memory as fails_by_memory, not_quiet, runs_and_is_cut_short, runs_to_the_end, the_only, untouched}
use Rattle.rc_requests.specs.Request.{Exec, Request}
use Rattle.rc_driver.specs.Executing.{Executed, ExecutesOf, Spared, TellsBytes, no_memory, ran, refused}

pub exec_row : (name : List ℕ) (limits : Limits) → ExecutesOf (Some (Exec name limits)) name limits
exec_row name limits = record {
  makes = record {
    reads = (0, omega arith, refl);
    only = λ other read. the_only name other read;
    may_refuse = λ refusal is. inl is;
    is_outcome = λ files input outcome is. is;
    outcome_is = λ files input outcome is. is;
  };
  takes = refl;
  writes = refl;
  heap = refl;
  may_run = may_run;
  may_refuse = λ refusal is. inr is;
} where
  may_run : (done : Done) → IsRun done → MayAnswer (Some (Exec name limits)) done
  may_run (Ended end) is = tt
  may_run (StaleImage line) is = tt
  may_run (Refused refusal) is = is
  may_run (ImageRefused refusal) is = absurd is
  may_run (UnitRefused file refusal) is = is
  may_run (LinkRefused refusal) is = is
  may_run Wrote is = is
  may_run Reported is = is
  may_run Usage is = is

pub nothing_called : (input : SourceState) (out : SinkState) (heap : KeptStore) → Spared input input out out heap heap
nothing_called input out heap = record { untouched = untouched input out; heap_same = refl }

stop_runs : (stop : Stop) → IsRun (end_as stop)
stop_runs (Ends end) = tt
stop_runs (Stale line) = tt

module _ (request : Option Request) (name : List ℕ) (limits : Limits) (row : ExecutesOf request name limits) (before : Outside) (files' : ShelfState) (carried : Carried) (l : Loaded name before.files files' (λ bytes. carried_by bytes ≡ Ok carried)) where
  -- what is run, or the refusal, is the only one
  comes_so : (admitted : Result Parts ImageRefusal) → Admits carried admitted → (outcome : Outcome) → Comes request before outcome → outcome ≡ runs_or_refuses limits before.input.rest admitted
  comes_so admitted is outcome comes =
      let found = only_made request name (Executes limits) row.makes before files' (Ok carried) l outcome comes in
      found.comes ∙ ap (runs_or_refuses limits before.input.rest) (one_admitted carried found.admitted admitted found.admits is)

  module _ (code : Parts) (is : Admits carried (Ok code)) where
    is_loud : (outcome : Outcome) → Comes request before outcome → ¬ IsQuiet outcome.done
    is_loud outcome comes = not_quiet outcome.done (subst (λ (o : Outcome). IsRun o.done) (sym (comes_so (Ok code) is outcome comes)) (stop_runs (image_meaning code before.input.rest limits).end))

    runs_image : RunsTo request before (TellsBytes before.input) (comes_of code limits)
    runs_image = record {
      takes = row.takes;
      writes = row.writes;
      is_run = λ rest. stop_runs (image_meaning code rest limits).end;
      stores_none = λ rest. refl;
      outcome = λ told. some_made request name (Executes limits) row.makes before files' (Ok carried) l (comes_of code limits before.input.rest) (record { admitted = Ok code; admits = is; comes = refl }) told;
      only = comes_so (Ok code) is;
      told = λ outcome comes. (let loud = is_loud outcome comes in (comes.told.input loud row.takes, comes.told.bytes loud row.takes row.heap));
    }

  module _ (input' : SourceState) (out' : SinkState) (heap' : KeptStore) where
    ran_image : (code : Parts) → Admits carried (Ok code) → (result : Result Done Fault) → Ran (TellsBytes before.input) (comes_of code limits) before.input input' before.out out' heap' result → Performs request before (outside files' input' out' before.err heap') result
    ran_image code is (Ok done) r =
        runs_to_the_end request before files' input' out' heap' (TellsBytes before.input) (comes_of code limits) (has_read request name (Executes limits) row.makes before files' (Ok carried) l) (runs_image code is) (λ e. absurd (is_not (footprint request).uses_heap row.heap e))
        done (row.may_run done r.is_run) r
    ran_image code is (Err fault) r =
        runs_and_is_cut_short request before files' input' out' heap' (TellsBytes before.input) (comes_of code limits) (has_read request name (Executes limits) row.makes before files' (Ok carried) l) (runs_image code is) (λ e. absurd (is_not (footprint request).uses_heap row.heap e))
        fault r

    spared : (result : Result Done Fault) → Spared before.input input' before.out out' before.heap heap' → Performs request before (outside files' input' out' before.err before.heap) result → Performs request before (outside files' input' out' before.err heap') result
    spared result same p = subst (λ (h : KeptStore). Performs request before (outside files' input' out' before.err h) result) (sym same.heap_same) p

    pub executed : (result : Result Done Fault) → Executed carried limits before.input input' before.out out' before.heap heap' result → Performs request before (outside files' input' out' before.err heap') result
    executed result (ran code answer is r) = ran_image code is answer r
    executed result (refused refusal is same) =
        spared (Ok (ImageRefused refusal)) same
        (is_refused request before files' input' out' (ImageRefused refusal) (has_read request name (Executes limits) row.makes before files' (Ok carried) l) same.untouched tt (row.may_refuse refusal (refused_for carried refusal is))
        (λ told. some_made request name (Executes limits) row.makes before files' (Ok carried) l (answers (ImageRefused refusal)) (record { admitted = Err refusal; admits = is; comes = refl }) told)
        (comes_so (Err refusal) is))
    executed result (no_memory same) =
        spared (Err Memory) same (fails_before request before files' input' out' Memory (only_reads request name (Executes limits) row.makes before files' (Ok carried) l) same.untouched (fails_by_memory l.kept))
