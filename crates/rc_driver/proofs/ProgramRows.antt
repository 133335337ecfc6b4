-- The rows of a run, of tasks, of a compilation and of several files that are linked.
use Rattle.std.proofs.Common.{ℕ, List, Some, refl, arith}
use Rattle.rc_base.specs.declared.ends.Limits.{Limits}
use Rattle.rc_answers.specs.declared.answer.Done.{Done}
use Rattle.rc_answers.specs.declared.answer.Done.TheVariants.{Ended, StaleImage, Refused, ImageRefused, UnitRefused, LinkRefused, Wrote, Reported, Usage}
use Rattle.rc_outcomes.specs.MayAnswer.{EndsOrIsRefused}
use Rattle.rc_outcomes.proofs.Ways.{not_quiet, the_only}
use Rattle.rc_requests.specs.Request.{Run, Compile, Tasks, Link}
use Rattle.rc_files.specs.Programs.{IsEnd}
use Rattle.rc_driver.specs.Running.{RunsInHeap}
use Rattle.rc_driver.specs.Tasking.{RunsTasksOf}
use Rattle.rc_driver.specs.Compiling.{CompilesOf}
use Rattle.rc_driver.specs.Linking.{LinksFiles}

-- an end is among the answers of a run
may_end : (done : Done) → IsEnd done → EndsOrIsRefused done
may_end (Ended end) is = tt
may_end (StaleImage line) is = is
may_end (Refused refusal) is = tt
may_end (ImageRefused refusal) is = is
may_end (UnitRefused file refusal) is = is
may_end (LinkRefused refusal) is = is
may_end Wrote is = is
may_end Reported is = is
may_end Usage is = is

pub run_row : (name : List ℕ) (limits : Limits) → RunsInHeap (Some (Run name limits)) name limits
run_row name limits = record {
  runs = record {
    text = record {
      reads = (0, omega arith, refl);
      only = λ other read. the_only name other read;
      no_shorter = λ bytes. omega arith;
      may_refuse = λ refusal. tt;
      is_outcome = λ files input outcome is. is;
      outcome_is = λ files input outcome is. is;
    };
    takes = refl;
    writes = refl;
    told = λ before done run tells. (tells.input (not_quiet done run) refl, tells.bytes (not_quiet done run) refl refl);
    may_end = may_end;
  };
  heap = refl;
}

pub tasks_row : (name choices : List ℕ) (limits : Limits) → RunsTasksOf (Some (Tasks name choices limits)) name choices limits
tasks_row name choices limits = record {
  reads = (0, omega arith, refl);
  only = λ other read. the_only name other read;
  takes = refl;
  writes = refl;
  heap = refl;
  may_end = may_end;
  may_refuse = λ refusal. tt;
  is_outcome = λ files input outcome is. is;
  outcome_is = λ files input outcome is. is;
}

pub compile_row : (from to : List ℕ) → CompilesOf (Some (Compile from to)) from to
compile_row from to = record {
  text = record {
    reads = (0, omega arith, refl);
    only = λ other read. the_only from other read;
    no_shorter = λ bytes. omega arith;
    may_refuse = λ refusal. tt;
    is_outcome = λ files input outcome is. is;
    outcome_is = λ files input outcome is. is;
  };
  stores = refl;
  may_write = tt;
  stores_program = λ files files' all. all;
}

pub link_row : (to : List ℕ) (wanted : List (List ℕ)) → LinksFiles (Some (Link to wanted)) to wanted
link_row to wanted = record {
  reads = refl;
  stores = refl;
  may_write = tt;
  may_refuse_one = λ number refusal none. none;
  may_keep_apart = λ refusal. tt;
  may_refuse_all = λ refusal is. is;
  is_outcome = λ files input outcome is. is;
  outcome_is = λ files input outcome is. is;
  stores_program = λ files files' all. all;
}
