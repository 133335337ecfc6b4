-- The row of a run node by node.
use Rattle.std.proofs.Common.{ℕ, List, Some, refl, arith}
use Rattle.rc_base.specs.declared.ends.Limits.{Limits}
use Rattle.rc_answers.specs.declared.answer.Done.{Done}
use Rattle.rc_answers.specs.declared.answer.Done.TheVariants.{Ended, StaleImage, Refused, ImageRefused, UnitRefused, LinkRefused, Wrote, Reported, Usage}
use Rattle.rc_outcomes.specs.MayAnswer.{MayAnswer}
use Rattle.rc_outcomes.specs.Outcome.{as_they_are, unsaid}
use Rattle.rc_outcomes.proofs.Ways.{not_quiet, the_only}
use Rattle.rc_requests.specs.Request.{Slow}
use Rattle.rc_files.specs.Programs.{IsEnd, RunsTextOf}
use Rattle.rc_driver.specs.Evaluating.{TellsInput}

pub slow_row : (name : List ℕ) (limits : Limits) → RunsTextOf (Some (Slow name limits)) name as_they_are limits unsaid TellsInput
slow_row name limits = record {
  text = record {
    reads = (0, omega arith, refl);
    only = λ other read. the_only name other read;
    no_shorter = λ bytes. omega arith;
    may_refuse = λ refusal. tt;
    is_outcome = λ files input outcome is. is;
    outcome_is = λ files input outcome is. is;
  };
  takes = refl;
  writes = refl;
  told = λ before done run tells. tells.input (not_quiet done run) refl;
  may_end = may_end;
} where
  may_end : (done : Done) → IsEnd done → MayAnswer (Some (Slow name limits)) done
  may_end (Ended end) is = tt
  may_end (StaleImage line) is = is
  may_end (Refused refusal) is = tt
  may_end (ImageRefused refusal) is = is
  may_end (UnitRefused file refusal) is = is
  may_end (LinkRefused refusal) is = is
  may_end Wrote is = is
  may_end Reported is = is
  may_end Usage is = is
