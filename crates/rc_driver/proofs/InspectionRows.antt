-- The row of a report on checks.
use Rattle.std.proofs.Common.{ℕ, List, Some, refl, arith}
use Rattle.rc_outcomes.proofs.Ways.{the_only}
use Rattle.rc_requests.specs.Request.{Checks}
use Rattle.rc_driver.specs.Checking.{ChecksOf}

pub checks_row : (name : List ℕ) → ChecksOf (Some (Checks name)) name
checks_row name = record {
  text = record {
    reads = (0, omega arith, refl);
    only = λ other read. the_only name other read;
    no_shorter = λ bytes. omega arith;
    may_refuse = λ refusal. tt;
    is_outcome = λ files input outcome is. is;
    outcome_is = λ files input outcome is. is;
  };
  writes_out = refl;
  may_report = tt;
}
