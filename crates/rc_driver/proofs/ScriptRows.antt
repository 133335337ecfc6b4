-- The row of a script.
use Rattle.std.proofs.Common.{ℕ, List, Some, refl, arith}
use Rattle.rc_base.specs.declared.ends.Limits.{Limits}
use Rattle.rc_outcomes.proofs.Ways.{the_only}
use Rattle.rc_requests.specs.Request.{Script}
use Rattle.rc_driver.specs.Scripting.{ScriptOf}

pub script_row : (name : List ℕ) (limits : Limits) → ScriptOf (Some (Script name limits)) name limits
script_row name limits = record {
  reads = (0, omega arith, refl);
  only = λ other read. the_only name other read;
  writes_out = refl;
  uses_heap = refl;
  may_report = tt;
  may_refuse = tt;
  is_outcome = λ files input outcome is. is;
  outcome_is = λ files input outcome is. is;
}
