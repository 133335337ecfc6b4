use Rattle.std.proofs.Common.{Option, ℕ, subst}
use Rattle.std.specs.Prelude.{MatchOption}
use Rattle.rc_sealed.specs.Faults.{FirstWide, NoneIsWide}
use Rattle.rc_verify.proofs.Telling.{finished}
use Rattle.rc_verify.proofs.verifying.fault_of.Goals as goal

pub returns : goal.returns
returns c = finished c.args.parts.now c.args.proofs.now (subst (λ (o : Option ℕ). MatchOption o (NoneIsWide c.args.parts.now) (FirstWide c.args.parts.now)) c.in_default.is c.first_wide.ensures) c.narrow_fault.result c.narrow_fault.ensures
