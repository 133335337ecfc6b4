use Rattle.std.proofs.Common.{MatchOption, ◌≡◌, ◌<◌, ◌≤◌, ◌⊎◌, inl, inr, true, sym, ap, subst, ◌∙◌, arith}
use Rattle.std.proofs.Math.Nat.{eq-or-lt_of_le}
use Rattle.rc_code.specs.Running.{reading_of, function_at}
use Rattle.rc_code.specs.Soundness.{FunctionIsSound}
use Rattle.rc_loader.specs.Violations.{BreaksFirst}
use Rattle.rc_loader.proofs.loading.first_violation.Goals as goal

pub loop-number-preserved : goal.loop-number-preserved
loop-number-preserved c f before = by (eq-or-lt_of_le (let h : f ≤ c.loop-number.number = omega (arith, before) in h))
  where
    by : (f ≡ c.loop-number.number) ⊎ (f < c.loop-number.number) → FunctionIsSound true (reading_of c.args.parts.now) (function_at (reading_of c.args.parts.now) f)
    by (inl e) =
        subst (FunctionIsSound true (reading_of c.args.parts.now)) (c.function_of.ensures ∙ ap (function_at (reading_of c.args.parts.now)) (sym e))
        (subst (λ o. MatchOption o (FunctionIsSound true (reading_of c.args.parts.now) c.function_of.result.now) (λ b. BreaksFirst (reading_of c.args.parts.now) c.function_of.result.now b.instruction b.rule)) c.in-None.is c.in_ok-found.ensures)
    by (inr l) = c.loop-number.invariant f l
