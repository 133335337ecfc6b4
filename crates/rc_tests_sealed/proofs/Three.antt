-- The three stops of a loop fit.
use Rattle.std.proofs.Common.{◌≡◌, ℕ, zero, suc, ◌<◌, Bool, true, false, [], ◌∷◌, Option, Some, None, arith}
use Rattle.rc_stops.specs.declared.stop.Stop.{Stop}
use Rattle.rc_stops.specs.Rows.{AllFit}

abbrev first : Stop
first = record { gets = Some 1; sets = None; falls = true; leads = None }

abbrev second : Stop
second = record { gets = None; sets = Some 0; falls = true; leads = None }

abbrev third : Stop
third = record { gets = Some 0; sets = None; falls = false; leads = Some 0 }

not_both : false ≡ true → ⊥
not_both e = cc

pub three_fit : AllFit (first ∷ second ∷ third ∷ [])
three_fit zero lt = record { gets = omega arith; sets = tt; falls = λ e. omega arith; leads = tt }
three_fit (suc zero) lt = record { gets = tt; sets = omega arith; falls = λ e. omega arith; leads = tt }
three_fit (suc (suc zero)) lt = record { gets = omega arith; sets = tt; falls = λ e. absurd (not_both e); leads = omega arith }
three_fit (suc (suc (suc n))) lt = absurd (omega (arith, lt))
