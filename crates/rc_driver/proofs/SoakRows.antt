-- The row of a soak.
use Rattle.std.proofs.Common.{ℕ, Some, refl, arith, inl, inr}
use Rattle.rc_requests.specs.Request.{Soak}
use Rattle.rc_outcomes.specs.Footprint.{UsesFiles, footprint}
use Rattle.rc_driver.specs.Soaking.{SoaksOf}

no_file : (number : ℕ) → UsesFiles (footprint (Some (Soak number))) → ⊥
no_file number (name, inl read) = let low = read.1 in omega (arith, low)
no_file number (name, inr stored) = cc

pub soak_row : (number : ℕ) → SoaksOf (Some (Soak number)) number
soak_row number = record {
  asks = λ none. cc;
  uses_none = no_file number;
  writes_out = refl;
  uses_heap = refl;
  may_report = tt;
  may_refuse = λ refusal. tt;
  is_outcome = λ files input outcome is. is;
  outcome_is = λ files input outcome is. is;
}
