-- Numbers of targets.
use Rattle.std.specs.Prelude.{◌≡◌, ℕ, ◌<◌, Bool, false, List, length, get_or}
use Rattle.rc_code.specs.declared.image.Function.{Function}
use Rattle.rc_claims.specs.Counts.{trues}
use Rattle.rc_sealed.specs.Carrying.{is_target}

-- a table tells of each instruction whether it is a target
abbrev pub AreTargets : Function → List Bool → Type 0
AreTargets f targets = (at : ℕ) → get_or targets at false ≡ is_target f at

-- and one how many targets stand before it
pub record AreRanks (targets : List Bool) (ranks : List ℕ) : Type 0 where
  pub long : length ranks ≡ length targets
  pub each : (at : ℕ) → at < length targets → get_or ranks at 0 ≡ trues targets at
