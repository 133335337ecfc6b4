-- The numbers of locals among those that are regions or pointers.
use Rattle.std.specs.Prelude.{◌≡◌, ◌<◌, ℕ, List, length, map, get_or}
use Rattle.rc_code.specs.declared.kind.Storage.{Storage}
use Rattle.rc_code.specs.Soundness.{is_regional}
use Rattle.rc_claims.specs.Counts.{trues}

-- a table of them
pub record AreNumbers (locals : List Storage) (numbers : List ℕ) : Type 0 where
  pub long : length numbers ≡ length locals
  pub each : (x : ℕ) → x < length locals → get_or numbers x 0 ≡ trues (map is_regional locals) x
