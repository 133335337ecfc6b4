-- Rows of bits, one a stop: what is shown before a stop where this is shown behind it, and when that is all.
use Rattle.std.specs.Prelude.{◌<◌, ℕ, suc, Bool, false, not, ◌&&◌, ◌||◌, IsTrue, List, length, get_or, Option, Some, None, IfSome, filter}
use Rattle.std.specs.List.{sum_by, range_with_len}
use Rattle.rc_base.specs.BitSets.{marks}
use Rattle.rc_stops.specs.declared.stop.Stop.{Stop}
use Rattle.rc_stops.specs.Paths.{stop_at, is_it, UsedOn}

abbrev pub row_at : List ℕ → ℕ → ℕ
row_at rows at = get_or rows at 0

abbrev pub leads_marks : List ℕ → Option ℕ → ℕ → Bool
leads_marks rows None x = false
leads_marks rows (Some to) x = marks (row_at rows to) x

abbrev pub before_marks : List ℕ → (at : ℕ) → Stop → ℕ → Bool
before_marks rows at stop x = ((leads_marks rows stop.leads x || (stop.falls && marks (row_at rows (suc at)) x)) && not (is_it stop.sets x)) || is_it stop.gets x

-- it leads to stops that are there
pub record StopFits (size at : ℕ) (stop : Stop) : Type 0 where
  pub gets : IfSome stop.gets (λ x. x < 128)
  pub sets : IfSome stop.sets (λ x. x < 128)
  pub falls : IsTrue stop.falls → suc at < size
  pub leads : IfSome stop.leads (λ to. to < size)

abbrev pub AllFit : List Stop → Type 0
AllFit stops = (at : ℕ) → at < length stops → StopFits (length stops) at (stop_at stops at)

-- how many bits are 0
abbrev pub absent : ℕ → ℕ
absent row = length (filter (λ x. not (marks row x)) (range_with_len 0 128))

abbrev pub missing : List ℕ → ℕ
missing rows = sum_by absent rows

-- what the row of a stop shows is all that is used from it on by the other rows
abbrev pub IsWhole : List Stop → List ℕ → (at : ℕ) → Type 0
IsWhole stops rows at = (x : ℕ) → IsTrue (before_marks rows at (stop_at stops at) x) → IsTrue (marks (row_at rows at) x)

abbrev pub AreUsed : List Stop → List ℕ → Type 0
AreUsed stops rows = (at x : ℕ) → at < length stops → IsTrue (marks (row_at rows at) x) → UsedOn stops x at
