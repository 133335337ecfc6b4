-- Which stops lead to a stop, as lists, and which wait to be looked at.
use Rattle.std.specs.Prelude.{◌≡◌, ◌<◌, ◌≤◌, ℕ, suc, ◌+◌, ◌*◌, Bool, nat_eq, IsTrue, List, length, get_or, Some, ◌⊎◌}
use Rattle.std.specs.List.{list_any}
use Rattle.rc_stops.specs.declared.stop.Stop.{Stop}
use Rattle.rc_stops.specs.Paths.{stop_at, Leads}
use Rattle.rc_stops.specs.Rows.{missing, AreUsed, IsWhole}

-- ---- links

-- the least stop from `from` on that leads to `to`, or the number of all
pub record IsFirst (stops : List Stop) (to from found : ℕ) : Type 0 where
  pub later : from ≤ found
  pub within : found ≤ length stops
  pub leads : found < length stops → (stop_at stops found).leads ≡ Some to
  pub least : (k : ℕ) → from ≤ k → k < found → (stop_at stops k).leads ≡ Some to → ⊥

-- those from `at` on are linked
pub record LinksFrom (stops : List Stop) (at : ℕ) (first next : List ℕ) : Type 0 where
  pub firsts : (to : ℕ) → to < length stops → IsFirst stops to at (get_or first to 0)
  pub nexts : (k to : ℕ) → at ≤ k → k < length stops → (stop_at stops k).leads ≡ Some to → IsFirst stops to (suc k) (get_or next k 0)

pub record AreLinks (stops : List Stop) (first next : List ℕ) : Type 0 where
  pub firsts_long : length first ≡ length stops
  pub nexts_long : length next ≡ length stops
  pub links : LinksFrom stops 0 first next

abbrev pub Leading : List Stop → (k at : ℕ) → Type 0
Leading stops k at = Leads (stop_at stops k) k at

-- ---- stops that wait

abbrev pub is_among : List ℕ → ℕ → Bool
is_among stops k = list_any (nat_eq k) stops

abbrev pub AreBelow : ℕ → List ℕ → Type 0
AreBelow n stops = (k : ℕ) → IsTrue (is_among stops k) → k < n

-- ---- a visit

-- each stop has a whole row, or waits; and that comes to an end
pub record Visited (stops : List Stop) (at : ℕ) (old new waits more : List ℕ) : Type 0 where
  pub used : AreUsed stops old → AreUsed stops new
  pub whole : (k : ℕ) → (IsWhole stops old k ⊎ (k ≡ at)) ⊎ IsTrue (is_among waits k) → IsWhole stops new k ⊎ IsTrue (is_among more k)
  pub less : missing new * (length stops + 2) + length more ≤ missing old * (length stops + 2) + length waits
