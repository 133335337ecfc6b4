-- A set of numbers below 128, kept as the bits of a number.
use Rattle.std.specs.Prelude.{◌≡◌, ◌<◌, ℕ, Bool, false, ◌==◌, ◌&&◌, nat_lt, Option, IsTrue, MatchBool, MatchOption}
use Rattle.std.specs.Int.{bit_at}

-- whether the number is in the set
unfoldable pub marks : ℕ → ℕ → Bool
marks set x = nat_lt x 128 && bit_at set x == 1

-- the answer whether each number of a set is in another
abbrev pub TellsSubset : Bool → ℕ → ℕ → Type 0
TellsSubset answer set other = MatchBool answer ((x : ℕ) → IsTrue (marks set x) → IsTrue (marks other x)) ((x : ℕ) × IsTrue (marks set x) × (marks other x ≡ false))

-- the answer whether no number is in both sets
abbrev pub TellsDisjoint : Bool → ℕ → ℕ → Type 0
TellsDisjoint answer set other = MatchBool answer ((x : ℕ) → (marks set x && marks other x) ≡ false) ((x : ℕ) × IsTrue (marks set x) × IsTrue (marks other x))

-- the least number of a set, where it has one
abbrev pub IsLeast : ℕ → Option ℕ → Type 0
IsLeast set least = MatchOption least ((x : ℕ) → marks set x ≡ false) (λ x. (x < 128) × IsTrue (marks set x) × ((y : ℕ) → y < x → marks set y ≡ false))
