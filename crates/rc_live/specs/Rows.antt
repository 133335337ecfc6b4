-- Rows of bits that stand for locals. The locals of a function that are regions or pointers are numbered, in increasing order; a row has a
-- bit for each, and shows which of them are live.
use Rattle.std.specs.Prelude.{◌≡◌, ℕ, suc, Bool, true, false, List, [], ◌∷◌, slice_get, Some}
use Rattle.rc_base.specs.BitSets.{marks}
use Rattle.rc_core.specs.Types.{Ty}
use Rattle.rc_core.specs.Live.{Ways as LiveWays}
use Rattle.rc_rlang.specs.RegionCode.{Kind, numeric, regional}
use Rattle.rc_rlang.specs.RegionRuns.{pins_from}
use Rattle.rc_live.specs.declared.rows.Ways.{Ways}

abbrev pub is_regional : Kind → Bool
is_regional numeric = false
is_regional regional = true

-- the locals of these types that are numbered
abbrev pub numbered : List Ty → List ℕ
numbered types = pins_from types 0 (λ x. true)

-- the row shows of each of these locals whether it is live
abbrev pub Shows : (names : List ℕ) → (row : ℕ) → (live : ℕ → Bool) → Type 0
Shows names row live = (j x : ℕ) → slice_get names j ≡ Some x → marks row j ≡ live x

pub record ShowWays (names : List ℕ) (rows : Ways) (k : LiveWays) : Type 0 where
  pub next : Shows names rows.next k.next
  pub broken : Shows names rows.broken k.broken
  pub continued : Shows names rows.continued k.continued

-- those that a row has, where the first has the bit j
abbrev pub chosen_if : Bool → ℕ → List ℕ → List ℕ
chosen_if true x rest = x ∷ rest
chosen_if false x rest = rest

abbrev pub chosen : (names : List ℕ) → (row : ℕ → Bool) → (j : ℕ) → List ℕ
chosen [] row j = []
chosen (x ∷ names) row j = chosen_if (row j) x (chosen names row (suc j))
