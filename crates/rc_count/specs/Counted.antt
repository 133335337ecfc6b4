-- What holds of a heap that counts at every moment: each count is the number of references, no count and no sum of them passes
-- 64 bits, and what every heap keeps is kept.
use Rattle.std.specs.Prelude.{◌≡◌, ◌≤◌, ◌+◌, ℕ, length}
use Rattle.rc_store.specs.Kept.{KeptStore, refs}
use Rattle.rc_store.specs.Stores.{all_cells}
use Rattle.rc_store.specs.Whole.{IsWhole}
use Rattle.rc_space.specs.Spaces.{SpaceState, count_of}

pub record IsCounted (space : SpaceState) (s : KeptStore) (cells : ℕ) : Type 0 where
  pub counts : (r : ℕ) → count_of space r ≡ refs s r
  pub sum : cells ≡ all_cells s
  pub few : cells + length s.pins + s.spare ≤ 18446744073709551615
  pub whole : IsWhole s
