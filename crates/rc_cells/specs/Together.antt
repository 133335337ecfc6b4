-- How references and cells change where several regions go at once.
use Rattle.std.specs.Prelude.{◌≡◌, ◌+◌, ℕ, true, nat_eq, List, sum_by, if◌then◌else◌}
use Rattle.rc_store.specs.Kept.{KeptStore, refs, view_refs}
use Rattle.rc_store.specs.Sets.{IsSet, deleted_all, is_in, refs_to, without}
use Rattle.rc_store.specs.Stores.{all_cells, cells_in, region_at}

-- the references to r that the cells of region d hold: none where it is r itself
abbrev pub held : KeptStore → (r d : ℕ) → ℕ
held s r d = if nat_eq d r then 0 else view_refs r (region_at s.regions d)

pub record SetsFollow : Type 0 where
  pub left : (s : KeptStore) (set : List ℕ) → deleted_all set s ≡ record s { regions = without set s.regions }
  pub references : (s : KeptStore) (set : List ℕ) (r : ℕ) → IsSet s set → refs (deleted_all set s) r + sum_by (held s r) set ≡ refs s r
  -- to a member, those that are left are those from beside the set
  pub beside : (s : KeptStore) (set : List ℕ) (r : ℕ) → is_in set r ≡ true → refs_to s set r ≡ refs (deleted_all set s) r
  pub cells : (s : KeptStore) (set : List ℕ) → IsSet s set → all_cells (deleted_all set s) + sum_by (λ d. cells_in (region_at s.regions d)) set ≡ all_cells s
