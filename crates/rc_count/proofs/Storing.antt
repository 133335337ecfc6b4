-- The counts stay the references where a number is stored, or where there is no cell to store it in.
use Rattle.std.proofs.Common.{◌≡◌, ◌∙◌, ℕ, ℤ, Result, Ok, Err, sym, subst}
use Rattle.std.specs.Prelude.{OnOk}
use Rattle.rc_core.specs.Heap.{Number}
use Rattle.rc_store.specs.declared.cell.Missed.{Missed}
use Rattle.rc_store.specs.declared.cell.Pointer.{Pointer}
use Rattle.rc_store.specs.Elements.{Finds, Stores, index_from, place_from}
use Rattle.rc_store.specs.Kept.{KeptStore}
use Rattle.rc_store.specs.Stores.{MayStand, object_in}
use Rattle.rc_cells.specs.Follow.{IsThere}
use Rattle.rc_space.specs.Spaces.{IsWhole, SpaceState, count_of}
use Rattle.rc_count.specs.Counted.{IsCounted}
use Rattle.rc_count.proofs.Counting.{counted_number}

module _ (before : SpaceState) (s : KeptStore) (cells : ℕ) (counted : IsCounted before s cells) where
  pub counted_stored : (p : Pointer) (shift : ℤ) (cell : ℕ) (number : ℤ) (new : SpaceState) (result : Result (Unit {0}) Missed) → Stores p shift cell (Number number) s.regions new.regions result → OnOk result (IsWhole (object_in s.regions p.region p.object) (index_from p shift) cell) → (Finds s.regions p shift → MayStand s (place_from p shift cell) (Number number)) → ((r : ℕ) → count_of new r ≡ count_of before r) → IsCounted new (record s { regions = new.regions }) cells
  counted_stored p shift cell number new (Ok done) stores whole may same =
      let m = may stores.0 in
      let there : IsThere s (place_from p shift cell) = record { place = m.place; kind = whole.kind; value = whole.value } in
      subst (λ rs. IsCounted new (record s { regions = rs }) cells) (sym stores.1) (counted_number before s cells counted (place_from p shift cell) there number new m.kind same)
  counted_stored p shift cell number new (Err missed) stores whole may same =
      subst (λ rs. IsCounted new (record s { regions = rs }) cells) (sym stores.1) (record { counts = λ r. same r ∙ counted.counts r; sum = counted.sum; few = counted.few; whole = counted.whole })
