-- What a heap keeps is the store: objects that are made there are made here, and the references are the same.
use Rattle.std.specs.Prelude.{◌≡◌, ℕ, map}
use Rattle.rc_core.specs.Layout.{Layout}
use Rattle.rc_core.specs.Laid.{held_kind}
use Rattle.rc_core.specs.Heap.{blank as blank_object}
use Rattle.rc_core.specs.Store.{Store, refs as store_refs}
use Rattle.rc_store.specs.Kept.{blank, kept_object, kept_store, refs}

pub record KeepsTheStore : Type 0 where
  pub blanks : (layout : Layout) (n : ℕ) → kept_object (blank_object layout n) ≡ blank (map held_kind layout) n
  pub references : (s : Store) (r : ℕ) → refs (kept_store s) r ≡ store_refs s r
