-- A new heap that is given limits is unused.
use Rattle.std.proofs.Common.{◌≡◌, sym, subst, refl}
use Rattle.rc_base.specs.declared.ends.Limits.{Limits}
use Rattle.rc_store.specs.Kept.{KeptStore}
use Rattle.rc_store.specs.Stores.{IsNew, limited}
use Rattle.rc_first_heap.specs.First.{IsUnused}

pub limited_is_unused : (limits : Limits) (s s' : KeptStore) → IsNew s → s' ≡ limited limits s → IsUnused limits s'
limited_is_unused limits s s' new is = subst (IsUnused limits) (sym is) (record { new = record { regions = new.regions; pins = new.pins }; region_limit = refl; block_limit = refl })
