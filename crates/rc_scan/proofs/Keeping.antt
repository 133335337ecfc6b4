-- What every heap keeps, of regions or pins that an equation tells.
use Rattle.std.proofs.Common.{◌≡◌, ℕ, List, sym, subst}
use Rattle.rc_core.specs.Heap.{Value}
use Rattle.rc_store.specs.Kept.{KeptStore, Regions}
use Rattle.rc_store.specs.Whole.{IsWhole}

pub with_regions : (s : KeptStore) (now rs : Regions) → now ≡ rs → IsWhole (record s { regions = rs }) → IsWhole (record s { regions = now })
with_regions s now rs is whole = subst (λ x. IsWhole (record s { regions = x })) (sym is) whole

pub with_pins : (s : KeptStore) (n : ℕ) (now vs : List Value) → now ≡ vs → IsWhole (record s { pins = vs; spare = n }) → IsWhole (record s { pins = now; spare = n })
with_pins s n now vs is whole = subst (λ x. IsWhole (record s { pins = x; spare = n })) (sym is) whole
