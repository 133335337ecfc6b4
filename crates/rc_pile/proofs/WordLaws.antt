-- What the parts of a word are, where it is known what it stands for.
use Rattle.std.proofs.Common.{◌≡◌, ◌/◌, ◌%◌, ◌^◌, ℕ, zero, suc}
use Rattle.rc_core.specs.Heap.{Address, Handle, Pointer}
use Rattle.rc_pile.specs.Words.{value_by}

pub region_is : (mark region low r : ℕ) → value_by mark region low ≡ Handle r → region ≡ r
region_is zero region low r e = cc
region_is (suc zero) region low r e = cc
region_is (suc (suc zero)) region low r e = cc
region_is (suc (suc (suc mark))) region low r e = cc

pub pointer_is : (mark region low : ℕ) (a : Address) → value_by mark region low ≡ Pointer a → (record { region = region; object = low / 2 ^ 32; index = low % 2 ^ 32 }) ≡ a
pointer_is zero region low a e = cc
pointer_is (suc zero) region low a e = cc
pointer_is (suc (suc zero)) region low a e = cc
pointer_is (suc (suc (suc mark))) region low a e = cc
