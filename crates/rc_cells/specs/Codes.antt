-- The code of a value in 128 bits, and the value of a code, which depends on what the cell holds.
--
-- A number has its 64 bits. Null has 0. A region has 2^32 added to its number, and a pointer 2^96 added to its region times 2^64,
-- its object times 2^32 and its index. So 0 is zero or null in every cell.
use Rattle.std.specs.Prelude.{ℕ, zero, suc, ◌+◌, ◌*◌, ◌/◌, ◌%◌, ◌^◌}
use Rattle.std.specs.Int.{w64, cast_signed, cast_unsigned}
use Rattle.rc_core.specs.declared.layouts.Kind.{Kind}
use Rattle.rc_core.specs.declared.layouts.Kind.TheVariants.{Number as NumberKind, Region as RegionKind, Pointer as PointerKind}
use Rattle.rc_core.specs.Heap.{Value, Number, Null, Handle, Pointer, Address}

abbrev pub code_of : Value → ℕ
code_of (Number n) = cast_unsigned w64 n
code_of Null = 0
code_of (Handle r) = 2 ^ 32 + r
code_of (Pointer a) = ((2 ^ 32 + a.region) * 2 ^ 32 + a.object) * 2 ^ 32 + a.index

abbrev pub region_coded : ℕ → Value
region_coded zero = Null
region_coded (suc n) = Handle (suc n % 2 ^ 32)

abbrev pub address_coded : ℕ → Address
address_coded n = record { region = n / 2 ^ 32 / 2 ^ 32 % 2 ^ 32; object = n / 2 ^ 32 % 2 ^ 32; index = n % 2 ^ 32 }

abbrev pub pointer_coded : ℕ → Value
pointer_coded zero = Null
pointer_coded (suc n) = Pointer (address_coded (suc n))

abbrev pub decoded : Kind → ℕ → Value
decoded NumberKind n = Number (cast_signed w64 (n % 2 ^ 64))
decoded RegionKind n = region_coded n
decoded (PointerKind note) n = pointer_coded n
