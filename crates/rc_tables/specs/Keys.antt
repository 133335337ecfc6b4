-- Bytes by which paths are told apart: different ones have different bytes, where their numbers are such as an image can write.
use Rattle.std.specs.Prelude.{◌<◌, ◌^◌, ℕ, List, ◌∷◌, ◌++◌, length, flat_map, Option, Some, None}
use Rattle.std.specs.List.{AllByRecursion as Every}
use Rattle.std.specs.Int.{w32, to_le_bytes}
use Rattle.rc_core.specs.declared.ty.Signedness.{Signedness}
use Rattle.rc_core.specs.declared.ty.Signedness.TheVariants.{Signed, Unsigned}
use Rattle.rc_code.specs.declared.image.Index.{Index}
use Rattle.rc_code.specs.declared.image.Path.{Path}

abbrev pub kind_key : Signedness → ℕ
kind_key Signed = 0
kind_key Unsigned = 1

abbrev pub shift_key : Option Signedness → ℕ
shift_key None = 2
shift_key (Some kind) = kind_key kind

abbrev pub index_key : Index → List ℕ
index_key i = kind_key i.kind ∷ (to_le_bytes w32 i.length ++ to_le_bytes w32 i.stride)

abbrev pub path_key : Path → List ℕ
path_key p = shift_key p.shift ∷ (to_le_bytes w32 p.type_number ++ (to_le_bytes w32 p.offset ++ flat_map index_key p.indices))

pub record IndexHasKey (i : Index) : Type 0 where
  pub length : i.length < 2 ^ 32
  pub stride : i.stride < 2 ^ 32

pub record PathHasKey (p : Path) : Type 0 where
  pub type_number : p.type_number < 2 ^ 32
  pub offset : p.offset < 2 ^ 32
  pub count : length p.indices < 2 ^ 32
  pub indices : Every IndexHasKey p.indices
