-- Bytes by which types, and operands that are kept, are told apart: different ones have different bytes, where heights and the numbers
-- of structs are such as a program in memory has.
use Rattle.std.specs.Prelude.{◌<◌, ◌^◌, ℕ, List, [], ◌∷◌, ◌++◌}
use Rattle.std.specs.Int.{w32, w64, to_le_bytes}
use Rattle.rc_core.specs.declared.ty.Note.{Note}
use Rattle.rc_core.specs.declared.ty.Note.TheVariants.{Plain, SameRegion, ParentPtr, Traditional}
use Rattle.rc_core.specs.Types.{Ty, int, unsigned, char, region, struct, pointer}
use Rattle.rc_emission.specs.KeptOperands.{Kept}

abbrev pub note_key : Note → ℕ
note_key Plain = 5
note_key SameRegion = 6
note_key ParentPtr = 7
note_key Traditional = 8

abbrev pub type_key : Ty → List ℕ
type_key int = 0 ∷ []
type_key unsigned = 1 ∷ []
type_key char = 2 ∷ []
type_key region = 3 ∷ []
type_key (struct k) = 4 ∷ to_le_bytes w32 k
type_key (pointer note target) = note_key note ∷ type_key target

-- of an operand of the type at the height
abbrev pub kept_key : (height : ℕ) → Ty → List ℕ
kept_key height ty = to_le_bytes w64 height ++ type_key ty

-- types, and operands, that have keys of their own
abbrev pub TypeHasKey : Ty → Type 0
TypeHasKey int = Unit {0}
TypeHasKey unsigned = Unit {0}
TypeHasKey char = Unit {0}
TypeHasKey region = Unit {0}
TypeHasKey (struct k) = k < 2 ^ 32
TypeHasKey (pointer note target) = TypeHasKey target

pub record HasKey (k : Kept) : Type 0 where
  pub height : k.height < 2 ^ 64
  pub ty : TypeHasKey k.ty
