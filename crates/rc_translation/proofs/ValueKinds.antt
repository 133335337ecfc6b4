-- The types that the translation finds are those of the rules, and what follows for values of these types.
use Rattle.std.proofs.Common.{◌≡◌, ℤ, pos, Bool, true, false, not, List, [], ◌∷◌, refl, ap, ◌∙◌}
use Rattle.std.specs.Prelude.{IsTrue}
use Rattle.rc_core.specs.declared.ty.NumberType.{NumberType}
use Rattle.rc_core.specs.declared.ty.NumberType.TheVariants.{Int, Unsigned, Char}
use Rattle.rc_core.specs.declared.ty.Signedness.{Signedness}
use Rattle.rc_core.specs.declared.ty.Signedness.TheVariants.{Signed, Unsigned as Wrapping}
use Rattle.rc_core.specs.declared.operators.Operator.{Operator}
use Rattle.rc_core.specs.Types.{Ty, int, unsigned, char, region, struct, pointer}
use Rattle.rc_core.specs.Arithmetic.{converted, calculate, as_int, equals}
use Rattle.rc_core.specs.Heap.{Value, Number}
use Rattle.rc_core.specs.Evaluation.{number_in, is_true}
use Rattle.rc_core.specs.Typing.{number, arithmetic, is_reference, is_pointer, value_type, is_shift}
use Rattle.rc_rlang.specs.RegionCode.{numeric, regional, kind_of}
use Rattle.rc_rlang.specs.RegionRuns.{kept, holds, counted, right_number, convert_value}

-- what region code needs of a value of the type; a value that fits its type has it
abbrev pub Suits : Ty → Value → Type 0
Suits int v = (Number (number_in v) ≡ v) × (as_int (number_in v) ≡ number_in v)
Suits unsigned v = (Number (number_in v) ≡ v) × (not (equals (as_int (number_in v)) (pos 0)) ≡ is_true v) × ((operator : Operator) (s : Signedness) (a : ℤ) → is_shift operator ≡ true → calculate operator s a (as_int (number_in v)) ≡ calculate operator s a (number_in v))
Suits char v = (Number (number_in v) ≡ v) × (converted Char (number_in v) ≡ number_in v) × (as_int (number_in v) ≡ number_in v)
Suits region v = Unit {0}
Suits (struct k) v = Unit {0}
Suits (pointer note target) v = Unit {0}

pub kind_arithmetic : (s : Signedness) → kind_of (arithmetic s) ≡ numeric
kind_arithmetic Signed = refl
kind_arithmetic Wrapping = refl

pub kind_number : (k : NumberType) → kind_of (number k) ≡ numeric
kind_number Int = refl
kind_number Unsigned = refl
kind_number Char = refl

pub kind_reference : (t : Ty) → IsTrue (is_reference t) → kind_of t ≡ regional
kind_reference int h = cc
kind_reference unsigned h = cc
kind_reference char h = cc
kind_reference region h = refl
kind_reference (struct k) h = cc
kind_reference (pointer note target) h = refl

pub kind_pointer : (t : Ty) → IsTrue (is_pointer t) → kind_of t ≡ regional
kind_pointer int h = cc
kind_pointer unsigned h = cc
kind_pointer char h = cc
kind_pointer region h = cc
kind_pointer (struct k) h = cc
kind_pointer (pointer note target) h = refl

pub is_number : (s : Signedness) (v : Value) → Suits (arithmetic s) v → Number (number_in v) ≡ v
is_number Signed v h = h.0
is_number Wrapping v h = h.0

pub kept_same : (ty : Ty) (v : Value) → Suits (value_type ty) v → kept ty v ≡ v
kept_same int v h = refl
kept_same unsigned v h = refl
kept_same char v h = ap Number h.1 ∙ h.0
kept_same region v h = refl
kept_same (struct k) v h = refl
kept_same (pointer note target) v h = refl

pub holds_same : (ty : Ty) (v : Value) → Suits ty v → holds ty v ≡ is_true v
holds_same int v h = refl
holds_same unsigned v h = h.1
holds_same char v h = refl
holds_same region v h = refl
holds_same (struct k) v h = refl
holds_same (pointer note target) v h = refl

pub holds_regional : (ty : Ty) (v : Value) → kind_of ty ≡ regional → holds ty v ≡ is_true v
holds_regional int v h = cc
holds_regional unsigned v h = cc
holds_regional char v h = cc
holds_regional region v h = refl
holds_regional (struct k) v h = refl
holds_regional (pointer note target) v h = refl

pub right_same : (operator : Operator) (r : Signedness) (s : Signedness) (a : ℤ) (v : Value) → Suits (arithmetic r) v → calculate operator s a (right_number operator (arithmetic r) v) ≡ calculate operator s a (number_in v)
right_same operator r s a v h = by_shift (is_shift operator) refl r h
  where
    by_shift : (b : Bool) → is_shift operator ≡ b → (r : Signedness) → Suits (arithmetic r) v → calculate operator s a (counted (is_shift operator) (arithmetic r) (number_in v)) ≡ calculate operator s a (number_in v)
    by_shift false e r h = ap (λ b. calculate operator s a (counted b (arithmetic r) (number_in v))) e
    by_shift true e Signed h = ap (λ b. calculate operator s a (counted b int (number_in v))) e
    by_shift true e Wrapping h = ap (λ b. calculate operator s a (counted b unsigned (number_in v))) e ∙ h.2 operator s a e

pub convert_is : (from to : NumberType) (v : Value) → ¬ (from ≡ to) → Suits (number from) v → Number (converted to (number_in v)) ≡ convert_value from to v
convert_is Int Int v n h = absurd (n refl)
convert_is Int Unsigned v n h = refl
convert_is Int Char v n h = refl
convert_is Unsigned Int v n h = refl
convert_is Unsigned Unsigned v n h = absurd (n refl)
convert_is Unsigned Char v n h = refl
convert_is Char Int v n h = ap Number h.2 ∙ h.0
convert_is Char Unsigned v n h = refl
convert_is Char Char v n h = absurd (n refl)

pub kind_value : (ty : Ty) → kind_of (value_type ty) ≡ kind_of ty
kind_value int = refl
kind_value unsigned = refl
kind_value char = refl
kind_value region = refl
kind_value (struct k) = refl
kind_value (pointer note target) = refl

-- arguments suit their parameters
abbrev pub AllSuit : List Ty → List Value → Type 0
AllSuit [] [] = Unit {0}
AllSuit [] (v ∷ vs) = ⊥
AllSuit (ty ∷ tys) [] = ⊥
AllSuit (ty ∷ tys) (v ∷ vs) = Suits (value_type ty) v × AllSuit tys vs
