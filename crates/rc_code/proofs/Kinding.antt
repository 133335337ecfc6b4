-- What a constant takes and gives, and what arithmetic does, said of its operation.
use Rattle.std.proofs.Common.{◌≡◌, ℕ, List, [], ◌∷◌, ◌++◌, refl, ap, ◌∙◌, if◌then◌else◌}
use Rattle.rc_core.specs.declared.ty.Signedness.{Signedness}
use Rattle.rc_core.specs.declared.ty.Signedness.TheVariants.{Signed, Unsigned as Wrapping}
use Rattle.rc_core.specs.declared.operators.Operator.{Operator}
use Rattle.rc_core.specs.Typing.{is_shift, is_comparison}
use Rattle.rc_code.specs.declared.opcode.Arithmetic.{Arithmetic}
use Rattle.rc_code.specs.declared.opcode.Arithmetic.TheVariants as arithmetic
use Rattle.rc_code.specs.declared.instruction.Instruction.{Instruction}
use Rattle.rc_code.specs.declared.instruction.Instruction.TheVariants as instruction
use Rattle.rc_code.specs.declared.image.Function.{Function}
use Rattle.rc_code.specs.Table.{Item}
use Rattle.rc_code.specs.Running.{Reading, Operation, two, one, operation}
use Rattle.rc_code.specs.Soundness.{Kind, numbers, item_kinds, kinds_on, takes, gives}

-- the right operand of a shift is an `int`
abbrev pub right_kind : Operator → Signedness → Kind
right_kind operator s = if is_shift operator then numbers Signed else numbers s

abbrev pub operation_takes : Operation → Signedness → List Kind
operation_takes (two operator) s = right_kind operator s ∷ numbers s ∷ []
operation_takes (one operator) s = numbers s ∷ []

-- a comparison gives an `int`
abbrev pub result_sign : Operation → Signedness → Signedness
result_sign (two operator) s = if is_comparison operator then Signed else s
result_sign (one operator) s = s

pub constant_takes : (image : Reading) (f : Function) (s : Signedness) (n : ℕ) → takes image f (instruction.Constant s n) ≡ []
constant_takes image f Signed n = refl
constant_takes image f Wrapping n = refl

pub constant_gives : (image : Reading) (f : Function) (s : Signedness) (n : ℕ) → gives image f (instruction.Constant s n) ≡ numbers s ∷ []
constant_gives image f Signed n = refl
constant_gives image f Wrapping n = refl

pub arithmetic_takes : (image : Reading) (f : Function) (row : Arithmetic) (s : Signedness) → takes image f (instruction.Arithmetic row s) ≡ operation_takes (operation row) s
arithmetic_takes image f arithmetic.Add s = refl
arithmetic_takes image f arithmetic.Subtract s = refl
arithmetic_takes image f arithmetic.Multiply s = refl
arithmetic_takes image f arithmetic.Divide s = refl
arithmetic_takes image f arithmetic.Remainder s = refl
arithmetic_takes image f arithmetic.And s = refl
arithmetic_takes image f arithmetic.Or s = refl
arithmetic_takes image f arithmetic.Xor s = refl
arithmetic_takes image f arithmetic.ShiftLeft s = refl
arithmetic_takes image f arithmetic.ShiftRight s = refl
arithmetic_takes image f arithmetic.Negate s = refl
arithmetic_takes image f arithmetic.Complement s = refl
arithmetic_takes image f arithmetic.Equal s = refl
arithmetic_takes image f arithmetic.Less s = refl
arithmetic_takes image f arithmetic.LessEqual s = refl

pub arithmetic_gives : (image : Reading) (f : Function) (row : Arithmetic) (s : Signedness) → gives image f (instruction.Arithmetic row s) ≡ numbers (result_sign (operation row) s) ∷ []
arithmetic_gives image f arithmetic.Add s = refl
arithmetic_gives image f arithmetic.Subtract s = refl
arithmetic_gives image f arithmetic.Multiply s = refl
arithmetic_gives image f arithmetic.Divide s = refl
arithmetic_gives image f arithmetic.Remainder s = refl
arithmetic_gives image f arithmetic.And s = refl
arithmetic_gives image f arithmetic.Or s = refl
arithmetic_gives image f arithmetic.Xor s = refl
arithmetic_gives image f arithmetic.ShiftLeft s = refl
arithmetic_gives image f arithmetic.ShiftRight s = refl
arithmetic_gives image f arithmetic.Negate s = refl
arithmetic_gives image f arithmetic.Complement s = refl
arithmetic_gives image f arithmetic.Equal s = refl
arithmetic_gives image f arithmetic.Less s = refl
arithmetic_gives image f arithmetic.LessEqual s = refl

-- items that are of the same kinds at two instructions
pub same_items : (image image' : Reading) (f f' : Function) (i i' : Instruction) → ((x : Item) → item_kinds image f x i ≡ item_kinds image' f' x i') → (items : List Item) → kinds_on image f items i ≡ kinds_on image' f' items i'
same_items image image' f f' i i' same [] = refl
same_items image image' f f' i i' same (x ∷ []) = same x
same_items image image' f f' i i' same (x ∷ y ∷ items) = ap (λ ks. ks ++ item_kinds image f x i) (same_items image image' f f' i i' same (y ∷ items)) ∙ ap (λ ks. kinds_on image' f' (y ∷ items) i' ++ ks) (same x)
