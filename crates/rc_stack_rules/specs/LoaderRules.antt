-- What a loader asks of a function's code. Each instruction finds its operands on the stack, and they have the kinds that it takes. The
-- stack is empty at each jump, at each place that a jump leads to, and behind a return. Jumps forward lead to an instruction of the
-- function, and a step back leads to a place not behind its own where the stack is empty. Kinds are types without what doesn't matter
-- there: a `char` is an `int`, and pointers have no notes. What stands on the stack is followed from instruction to instruction, from the
-- first one on, where it is empty.
use Rattle.std.specs.Prelude.{◌≡◌, ◌<◌, ◌≤◌, ℕ, zero, suc, Bool, true, false, List, [], ◌∷◌, ◌++◌, length, map, get_or}
use Rattle.rc_core.specs.declared.ty.Note.TheVariants.{Plain}
use Rattle.rc_core.specs.declared.ty.NumberType.{NumberType}
use Rattle.rc_core.specs.declared.ty.NumberType.TheVariants.{Int, Unsigned, Char}
use Rattle.rc_core.specs.declared.ty.Signedness.{Signedness}
use Rattle.rc_core.specs.Types.{Ty, int, unsigned, region, pointer}
use Rattle.rc_core.specs.Typing.{arithmetic, number, is_shift, is_comparison}
use Rattle.rc_rlang.specs.RegionCode.{regional, kind_of}
use Rattle.rc_emission.specs.StackCode.{Instruction, Line, number as push, null, global, get, set, arithmetic as compute, unary, zero_test, null_test, same, convert, move, load, store, new_region, new_subregion, region_of, allocate, allocate_array, delete, call, perform, leave, putchar, getchar, jump, jump_zero, back, pop}
use Rattle.rc_rlang.specs.RegionFits.{place_types, pushed, dropped}
use Rattle.rc_rlang.specs.RegionKinds.{kind_ty, result_kind}

abbrev pub kinds : List Ty → List Ty
kinds tys = map kind_ty tys

-- of the right operand: the count of a shift is an `int`
abbrev pub right_kind : Bool → Signedness → Ty
right_kind true s = int
right_kind false s = arithmetic s

-- what a conversion to this type takes
abbrev pub converted_from : NumberType → Ty
converted_from Int = unsigned
converted_from Unsigned = int
converted_from Char = int

-- where an instruction leads: on alone, also past so many instructions, back to a place, or out of the function
pub data Way : Type 0 where
  onward : Way
  forward : ℕ → Way
  backward : ℕ → Way
  away : Way

abbrev pub way_of : Instruction → Way
way_of (jump n) = forward n
way_of (jump_zero n) = forward n
way_of (back to) = backward to
way_of (leave tys) = away
way_of i = onward

-- the locals' types, the globals' and the functions' results
module _ (locals : List Ty) (global_ty result_ty : ℕ → Ty) where
  abbrev pub local_kind : ℕ → Ty
  local_kind x = kind_ty (get_or locals x int)

  -- the kinds that an instruction takes, the lowest first
  abbrev pub wants : Instruction → List Ty
  wants (set x ty) = local_kind x ∷ []
  wants (compute operator s) = arithmetic s ∷ right_kind (is_shift operator) s ∷ []
  wants (unary operator s) = arithmetic s ∷ []
  wants zero_test = int ∷ []
  wants (null_test ty) = kind_ty ty ∷ []
  wants (same ty) = kind_ty ty ∷ kind_ty ty ∷ []
  wants (convert to) = converted_from to ∷ []
  wants (move ty s direction) = kind_ty ty ∷ arithmetic s ∷ []
  wants (load a) = kinds (place_types a)
  wants (store a) = kinds (place_types a) ++ kind_ty a.cell ∷ []
  wants new_subregion = region ∷ []
  wants (region_of ty) = kind_ty ty ∷ []
  wants (allocate ty layout) = region ∷ []
  wants (allocate_array ty layout) = region ∷ int ∷ []
  wants (delete pins) = region ∷ []
  wants (call f tys pins) = kinds tys
  wants (perform f tys pins) = kinds tys
  wants putchar = int ∷ []
  wants (leave tys) = kinds tys
  wants (jump_zero n) = int ∷ []
  wants i = []

  abbrev pub gives : Instruction → List Ty
  gives (push s n) = arithmetic s ∷ []
  gives (null ty) = kind_ty ty ∷ []
  gives (global g) = pointer Plain (global_ty g) ∷ []
  gives (get x) = local_kind x ∷ []
  gives (compute operator s) = result_kind (is_comparison operator) s ∷ []
  gives (unary operator s) = arithmetic s ∷ []
  gives zero_test = int ∷ []
  gives (null_test ty) = int ∷ []
  gives (same ty) = int ∷ []
  gives (convert to) = kind_ty (number to) ∷ []
  gives (move ty s direction) = kind_ty ty ∷ []
  gives (load a) = kind_ty a.cell ∷ []
  gives new_region = region ∷ []
  gives new_subregion = region ∷ []
  gives (region_of ty) = region ∷ []
  gives (allocate ty layout) = pointer Plain ty ∷ []
  gives (allocate_array ty layout) = pointer Plain ty ∷ []
  gives (call f tys pins) = kind_ty (result_ty f) ∷ []
  gives putchar = int ∷ []
  gives getchar = int ∷ []
  gives i = []

  -- the kinds on the stack behind an instruction
  abbrev pub after : Instruction → List Ty → List Ty
  after pop ks = dropped 1 ks
  after i ks = pushed (gives i) (dropped (length (wants i)) ks)

  abbrev pub AtLeast : ℕ → List Ty → Type 0
  AtLeast n ks = (top below : List Ty) × (ks ≡ top ++ below) × (length top ≡ n)

  -- OPERANDS: they are there and have their kinds
  abbrev pub Operands : Instruction → List Ty → Type 0
  Operands pop ks = AtLeast 1 ks
  Operands i ks = (below : List Ty) × (ks ≡ pushed (wants i) below)

  -- TARGETS: so many instructions on there is one, and the stack is empty there; past the end it is as `ok` says
  abbrev pub Lands : (ok : ℕ → Type 0) → List Line → List Ty → ℕ → Type 0
  Lands ok [] ks n = ok n
  Lands ok (i ∷ is) ks zero = ks ≡ []
  Lands ok (i ∷ is) ks (suc n) = Lands ok is (after i.instruction ks) n

  -- EMPTY: at each jump, behind the operand of a branch, behind a return; a step back leads to a marked place, not past its own
  abbrev pub Leads : (ok mark : ℕ → Type 0) → (at : ℕ) → Way → List Line → List Ty → Type 0
  Leads ok mark at onward is ks = Unit {0}
  Leads ok mark at (forward n) is ks = (ks ≡ []) × Lands ok is ks n
  Leads ok mark at (backward to) is ks = (ks ≡ []) × (to ≤ at) × mark to
  Leads ok mark at away is ks = ks ≡ []

  abbrev pub Jumps : (ok mark : ℕ → Type 0) → (at : ℕ) → Instruction → List Line → List Ty → Type 0
  Jumps ok mark at i is ks = Leads ok mark at (way_of i) is ks

  -- a piece of code that stands at a place, from these kinds on the stack to those
  abbrev pub Sound : (ok mark : ℕ → Type 0) → (at : ℕ) → List Line → (from to : List Ty) → Type 0
  Sound ok mark at [] from to = from ≡ to
  Sound ok mark at (i ∷ is) from to = Operands i.instruction from × Jumps ok mark at i.instruction is (after i.instruction from) × Sound ok mark (suc at) is (after i.instruction from) to

  -- a function's code: marks are the places in it where the stack is empty, and nothing leads past its end
  abbrev pub IsLoadable : List Line → Type 0
  IsLoadable code = Sound (λ n. ⊥) (λ n. Lands (λ m. ⊥) code [] n) 0 code [] []

-- pins stand in order, each once, and each is the number of a local that is a region or a pointer
abbrev pub Pins : (locals : List Ty) → ℕ → List ℕ → Type 0
Pins locals x [] = Unit {0}
Pins locals x (y ∷ ys) = (x ≤ y) × (y < length locals) × (kind_of (get_or locals y int) ≡ regional) × Pins locals (suc y) ys
