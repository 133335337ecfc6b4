-- The operands that a function's code keeps in locals, and the local of each. An operand is known by its height and its type. Those that
-- a body keeps are gathered from its code, each is entered into a table once, and an entry's place in the table tells which of the locals
-- behind the source's is its own. A local that keeps a `char` is an `int`.
use Rattle.std.specs.Prelude.{ℕ, zero, suc, ◌+◌, Bool, true, false, ◌&&◌, nat_eq, nat_lt, List, [], ◌∷◌, ◌++◌, length, map}
use Rattle.rc_core.specs.declared.ty.Note.{Note}
use Rattle.rc_core.specs.declared.ty.Note.TheVariants.{Plain, SameRegion, ParentPtr, Traditional}
use Rattle.rc_core.specs.Types.{Ty, int, unsigned, char, region, struct, pointer}
use Rattle.rc_rlang.specs.RegionCode as From
use Rattle.rc_rlang.specs.RegionCode.{Operation, Act, Step, Steps, Code, Codes, Routine, Rlang}
use Rattle.rc_emission.specs.OperationCode.{wide}
use Rattle.rc_rlang.specs.RegionFits.{step_types, steps_types}
use Rattle.rc_emission.specs.StackCode.{StackFunction}
use Rattle.rc_emission.specs.StatementCode.{Slots, stack_code_of}

abbrev pub counted_on : Bool → ℕ → ℕ
counted_on true n = zero
counted_on false n = suc n

-- the number of the first entry that is equal, and else the number of all
abbrev pub place_in : {A : Type 0} → (A → A → Bool) → List A → A → ℕ
place_in equal [] a = zero
place_in equal (x ∷ xs) a = counted_on (equal x a) (place_in equal xs a)

-- each entry once
abbrev pub entered : {A : Type 0} → Bool → A → List A → List A
entered true a table = table
entered false a table = a ∷ table

abbrev pub once : {A : Type 0} → (A → A → Bool) → List A → List A
once equal [] = []
once equal (x ∷ xs) = entered (nat_lt (place_in equal (once equal xs) x) (length (once equal xs))) x (once equal xs)

-- an operand that a function keeps in a local
pub record Kept : Type 0 where
  pub height : ℕ
  pub ty : Ty

abbrev pub kept_at : ℕ → Ty → Kept
kept_at h ty = record { height = h; ty = ty }

-- the locals behind the source's, one for each entry
abbrev pub slots_by : (Kept → Kept → Bool) → (Routine → List Kept) → Routine → Slots
slots_by equal table f = record { types = map (λ e. wide e.ty) (table f); slot = λ h ty. length f.locals + place_in equal (table f) (kept_at h ty) }

-- the operands that a piece of code keeps in locals
abbrev pub kept_operands : (base : ℕ) → List Ty → List Kept
kept_operands base [] = []
kept_operands base (ty ∷ tys) = kept_at (base + length tys) ty ∷ kept_operands base tys

abbrev pub kept_operation : (h : ℕ) → Operation → List Kept
kept_operation h (From.step_from n pointed) = kept_at h n ∷ kept_at (suc h) pointed ∷ []
kept_operation h op = []

abbrev mutual
  pub kept_step : Step → (base : ℕ) → List Ty → List Kept
  kept_step (From.set line h ty op) base tys = kept_operation h op
  kept_step (From.fork line h test result a b) base tys = kept_operands base tys ++ (kept_at h result ∷ (kept_steps a h [] ++ kept_steps b h []))

  pub kept_steps : Steps → (base : ℕ) → List Ty → List Kept
  kept_steps From.none base tys = []
  kept_steps (From.more s rest) base tys = kept_step s base tys ++ kept_steps rest base (step_types s tys)

abbrev pub kept_act : Act → List Ty → List Kept
kept_act (From.update line a change ty) tys = kept_operands 0 tys
kept_act (From.move line cells left right) tys = kept_operands 0 tys
kept_act act tys = []

abbrev mutual
  pub kept_code : Code → List Kept
  kept_code (From.simple steps act) = kept_steps steps 0 [] ++ kept_act act (steps_types steps [])
  kept_code (From.clear line x ty) = []
  kept_code (From.block codes) = kept_codes codes
  kept_code (From.branch steps test a b) = kept_steps steps 0 [] ++ (kept_code a ++ kept_code b)
  kept_code (From.loop line steps test third a) = kept_steps steps 0 [] ++ (kept_code third ++ kept_code a)
  kept_code (From.repeat line a steps test) = kept_code a ++ kept_steps steps 0 []
  kept_code (From.break line) = []
  kept_code (From.continue line) = []

  pub kept_codes : Codes → List Kept
  kept_codes From.done = []
  kept_codes (From.then c rest) = kept_code c ++ kept_codes rest

abbrev pub same_note : Note → Note → Bool
same_note Plain Plain = true
same_note SameRegion SameRegion = true
same_note ParentPtr ParentPtr = true
same_note Traditional Traditional = true
same_note a b = false

abbrev pub same_type : Ty → Ty → Bool
same_type int int = true
same_type unsigned unsigned = true
same_type char char = true
same_type region region = true
same_type (struct k) (struct l) = nat_eq k l
same_type (pointer m t) (pointer n u) = same_note m n && same_type t u
same_type t u = false

abbrev pub same_kept : Kept → Kept → Bool
same_kept a b = nat_eq a.height b.height && same_type a.ty b.ty

-- a function's own locals behind those of the source
abbrev pub slots_of : Routine → Slots
slots_of f = slots_by same_kept (λ g. once same_kept (kept_code g.body)) f

-- what region code becomes
abbrev pub stack_code : Rlang → List StackFunction
stack_code r = stack_code_of slots_of r
