-- The first violation of an image: its function, its instruction, and the rule that is broken.
--
-- Functions and instructions are looked at from the first to the last, and at one instruction the rules are asked in the order
-- names, targets, heights, kinds. What `main` takes and gives is asked last, and counts as a name at its first instruction. A
-- function without code breaks the rule of targets at its instruction 0.
use Rattle.std.specs.Prelude.{◌≡◌, ℕ, suc, ◌-◌, ◌<◌, ◌≤◌, ◌⊎◌, true, [], length, slice_get, Some}
use Rattle.rc_core.specs.declared.ty.NumberType.TheVariants.{Int}
use Rattle.rc_code.specs.declared.kind.Storage.TheVariants as storage
use Rattle.rc_code.specs.declared.opcode.Jump.{Jump}
use Rattle.rc_code.specs.declared.opcode.Jump.TheVariants as jump
use Rattle.rc_code.specs.declared.instruction.Instruction.{Instruction}
use Rattle.rc_code.specs.declared.instruction.Instruction.TheVariants as instruction
use Rattle.rc_code.specs.declared.image.Function.{Function}
use Rattle.rc_code.specs.declared.image.Parts.{Parts}
use Rattle.rc_code.specs.Running.{Reading, reading_of, function_at}
use Rattle.rc_code.specs.Soundness.{instruction_at, kinds_before, count_off, Names, Operands, Empty, ends, FunctionIsSound}
use Rattle.rc_loader.specs.declared.fault.Rule.{Rule}
use Rattle.rc_loader.specs.declared.fault.Rule.TheVariants as rule
use Rattle.rc_loader.specs.declared.fault.Violation.{Violation}
use Rattle.rc_loader.specs.declared.fault.LoadFault.{LoadFault}
use Rattle.rc_loader.specs.declared.fault.LoadFault.TheVariants as fault

-- ---- the rules at one instruction

-- a jump leads to an instruction of its function, forward or back
abbrev pub Leads : Function → (n : ℕ) → Instruction → Type 0
Leads f n (instruction.Jump jump.Always to) = (n < to) × (to < length f.code)
Leads f n (instruction.Jump jump.IfZero to) = (n < to) × (to < length f.code)
Leads f n (instruction.Jump jump.Back to) = (to ≤ n) × (to < length f.code)
Leads f n i = Unit {0}

-- the instruction is there, leads to one that is there, and behind the last one nothing is run
pub record GoesOn (f : Function) (n : ℕ) (i : Instruction) : Type 0 where
  pub there : n < length f.code
  pub target : Leads f n i
  pub end : suc n ≡ length f.code → ends i ≡ true

-- a jump of the function names the instruction, wherever that jump stands
abbrev pub IsTarget : Function → ℕ → Type 0
IsTarget f n = (m : ℕ) × (row : Jump) × (slice_get f.code m ≡ Some (instruction.Jump row n))

-- no operand is missing, and the stack is empty where it has to be
pub record HasHeight (image : Reading) (f : Function) (n : ℕ) (i : Instruction) : Type 0 where
  pub enough : count_off image f i ≤ length (kinds_before image f n)
  pub empty : Empty image f i (kinds_before image f n)
  pub target : IsTarget f n → kinds_before image f n ≡ []

abbrev pub Keeps : Rule → Reading → Function → (n : ℕ) → Instruction → Type 0
Keeps rule.Number image f n i = Names true image f i
Keeps rule.Target image f n i = GoesOn f n i
Keeps rule.Height image f n i = HasHeight image f n i
Keeps rule.Kind image f n i = Operands image f i (kinds_before image f n)

-- in which order they are asked
abbrev pub rank : Rule → ℕ
rank rule.Number = 0
rank rule.Target = 1
rank rule.Height = 2
rank rule.Kind = 3

-- ---- the first violation of a function

abbrev pub KeepsAt : Reading → Function → ℕ → Rule → Type 0
KeepsAt image f n r = Keeps r image f n (instruction_at f n)

-- the rule is broken at the instruction, which is there unless there is no code, no rule is before it, and none that is asked
-- before is at it
pub record BreaksFirst (image : Reading) (f : Function) (n : ℕ) (r : Rule) : Type 0 where
  pub there : n ≤ length f.code - 1
  pub broken : KeepsAt image f n r → ⊥
  pub before : (m : ℕ) → m < n → (s : Rule) → KeepsAt image f m s
  pub earlier : (s : Rule) → rank s < rank r → KeepsAt image f n s

-- ---- the first violation of an image

pub record MainIsFine (image : Reading) : Type 0 where
  pub takes : (function_at image image.parts.main).parameters ≡ 0
  pub gives : (function_at image image.parts.main).result ≡ Some (storage.Number Int)

-- the functions before that one are sound
pub record InFunction (image : Reading) (v : Violation) : Type 0 where
  pub there : v.function < length image.parts.functions
  pub before : (f : ℕ) → f < v.function → FunctionIsSound true image (function_at image f)
  pub first : BreaksFirst image (function_at image v.function) v.instruction v.rule

-- all functions are sound, but `main` has another shape
pub record InMain (image : Reading) (v : Violation) : Type 0 where
  pub functions : (f : ℕ) → f < length image.parts.functions → FunctionIsSound true image (function_at image f)
  pub shape : MainIsFine image → ⊥
  pub place : v ≡ record { rule = rule.Number; function = image.parts.main; instruction = 0 }

abbrev pub FirstViolation : Parts → Violation → Type 0
FirstViolation parts v = InFunction (reading_of parts) v ⊎ InMain (reading_of parts) v

-- why an image isn't loaded
abbrev pub IsFault : Parts → LoadFault → Type 0
IsFault parts fault.Memory = Unit {0}
IsFault parts (fault.Broken v) = FirstViolation parts v
