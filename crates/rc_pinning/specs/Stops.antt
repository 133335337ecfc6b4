-- The stops of a function's instructions. The locals that are regions or pointers are numbered, in increasing order.
use Rattle.std.specs.Prelude.{◌≡◌, ◌<◌, ◌^◌, ℕ, true, false, IsTrue, List, length, map, Option, Some, None, ◌↔◌}
use Rattle.rc_base.specs.BitSets.{marks}
use Rattle.rc_code.specs.declared.opcode.Simple.TheVariants as simple
use Rattle.rc_code.specs.declared.opcode.Jump.TheVariants as jump
use Rattle.rc_code.specs.declared.instruction.Instruction.{Instruction}
use Rattle.rc_code.specs.declared.instruction.Instruction.TheVariants as instruction
use Rattle.rc_code.specs.declared.image.Function.{Function}
use Rattle.rc_code.specs.Soundness.{is_regional, local_in, instruction_at}
use Rattle.rc_claims.specs.Counts.{regionals, trues}
use Rattle.rc_stops.specs.declared.stop.Stop.{Stop}
use Rattle.rc_stops.specs.Paths.{UsedOn}
use Rattle.rc_stops.specs.Rows.{row_at, AllFit}
use Rattle.rc_sealed.specs.Carrying.{when}
use Rattle.rc_sealed.specs.Pinned.{Used}

abbrev pub number_of : Function → ℕ → ℕ
number_of f x = trues (regionals f) x

abbrev pub numbered : Function → ℕ → Option ℕ
numbered f x = when (is_regional (local_in f x)) (number_of f x)

abbrev pub stop_in : Function → Instruction → Stop
stop_in f (instruction.Get x) = record { gets = numbered f x; sets = None; falls = true; leads = None }
stop_in f (instruction.Set x) = record { gets = None; sets = numbered f x; falls = true; leads = None }
stop_in f (instruction.Jump jump.Always to) = record { gets = None; sets = None; falls = false; leads = Some to }
stop_in f (instruction.Jump jump.IfZero to) = record { gets = None; sets = None; falls = true; leads = Some to }
stop_in f (instruction.Jump jump.Back to) = record { gets = None; sets = None; falls = false; leads = Some to }
stop_in f (instruction.Simple simple.Return) = record { gets = None; sets = None; falls = false; leads = None }
stop_in f i = record { gets = None; sets = None; falls = true; leads = None }

-- gets and sets name locals that are there
abbrev pub NamesLocals : Function → Instruction → Type 0
NamesLocals f (instruction.Get x) = x < length f.locals
NamesLocals f (instruction.Set x) = x < length f.locals
NamesLocals f i = Unit {0}

-- ---- what is asked of a function, and what rows of bits tell of it

pub record HasStops (f : Function) : Type 0 where
  pub count : length f.locals < 2 ^ 32
  pub names : (at : ℕ) → NamesLocals f (instruction_at f at)
  pub fits : AllFit (map (stop_in f) f.code)

-- it is that of a local which is a region or a pointer
pub record IsNumberIn (f : Function) (n : ℕ) : Type 0 where
  pub local : ℕ
  pub there : local < length f.locals
  pub regional : is_regional (local_in f local) ≡ true
  pub is : number_of f local ≡ n

-- a row for each instruction shows the locals that are used from it on, and nothing else
pub record TellsUsed (f : Function) (rows : List ℕ) : Type 0 where
  pub long : length rows ≡ length f.code
  pub only : (at n : ℕ) → at < length f.code → IsTrue (marks (row_at rows at) n) → IsNumberIn f n
  pub each : (x : ℕ) → x < length f.locals → is_regional (local_in f x) ≡ true → (at : ℕ) → at < length f.code → IsTrue (marks (row_at rows at) (number_of f x)) ↔ Used f x at

-- by stops a local is used exactly where it is
abbrev pub StopsTell : Type 0
StopsTell = (f : Function) → ((at : ℕ) → NamesLocals f (instruction_at f at)) → (x : ℕ) → x < length f.locals → is_regional (local_in f x) ≡ true → (at : ℕ) → UsedOn (map (stop_in f) f.code) (number_of f x) at ↔ Used f x at
