-- When an instruction pins what it has to. Used-after is said by paths.
use Rattle.std.specs.Prelude.{◌≡◌, ◌≢◌, ℕ, nat_eq, ◌<◌, true, List, drop, length}
use Rattle.std.specs.List.{AllByRecursion as Every, list_any}
use Rattle.rc_code.specs.declared.instruction.Instruction.{Instruction}
use Rattle.rc_code.specs.declared.instruction.Instruction.TheVariants as instruction
use Rattle.rc_code.specs.declared.image.Function.{Function}
use Rattle.rc_code.specs.Running.{Reading, function_at}
use Rattle.rc_code.specs.Soundness.{Kind, numbers, handles, pointers, is_regional, local_in, count_off, instruction_at, kinds_before}
use Rattle.rc_sealed.specs.Proved.{Way}

abbrev pub IsNumeric : Kind → Type 0
IsNumeric (numbers s) = Unit {0}
IsNumeric handles = ⊥
IsNumeric (pointers type) = ⊥

-- from before the instruction a path leads to one that gets the local, and none on the way sets it
pub data Used (f : Function) (x : ℕ) : ℕ → Type 0 where
  got : {at : ℕ} → instruction_at f at ≡ instruction.Get x → Used f x at
  on : {at to : ℕ} → instruction_at f at ≢ instruction.Set x → Way (instruction_at f at) at to → Used f x to → Used f x at

pub record UsedAfter (f : Function) (x at : ℕ) : Type 0 where
  pub to : ℕ
  pub way : Way (instruction_at f at) at to
  pub used : Used f x to

-- a function may delete where it deletes, or calls one that may
pub data MayDelete (image : Reading) : ℕ → Type 0 where
  deletes : {g : ℕ} → (at : ℕ) → at < length (function_at image g).code → (pins : List ℕ) → instruction_at (function_at image g) at ≡ instruction.Delete pins → MayDelete image g
  calls : {g h : ℕ} → (at : ℕ) → at < length (function_at image g).code → (pins : List ℕ) → instruction_at (function_at image g) at ≡ instruction.Call h pins → MayDelete image h → MayDelete image g

pub record PinsAll (image : Reading) (f : Function) (at : ℕ) (pins : List ℕ) : Type 0 where
  pub locals : (x : ℕ) → is_regional (local_in f x) ≡ true → UsedAfter f x at → list_any (nat_eq x) pins ≡ true
  pub below : Every IsNumeric (drop (count_off image f (instruction_at f at)) (kinds_before image f at))

module _ (image : Reading) (g at : ℕ) where
  abbrev pub PinsWhat : Instruction → Type 0
  PinsWhat (instruction.Delete pins) = PinsAll image (function_at image g) at pins
  PinsWhat (instruction.Call h pins) = MayDelete image h → PinsAll image (function_at image g) at pins
  PinsWhat i = Unit {0}

  abbrev pub Pinned : Type 0
  Pinned = PinsWhat (instruction_at (function_at image g) at)
