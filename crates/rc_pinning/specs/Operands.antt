-- Which operands are numbers. Operands stand with the last pushed first.
use Rattle.std.specs.Prelude.{◌≡◌, ◌≤◌, ◌<◌, ◌-◌, ◌↔◌, ℕ, Bool, true, false, List, length, drop, get_or}
use Rattle.std.specs.List.{AllByRecursion as Every}
use Rattle.rc_code.specs.declared.image.Function.{Function}
use Rattle.rc_code.specs.Running.{Reading}
use Rattle.rc_code.specs.Soundness.{Kind, numbers, handles, pointers, count_off, instruction_at, kinds_before}
use Rattle.rc_sealed.specs.Pinned.{IsNumeric}
use Rattle.rc_pinning.specs.declared.operands.Operands.{Operands}

abbrev pub is_numeric : Kind → Bool
is_numeric (numbers s) = true
is_numeric handles = false
is_numeric (pointers type) = false

-- so many they are; and those that are left without the last few are all numbers exactly where these are at most so many
pub record CountOperands (kinds : List Kind) (operands : Operands) : Type 0 where
  pub height : operands.height ≡ length kinds
  pub numbers : (c : ℕ) → (length kinds - c ≤ operands.numbers) ↔ Every IsNumeric (drop c kinds)

-- below the operands that the instruction takes there are numbers alone
abbrev pub TakesAboveNumbers : Reading → Function → (at : ℕ) → Type 0
TakesAboveNumbers image f at = Every IsNumeric (drop (count_off image f (instruction_at f at)) (kinds_before image f at))

-- for each instruction, whether that is so
pub record TellsAboveNumbers (image : Reading) (f : Function) (tells : List Bool) : Type 0 where
  pub long : length tells ≡ length f.code
  pub each : (at : ℕ) → at < length f.code → (get_or tells at false ≡ true) ↔ TakesAboveNumbers image f at
