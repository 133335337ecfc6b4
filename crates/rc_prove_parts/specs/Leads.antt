-- A number, or none, as one number.
use Rattle.std.specs.Prelude.{ℕ, zero, suc, Option, Some, None}

-- 0 stands for none, and each other number for the one before it
abbrev pub named : ℕ → Option ℕ
named zero = None
named (suc number) = Some number
