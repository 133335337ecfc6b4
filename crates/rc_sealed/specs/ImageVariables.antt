-- The variables of a function of an image that `rc_claims` doesn't count: behind its stack places, as many as its greatest height, stand
-- its result, and one more, the scratch variable. And the values that they have while the function runs.
use Rattle.std.specs.Prelude.{ℕ, zero, suc, nat_lt, List, length, reverse, if◌then◌else◌}
use Rattle.rc_core.specs.Heap.{Value}
use Rattle.rc_code.specs.declared.image.Function.{Function}
use Rattle.rc_code.specs.Running.{Reading, value_at}
use Rattle.rc_code.specs.Soundness.{kinds_before}
use Rattle.rc_annotations.specs.Variables.{picked, past}
use Rattle.rc_claims.specs.Counts.{regionals, place}

abbrev pub greater : ℕ → ℕ → ℕ
greater a b = if nat_lt a b then b else a

-- the greatest number of operands before one of the first n instructions, or behind the last of them
abbrev pub height_within : Reading → Function → ℕ → ℕ
height_within image f zero = 0
height_within image f (suc n) = greater (height_within image f n) (length (kinds_before image f (suc n)))

abbrev pub result_variable : Reading → Function → ℕ
result_variable image f = place f (height_within image f (length f.code))

abbrev pub scratch : Reading → Function → ℕ
scratch image f = suc (result_variable image f)

-- how many there are
abbrev pub variables : Reading → Function → ℕ
variables image f = suc (scratch image f)

-- the values, where operands stand with the last pushed first; behind the operands there is null
abbrev pub values_of : Function → (copied locals stack : List Value) → ℕ → Value
values_of f copied locals stack = past copied (past (picked (regionals f) locals) (value_at (reverse stack)))
