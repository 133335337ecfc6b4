-- The variables of a function of an image that claims speak of: a hidden copy of each parameter that is a region or a pointer, and
-- its locals that are regions or pointers. Behind them stand its stack places.
use Rattle.std.specs.Prelude.{ℕ, zero, suc, ◌+◌, Bool, true, false, List, [], ◌∷◌, length, map, Option, Some, None}
use Rattle.rc_code.specs.declared.kind.Storage.{Storage}
use Rattle.rc_code.specs.declared.image.Function.{Function}
use Rattle.rc_code.specs.Soundness.{is_regional}

-- how many are true of the first x
abbrev pub trues : List Bool → (x : ℕ) → ℕ
trues [] x = 0
trues (b ∷ bs) zero = 0
trues (true ∷ bs) (suc x) = suc (trues bs x)
trues (false ∷ bs) (suc x) = trues bs x

-- which locals are regions or pointers
abbrev pub regionals : Function → List Bool
regionals f = map is_regional f.locals

abbrev pub copies : Function → ℕ
copies f = trues (regionals f) f.parameters

abbrev pub local_variable : Function → ℕ → ℕ
local_variable f x = copies f + trues (regionals f) x

-- a stack place, counted from the bottom
abbrev pub place : Function → ℕ → ℕ
place f j = copies f + (trues (regionals f) (length f.locals) + j)

abbrev pub regional_result : Option Storage → Bool
regional_result None = false
regional_result (Some s) = is_regional s

abbrev pub one_if : Bool → ℕ
one_if false = 0
one_if true = 1

-- the hidden copies, and the result where it is a region or a pointer
abbrev pub exit_count : Function → ℕ
exit_count f = copies f + one_if (regional_result f.result)

-- the hidden copies and the locals
abbrev pub frame_count : Function → ℕ
frame_count f = place f 0
