-- The places of arguments.
use Rattle.std.specs.Prelude.{◌≡◌, ℕ, Bool, true, false, List, [], ◌∷◌, map}
use Rattle.rc_code.specs.declared.kind.Storage.{Storage}
use Rattle.rc_code.specs.declared.image.Function.{Function}
use Rattle.rc_code.specs.Soundness.{is_regional}
use Rattle.rc_claims.specs.Counts.{local_variable, place}
use Rattle.rc_code.specs.declared.instruction.Instruction.{Instruction}
use Rattle.rc_code.specs.declared.instruction.Instruction.TheVariants as instruction
use Rattle.rc_sealed.specs.Carrying.{regional_places}

-- of those among parameters that are regions or pointers, where the first stands there
abbrev pub PlacesOf : List Storage → (first : ℕ) → List ℕ → Type 0
PlacesOf parameters first places = (f : Function) (j : ℕ) → first ≡ place f j → places ≡ regional_places f (map is_regional parameters) j

abbrev pub place_if : Bool → ℕ → List ℕ
place_if true place = place ∷ []
place_if false place = []

-- it is the variable of the local that the instruction names
abbrev pub LocalIs : Function → ℕ → Instruction → Type 0
LocalIs f local (instruction.Get x) = local ≡ local_variable f x
LocalIs f local (instruction.Set x) = local ≡ local_variable f x
LocalIs f local i = Unit {0}

abbrev pub is_call : Instruction → Bool
is_call (instruction.Call h pins) = true
is_call i = false
