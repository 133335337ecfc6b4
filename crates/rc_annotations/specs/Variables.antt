-- The values of a function's region variables: first the hidden copies, then the locals that are regions or pointers, then the temporaries.
use Rattle.std.specs.Prelude.{ℕ, zero, suc, Bool, true, false, List, [], ◌∷◌, map}
use Rattle.rc_core.specs.Heap.{Value, Null}
use Rattle.rc_rlang.specs.RegionCode.{Routine}
use Rattle.rc_rlang.specs.RegionFlow.{is_regional}

-- the values at true places
abbrev pub picked : List Bool → List Value → List Value
picked [] env = []
picked (true ∷ bs) [] = Null ∷ picked bs []
picked (false ∷ bs) [] = picked bs []
picked (true ∷ bs) (v ∷ env) = v ∷ picked bs env
picked (false ∷ bs) (v ∷ env) = picked bs env

-- first these, and then those of a function
abbrev pub past : List Value → (ℕ → Value) → ℕ → Value
past [] t u = t u
past (v ∷ vs) t zero = v
past (v ∷ vs) t (suc u) = past vs t u

-- which locals have a variable
abbrev pub picks : Routine → List Bool
picks f = map is_regional f.locals

abbrev pub values_of : Routine → (copied locals : List Value) → (temporaries : ℕ → Value) → ℕ → Value
values_of f copied locals temporaries = past copied (past (picked (picks f) locals) temporaries)
