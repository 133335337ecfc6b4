-- What each point of region code does to the locals of its function, and which points delete. A point reads one local, or sets one, or
-- deletes a region, or calls a function, or does nothing to them. They are a list in the order of the text, as the nodes of `RegionFlow`
-- are, so a point's number is its place there; a program's points are its functions', one function after another. A deleting point is
-- that of a deletion, or of a call of a function that deletes.
use Rattle.std.specs.Prelude.{ℕ, suc, ◌*◌, Bool, true, false, List, [], ◌∷◌, ◌++◌, length, flat_map, replicate, Option}
use Rattle.rc_rlang.specs.Points.{change_points, end_points}
use Rattle.rc_rlang.specs.RegionCode.{Operation, copy, call, Step, set, fork, Steps, none, more, Act, drop, perform, assign, store, update, move, delete, leave, Test, Code, simple, clear, block, branch, loop, repeat, break, continue, Codes, done, then, Routine, Rlang}
use Rattle.rc_rlang.specs.RegionPoints.{branch_points}
use Rattle.rc_rlang.specs.RegionRuns.{deletes as function_deletes}

pub data Touch : Type 0 where
  nothing : Touch
  reads : (local : ℕ) → Touch
  sets : (local : ℕ) → Touch
  deletes : Touch
  calls : (function : ℕ) → Touch

abbrev pub operation_touch : Operation → Touch
operation_touch (copy x) = reads x
operation_touch (call f tys) = calls f
operation_touch op = nothing

abbrev mutual
  pub step_touches : Step → List Touch
  step_touches (set line h ty op) = operation_touch op ∷ []
  step_touches (fork line h test result a b) = nothing ∷ (steps_touches a ++ steps_touches b)

  pub steps_touches : Steps → List Touch
  steps_touches none = []
  steps_touches (more s rest) = step_touches s ++ steps_touches rest

abbrev pub act_touches : Act → List Touch
act_touches drop = []
act_touches (perform line f tys) = calls f ∷ []
act_touches (assign line x ty) = sets x ∷ []
act_touches (store line a) = nothing ∷ []
act_touches (update line a change ty) = replicate (change_points change) nothing
act_touches (move line cells left right) = replicate (2 * length cells) nothing
act_touches (delete line) = deletes ∷ []
act_touches (leave line result) = nothing ∷ []

abbrev pub test_touches : Option Test → List Touch
test_touches test = replicate (branch_points test) nothing

abbrev mutual
  pub code_touches : Code → List Touch
  code_touches (simple steps act) = steps_touches steps ++ act_touches act
  code_touches (clear line x ty) = sets x ∷ []
  code_touches (block codes) = codes_touches codes
  code_touches (branch steps test a b) = steps_touches steps ++ (nothing ∷ (code_touches a ++ code_touches b))
  code_touches (loop line steps test third body) = nothing ∷ (steps_touches steps ++ (test_touches test ++ (code_touches body ++ code_touches third)))
  code_touches (repeat line body steps test) = nothing ∷ (code_touches body ++ (steps_touches steps ++ nothing ∷ []))
  code_touches (break line) = nothing ∷ []
  code_touches (continue line) = nothing ∷ []

  pub codes_touches : Codes → List Touch
  codes_touches done = []
  codes_touches (then c rest) = code_touches c ++ codes_touches rest

abbrev pub routine_touches : Routine → List Touch
routine_touches f = nothing ∷ (code_touches f.body ++ replicate (end_points f.result) nothing)

abbrev pub rlang_touches : Rlang → List Touch
rlang_touches r = flat_map routine_touches r.functions

-- `deleting` tells which functions delete
abbrev pub is_deleting : (deleting : ℕ → Bool) → Touch → Bool
is_deleting deleting nothing = false
is_deleting deleting (reads x) = false
is_deleting deleting (sets x) = false
is_deleting deleting deletes = true
is_deleting deleting (calls f) = deleting f

-- the numbers of those that pass a test, where the first has the number `here`

abbrev pub place_if : Bool → (here : ℕ) → List ℕ → List ℕ
place_if true here rest = here ∷ rest
place_if false here rest = rest

abbrev pub places : {A : Type 0} → (A → Bool) → (here : ℕ) → List A → List ℕ
places test here [] = []
places test here (x ∷ xs) = place_if (test x) here (places test (suc here) xs)

-- the numbers of the points that delete
abbrev pub deleting_points : Rlang → List ℕ
deleting_points r = places (is_deleting (function_deletes r)) 0 (rlang_touches r)
