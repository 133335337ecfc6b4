-- The marks of region code's stores to annotated cells, in the order of the code: an image's through its functions, one after another, and
-- in each through its sites. So the image of code with marks has at each store to an annotated cell the mark of its point.
use Rattle.std.specs.Prelude.{ℕ, suc, Bool, false, List, [], ◌∷◌, ◌++◌, map, get_or}
use Rattle.rc_rlang.specs.declared.order.Order.TheVariants.{Points}
use Rattle.rc_rlang.specs.RegionCode.{Routine, Rlang}
use Rattle.rc_rlang.specs.Sites.{Site, code_sites}

-- of a function, whose body begins behind its entry
abbrev pub routine_marks : (marked : (point : ℕ) → Bool) → Routine → List Bool
routine_marks marked f = map (λ (s : Site). marked s.point) (code_sites Points f.body 1)

-- the first function has this number
abbrev pub functions_marks : (marks : (function point : ℕ) → Bool) → (number : ℕ) → List Routine → List Bool
functions_marks marks k [] = []
functions_marks marks k (f ∷ fs) = routine_marks (marks k) f ++ functions_marks marks (suc k) fs

abbrev pub marks_in_order : (marks : (function point : ℕ) → Bool) → Rlang → List Bool
marks_in_order marks r = functions_marks marks 0 r.functions

-- by the number of a store
abbrev pub mask_of : (marks : (function point : ℕ) → Bool) → Rlang → (number : ℕ) → Bool
mask_of marks r number = get_or (marks_in_order marks r) number false
