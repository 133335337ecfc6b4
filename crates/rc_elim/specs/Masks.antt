-- Which stores make no check. A mask has a bit for each point of each function; it is set where the check of the store there may go.
use Rattle.std.specs.Prelude.{◌≡◌, ◌↔◌, ℕ, Bool, true, false, List, [], length, map, get_or, replicate, slice_get, Option, Some, None, is_some}
use Rattle.std.specs.declared.vec.Vec.{Vec}
use Rattle.std.specs.declared.alloc.Global.{Global}
use Rattle.rc_rlang.specs.RegionCode.{Routine, Rlang}
use Rattle.rc_rlang.specs.RegionFlow.{Node, routine_nodes}
use Rattle.rc_rlang.specs.RegionPoints.{routine_points}
use Rattle.rc_annotations.specs.Annotations.{Facts, Removable, asked_by}
use Rattle.rc_annotations.specs.Heights.{temporaries_of}
use Rattle.rc_facts.specs.declared.fact.Fact.{Fact}

-- a bit is not set where there is no point
abbrev pub marks_in : List (List Bool) → (function point : ℕ) → Bool
marks_in rows g p = get_or (get_or rows g []) p false

abbrev pub rows_of : List (Vec Bool Global) → List (List Bool)
rows_of rows = map (λ (v : Vec Bool Global). v.items) rows

-- a function without a mark, and the code
abbrev pub unmarked : Routine → List Bool
unmarked f = replicate (routine_points f) false

abbrev pub no_marks : Rlang → List (List Bool)
no_marks r = map unmarked r.functions

-- a store to an annotated cell stands there, whose check asks for a fact
abbrev pub asks : Option Node → Bool
asks None = false
asks (Some node) = is_some (asked_by node)

abbrev pub asks_in : Option Routine → (point : ℕ) → Bool
asks_in None p = false
asks_in (Some f) p = asks (slice_get (routine_nodes f) p)

abbrev pub has_check : Rlang → (function point : ℕ) → Bool
has_check r g p = asks_in (slice_get r.functions g) p

-- there is a bit for each point
pub record HasPoints (r : Rlang) (rows : List (List Bool)) : Type 0 where
  pub functions : length rows ≡ length r.functions
  pub points : (g : ℕ) (f : Routine) → slice_get r.functions g ≡ Some f → length (get_or rows g []) ≡ length (routine_nodes f)

-- exactly the stores are marked whose checks may go
abbrev pub MarksRemovable : Rlang → (marks : (function point : ℕ) → Bool) → Type 0
MarksRemovable r marks = (g p : ℕ) → marks g p ≡ true ↔ Removable r (temporaries_of r) g p

-- the facts have what the check at a node asks
abbrev pub has_asked : Option Fact → Facts → Bool
has_asked None facts = false
has_asked (Some fact) facts = facts fact

abbrev pub is_proven : Node → Facts → Bool
is_proven node facts = has_asked (asked_by node) facts
