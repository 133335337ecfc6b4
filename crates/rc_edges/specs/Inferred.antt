-- The facts of all functions of region code, in code, and when they are what is inferred: there is a set before each point, at each entry
-- and at each exit, over the variables that it may speak of, and together they are the greatest consistent annotation of the code. It has
-- all that any consistent annotation has at the points, entries and exits of the code; of numbers that name none of these nothing is said.
use Rattle.std.specs.Prelude.{◌≡◌, ℕ, suc, ◌<◌, Bool, false, ◌&&◌, nat_lt, List, [], length, map, get_or, slice_get, Option, Some, None, is_some}
use Rattle.rc_facts.specs.Facts.{Known}
use Rattle.rc_rlang.specs.RegionCode.{Routine, Rlang}
use Rattle.rc_rlang.specs.RegionFlow.{copies, routine_nodes}
use Rattle.rc_rlang.specs.declared.code.RegionParts.{RegionParts}
use Rattle.rc_rlang.specs.Shapes.{rlang_of}
use Rattle.rc_annotations.specs.Annotations.{Annotation, Consistent}
use Rattle.rc_annotations.specs.Laws.{Within}
use Rattle.rc_annotations.specs.Heights.{temporaries_of}
use Rattle.rc_facts.specs.Flow.{HaveVariables, no_set}
use Rattle.rc_edges.specs.Edges.{kept}
use Rattle.rc_edges.specs.Families.{Family, annotation_in}
use Rattle.rc_edges.specs.declared.facts.Facts.{Facts}

abbrev pub family_of : Facts → Family
family_of facts = record { points = map (λ sets. sets.items) facts.points.items; entries = facts.entries.items; exits = facts.exits.items }

-- what an annotation has of the code, another has too
pub record InsideOf (r : Rlang) (b a : Annotation) : Type 0 where
  pub before : (g : ℕ) (f : Routine) (p : ℕ) → slice_get r.functions g ≡ Some f → p < length (routine_nodes f) → Within (b.before g p) (a.before g p)
  pub entry : (g : ℕ) (f : Routine) → slice_get r.functions g ≡ Some f → Within (b.entry g) (a.entry g)
  pub exit : (g : ℕ) (f : Routine) → slice_get r.functions g ≡ Some f → Within (b.exit g) (a.exit g)

-- it is consistent, and has of the code what each consistent one has
pub record GreatestOf (r : Rlang) (temporaries : ℕ → ℕ) (a : Annotation) : Type 0 where
  pub consistent : Consistent r temporaries a
  pub greatest : (b : Annotation) → Consistent r temporaries b → InsideOf r b a

-- what an annotation says of the code alone

abbrev pub has_point : Option Routine → ℕ → Bool
has_point None p = false
has_point (Some f) p = nat_lt p (length (routine_nodes f))

abbrev pub only_of : Rlang → Annotation → Annotation
only_of r b = record {
  before = λ g p fact. has_point (slice_get r.functions g) p && b.before g p fact;
  entry = λ g fact. is_some (slice_get r.functions g) && b.entry g fact;
  exit = λ g fact. is_some (slice_get r.functions g) && b.exit g fact;
}

-- of one function: as many sets as points, over its variables before the result and one more, and sets at its entry and exit
pub record ShapedAt (f : Routine) (temporaries : ℕ) (sets : List Known) (first last : Known) : Type 0 where
  pub points : length sets ≡ length (routine_nodes f)
  pub before : HaveVariables (kept f temporaries) sets
  pub entry : first.variables ≡ copies f
  pub exit : last.variables ≡ suc (copies f)

-- of all
pub record Shaped (r : Rlang) (temporaries : ℕ → ℕ) (m : Family) : Type 0 where
  pub points : length m.points ≡ length r.functions
  pub entries : length m.entries ≡ length r.functions
  pub exits : length m.exits ≡ length r.functions
  pub each : (g : ℕ) (f : Routine) → slice_get r.functions g ≡ Some f → ShapedAt f (temporaries g) (get_or m.points g []) (get_or m.entries g no_set) (get_or m.exits g no_set)
