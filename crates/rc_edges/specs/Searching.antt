-- A search for the greatest consistent facts of region code goes downward from all facts, function by function. What holds between its
-- steps, and where it begins.
use Rattle.std.specs.Prelude.{◌≡◌, ℕ, suc, ◌<◌, ◌&&◌, not, false, List, [], length, get_or, slice_get, Some}
use Rattle.rc_facts.specs.declared.fact.Fact.{Fact}
use Rattle.rc_facts.specs.Facts.{Known, is_over, names}
use Rattle.rc_rlang.specs.RegionCode.{Routine, Rlang}
use Rattle.rc_rlang.specs.RegionFlow.{copies}
use Rattle.rc_annotations.specs.Annotations.{Annotation, Consistent}
use Rattle.rc_annotations.specs.Laws.{Inside}
use Rattle.rc_annotations.specs.Heights.{temporaries_of}
use Rattle.rc_facts.specs.Flow.{AreShut, set_at}
use Rattle.rc_edges.specs.Edges.{kept, spare}
use Rattle.rc_edges.specs.Families.{Family, InOrder, annotation_in}
use Rattle.rc_edges.specs.Inferred.{Shaped, only_of}
pub use Rattle.rc_graph.specs.Heads.{EdgeOf}

-- between the steps: the sets are in their places, speak of what they may, and no rule gives them more; and each consistent annotation is
-- inside, of the code
pub record Searching (r : Rlang) (m : Family) : Type 0 where
  pub shaped : Shaped r (temporaries_of r) m
  pub order : InOrder r (temporaries_of r) (annotation_in m)
  pub inside : (b : Annotation) → Consistent r (temporaries_of r) b → Inside (only_of r b) (annotation_in m)
  pub shut : (g : ℕ) (f : Routine) → slice_get r.functions g ≡ Some f → AreShut (kept f (temporaries_of r g)) (spare f (temporaries_of r g)) (get_or m.points g [])

-- at the start there are all facts, but none where `main` begins
pub record Full (r : Rlang) (m : Family) : Type 0 where
  pub shaped : Shaped r (temporaries_of r) m
  pub points : (g : ℕ) (f : Routine) (p : ℕ) (fact : Fact) → slice_get r.functions g ≡ Some f → p < length (get_or m.points g []) → set_at (get_or m.points g []) p fact ≡ (is_over (kept f (temporaries_of r g)) fact && not (names (spare f (temporaries_of r g)) fact))
  pub entries : (g : ℕ) (f : Routine) (fact : Fact) → slice_get r.functions g ≡ Some f → (g ≡ r.main → ⊥) → set_at m.entries g fact ≡ is_over (copies f) fact
  pub exits : (g : ℕ) (f : Routine) (fact : Fact) → slice_get r.functions g ≡ Some f → set_at m.exits g fact ≡ is_over (suc (copies f)) fact
  pub main : (fact : Fact) → set_at m.entries r.main fact ≡ false

-- the sets of a family, some of them others
abbrev pub with_points : Family → List (List Known) → Family
with_points m points = record { points = points; entries = m.entries; exits = m.exits }

abbrev pub with_entries : Family → List Known → Family
with_entries m entries = record { points = m.points; entries = entries; exits = m.exits }

abbrev pub with_exits : Family → List Known → Family
with_exits m exits = record { points = m.points; entries = m.entries; exits = exits }
