-- Where the search begins, for the functions before k.
use Rattle.std.specs.Prelude.{◌≡◌, ℕ, suc, ◌<◌, ◌&&◌, not, true, false, List, [], length, get_or, slice_get, Some}
use Rattle.rc_facts.specs.declared.fact.Fact.{Fact}
use Rattle.rc_facts.specs.Facts.{Known, holds, is_over, names}
use Rattle.rc_rlang.specs.RegionCode.{Routine, Rlang}
use Rattle.rc_rlang.specs.RegionFlow.{copies, routine_nodes}
use Rattle.rc_annotations.specs.Heights.{temporaries_of}
use Rattle.rc_facts.specs.Flow.{no_set}
use Rattle.rc_graph.specs.declared.graph.Graph.{Graph}
use Rattle.rc_edges.specs.Edges.{spare}
use Rattle.rc_edges.specs.Families.{Family}

-- a set of all facts but those on the scratch variable
pub record IsWhole (spare : ℕ) (set : Known) : Type 0 where
  pub wide : set.variables ≡ suc spare
  pub facts : (fact : Fact) → holds set fact ≡ (is_over (suc spare) fact && not (names spare fact))

abbrev pub AreWhole : (graph : Graph) → (spare : ℕ) → List Known → Type 0
AreWhole graph spare sets = (p : ℕ) → p < length sets → get_or graph.heads.items p true ≡ true → IsWhole spare (get_or sets p no_set)

pub record StartedAt (r : Rlang) (g : ℕ) (f : Routine) (graph : Graph) (sets : List Known) (first last : Known) : Type 0 where
  pub long : length sets ≡ length (routine_nodes f)
  pub whole : AreWhole graph (spare f (temporaries_of r g)) sets
  pub entry : first.variables ≡ copies f
  pub others : (g ≡ r.main → ⊥) → (fact : Fact) → holds first fact ≡ is_over (copies f) fact
  pub main : g ≡ r.main → (fact : Fact) → holds first fact ≡ false
  pub exit : last.variables ≡ suc (copies f)
  pub leaving : (fact : Fact) → holds last fact ≡ is_over (suc (copies f)) fact

pub record Started (r : Rlang) (graphs : List Graph) (k : ℕ) (m : Family) : Type 0 where
  pub points : length m.points ≡ k
  pub entries : length m.entries ≡ k
  pub exits : length m.exits ≡ k
  pub each : (g : ℕ) (f : Routine) (graph : Graph) → g < k → slice_get r.functions g ≡ Some f → slice_get graphs g ≡ Some graph → StartedAt r g f graph (get_or m.points g []) (get_or m.entries g no_set) (get_or m.exits g no_set)
