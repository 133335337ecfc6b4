-- The facts of all functions of region code, as code keeps them: a set before each point, at each entry and at each exit. A family is
-- settled where no edge drops a fact, nor a call, an entry or a return; it is looked at function by function.
use Rattle.std.specs.Prelude.{◌≡◌, ℕ, suc, ◌<◌, ◌≤◌, false, ◌||◌, IsTrue, List, [], length, get_or, slice_get, Option, Some}
use Rattle.rc_base.specs.Limits.{most_variables}
use Rattle.rc_facts.specs.declared.fact.Fact.{Fact}
use Rattle.rc_facts.specs.Facts.{Known}
use Rattle.rc_facts.specs.Derivable.{Derivable}
use Rattle.rc_rlang.specs.RegionCode.{Routine, Rlang}
use Rattle.rc_rlang.specs.RegionFlow.{called, Edge, Node, copies, variables, routine_nodes}
use Rattle.rc_annotations.specs.Annotations.{Annotation, Consistent, exit_facts, returned_facts, fact_with, renamed, is_below, NodeEdge}
use Rattle.rc_annotations.specs.Laws.{Inside}
use Rattle.rc_facts.specs.Flow.{set_at}
use Rattle.rc_edges.specs.Edges.{Crossed, spare, kept, EffectBelow}
use Rattle.rc_edges.specs.EdgeLaws.{AllBelow}

pub record Family : Type 0 where
  pub points : List (List Known)
  pub entries : List Known
  pub exits : List Known

abbrev pub annotation_in : Family → Annotation
annotation_in m = record { before = λ g p. set_at (get_or m.points g []) p; entry = λ g. set_at m.entries g; exit = λ g. set_at m.exits g }

module _ (r : Rlang) (temporaries : ℕ → ℕ) where
  -- entries speak of hidden copies, exits of these and the result, points of what stands before it; nothing is known where `main` begins
  pub record InOrder (a : Annotation) : Type 0 where
    pub entries : (g : ℕ) (f : Routine) → slice_get r.functions g ≡ Some f → AllBelow (copies f) (a.entry g)
    pub exits : (g : ℕ) (f : Routine) → slice_get r.functions g ≡ Some f → AllBelow (suc (copies f)) (a.exit g)
    pub points : (g : ℕ) (f : Routine) (p : ℕ) → slice_get r.functions g ≡ Some f → AllBelow (spare f (temporaries g)) (a.before g p)
    pub main : (fact : Fact) → a.entry r.main fact ≡ false

  -- of a function: nothing is dropped on an edge, where another is called, where it begins and where it ends
  pub record Settled (a : Annotation) (g : ℕ) (f : Routine) : Type 0 where
    pub along : (p : ℕ) (edge : Edge) (fact : Fact) → NodeEdge f p edge → IsTrue (a.before g edge.to fact) → Crossed a.exit (spare f (temporaries g)) edge.effect (a.before g p) fact
    pub calls : (p : ℕ) (edge : Edge) (x : Option ℕ) (h : ℕ) (arguments : List ℕ) (fact : Fact) → NodeEdge f p edge → edge.effect ≡ called x h arguments → IsTrue (a.entry h fact) → Derivable (kept f (temporaries g)) (a.before g p) (fact_with (λ v. get_or arguments v 0) fact)
    pub entry : (fact : Fact) → IsTrue (a.before g 0 fact) → Derivable (kept f (temporaries g)) (a.entry g) fact
    pub exit : (p : ℕ) (node : Node) (given : Option ℕ) (fact : Fact) → slice_get (routine_nodes f) p ≡ Some node → node.returns ≡ Some given → IsTrue (a.exit g fact) →
        Derivable (kept f (temporaries g)) (λ q. a.before g p q || returned_facts f (temporaries g) given q) (fact_with (renamed (copies f) (spare f (temporaries g))) fact)

  -- effects speak of the function's own variables
  abbrev pub Own : (g : ℕ) (f : Routine) → Type 0
  Own g f = (p : ℕ) (edge : Edge) → NodeEdge f p edge → EffectBelow (spare f (temporaries g)) edge.effect

  -- its edges lead to its points, and it has few variables
  pub record Owned (g : ℕ) (f : Routine) : Type 0 where
    pub own : Own g f
    pub leads : (p : ℕ) (edge : Edge) → NodeEdge f p edge → edge.to < length (routine_nodes f)
    pub few : variables f (temporaries g) ≤ most_variables
    pub hidden : copies f ≤ spare f (temporaries g)

  -- a family in order, each of whose functions is settled, is consistent
  abbrev pub SettledConsistent : Type 0
  SettledConsistent = (a : Annotation) → InOrder a → ((g : ℕ) (f : Routine) → slice_get r.functions g ≡ Some f → Own g f × Settled a g f) → Consistent r temporaries a

  -- what a search keeps: over the variables of points, a consistent annotation inside a family has nothing that is dropped by an edge of
  -- the family, or where a function begins
  pub record KeepsInside (b a : Annotation) (g : ℕ) (f : Routine) : Type 0 where
    pub along : (p : ℕ) (edge : Edge) (fact : Fact) → NodeEdge f p edge → IsTrue (b.before g edge.to fact) → Crossed a.exit (spare f (temporaries g)) edge.effect (b.before g p) fact
    pub calls : (p : ℕ) (edge : Edge) (x : Option ℕ) (h : ℕ) (arguments : List ℕ) (fact : Fact) → NodeEdge f p edge → edge.effect ≡ called x h arguments → is_below (spare f (temporaries g)) (fact_with (λ v. get_or arguments v 0) fact) → IsTrue (b.entry h fact) →
        Derivable (kept f (temporaries g)) (a.before g p) (fact_with (λ v. get_or arguments v 0) fact)
    pub entry : (fact : Fact) → IsTrue (b.before g 0 fact) → Derivable (kept f (temporaries g)) (a.entry g) fact
    pub exit : (p : ℕ) (node : Node) (given : Option ℕ) (fact : Fact) → slice_get (routine_nodes f) p ≡ Some node → node.returns ≡ Some given → AllBelow (kept f (temporaries g)) (returned_facts f (temporaries g) given) → IsTrue (b.exit g fact) →
        Derivable (kept f (temporaries g)) (λ q. a.before g p q || returned_facts f (temporaries g) given q) (fact_with (renamed (copies f) (spare f (temporaries g))) fact)

  abbrev pub SearchKeeps : Type 0
  SearchKeeps = (b a : Annotation) → Consistent r temporaries b → Inside b a → InOrder a → (g : ℕ) (f : Routine) → slice_get r.functions g ≡ Some f → copies f ≤ spare f (temporaries g) → Own g f → KeepsInside b a g f
