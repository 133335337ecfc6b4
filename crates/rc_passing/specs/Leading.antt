-- Sets that are led over the edges of a node: those of heads keep what the edges carry to them, and the working set is what is carried to the
-- next point.
use Rattle.std.specs.Prelude.{◌≡◌, ◌<◌, ◌↔◌, ℕ, suc, List, Bool, true, false, IsTrue, length, get_or, slice_get, Some}
use Rattle.rc_facts.specs.declared.fact.Fact.{Fact}
use Rattle.rc_facts.specs.Facts.{Known, holds}
use Rattle.rc_rlang.specs.RegionFlow.{Edge, Node}
use Rattle.rc_facts.specs.Flow.{no_set, set_at}
use Rattle.rc_edges.specs.Edges.{Crossed, EffectBelow}
use Rattle.rc_crossing.specs.Fitting.{CallFits}

-- a set may be led over the edge: it speaks of variables before the scratch variable, calls what there is, and leads to a point
pub record MayFollow (heads : List Bool) (exits : List Known) (spare : ℕ) (edge : Edge) (sets : List Known) : Type 0 where
  pub call : CallFits exits edge.effect
  pub own : EffectBelow spare edge.effect
  pub there : edge.to < length sets
  pub within : edge.to < length heads
  pub variables : get_or heads edge.to true ≡ true → (get_or sets edge.to no_set).variables ≡ suc spare

abbrev pub MayLead : (heads : List Bool) (exits : List Known) (spare : ℕ) → Node → (sets : List Known) → Type 0
MayLead heads exits spare node sets = (k : ℕ) (edge : Edge) → slice_get node.edges k ≡ Some edge → MayFollow heads exits spare edge sets

-- the head to which an edge leads keeps what the edge carries
abbrev pub EdgeLeads : (heads : List Bool) (exits : List Known) (spare : ℕ) → Edge → (known : Known) → (p : ℕ) → Fact → Type 0
EdgeLeads heads exits spare edge known p fact = edge.to ≡ p → get_or heads edge.to true ≡ true → Crossed (set_at exits) spare edge.effect (holds known) fact

-- so do those of all edges of a node
abbrev pub NodeLeads : (heads : List Bool) (exits : List Known) (spare : ℕ) → Node → (known : Known) → (p : ℕ) → Fact → Type 0
NodeLeads heads exits spare node known p fact = (k : ℕ) (edge : Edge) → slice_get node.edges k ≡ Some edge → EdgeLeads heads exits spare edge known p fact

-- a set has what the edge carries
abbrev pub IsLed : (exits : List Known) (spare : ℕ) → Edge → (known after : Known) → Type 0
IsLed exits spare edge known after = (fact : Fact) → IsTrue (holds after fact) ↔ Crossed (set_at exits) spare edge.effect (holds known) fact

-- what an edge carries to a point that is no head
abbrev pub LeadsOn : (heads : List Bool) (exits : List Known) (spare : ℕ) → Node → (known after : Known) → Type 0
LeadsOn heads exits spare node known after = (k : ℕ) (edge : Edge) → slice_get node.edges k ≡ Some edge → get_or heads edge.to true ≡ false → IsLed exits spare edge known after

-- one edge of a node at most leads to a point that is no head
abbrev pub GoesOnAlone : (heads : List Bool) → Node → Type 0
GoesOnAlone heads node = (k j : ℕ) (one other : Edge) → slice_get node.edges k ≡ Some one → slice_get node.edges j ≡ Some other → get_or heads one.to true ≡ false → get_or heads other.to true ≡ false → one ≡ other
