-- What the nodes in code stand for in definitions, how the region variables of a function are numbered in code, and over what its nodes
-- are made.
use Rattle.std.specs.Prelude.{◌≡◌, ℕ, zero, suc, ◌+◌, List, [], ◌∷◌, map, count_by, length, slice_get, Some}
use Rattle.rc_core.specs.Types.{Ty}
use Rattle.rc_core.specs.Programs.{Struct}
use Rattle.rc_core.specs.Laid.{AreLaidOut}
use Rattle.rc_rlang.specs.RegionCode.{Rlang, Routine}
use Rattle.rc_rlang.specs.RegionFlow.{Node, Effect, Ends, nothing, nulled, moved, fixed, beside, made, under, loaded, looked_at, stored, present, absent, called, entered, going, forking, returning, one_of, is_regional, copies, result_variable, routine_nodes}
use Rattle.rc_graph.specs.declared.node.Entry.{Entry}
use Rattle.rc_graph.specs.declared.node.Effect.{Effect as CodeEffect}
use Rattle.rc_graph.specs.declared.node.Effect.TheVariants.{Nothing, Nulled, Moved, Fixed, Beside, Made, Under, Loaded, LookedAt, Stored, Present, Absent, Called, Entered}
use Rattle.rc_graph.specs.declared.node.Node.{Node as CodeNode}
use Rattle.rc_graph.specs.declared.node.Node.TheVariants.{Go, Fork, Return}
use Rattle.rc_rlang.specs.RegionVariables.{routine_temporaries}
use Rattle.rc_graph.specs.declared.graph.Graph.{Graph}
use Rattle.rc_graph.specs.Heads.{AreHeads}
use Rattle.rc_graph.specs.declared.names.Names.{Names}
use Rattle.rc_graph.specs.declared.output.Context.{Context}
use Rattle.rc_graph.specs.declared.output.Ways.{Ways}

abbrev pub entry_of : Entry → ℕ × ℕ
entry_of e = (e.local, e.copy)

abbrev pub effect_of : CodeEffect → Effect
effect_of Nothing = nothing
effect_of (Nulled x) = nulled x
effect_of (Moved x y) = moved x y
effect_of (Fixed x) = fixed x
effect_of (Beside x y) = beside x y
effect_of (Made x) = made x
effect_of (Under x y) = under x y
effect_of (Loaded x y note) = loaded x y note
effect_of (LookedAt y) = looked_at y
effect_of (Stored z y note) = stored z y note
effect_of (Present y) = present y
effect_of (Absent y) = absent y
effect_of (Called result function arguments) = called result function arguments.items
effect_of (Entered entries) = entered (map entry_of entries.items)

abbrev pub node_of : CodeNode → Node
node_of (Go effect to) = going (effect_of effect) to
node_of (Fork left to_left right to_right) = forking (effect_of left) (effect_of right) to_left to_right
node_of (Return given) = returning given

abbrev pub nodes_of : List CodeNode → List Node
nodes_of nodes = map node_of nodes

-- how many before each are regions or pointers, from a number on
abbrev pub ranks_from : ℕ → List Ty → List ℕ
ranks_from k [] = []
ranks_from k (ty ∷ tys) = k ∷ ranks_from (one_of (is_regional ty) (suc k) k) tys

-- the numbers of a function's variables
pub record Numbers (f : Routine) (n : Names) : Type 0 where
  pub hidden : n.copies ≡ copies f
  pub ranks : n.ranks.items ≡ ranks_from 0 f.locals
  pub all : n.all ≡ count_by is_regional f.locals
  pub first : n.first ≡ copies f + count_by is_regional f.locals

-- the nodes are made for a function of a program with these structs
pub record Serves (c : Context) (structs : List Struct) (f : Routine) : Type 0 where
  pub laid : AreLaidOut structs c.layouts.now
  pub numbers : Numbers f c.names.now

abbrev pub ends_of : Ways → Ends
ends_of w = record { next = w.next; broken = w.broken; continued = w.continued }

-- so many points that do nothing, one after another
abbrev pub idle_nodes : ℕ → (here : ℕ) → List Node
idle_nodes zero here = []
idle_nodes (suc n) here = going nothing (suc here) ∷ idle_nodes n (suc here)

-- the graph of a function
pub record IsGraph (f : Routine) (g : Graph) : Type 0 where
  pub nodes : nodes_of g.nodes.items ≡ routine_nodes f
  pub hidden : g.copies ≡ copies f
  pub result : g.result ≡ result_variable f (routine_temporaries f)
  pub heads : AreHeads (nodes_of g.nodes.items) g.heads.items

-- the graphs of the functions before k
pub record AreGraphs (r : Rlang) (k : ℕ) (graphs : List Graph) : Type 0 where
  pub long : length graphs ≡ k
  pub each : (g : ℕ) (f : Routine) (graph : Graph) → slice_get r.functions g ≡ Some f → slice_get graphs g ≡ Some graph → IsGraph f graph
