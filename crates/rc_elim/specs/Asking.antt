-- What nodes ask, over sets of facts.
use Rattle.std.specs.Prelude.{ℕ, Bool, false, ◌||◌, IsTrue, List, [], ◌∷◌, IfSome, is_some}
use Rattle.rc_rlang.specs.RegionFlow.{Node}
use Rattle.rc_annotations.specs.Annotations.{asked_by}
use Rattle.rc_facts.specs.Facts.{Known, holds, is_over}
use Rattle.rc_graph.specs.Nodes.{nodes_of}
use Rattle.rc_graph.specs.declared.graph.Graph.{Graph}
use Rattle.rc_elim.specs.Masks.{is_proven}

-- what a node asks is on variables below n
abbrev pub AsksOver : (n : ℕ) → Node → Type 0
AsksOver n node = IfSome (asked_by node) (λ fact. IsTrue (is_over n fact))

-- one of the nodes asks for a fact
abbrev pub ask_anything : List Node → Bool
ask_anything [] = false
ask_anything (node ∷ nodes) = is_some (asked_by node) || ask_anything nodes

-- one of the functions with these graphs has such a node
abbrev pub asks_in_any : List Graph → Bool
asks_in_any [] = false
asks_in_any (graph ∷ graphs) = ask_anything (nodes_of graph.nodes.items) || asks_in_any graphs

-- of each node a bit that says whether the facts before it have what it asks
abbrev pub bits_of : List Node → List Known → List Bool
bits_of [] sets = []
bits_of (node ∷ nodes) [] = []
bits_of (node ∷ nodes) (facts ∷ sets) = is_proven node (holds facts) ∷ bits_of nodes sets
