-- The nodes that delete are those of the flow. Where a function's text stands is told by `Flow` alone: its points are that of its body, what
-- is left of a point behind its first item, and where an item leads.
use Rattle.std.specs.Prelude.{◌≡◌, ℕ, List, [], ◌∷◌, Option, Some, None, slice_get, IsSome}
use Rattle.std.specs.List.{AllByRecursion as Every}
use Rattle.rc_core.specs.Programs.{declare, assign, evaluate, delete, branch, return, Function, Program}
use Rattle.rc_core.specs.Flow.{Item, statement, condition, round_end, Point, Leads}
use Rattle.rc_rlang.specs.Points.{points}
use Rattle.rc_source_lists.specs.DeletingNodes.{Node, deleting_call, optional_call, function_nodes}

pub data Along (f : Function) : Point → Type 0 where
  at_body : Along f (statement f.body ∷ [])
  left_over : (item : Item) (rest : Point) → Along f (item ∷ rest) → Along f rest
  led_to : (item : Item) (rest next : Point) → Along f (item ∷ rest) → Leads item rest next → Along f next

-- how many points of the item stand before that at which it deletes, if it does
abbrev pub deletes_at : Program → Item → Option ℕ
deletes_at program (statement (declare line x value)) = optional_call program value
deletes_at program (statement (assign line x e)) = deleting_call program e
deletes_at program (statement (evaluate line e)) = deleting_call program e
deletes_at program (statement (delete line e)) = Some (points e)
deletes_at program (statement (branch line test a b)) = deleting_call program test
deletes_at program (statement (return line value)) = optional_call program value
deletes_at program (statement s) = None
deletes_at program (condition loop) = optional_call program loop.test
deletes_at program (round_end loop) = None

pub record IsNode (ns : List Node) (i : Item) (p : Point) : Type 0 where
  pub number : ℕ
  pub node : Node
  pub there : slice_get ns number ≡ Some node
  pub item : node.item ≡ i
  pub rest : node.rest ≡ p

-- each node stands in its function
pub record Stands (f : Function) (n : Node) : Type 0 where
  pub function : n.function ≡ f
  pub along : Along f (n.item ∷ n.rest)

abbrev pub NodesStand : Type 0
NodesStand = (program : Program) (f : Function) (here : ℕ) → Every (Stands f) (function_nodes program f here)

-- and each item of the function that deletes is among them
abbrev pub NodesAreAll : Type 0
NodesAreAll = (program : Program) (f : Function) (here : ℕ) (item : Item) (rest : Point) → Along f (item ∷ rest) → IsSome (deletes_at program item) → IsNode (function_nodes program f here) item rest
