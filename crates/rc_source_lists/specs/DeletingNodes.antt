-- The nodes of a program that delete: each `delete`, and each node whose expression is a call of a function that deletes, but for
-- conversions of its result. They stand in the order of the text, each with its item and what is left to do behind it, as `Flow` has them,
-- and with the number of the point at which it deletes: that of the deletion, or of the call. Points are counted on the source.
use Rattle.std.specs.Prelude.{ℕ, suc, ◌+◌, Bool, true, false, List, [], ◌∷◌, ◌++◌, Option, Some, None}
use Rattle.rc_core.specs.Programs.{Expr, convert, call, Stmt, block, declare, assign, store, update, copy, evaluate, delete, branch, while, repeat, for, break, continue, return, Stmts, done, then, Function, Program}
use Rattle.rc_core.specs.Execution.{deletes}
use Rattle.rc_core.specs.Flow.{while_loop, for_loop, Item, statement, condition, round_end, Point, statements}
use Rattle.rc_rlang.specs.Points.{points, arguments_points, condition_points, optional_points, statement_points, function_points}

pub record Node : Type 0 where
  pub function : Function
  pub item : Item
  pub rest : Point
  pub point : ℕ

module _ (program : Program) where
  abbrev pub call_if : Bool → (before : ℕ) → Option ℕ
  call_if true before = Some before
  call_if false before = None

  -- how many points stand before the call, if the expression is one of a function that deletes
  abbrev pub deleting_call : Expr → Option ℕ
  deleting_call (call line f arguments) = call_if (deletes program f) (arguments_points arguments)
  deleting_call (convert line from to e) = deleting_call e
  deleting_call e = None

  abbrev pub optional_call : Option Expr → Option ℕ
  optional_call None = None
  optional_call (Some e) = deleting_call e

  module _ (f : Function) where
    -- the node's first point has the number `here`
    abbrev pub node_if : Option ℕ → (here : ℕ) → Item → (rest : Point) → List Node
    node_if None here item rest = []
    node_if (Some before) here item rest = record { function = f; item = item; rest = rest; point = here + before } ∷ []

    abbrev mutual
      pub nodes : Stmt → (here : ℕ) → (rest : Point) → List Node
      nodes (block body) here rest = all_nodes body here rest
      nodes (declare line x value) here rest = node_if (optional_call value) here (statement (declare line x value)) rest
      nodes (assign line x e) here rest = node_if (deleting_call e) here (statement (assign line x e)) rest
      nodes (store line place e) here rest = []
      nodes (update line place change e) here rest = []
      nodes (copy line s left right) here rest = []
      nodes (evaluate line e) here rest = node_if (deleting_call e) here (statement (evaluate line e)) rest
      nodes (delete line e) here rest = node_if (Some (points e)) here (statement (delete line e)) rest
      nodes (branch line test a b) here rest =
          let at_a = here + condition_points test in
          node_if (deleting_call test) here (statement (branch line test a b)) rest
          ++ (nodes a at_a rest ++ nodes b (at_a + statement_points program.structs a) rest)
      nodes (while line test body) here rest =
          let loop = while_loop test body in
          node_if (deleting_call test) (suc here) (condition loop) rest
          ++ nodes body (suc here + condition_points test) (round_end loop ∷ rest)
      nodes (repeat line body test) here rest =
          let loop = while_loop test body in
          nodes body (suc here) (round_end loop ∷ rest)
          ++ node_if (deleting_call test) (suc here + statement_points program.structs body) (condition loop) rest
      nodes (for line first test third body) here rest =
          let loop = for_loop test third body in
          let head = suc (here + statement_points program.structs first) in
          let at_body = head + optional_points condition_points test in
          nodes first here (condition loop ∷ rest)
          ++ (node_if (optional_call test) head (condition loop) rest
          ++ (nodes body at_body (round_end loop ∷ rest) ++ nodes third (at_body + statement_points program.structs body) (condition loop ∷ rest)))
      nodes (break line) here rest = []
      nodes (continue line) here rest = []
      nodes (return line value) here rest = node_if (optional_call value) here (statement (return line value)) rest

      pub all_nodes : Stmts → (here : ℕ) → (rest : Point) → List Node
      all_nodes done here rest = []
      all_nodes (then s more) here rest = nodes s here (statements more rest) ++ all_nodes more (here + statement_points program.structs s) rest

    -- behind a function's entry stands its body, and behind that nothing
    abbrev pub function_nodes : (here : ℕ) → List Node
    function_nodes here = nodes f.body (suc here) []

  abbrev pub functions_nodes : List Function → (here : ℕ) → List Node
  functions_nodes [] here = []
  functions_nodes (f ∷ fs) here = function_nodes f here ++ functions_nodes fs (here + function_points program.structs f)

  abbrev pub deleting_nodes : List Node
  deleting_nodes = functions_nodes program.functions 0
