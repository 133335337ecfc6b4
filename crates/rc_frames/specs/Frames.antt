-- What waits while a part of a function runs, as frames, the innermost first; and what is live after each.
use Rattle.std.specs.Prelude.{ℕ, false, List, [], ◌∷◌}
use Rattle.rc_core.specs.Programs.{Expr, Arguments, Place, Path, Stmt, Stmts, block, declare, assign, store, update, copy, evaluate, delete, branch, while, repeat, for, break, continue, return}
use Rattle.rc_core.specs.Heap.{Value}
use Rattle.rc_core.specs.Live.{Ways, before, before_all, then_live, unless_set, either, while_body, repeat_body, repeat_head, for_third, for_body, at_end}
use Rattle.rc_core.specs.Runs.{Target}

-- how far a statement has come; a loop knows how many more rounds it may begin
pub data Stage : Type 0 where
  placed : Stage
  sourced : Target → Stage
  valued : Stage
  stored : Target → Stage
  within : Stmts → Stage
  tested : ℕ → Stage
  bodied : ℕ → Stage
  headed : Stage
  thirded : ℕ → Stage

pub data Frame : Type 0 where
  -- an expression waits for its first part, and for its second
  first : Expr → Frame
  second : Expr → Value → Frame
  -- a call waits for an argument, after those with these values and before these
  argument : (function : ℕ) → List Value → Arguments → Frame
  -- a place waits for its pointer, for its index, and for the index of an array field
  pointer : Place → Frame
  index : Place → Value → Frame
  element : Target → (count stride : ℕ) → Path → Frame
  -- an expression waits for the place that it reads
  load : (line : ℕ) → Frame
  inside : Stmt → Stage → Frame

-- what is live where the value comes out for which a statement waits, from what is live after it
abbrev pub behind_value : Stmt → Ways → Ways
behind_value (declare line x value) k = then_live (λ y. unless_set x y (k.next y)) k
behind_value (assign line x e) k = then_live (λ y. unless_set x y (k.next y)) k
behind_value (branch line test a b) k = then_live (either (before a k) (before b k)) k
behind_value (return line value) k = then_live (λ _. false) k
behind_value (block body) k = k
behind_value (store line place e) k = k
behind_value (update line place change e) k = k
behind_value (copy line s left right) k = k
behind_value (evaluate line e) k = k
behind_value (delete line e) k = k
behind_value (while line test body) k = k
behind_value (repeat line body test) k = k
behind_value (for line head test third body) k = k
behind_value (break line) k = k
behind_value (continue line) k = k

abbrev pub behind_test : Stmt → Ways → Ways
behind_test (while line test body) k = then_live (either k.next (before body (while_body test body k))) k
behind_test (repeat line body test) k = then_live (either k.next (repeat_head body test k)) k
behind_test (for line head test third body) k = then_live (either k.next (before body (for_body test third body k))) k
behind_test _ k = k

abbrev pub behind_body : Stmt → Ways → Ways
behind_body (while line test body) k = while_body test body k
behind_body (repeat line body test) k = repeat_body body test k
behind_body (for line head test third body) k = for_body test third body k
behind_body _ k = k

abbrev pub behind_part : Stmt → Ways → Ways
behind_part (for line head test third body) k = for_third test third body k
behind_part _ k = k

abbrev pub through : Stmt → Stage → Ways → Ways
through s placed k = k
through s (sourced t) k = k
through s valued k = behind_value s k
through s (stored t) k = k
through s (within rest) k = then_live (before_all rest k) k
through s (tested n) k = behind_test s k
through s (bodied n) k = behind_body s k
through s headed k = behind_part s k
through s (thirded n) k = behind_part s k

-- what is live where that comes out for which the innermost frame waits
abbrev pub ways : List Frame → Ways
ways [] = at_end
ways (first e ∷ fs) = ways fs
ways (second e v ∷ fs) = ways fs
ways (argument f vs es ∷ fs) = ways fs
ways (pointer p ∷ fs) = ways fs
ways (index p v ∷ fs) = ways fs
ways (element t count stride path ∷ fs) = ways fs
ways (load line ∷ fs) = ways fs
ways (inside s stage ∷ fs) = through s stage (ways fs)
