-- How much is left to do until a turn is taken, as a number, and that a step leaves less. An expression, a place or a statement
-- counts two and its parts, what has come out one, and a frame one and what is left to do after its part.
use Rattle.std.specs.Prelude.{◌≡◌, ◌<◌, ◌+◌, ◌⊎◌, ℕ, List, [], ◌∷◌, Option, Some, None}
use Rattle.rc_core.specs.Programs.{Expr, constant, null, string, local, read, address, step, step_from, unary, binary, convert, not_zero, and, or, choose, is_null, same, call, new_region, new_subregion, region_of, allocate, allocate_array, putchar, getchar, Arguments, none, more, Place, global, pointed, indexed, Path, here, field, element, Stmt, block, declare, assign, store, update, copy, evaluate, delete, branch, while, repeat, for, break, continue, return, Stmts, done, then}
use Rattle.rc_core.specs.Runs.{Run, Go, Stopped}
use Rattle.rc_memory.specs.KeptWorld.{KeptWorld}
use Rattle.rc_frames.specs.Frames.{Frame, first, second, argument, pointer, index, element as element_frame, load, inside, Stage, placed, sourced, valued, stored, within, tested, bodied, headed, thirded}
use Rattle.rc_nodes.specs.Stepping.{Control, evaluating, executing, going_along, gives, aims, goes, breaks, continues, returns, Doing}
use Rattle.rc_slow.specs.Whole.{Activation, State, Progress, onward, ended}

abbrev mutual
  pub size_of_expr : Expr → ℕ
  size_of_expr (constant line s n) = 2
  size_of_expr (null line) = 2
  size_of_expr (string line k) = 2
  size_of_expr (local line x) = 2
  size_of_expr (read line place) = 2 + size_of_place place
  size_of_expr (address line g) = 2
  size_of_expr (step line direction p i) = 2 + size_of_expr p + size_of_expr i
  size_of_expr (step_from line i p) = 2 + size_of_expr i + size_of_expr p
  size_of_expr (unary line operator s e) = 2 + size_of_expr e
  size_of_expr (binary line operator s a b) = 2 + size_of_expr a + size_of_expr b
  size_of_expr (convert line from to e) = 2 + size_of_expr e
  size_of_expr (not_zero line e) = 2 + size_of_expr e
  size_of_expr (and line a b) = 2 + size_of_expr a + size_of_expr b
  size_of_expr (or line a b) = 2 + size_of_expr a + size_of_expr b
  size_of_expr (choose line test a b) = 2 + size_of_expr test + size_of_expr a + size_of_expr b
  size_of_expr (is_null line wanted e) = 2 + size_of_expr e
  size_of_expr (same line wanted a b) = 2 + size_of_expr a + size_of_expr b
  size_of_expr (call line g arguments) = 2 + size_of_arguments arguments
  size_of_expr (new_region line) = 2
  size_of_expr (new_subregion line r) = 2 + size_of_expr r
  size_of_expr (region_of line p) = 2 + size_of_expr p
  size_of_expr (allocate line r ty) = 2 + size_of_expr r
  size_of_expr (allocate_array line r n ty) = 2 + size_of_expr r + size_of_expr n
  size_of_expr (putchar line e) = 2 + size_of_expr e
  size_of_expr (getchar line) = 2

  pub size_of_arguments : Arguments → ℕ
  size_of_arguments none = 0
  size_of_arguments (more e rest) = size_of_expr e + size_of_arguments rest

  pub size_of_place : Place → ℕ
  size_of_place (global g path) = 2 + size_of_path path
  size_of_place (pointed p path) = 2 + size_of_expr p + size_of_path path
  size_of_place (indexed p i path) = 2 + size_of_expr p + size_of_expr i + size_of_path path

  pub size_of_path : Path → ℕ
  size_of_path here = 0
  size_of_path (field s g rest) = 1 + size_of_path rest
  size_of_path (element s g i rest) = 1 + size_of_expr i + size_of_path rest

abbrev pub size_of_part : Option Expr → ℕ
size_of_part None = 0
size_of_part (Some e) = size_of_expr e

abbrev mutual
  pub size_of_stmt : Stmt → ℕ
  size_of_stmt (block body) = 2 + size_of_stmts body
  size_of_stmt (declare line x e) = 2 + size_of_part e
  size_of_stmt (assign line x e) = 2 + size_of_expr e
  size_of_stmt (store line place e) = 2 + size_of_place place + size_of_expr e
  size_of_stmt (update line place change e) = 2 + size_of_place place + size_of_expr e
  size_of_stmt (copy line s left right) = 2 + size_of_place left + size_of_place right
  size_of_stmt (evaluate line e) = 2 + size_of_expr e
  size_of_stmt (delete line e) = 2 + size_of_expr e
  size_of_stmt (branch line test a b) = 2 + size_of_expr test + size_of_stmt a + size_of_stmt b
  size_of_stmt (while line test body) = 2 + size_of_expr test + size_of_stmt body
  size_of_stmt (repeat line body test) = 2 + size_of_stmt body + size_of_expr test
  size_of_stmt (for line head test third body) = 2 + size_of_stmt head + size_of_part test + size_of_stmt body + size_of_stmt third
  size_of_stmt (break line) = 2
  size_of_stmt (continue line) = 2
  size_of_stmt (return line e) = 2 + size_of_part e

  pub size_of_stmts : Stmts → ℕ
  size_of_stmts done = 0
  size_of_stmts (then s rest) = size_of_stmt s + size_of_stmts rest

-- what is left of an expression after its first part
abbrev pub left_of_expr : Expr → ℕ
left_of_expr (step line direction p i) = size_of_expr i
left_of_expr (step_from line i p) = size_of_expr p
left_of_expr (binary line operator s a b) = size_of_expr b
left_of_expr (and line a b) = size_of_expr b
left_of_expr (or line a b) = size_of_expr b
left_of_expr (choose line test a b) = size_of_expr a + size_of_expr b
left_of_expr (same line wanted a b) = size_of_expr b
left_of_expr (allocate_array line r n ty) = size_of_expr n
left_of_expr _ = 0

-- what is left of a place after its pointer, and after its index
abbrev pub left_of_pointer : Place → ℕ
left_of_pointer (global g path) = 0
left_of_pointer (pointed p path) = 1 + size_of_path path
left_of_pointer (indexed p i path) = 1 + size_of_expr i + size_of_path path

abbrev pub left_of_index : Place → ℕ
left_of_index (indexed p i path) = 1 + size_of_path path
left_of_index _ = 0

-- what is left of a statement after its first place, after its value, after its condition, after its body, and after
-- what a `for` does first; a round ends with its turn
abbrev pub left_of_place : Stmt → ℕ
left_of_place (store line place e) = size_of_expr e
left_of_place (update line place change e) = size_of_expr e
left_of_place (copy line s left right) = size_of_place right
left_of_place _ = 0

abbrev pub left_of_value : Stmt → ℕ
left_of_value (branch line test a b) = size_of_stmt a + size_of_stmt b
left_of_value _ = 0

abbrev pub left_of_test : Stmt → ℕ
left_of_test (while line test body) = size_of_stmt body
left_of_test (for line head test third body) = size_of_stmt body + size_of_stmt third
left_of_test _ = 0

abbrev pub left_of_body : Stmt → ℕ
left_of_body (repeat line body test) = size_of_expr test
left_of_body (for line head test third body) = size_of_stmt third
left_of_body _ = 0

abbrev pub left_of_head : Stmt → ℕ
left_of_head (for line head test third body) = size_of_part test + size_of_stmt body + size_of_stmt third
left_of_head _ = 0

abbrev pub left_inside : Stmt → Stage → ℕ
left_inside s placed = left_of_place s
left_inside s (sourced t) = 0
left_inside s valued = left_of_value s
left_inside s (stored t) = 0
left_inside s (within rest) = size_of_stmts rest
left_inside s (tested n) = left_of_test s
left_inside s (bodied n) = left_of_body s
left_inside s headed = left_of_head s
left_inside s (thirded n) = 0

-- what is left after the part for which a frame waits
abbrev pub left_behind : Frame → ℕ
left_behind (first e) = left_of_expr e
left_behind (second e v) = 0
left_behind (argument g vs rest) = size_of_arguments rest
left_behind (pointer place) = left_of_pointer place
left_behind (index place v) = left_of_index place
left_behind (element_frame t count stride rest) = 1 + size_of_path rest
left_behind (load line) = 0
left_behind (inside s stage) = left_inside s stage

abbrev pub size_of_frames : List Frame → ℕ
size_of_frames [] = 0
size_of_frames (frame ∷ fs) = 1 + left_behind frame + size_of_frames fs

abbrev pub size_of_control : Control → ℕ
size_of_control (evaluating e) = size_of_expr e
size_of_control (executing s) = size_of_stmt s
size_of_control (going_along t path) = 2 + size_of_path path
size_of_control (gives v) = 1
size_of_control (aims t) = 1
size_of_control goes = 1
size_of_control breaks = 1
size_of_control continues = 1
size_of_control (returns v) = 1

abbrev pub size_of_doing : Doing → ℕ
size_of_doing d = size_of_control d.control + size_of_frames d.frames

-- of the calls that wait
abbrev pub size_of_calls : List Activation → ℕ
size_of_calls [] = 0
size_of_calls (a ∷ below) = 1 + size_of_frames a.frames + size_of_calls below

abbrev pub size_of : State → ℕ
size_of s = size_of_control s.control + size_of_frames s.now.frames + size_of_calls s.below

-- where a run leads on, fewer turns are left than before, or as many and less than so much to do
abbrev pub LeadsBelow : (size : ℕ) → KeptWorld → Run KeptWorld Progress → Type 0
LeadsBelow n w (Go (onward s) w1) = (w1.turns < w.turns) ⊎ ((w1.turns ≡ w.turns) × (size_of s < n))
LeadsBelow n w (Go (ended v) w1) = Unit {0}
LeadsBelow n w (Stopped stop w1) = Unit {0}

-- a step from a state leads to less
abbrev pub Falls : State → KeptWorld → Run KeptWorld Progress → Type 0
Falls s w run = LeadsBelow (size_of s) w run
