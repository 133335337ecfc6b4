-- The region variables of a function in the region language: a copy of each region or pointer parameter, the region and
-- pointer locals, one for each temporary, one for a result and one more. An expression whose value comes into temporary h uses
-- h and greater ones; what is counted is one more than the greatest.
use Rattle.std.specs.Prelude.{ℕ, suc, ◌+◌, ◌*◌, max, take, drop, count_by, Option, Some, None}
use Rattle.rc_core.specs.Types.{Ty}
use Rattle.rc_core.specs.Typing.{is_reference}
use Rattle.rc_core.specs.Programs.{Expr, constant, null, string, local, read, address, step, step_from, unary, binary, convert, not_zero, and, or, choose, is_null, same, call, new_region, new_subregion, region_of, allocate, allocate_array, putchar, getchar, Arguments, none, more, Place, global, pointed, indexed, Path, here, field, element, Stmt, block, declare, assign, store, update, copy, evaluate, delete, branch, while, repeat, for, break, continue, return, Stmts, done, then, Function}

-- the temporary behind those of a place that begins at h: the pointer's, and one for each index
abbrev pub path_next : Path → ℕ → ℕ
path_next here h = h
path_next (field s f rest) h = path_next rest h
path_next (element s f i rest) h = path_next rest (suc h)

abbrev pub place_next : Place → ℕ → ℕ
place_next (global g path) h = path_next path (suc h)
place_next (pointed p path) h = path_next path (suc h)
place_next (indexed p i path) h = path_next path (suc (suc h))

abbrev mutual
  pub temporaries : Expr → (h : ℕ) → ℕ
  temporaries (constant line s n) h = suc h
  temporaries (null line) h = suc h
  temporaries (string line k) h = suc h
  temporaries (local line x) h = suc h
  temporaries (read line place) h = place_temporaries place h
  temporaries (address line g) h = suc h
  temporaries (step line direction p i) h = max (temporaries p h) (temporaries i (suc h))
  temporaries (step_from line i p) h = max (temporaries i h) (temporaries p (suc h))
  temporaries (unary line operator s e) h = temporaries e h
  temporaries (binary line operator s a b) h = max (temporaries a h) (temporaries b (suc h))
  temporaries (convert line from to e) h = temporaries e h
  temporaries (not_zero line e) h = temporaries e h
  temporaries (and line a b) h = max (temporaries a h) (temporaries b h)
  temporaries (or line a b) h = max (temporaries a h) (temporaries b h)
  temporaries (choose line test a b) h = max (temporaries test h) (max (temporaries a h) (temporaries b h))
  temporaries (is_null line wanted e) h = temporaries e h
  temporaries (same line wanted a b) h = max (temporaries a h) (temporaries b (suc h))
  temporaries (call line f arguments) h = max (suc h) (arguments_temporaries arguments h)
  temporaries (new_region line) h = suc h
  temporaries (new_subregion line r) h = temporaries r h
  temporaries (region_of line p) h = temporaries p h
  temporaries (allocate line r ty) h = temporaries r h
  temporaries (allocate_array line r n ty) h = max (temporaries r h) (temporaries n (suc h))
  temporaries (putchar line e) h = temporaries e h
  temporaries (getchar line) h = suc h

  pub arguments_temporaries : Arguments → (h : ℕ) → ℕ
  arguments_temporaries none h = 0
  arguments_temporaries (more e rest) h = max (temporaries e h) (arguments_temporaries rest (suc h))

  pub place_temporaries : Place → (h : ℕ) → ℕ
  place_temporaries (global g path) h = max (suc h) (path_temporaries path (suc h))
  place_temporaries (pointed p path) h = max (temporaries p h) (path_temporaries path (suc h))
  place_temporaries (indexed p i path) h = max (temporaries p h) (max (temporaries i (suc h)) (path_temporaries path (suc (suc h))))

  pub path_temporaries : Path → (h : ℕ) → ℕ
  path_temporaries here h = 0
  path_temporaries (field s f rest) h = path_temporaries rest h
  path_temporaries (element s f i rest) h = max (temporaries i h) (path_temporaries rest (suc h))

abbrev pub optional_temporaries : Option Expr → ℕ
optional_temporaries None = 0
optional_temporaries (Some e) = temporaries e 0

abbrev mutual
  pub statement_temporaries : Stmt → ℕ
  statement_temporaries (block body) = body_temporaries body
  statement_temporaries (declare line x value) = optional_temporaries value
  statement_temporaries (assign line x e) = temporaries e 0
  statement_temporaries (store line place e) = max (place_temporaries place 0) (temporaries e (place_next place 0))
  -- the old value comes behind the new operand
  statement_temporaries (update line place change e) =
      max (place_temporaries place 0) (max (temporaries e (place_next place 0)) (suc (suc (place_next place 0))))
  -- a cell comes behind both places
  statement_temporaries (copy line s left right) =
      max (place_temporaries left 0) (max (place_temporaries right (place_next left 0)) (suc (place_next right (place_next left 0))))
  statement_temporaries (evaluate line e) = temporaries e 0
  statement_temporaries (delete line e) = temporaries e 0
  statement_temporaries (branch line test a b) = max (temporaries test 0) (max (statement_temporaries a) (statement_temporaries b))
  statement_temporaries (while line test body) = max (temporaries test 0) (statement_temporaries body)
  statement_temporaries (repeat line body test) = max (statement_temporaries body) (temporaries test 0)
  statement_temporaries (for line first test third body) =
      max (statement_temporaries first) (max (optional_temporaries test) (max (statement_temporaries body) (statement_temporaries third)))
  statement_temporaries (break line) = 0
  statement_temporaries (continue line) = 0
  statement_temporaries (return line value) = optional_temporaries value

  pub body_temporaries : Stmts → ℕ
  body_temporaries done = 0
  body_temporaries (then s rest) = max (statement_temporaries s) (body_temporaries rest)

-- behind a body a result is zero or null in temporary 0
abbrev pub end_temporaries : Option Ty → ℕ
end_temporaries None = 0
end_temporaries (Some ty) = 1

abbrev pub function_temporaries : Function → ℕ
function_temporaries f = max (statement_temporaries f.body) (end_temporaries f.result)

abbrev pub region_variables : Function → ℕ
region_variables f =
    2 * count_by is_reference (take f.parameters f.locals) + count_by is_reference (drop f.parameters f.locals) + function_temporaries f + 2
