-- The points of a program in the region language. Each operation is one, and so is each branch, loop, break, continue, return
-- and entry of a function. An expression leaves its value in a temporary, by one operation more than its operands'.
use Rattle.std.specs.Prelude.{ℕ, ◌+◌, ◌*◌, List, map, sum, Option, Some, None}
use Rattle.rc_core.specs.declared.ty.NumberType.{NumberType}
use Rattle.rc_core.specs.declared.ty.NumberType.TheVariants.{Int, Unsigned, Char}
use Rattle.rc_core.specs.declared.operators.UnaryOperator.{UnaryOperator}
use Rattle.rc_core.specs.declared.operators.UnaryOperator.TheVariants.{Negate, Plus, Complement}
use Rattle.rc_core.specs.declared.stmt.Change.{Change}
use Rattle.rc_core.specs.declared.stmt.Change.TheVariants.{Compute, Step}
use Rattle.rc_core.specs.Arithmetic.{type_of}
use Rattle.rc_core.specs.Types.{Ty, struct}
use Rattle.rc_core.specs.Layout.{size}
use Rattle.rc_core.specs.Programs.{Expr, constant, null, string, local, read, address, step, step_from, unary, binary, convert, not_zero, and, or, choose, is_null, same, call, new_region, new_subregion, region_of, allocate, allocate_array, putchar, getchar, Arguments, none, more, Place, global, pointed, indexed, Path, here, field, element, Stmt, block, declare, assign, store, update, copy, evaluate, delete, branch, while, repeat, for, break, continue, return, Stmts, done, then, Struct, Function, Program}

-- unary `+` is no operation
abbrev pub operator_points : UnaryOperator → ℕ
operator_points Negate = 1
operator_points Plus = 0
operator_points Complement = 1

abbrev mutual
  pub points : Expr → ℕ
  points (constant line s n) = 1
  points (null line) = 1
  points (string line k) = 1
  points (local line x) = 1
  points (read line place) = place_points place + 1
  points (address line g) = 1
  points (step line direction p i) = points p + points i + 1
  points (step_from line i p) = points i + points p + 1
  points (unary line operator s e) = points e + operator_points operator
  points (binary line operator s a b) = points a + points b + 1
  points (convert line from to e) = points e + 1
  points (not_zero line e) = points e + 1
  -- a branch, and one operation on each way: the truth of the right side, or the value that the left side decides
  points (and line a b) = points a + points b + 3
  points (or line a b) = points a + points b + 3
  points (choose line test a b) = points test + points a + points b + 1
  points (is_null line wanted e) = points e + 1
  points (same line wanted a b) = points a + points b + 1
  points (call line f arguments) = arguments_points arguments + 1
  points (new_region line) = 1
  points (new_subregion line r) = points r + 1
  points (region_of line p) = points p + 1
  points (allocate line r ty) = points r + 1
  points (allocate_array line r n ty) = points r + points n + 1
  points (putchar line e) = points e + 1
  points (getchar line) = 1

  pub arguments_points : Arguments → ℕ
  arguments_points none = 0
  arguments_points (more e rest) = points e + arguments_points rest

  pub place_points : Place → ℕ
  place_points (global g path) = 1 + path_points path
  place_points (pointed p path) = points p + path_points path
  place_points (indexed p i path) = points p + points i + path_points path

  pub path_points : Path → ℕ
  path_points here = 0
  path_points (field s f rest) = path_points rest
  path_points (element s f i rest) = points i + path_points rest

-- a condition ends in a branch: `!` exchanges its ways, and a test for null is a branch on null
abbrev pub condition_points : Expr → ℕ
condition_points (not_zero line e) = condition_points e
condition_points (is_null line wanted e) = points e + 1
condition_points e = points e + 1

abbrev pub optional_points : (Expr → ℕ) → Option Expr → ℕ
optional_points count None = 0
optional_points count (Some e) = count e

-- a conversion that changes the type is an operation
abbrev pub conversion_points : (from to : NumberType) → ℕ
conversion_points Int Int = 0
conversion_points Unsigned Unsigned = 0
conversion_points Char Char = 0
conversion_points from to = 1

-- the old value is loaded, converted, changed, converted back, and stored
abbrev pub change_points : Change → ℕ
change_points (Compute from operator s) = 3 + conversion_points from (type_of s) + conversion_points (type_of s) from
change_points (Step direction) = 3

module _ (structs : List Struct) where
  abbrev mutual
    pub statement_points : Stmt → ℕ
    statement_points (block body) = body_points body
    statement_points (declare line x None) = 1
    statement_points (declare line x (Some e)) = points e + 1
    statement_points (assign line x e) = points e + 1
    statement_points (store line place e) = place_points place + points e + 1
    statement_points (update line place change e) = place_points place + points e + change_points change
    -- each cell is loaded and stored
    statement_points (copy line s left right) = place_points left + place_points right + 2 * size structs (struct s)
    statement_points (evaluate line e) = points e
    statement_points (delete line e) = points e + 1
    statement_points (branch line test a b) = condition_points test + statement_points a + statement_points b
    statement_points (while line test body) = 1 + condition_points test + statement_points body
    statement_points (repeat line body test) = 1 + statement_points body + condition_points test
    statement_points (for line first test third body) =
        statement_points first + 1 + optional_points condition_points test + statement_points body + statement_points third
    statement_points (break line) = 1
    statement_points (continue line) = 1
    statement_points (return line value) = optional_points points value + 1

    pub body_points : Stmts → ℕ
    body_points done = 0
    body_points (then s rest) = statement_points s + body_points rest

-- behind a body a result is zero or null, and is returned
abbrev pub end_points : Option Ty → ℕ
end_points None = 1
end_points (Some ty) = 2

abbrev pub function_points : List Struct → Function → ℕ
function_points structs f = 1 + statement_points structs f.body + end_points f.result

abbrev pub program_points : Program → ℕ
program_points p = sum (map (function_points p.structs) p.functions)
