-- The points of region code: how many places a function has at which a fact may hold. Its entry is one, and so is each step, each act,
-- each branch, loop and jump; at the end of a body the return is one, and a result that is zero or null another. An update has a point
-- for each operation that it is made of, and a struct copy two for each cell. What has no point does nothing: a value that is let go,
-- and the joint of two ways. They are counted in the order of the text, from the entry on, and a program's are its functions', one
-- function after another; so no point needs a number of its own. The translation of a program has as many as `Points` counts on the
-- program.
use Rattle.std.specs.Prelude.{ℕ, ◌+◌, ◌*◌, length, map, sum, Option, Some, None}
use Rattle.rc_rlang.specs.Points.{change_points, end_points}
use Rattle.rc_rlang.specs.RegionCode.{Step, set, fork, Steps, none, more, Act, drop, perform, assign, store, update, move, delete, leave, Test, Code, simple, clear, block, branch, loop, repeat, break, continue, Codes, done, then, Routine, Rlang}

abbrev mutual
  pub step_points : Step → ℕ
  step_points (set line h ty op) = 1
  step_points (fork line h test result a b) = 1 + steps_points a + steps_points b

  pub steps_points : Steps → ℕ
  steps_points none = 0
  steps_points (more s rest) = step_points s + steps_points rest

abbrev pub act_points : Act → ℕ
act_points drop = 0
act_points (perform line f tys) = 1
act_points (assign line x ty) = 1
act_points (store line a) = 1
act_points (update line a change ty) = change_points change
act_points (move line cells left right) = 2 * length cells
act_points (delete line) = 1
act_points (leave line result) = 1

abbrev pub branch_points : Option Test → ℕ
branch_points None = 0
branch_points (Some test) = 1

abbrev mutual
  pub code_points : Code → ℕ
  code_points (simple steps act) = steps_points steps + act_points act
  code_points (clear line x ty) = 1
  code_points (block codes) = codes_points codes
  code_points (branch steps test a b) = steps_points steps + 1 + code_points a + code_points b
  code_points (loop line steps test third body) = 1 + steps_points steps + branch_points test + code_points body + code_points third
  code_points (repeat line body steps test) = 1 + code_points body + steps_points steps + 1
  code_points (break line) = 1
  code_points (continue line) = 1

  pub codes_points : Codes → ℕ
  codes_points done = 0
  codes_points (then c rest) = code_points c + codes_points rest

abbrev pub routine_points : Routine → ℕ
routine_points r = 1 + code_points r.body + end_points r.result

abbrev pub rlang_points : Rlang → ℕ
rlang_points r = sum (map routine_points r.functions)
