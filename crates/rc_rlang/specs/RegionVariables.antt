-- The region variables of a function, counted on its region code: a copy of each region or pointer parameter, the region and pointer
-- locals, one for each temporary, one for a result and one more. The temporaries are one more than the greatest that a step names; an
-- update puts the old value, and a struct copy a cell, behind the operands that stand there. The translation of a program has as many as
-- `Variables` counts on the program.
use Rattle.std.specs.Prelude.{ℕ, suc, ◌+◌, ◌*◌, max, take, drop as behind, count_by}
use Rattle.rc_core.specs.Typing.{is_reference}
use Rattle.rc_rlang.specs.RegionCode.{width, Step, set, fork, Steps, none, more, Act, drop, perform, assign, store, update, move, delete, leave, Code, simple, clear, block, branch, loop, repeat, break, continue, Codes, done, then, Routine}
use Rattle.rc_rlang.specs.Variables.{end_temporaries}

abbrev mutual
  pub step_temporaries : Step → ℕ
  step_temporaries (set line h ty op) = suc h
  step_temporaries (fork line h test result a b) = max (suc h) (max (steps_temporaries a) (steps_temporaries b))

  pub steps_temporaries : Steps → ℕ
  steps_temporaries none = 0
  steps_temporaries (more s rest) = max (step_temporaries s) (steps_temporaries rest)

abbrev pub act_temporaries : Act → ℕ
act_temporaries drop = 0
-- where there is no argument too
act_temporaries (perform line f tys) = 1
act_temporaries (assign line x ty) = 0
act_temporaries (store line a) = 0
act_temporaries (update line a change ty) = suc (suc (width a))
act_temporaries (move line cells left right) = suc (width left + width right)
act_temporaries (delete line) = 0
act_temporaries (leave line result) = 0

abbrev mutual
  pub code_temporaries : Code → ℕ
  code_temporaries (simple steps act) = max (steps_temporaries steps) (act_temporaries act)
  code_temporaries (clear line x ty) = 0
  code_temporaries (block codes) = codes_temporaries codes
  code_temporaries (branch steps test a b) = max (steps_temporaries steps) (max (code_temporaries a) (code_temporaries b))
  code_temporaries (loop line steps test third body) = max (steps_temporaries steps) (max (code_temporaries body) (code_temporaries third))
  code_temporaries (repeat line body steps test) = max (code_temporaries body) (steps_temporaries steps)
  code_temporaries (break line) = 0
  code_temporaries (continue line) = 0

  pub codes_temporaries : Codes → ℕ
  codes_temporaries done = 0
  codes_temporaries (then c rest) = max (code_temporaries c) (codes_temporaries rest)

abbrev pub routine_temporaries : Routine → ℕ
routine_temporaries f = max (code_temporaries f.body) (end_temporaries f.result)

abbrev pub routine_variables : Routine → ℕ
routine_variables f =
    2 * count_by is_reference (take f.parameters f.locals) + count_by is_reference (behind f.parameters f.locals) + routine_temporaries f + 2
