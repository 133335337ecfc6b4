-- Region code with the numbers of labels in place of its lines. A store, an update and a struct copy have the marks of their points, as a
-- run with marked stores has them (rc_along's MarkedRuns); else a label tells the line alone.
use Rattle.std.specs.Prelude.{ℕ, suc, ◌+◌, Bool, List, [], ◌∷◌}
use Rattle.std.specs.Option.{option_map}
use Rattle.rc_core.specs.Layout.{Layout}
use Rattle.rc_rlang.specs.RegionCode.{Step, set, fork, Steps, none, more, Act, drop, perform, assign, store, update, move, delete, leave, Test, Code, simple, clear, block, branch, loop, repeat, break, continue, Codes, done, then, Routine, Rlang}
use Rattle.rc_rlang.specs.RegionPoints.{steps_points, branch_points, code_points}
use Rattle.rc_along.specs.MarkedRuns.{before_store}
use Rattle.rc_labels.specs.Labels.{Numbering, plain}

-- of the cells of a struct copy, each of which is loaded and then stored
abbrev pub copy_marks : Layout → (marked : (point : ℕ) → Bool) → (here : ℕ) → List Bool
copy_marks [] marked here = []
copy_marks (kind ∷ kinds) marked here = marked (suc here) ∷ copy_marks kinds marked (suc (suc here))

module _ (n : Numbering) where
  abbrev mutual
    pub step_labelled : Step → Step
    step_labelled (set line h ty op) = set (plain n line) h ty op
    step_labelled (fork line h test result a b) = fork (plain n line) h test result (steps_labelled a) (steps_labelled b)

    pub steps_labelled : Steps → Steps
    steps_labelled none = none
    steps_labelled (more s rest) = more (step_labelled s) (steps_labelled rest)

  abbrev pub test_labelled : Test → Test
  test_labelled test = record test { line = plain n test.line }

  module _ (marked : (point : ℕ) → Bool) where
    abbrev pub act_labelled : Act → (here : ℕ) → Act
    act_labelled drop here = drop
    act_labelled (perform line f tys) here = perform (plain n line) f tys
    act_labelled (assign line x ty) here = assign (plain n line) x ty
    act_labelled (store line a) here = store (n.number (record { line = line; base = a.offset; marks = marked here ∷ [] })) a
    act_labelled (update line a change ty) here = update (n.number (record { line = line; base = a.offset; marks = marked (here + before_store change) ∷ [] })) a change ty
    act_labelled (move line cells left right) here = move (n.number (record { line = line; base = left.offset; marks = copy_marks cells marked here })) cells left right
    act_labelled (delete line) here = delete (plain n line)
    act_labelled (leave line result) here = leave (plain n line) result

    abbrev mutual
      pub code_labelled : Code → (here : ℕ) → Code
      code_labelled (simple steps act) here = simple (steps_labelled steps) (act_labelled act (here + steps_points steps))
      code_labelled (clear line x ty) here = clear (plain n line) x ty
      code_labelled (block codes) here = block (codes_labelled codes here)
      code_labelled (branch steps test a b) here =
          let at_a = suc (here + steps_points steps) in
          branch (steps_labelled steps) (test_labelled test) (code_labelled a at_a) (code_labelled b (at_a + code_points a))
      code_labelled (loop line steps test third a) here =
          let at_a = suc here + steps_points steps + branch_points test in
          loop (plain n line) (steps_labelled steps) (option_map test_labelled test) (code_labelled third (at_a + code_points a)) (code_labelled a at_a)
      code_labelled (repeat line a steps test) here = repeat (plain n line) (code_labelled a (suc here)) (steps_labelled steps) (test_labelled test)
      code_labelled (break line) here = break (plain n line)
      code_labelled (continue line) here = continue (plain n line)

      pub codes_labelled : Codes → (here : ℕ) → Codes
      codes_labelled done here = done
      codes_labelled (then c rest) here = then (code_labelled c here) (codes_labelled rest (here + code_points c))

    abbrev pub routine_labelled : Routine → Routine
    routine_labelled f = record f { line = plain n f.line; body = code_labelled f.body 1 }

  -- of a function's points some are marked; the first function has this number
  abbrev pub routines_labelled : (marks : (function point : ℕ) → Bool) → (number : ℕ) → List Routine → List Routine
  routines_labelled marks k [] = []
  routines_labelled marks k (f ∷ fs) = routine_labelled (marks k) f ∷ routines_labelled marks (suc k) fs

  abbrev pub labelled : (marks : (function point : ℕ) → Bool) → Rlang → Rlang
  labelled marks r = record r { functions = routines_labelled marks 0 r.functions }
