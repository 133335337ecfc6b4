-- What is listed at each deleting point: the locals that are regions or pointers and live behind it, in increasing order. Each stands
-- with the number of its point. What is live is passed on from part to part just as a run of region code has it: so these are the locals
-- that a deletion there holds. A local that the value of a call is assigned to is set by a later point, and so isn't listed at the call's,
-- unless it is read before.
use Rattle.std.specs.Prelude.{ℕ, suc, ◌+◌, Bool, true, false, ◌||◌, ◌&&◌, List, [], ◌∷◌, ◌++◌, is_some}
use Rattle.rc_core.specs.Types.{Ty}
use Rattle.rc_core.specs.Live.{Ways, then_live, round, at_end}
use Rattle.rc_rlang.specs.RegionCode.{Operation, call, Step, set, fork, Steps, none, more, Act, perform, delete, Code, simple, clear, block, branch, loop, repeat, break, continue, Codes, done, then, Routine, Rlang}
use Rattle.rc_rlang.specs.RegionPoints.{step_points, steps_points, branch_points, code_points, routine_points}
use Rattle.rc_rlang.specs.RegionLive.{before_steps, before_act, before_code, before_codes, loop_head, repeat_tail}
use Rattle.rc_rlang.specs.RegionRuns.{pins_from, deletes}

pub record Held : Type 0 where
  pub point : ℕ
  pub locals : List ℕ

-- `deleting` tells which functions delete, `types` are the locals', and `here` is the number of a piece's first point
module _ (deleting : ℕ → Bool) (types : List Ty) where
  abbrev pub held_at : (here : ℕ) → (live : ℕ → Bool) → List Held
  held_at here live = record { point = here; locals = pins_from types 0 live } ∷ []

  abbrev pub held_if : Bool → (here : ℕ) → (live : ℕ → Bool) → List Held
  held_if true here live = held_at here live
  held_if false here live = []

  abbrev pub operation_lists : Operation → (here : ℕ) → (live : ℕ → Bool) → List Held
  operation_lists (call f tys) here live = held_if (deleting f) here live
  operation_lists op here live = []

  abbrev mutual
    pub step_lists : Step → (here : ℕ) → (live : ℕ → Bool) → List Held
    step_lists (set line h ty op) here live = operation_lists op here live
    step_lists (fork line h test result a b) here live = steps_lists a (suc here) live ++ steps_lists b (suc here + steps_points a) live

    pub steps_lists : Steps → (here : ℕ) → (live : ℕ → Bool) → List Held
    steps_lists none here live = []
    steps_lists (more s rest) here live = step_lists s here (before_steps rest live) ++ steps_lists rest (here + step_points s) live

  abbrev pub act_lists : Act → (here : ℕ) → (live : ℕ → Bool) → List Held
  act_lists (perform line f tys) here live = held_if (deleting f) here live
  act_lists (delete line) here live = held_at here live
  act_lists act here live = []

  abbrev mutual
    pub code_lists : Code → (here : ℕ) → Ways → List Held
    code_lists (simple steps act) here k = steps_lists steps here (before_act act k.next) ++ act_lists act (here + steps_points steps) k.next
    code_lists (clear line x ty) here k = []
    code_lists (block codes) here k = codes_lists codes here k
    code_lists (branch steps test a b) here k =
        let at_a = suc (here + steps_points steps) in
        steps_lists steps here (λ y. before_code a k y || before_code b k y)
        ++ (code_lists a at_a k ++ code_lists b (at_a + code_points a) k)
    code_lists (loop line steps test third a) here k =
        let k2 = then_live (loop_head steps test third a k) k in
        let k1 = round (before_code third k2) k in
        let at_a = suc here + steps_points steps + branch_points test in
        steps_lists steps (suc here) (λ y. (is_some test && k.next y) || before_code a k1 y)
        ++ (code_lists a at_a k1 ++ code_lists third (at_a + code_points a) k2)
    code_lists (repeat line a steps test) here k =
        code_lists a (suc here) (round (repeat_tail a steps test k) k)
        ++ steps_lists steps (suc here + code_points a) (λ y. k.next y || before_code (repeat 0 a steps test) k y)
    code_lists (break line) here k = []
    code_lists (continue line) here k = []

    pub codes_lists : Codes → (here : ℕ) → Ways → List Held
    codes_lists done here k = []
    codes_lists (then c rest) here k = code_lists c here (then_live (before_codes rest k) k) ++ codes_lists rest (here + code_points c) k

-- behind a function's entry stands its body
abbrev pub routine_lists : (deleting : ℕ → Bool) → Routine → (here : ℕ) → List Held
routine_lists deleting f here = code_lists deleting f.locals f.body (suc here) at_end

abbrev pub functions_lists : (deleting : ℕ → Bool) → List Routine → (here : ℕ) → List Held
functions_lists deleting [] here = []
functions_lists deleting (f ∷ fs) here = routine_lists deleting f here ++ functions_lists deleting fs (here + routine_points f)

-- of a program in region code
abbrev pub live_lists : Rlang → List Held
live_lists r = functions_lists (deletes r) r.functions 0
