-- The lists of a program are a map: their points increase, and each list does.
use Rattle.std.proofs.Common.{ℕ, suc, ◌+◌, ◌≤◌, Bool, true, false, ◌||◌, List, [], ◌∷◌, ◌++◌, map, arith}
use Rattle.std.specs.List.{AllByRecursion as Every}
use Rattle.rc_core.specs.Types.{Ty}
use Rattle.rc_core.specs.Live.{Ways, then_live, round, at_end}
use Rattle.rc_rlang.specs.RegionCode.{Kind, numeric, regional, kind_of, Operation, call, Step, set, fork, Steps, none, more, Act, drop, perform, assign, store, update, move, delete, leave, Code, simple, clear, block, branch, loop, repeat, break, continue, Codes, done, then, Routine}
use Rattle.rc_rlang.specs.RegionPoints.{step_points, steps_points, act_points, branch_points, code_points, codes_points, routine_points}
use Rattle.rc_rlang.specs.RegionLive.{before_steps, before_act, before_code, before_codes, repeat_tail}
use Rattle.rc_rlang.specs.RegionRuns.{pin_when, pins_from, deletes}
use Rattle.rc_rlang.specs.LiveLists.{Held, held_if, operation_lists, step_lists, steps_lists, act_lists, code_lists, codes_lists, routine_lists, functions_lists, live_lists}
use Rattle.rc_rlang.specs.LiveMaps.{Increases, IsIncreasing, point_in}
use Rattle.rc_liveness.specs.Laws.{ListsAreMaps}
use Rattle.rc_liveness.proofs.Behind.{loop_third, loop_body, loop_test, repeat_test}

pub pins_increase : (types : List Ty) (base : ℕ) (live : ℕ → Bool) → Increases base (pins_from types base live)
pins_increase [] base live = tt
pins_increase (ty ∷ types) base live = by (kind_of ty) (live base) (pins_increase types (suc base) live)
  where
    lower : (from : ℕ) (xs : List ℕ) → Increases (suc from) xs → Increases from xs
    lower from [] g = tt
    lower from (x ∷ xs) g = (let l = g.0 in omega (arith, l), g.1)

    by : (k : Kind) (b : Bool) → Increases (suc base) (pins_from types (suc base) live) → Increases base (pin_when k b base (pins_from types (suc base) live))
    by numeric b g = lower base _ g
    by regional false g = lower base _ g
    by regional true g = (omega arith, g)

-- the points increase from one number to below another, and the lists do
abbrev Within : (from to : ℕ) → List Held → Type 0
Within from to [] = from ≤ to
Within from to (h ∷ hs) = (from ≤ h.point) × IsIncreasing h.locals × Within (suc h.point) to hs

fits : (from to low high : ℕ) (hs : List Held) → low ≤ from → to ≤ high → Within from to hs → Within low high hs
fits from to low high [] a b w = omega (arith, a, b, w)
fits from to low high (h ∷ hs) a b w = (let l = w.0 in omega (arith, a, l), w.1, fits (suc h.point) to (suc h.point) high hs (omega arith) b w.2)

join : (from mid to : ℕ) (hs is : List Held) → Within from mid hs → Within mid to is → Within from to (hs ++ is)
join from mid to [] is w v = fits mid to from to is w (omega arith) v
join from mid to (h ∷ hs) is w v = (w.0, w.1, join (suc h.point) mid to hs is w.2 v)

module _ (deleting : ℕ → Bool) (types : List Ty) where
  if_within : (b : Bool) (here : ℕ) (live : ℕ → Bool) → Within here (here + 1) (held_if deleting types b here live)
  if_within true here live = (omega arith, pins_increase types 0 live, omega arith)
  if_within false here live = omega arith

  operation_within : (op : Operation) (here : ℕ) (live : ℕ → Bool) → Within here (here + 1) (operation_lists deleting types op here live)
  operation_within (call g tys) here live = if_within (deleting g) here live
  operation_within op here live = omega arith

  mutual
    step_within : (s : Step) (here : ℕ) (live : ℕ → Bool) → Within here (here + step_points s) (step_lists deleting types s here live)
    step_within (set line h ty op) here live = operation_within op here live
    step_within (fork line h test result a b) here live =
        fits (suc here) (suc here + steps_points a + steps_points b) here (here + (1 + steps_points a + steps_points b)) _ (omega arith) (omega arith)
        (join (suc here) (suc here + steps_points a) (suc here + steps_points a + steps_points b) (steps_lists deleting types a (suc here) live) (steps_lists deleting types b (suc here + steps_points a) live)
        (steps_within a (suc here) live) (steps_within b (suc here + steps_points a) live))

    steps_within : (s : Steps) (here : ℕ) (live : ℕ → Bool) → Within here (here + steps_points s) (steps_lists deleting types s here live)
    steps_within none here live = omega arith
    steps_within (more s r) here live =
        fits here (here + step_points s + steps_points r) here (here + (step_points s + steps_points r)) _ (omega arith) (omega arith)
        (join here (here + step_points s) (here + step_points s + steps_points r) (step_lists deleting types s here (before_steps r live)) (steps_lists deleting types r (here + step_points s) live)
        (step_within s here (before_steps r live)) (steps_within r (here + step_points s) live))

  act_within : (act : Act) (here : ℕ) (live : ℕ → Bool) → Within here (here + act_points act) (act_lists deleting types act here live)
  act_within drop here live = omega arith
  act_within (perform line g tys) here live = if_within (deleting g) here live
  act_within (assign line y ty) here live = omega arith
  act_within (store line a) here live = omega arith
  act_within (update line a change ty) here live = omega arith
  act_within (move line cells left right) here live = omega arith
  act_within (delete line) here live = (omega arith, pins_increase types 0 live, omega arith)
  act_within (leave line result) here live = omega arith

  mutual
    code_within : (c : Code) (here : ℕ) (k : Ways) → Within here (here + code_points c) (code_lists deleting types c here k)
    code_within (simple steps act) here k =
        fits here (here + steps_points steps + act_points act) here (here + (steps_points steps + act_points act)) _ (omega arith) (omega arith)
        (join here (here + steps_points steps) (here + steps_points steps + act_points act) (steps_lists deleting types steps here (before_act act k.next)) (act_lists deleting types act (here + steps_points steps) k.next)
        (steps_within steps here (before_act act k.next)) (act_within act (here + steps_points steps) k.next))
    code_within (clear line y ty) here k = omega arith
    code_within (block codes) here k = codes_within codes here k
    code_within (branch steps test a b) here k =
        let p = steps_points steps in
        let at_a = suc (here + p) in
        let at_b = at_a + code_points a in
        let live = λ (y : ℕ). before_code a k y || before_code b k y in
        fits here (at_b + code_points b) here (here + (p + 1 + code_points a + code_points b)) _ (omega arith) (omega arith)
        (join here (here + p) (at_b + code_points b) (steps_lists deleting types steps here live) (code_lists deleting types a at_a k ++ code_lists deleting types b at_b k) (steps_within steps here live)
        (fits at_a (at_b + code_points b) (here + p) (at_b + code_points b) _ (omega arith) (omega arith)
        (join at_a at_b (at_b + code_points b) (code_lists deleting types a at_a k) (code_lists deleting types b at_b k) (code_within a at_a k) (code_within b at_b k))))
    code_within (loop line steps test third a) here k =
        let p = steps_points steps in
        let at_a = suc here + p + branch_points test in
        let at_third = at_a + code_points a in
        let live = loop_test steps test third a k in
        let k1 = loop_body steps test third a k in
        let k2 = loop_third steps test third a k in
        fits (suc here) (at_third + code_points third) here (here + (1 + p + branch_points test + code_points a + code_points third)) _ (omega arith) (omega arith)
        (join (suc here) (suc here + p) (at_third + code_points third) (steps_lists deleting types steps (suc here) live) (code_lists deleting types a at_a k1 ++ code_lists deleting types third at_third k2) (steps_within steps (suc here) live)
        (fits at_a (at_third + code_points third) (suc here + p) (at_third + code_points third) _ (omega arith) (omega arith)
        (join at_a at_third (at_third + code_points third) (code_lists deleting types a at_a k1) (code_lists deleting types third at_third k2) (code_within a at_a k1) (code_within third at_third k2))))
    code_within (repeat line a steps test) here k =
        let n = code_points a in
        let live = repeat_test a steps k test in
        let k1 = round (repeat_tail a steps test k) k in
        fits (suc here) (suc here + n + steps_points steps) here (here + (1 + n + steps_points steps + 1)) _ (omega arith) (omega arith)
        (join (suc here) (suc here + n) (suc here + n + steps_points steps) (code_lists deleting types a (suc here) k1) (steps_lists deleting types steps (suc here + n) live) (code_within a (suc here) k1) (steps_within steps (suc here + n) live))
    code_within (break line) here k = omega arith
    code_within (continue line) here k = omega arith

    codes_within : (cs : Codes) (here : ℕ) (k : Ways) → Within here (here + codes_points cs) (codes_lists deleting types cs here k)
    codes_within done here k = omega arith
    codes_within (then c r) here k =
        let k1 = then_live (before_codes r k) k in
        fits here (here + code_points c + codes_points r) here (here + (code_points c + codes_points r)) _ (omega arith) (omega arith)
        (join here (here + code_points c) (here + code_points c + codes_points r) (code_lists deleting types c here k1) (codes_lists deleting types r (here + code_points c) k) (code_within c here k1) (codes_within r (here + code_points c) k))

abbrev end_of : List Routine → ℕ → ℕ
end_of [] here = here
end_of (f ∷ fs) here = end_of fs (here + routine_points f)

functions_within : (deleting : ℕ → Bool) (fs : List Routine) (here : ℕ) → Within here (end_of fs here) (functions_lists deleting fs here)
functions_within deleting [] here = omega arith
functions_within deleting (f ∷ fs) here =
    join here (here + routine_points f) (end_of fs (here + routine_points f)) (routine_lists deleting f here) (functions_lists deleting fs (here + routine_points f))
    (fits (suc here) (suc here + code_points f.body) here (here + routine_points f) _ (omega arith) (omega arith) (code_within deleting f.locals f.body (suc here) at_end)) (functions_within deleting fs (here + routine_points f))

is_map : (from to : ℕ) (hs : List Held) → Within from to hs → Increases from (map point_in hs) × Every (λ h. IsIncreasing h.locals) hs
is_map from to [] w = (tt, tt)
is_map from to (h ∷ hs) w = let r = is_map (suc h.point) to hs w.2 in ((w.0, r.0), (w.1, r.1))

pub lists_are_maps : ListsAreMaps
lists_are_maps r = let m = is_map 0 (end_of r.functions 0) (live_lists r) (functions_within (deletes r) r.functions 0) in record { points = m.0; locals = m.1 }
