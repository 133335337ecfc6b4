-- Lists whose points are numbered from elsewhere. Where the first point has a number that is greater by some number, so has each.
use Rattle.std.proofs.Common.{◌≡◌, ℕ, suc, ◌+◌, ◌-◌, ◌||◌, ◌&&◌, Bool, true, false, List, [], ◌∷◌, ◌++◌, map, refl, ap, ◌∙◌, arith}
use Rattle.std.specs.Prelude.{is_some}
use Rattle.rc_core.specs.Types.{Ty}
use Rattle.rc_core.specs.Live.{Ways, at_end, round, then_live}
use Rattle.rc_rlang.specs.RegionCode.{Operation, call, Step, set, fork, Steps, none, more, Act, perform, delete, Code, simple, clear, block, branch, loop, repeat, break, continue, Codes, done, then, Routine}
use Rattle.rc_rlang.specs.RegionPoints.{step_points, steps_points, branch_points, code_points, routine_points}
use Rattle.rc_rlang.specs.RegionLive.{before_steps, before_act, before_code, before_codes, loop_head, repeat_tail}
use Rattle.rc_rlang.specs.RegionRuns.{pins_from}
use Rattle.rc_rlang.specs.LiveLists.{Held, held_if, operation_lists, step_lists, steps_lists, act_lists, code_lists, codes_lists, functions_lists}
use Rattle.rc_live.specs.Walking.{lowered}

both : (d : ℕ) (xs ys xs' ys' : List Held) → map (lowered d) xs ≡ xs' → map (lowered d) ys ≡ ys' → map (lowered d) (xs ++ ys) ≡ xs' ++ ys'
both d xs ys xs' ys' e f = append xs ∙ ap (λ l. l ++ map (lowered d) ys) e ∙ ap (λ l. xs' ++ l) f
  where
    append : (xs : List Held) → map (lowered d) (xs ++ ys) ≡ map (lowered d) xs ++ map (lowered d) ys
    append [] = refl
    append (x ∷ xs) = ap (λ l. lowered d x ∷ l) (append xs)

module _ (deleting : ℕ → Bool) (types : List Ty) (d : ℕ) where
  held : (b : Bool) (there here : ℕ) (live : ℕ → Bool) → there ≡ here + d → map (lowered d) (held_if deleting types b there live) ≡ held_if deleting types b here live
  held false there here live e = refl
  held true there here live e = ap (λ p. record { point = p; locals = pins_from types 0 live } ∷ []) (let k : there - d ≡ here = omega (arith, e) in k)

  operation : (op : Operation) (there here : ℕ) (live : ℕ → Bool) → there ≡ here + d → map (lowered d) (operation_lists deleting types op there live) ≡ operation_lists deleting types op here live
  operation (call f tys) there here live e = held (deleting f) there here live e
  operation op there here live e = refl

  mutual
    step : (s : Step) (there here : ℕ) (live : ℕ → Bool) → there ≡ here + d → map (lowered d) (step_lists deleting types s there live) ≡ step_lists deleting types s here live
    step (set line h ty op) there here live e = operation op there here live e
    step (fork line h test result a b) there here live e =
        both d _ _ _ _ (steps a (suc there) (suc here) live (omega (arith, e))) (steps b (suc there + steps_points a) (suc here + steps_points a) live (omega (arith, e)))

    steps : (s : Steps) (there here : ℕ) (live : ℕ → Bool) → there ≡ here + d → map (lowered d) (steps_lists deleting types s there live) ≡ steps_lists deleting types s here live
    steps none there here live e = refl
    steps (more s rest) there here live e =
        both d _ _ _ _ (step s there here (before_steps rest live) e) (steps rest (there + step_points s) (here + step_points s) live (omega (arith, e)))

  act : (a : Act) (there here : ℕ) (live : ℕ → Bool) → there ≡ here + d → map (lowered d) (act_lists deleting types a there live) ≡ act_lists deleting types a here live
  act (perform line f tys) there here live e = held (deleting f) there here live e
  act (delete line) there here live e = held true there here live e
  act a there here live e = refl

  mutual
    code : (c : Code) (there here : ℕ) (k : Ways) → there ≡ here + d → map (lowered d) (code_lists deleting types c there k) ≡ code_lists deleting types c here k
    code (simple all a) there here k e = both d _ _ _ _ (steps all there here (before_act a k.next) e) (act a (there + steps_points all) (here + steps_points all) k.next (omega (arith, e)))
    code (clear line x ty) there here k e = refl
    code (block all) there here k e = codes all there here k e
    code (branch all test a b) there here k e =
        both d _ _ _ _ (steps all there here (λ y. before_code a k y || before_code b k y) e)
        (both d _ _ _ _ (code a (suc (there + steps_points all)) (suc (here + steps_points all)) k (omega (arith, e)))
        (code b (suc (there + steps_points all) + code_points a) (suc (here + steps_points all) + code_points a) k (omega (arith, e))))
    code (loop line all test third a) there here k e =
        let k2 = then_live (loop_head all test third a k) k in
        let k1 = round (before_code third k2) k in
        both d _ _ _ _ (steps all (suc there) (suc here) (λ y. (is_some test && k.next y) || before_code a k1 y) (omega (arith, e)))
        (both d _ _ _ _ (code a (suc there + steps_points all + branch_points test) (suc here + steps_points all + branch_points test) k1 (omega (arith, e)))
        (code third (suc there + steps_points all + branch_points test + code_points a) (suc here + steps_points all + branch_points test + code_points a) k2 (omega (arith, e))))
    code (repeat line a all test) there here k e =
        both d _ _ _ _ (code a (suc there) (suc here) (round (repeat_tail a all test k) k) (omega (arith, e)))
        (steps all (suc there + code_points a) (suc here + code_points a) (λ y. k.next y || before_code (repeat 0 a all test) k y) (omega (arith, e)))
    code (break line) there here k e = refl
    code (continue line) there here k e = refl

    codes : (all : Codes) (there here : ℕ) (k : Ways) → there ≡ here + d → map (lowered d) (codes_lists deleting types all there k) ≡ codes_lists deleting types all here k
    codes done there here k e = refl
    codes (then c rest) there here k e =
        both d _ _ _ _ (code c there here (then_live (before_codes rest k) k) e) (codes rest (there + code_points c) (here + code_points c) k (omega (arith, e)))

pub lowered_functions : (deleting : ℕ → Bool) (d : ℕ) (fs : List Routine) (there here : ℕ) → there ≡ here + d → map (lowered d) (functions_lists deleting fs there) ≡ functions_lists deleting fs here
lowered_functions deleting d [] there here e = refl
lowered_functions deleting d (f ∷ fs) there here e =
    both d _ _ _ _ (code deleting f.locals d f.body (suc there) (suc here) at_end (omega (arith, e))) (lowered_functions deleting d fs (there + routine_points f) (here + routine_points f) (omega (arith, e)))
