-- The lists of a program stand at its deleting points, and at no others.
use Rattle.std.proofs.Common.{◌≡◌, ℕ, zero, suc, ◌+◌, ◌*◌, Bool, true, false, List, [], ◌∷◌, ◌++◌, length, map, refl, sym, ap, ◌∙◌, arith, append-nil, subst, ◌||◌, ◌&&◌}
use Rattle.std.specs.Prelude.{replicate, flat_map, is_some}
use Rattle.std.specs.List.{AllByRecursion as Every}
use Rattle.std.proofs.lemmas.List.{map-append, map-id, length-replicate}
use Rattle.rc_core.specs.Types.{Ty}
use Rattle.rc_core.specs.Live.{Ways, at_end, round, then_live}
use Rattle.rc_rlang.specs.Points.{change_points, end_points}
use Rattle.rc_rlang.specs.RegionCode.{Operation, call, Step, set, fork, Steps, none, more, Act, drop, perform, assign, store, update, move, delete, leave, Code, simple, clear, block, branch, loop, repeat, break, continue, Codes, done, then, Routine, Rlang}
use Rattle.rc_rlang.specs.RegionPoints.{step_points, steps_points, branch_points, code_points, routine_points}
use Rattle.rc_rlang.specs.RegionLive.{before_steps, before_act, before_code, before_codes, loop_head, repeat_tail}
use Rattle.rc_rlang.specs.RegionRuns.{pins_from, deletes}
use Rattle.rc_rlang.specs.Touches.{Touch, nothing, operation_touch, step_touches, steps_touches, act_touches, test_touches, code_touches, codes_touches, routine_touches, is_deleting, place_if, places, deleting_points}
use Rattle.rc_rlang.specs.LiveLists.{Held, held_if, operation_lists, step_lists, steps_lists, act_lists, code_lists, codes_lists, routine_lists, functions_lists, live_lists}
use Rattle.rc_rlang.specs.LiveMaps.{IsIncreasing, IsMap, point_in, empty_list, empty_lists}
use Rattle.rc_liveness.proofs.Behind.{step_touched, steps_touched, code_touched, routine_touched}
use Rattle.rc_liveness.specs.Laws.{ListsAreMaps}
use Rattle.rc_live.specs.declared.program.Listed.{Listed}
use Rattle.rc_live.specs.declared.program.Listed.TheVariants.{Live, Nothing}
use Rattle.rc_live.specs.Walking.{seen}

places_both : {A : Type 0} (test : A → Bool) (here : ℕ) (xs ys : List A) → places test here (xs ++ ys) ≡ places test here xs ++ places test (here + length xs) ys
places_both test here [] ys = ap (λ n. places test n ys) (let k : here ≡ here + 0 = omega arith in k)
places_both test here (x ∷ xs) ys =
    ap (place_if (test x) here) (places_both test (suc here) xs ys ∙ ap (λ n. places test (suc here) xs ++ places test n ys) (let k : suc here + length xs ≡ here + suc (length xs) = omega arith in k)) ∙ by (test x) _ _
  where
    by : (b : Bool) (ps qs : List ℕ) → place_if b here (ps ++ qs) ≡ place_if b here ps ++ qs
    by true ps qs = refl
    by false ps qs = refl

-- what is read of each list depends on its point alone
module _ (B : Type 0) (deleting : ℕ → Bool) (types : List Ty) (f : Held → B) (g : ℕ → B) (same : (here : ℕ) (live : ℕ → Bool) → f (record { point = here; locals = pins_from types 0 live }) ≡ g here) where
  abbrev At : List Held → (here : ℕ) → List Touch → Type 0
  At hs here ts = map f hs ≡ map g (places (is_deleting deleting) here ts)

  join : (hs is : List Held) (here there : ℕ) (xs ys : List Touch) → At hs here xs → here + length xs ≡ there → At is there ys → At (hs ++ is) here (xs ++ ys)
  join hs is here there xs ys a e b =
      map-append f hs is ∙ ap (λ l. l ++ map f is) a
      ∙ ap (λ l. map g (places (is_deleting deleting) here xs) ++ l) (b ∙ ap (λ n. map g (places (is_deleting deleting) n ys)) (sym e))
      ∙ sym (map-append g (places (is_deleting deleting) here xs) (places (is_deleting deleting) (here + length xs) ys))
      ∙ ap (map g) (sym (places_both (is_deleting deleting) here xs ys))

  -- behind which no more lists stand
  last : (hs : List Held) (here : ℕ) (xs ys : List Touch) → At hs here xs → At [] (here + length xs) ys → At hs here (xs ++ ys)
  last hs here xs ys a b = ap (map f) (sym (append-nil hs)) ∙ join hs [] here (here + length xs) xs ys a refl b

  blank : (n here : ℕ) → At [] here (replicate n nothing)
  blank zero here = refl
  blank (suc n) here = blank n (suc here)

  at_if : (b : Bool) (here : ℕ) (live : ℕ → Bool) → map f (held_if deleting types b here live) ≡ map g (place_if b here [])
  at_if true here live = ap (λ y. y ∷ []) (same here live)
  at_if false here live = refl

  operation : (op : Operation) (here : ℕ) (live : ℕ → Bool) → At (operation_lists deleting types op here live) here (operation_touch op ∷ [])
  operation (call h tys) here live = at_if (deleting h) here live
  operation op here live = refl

  mutual
    step : (s : Step) (here : ℕ) (live : ℕ → Bool) → At (step_lists deleting types s here live) here (step_touches s)
    step (set line h ty op) here live = operation op here live
    step (fork line h test result a b) here live =
        join (steps_lists deleting types a (suc here) live) (steps_lists deleting types b (suc here + steps_points a) live) (suc here) (suc here + steps_points a) (steps_touches a) (steps_touches b)
        (steps a (suc here) live) (ap (λ n. suc here + n) (steps_touched a)) (steps b (suc here + steps_points a) live)

    steps : (s : Steps) (here : ℕ) (live : ℕ → Bool) → At (steps_lists deleting types s here live) here (steps_touches s)
    steps none here live = refl
    steps (more s rest) here live =
        join (step_lists deleting types s here (before_steps rest live)) (steps_lists deleting types rest (here + step_points s) live) here (here + step_points s) (step_touches s) (steps_touches rest)
        (step s here (before_steps rest live)) (ap (λ n. here + n) (step_touched s)) (steps rest (here + step_points s) live)

  act : (a : Act) (here : ℕ) (live : ℕ → Bool) → At (act_lists deleting types a here live) here (act_touches a)
  act drop here live = refl
  act (perform line h tys) here live = at_if (deleting h) here live
  act (assign line x ty) here live = refl
  act (store line a) here live = refl
  act (update line a change ty) here live = blank (change_points change) here
  act (move line cells left right) here live = blank (2 * length cells) here
  act (delete line) here live = at_if true here live
  act (leave line result) here live = refl

  mutual
    code : (c : Code) (here : ℕ) (k : Ways) → At (code_lists deleting types c here k) here (code_touches c)
    code (simple all a) here k =
        join (steps_lists deleting types all here (before_act a k.next)) (act_lists deleting types a (here + steps_points all) k.next) here (here + steps_points all) (steps_touches all) (act_touches a)
        (steps all here (before_act a k.next)) (ap (λ n. here + n) (steps_touched all)) (act a (here + steps_points all) k.next)
    code (clear line x ty) here k = refl
    code (block all) here k = codes all here k
    code (branch all test a b) here k =
        let p = steps_points all in
        let at_a = suc (here + p) in
        join (steps_lists deleting types all here (λ y. before_code a k y || before_code b k y)) (code_lists deleting types a at_a k ++ code_lists deleting types b (at_a + code_points a) k) here (here + p) (steps_touches all) (nothing ∷ (code_touches a ++ code_touches b))
        (steps all here (λ y. before_code a k y || before_code b k y)) (ap (λ n. here + n) (steps_touched all))
        (join (code_lists deleting types a at_a k) (code_lists deleting types b (at_a + code_points a) k) at_a (at_a + code_points a) (code_touches a) (code_touches b) (code a at_a k) (ap (λ n. at_a + n) (code_touched a)) (code b (at_a + code_points a) k))
    code (loop line all test third a) here k =
        let k2 = then_live (loop_head all test third a k) k in
        let k1 = round (before_code third k2) k in
        let p = steps_points all in
        let at_a = suc here + p + branch_points test in
        let live = λ (y : ℕ). (is_some test && k.next y) || before_code a k1 y in
        join (steps_lists deleting types all (suc here) live) (code_lists deleting types a at_a k1 ++ code_lists deleting types third (at_a + code_points a) k2) (suc here) (suc here + p) (steps_touches all) (test_touches test ++ (code_touches a ++ code_touches third))
        (steps all (suc here) live) (ap (λ n. suc here + n) (steps_touched all))
        (join [] (code_lists deleting types a at_a k1 ++ code_lists deleting types third (at_a + code_points a) k2) (suc here + p) at_a (test_touches test) (code_touches a ++ code_touches third)
        (blank (branch_points test) (suc here + p)) (ap (λ n. suc here + p + n) (length-replicate (branch_points test) nothing))
        (join (code_lists deleting types a at_a k1) (code_lists deleting types third (at_a + code_points a) k2) at_a (at_a + code_points a) (code_touches a) (code_touches third) (code a at_a k1) (ap (λ n. at_a + n) (code_touched a)) (code third (at_a + code_points a) k2)))
    code (repeat line a all test) here k =
        let k1 = round (repeat_tail a all test k) k in
        let live = λ (y : ℕ). k.next y || before_code (repeat 0 a all test) k y in
        join (code_lists deleting types a (suc here) k1) (steps_lists deleting types all (suc here + code_points a) live) (suc here) (suc here + code_points a) (code_touches a) (steps_touches all ++ nothing ∷ [])
        (code a (suc here) k1) (ap (λ n. suc here + n) (code_touched a))
        (last (steps_lists deleting types all (suc here + code_points a) live) (suc here + code_points a) (steps_touches all) (nothing ∷ []) (steps all (suc here + code_points a) live) refl)
    code (break line) here k = refl
    code (continue line) here k = refl

    codes : (all : Codes) (here : ℕ) (k : Ways) → At (codes_lists deleting types all here k) here (codes_touches all)
    codes done here k = refl
    codes (then c rest) here k =
        let k1 = then_live (before_codes rest k) k in
        join (code_lists deleting types c here k1) (codes_lists deleting types rest (here + code_points c) k) here (here + code_points c) (code_touches c) (codes_touches rest) (code c here k1) (ap (λ n. here + n) (code_touched c)) (codes rest (here + code_points c) k)

  body : (r : Routine) (here : ℕ) → At (code_lists deleting types r.body (suc here) at_end) here (routine_touches r)
  body r here = last (code_lists deleting types r.body (suc here) at_end) (suc here) (code_touches r.body) (replicate (end_points r.result) nothing) (code r.body (suc here) at_end) (blank (end_points r.result) (suc here + length (code_touches r.body)))

-- of each function, with all its locals or with none
at_functions : (B : Type 0) (deleting : ℕ → Bool) (listed : Listed) (f : Held → B) (g : ℕ → B) → ((r : Routine) (here : ℕ) (live : ℕ → Bool) → f (record { point = here; locals = pins_from (seen listed r).locals 0 live }) ≡ g here) →
    (fs : List Routine) (here : ℕ) → map f (functions_lists deleting (map (seen listed) fs) here) ≡ map g (places (is_deleting deleting) here (flat_map routine_touches fs))
at_functions B deleting listed f g same [] here = refl
at_functions B deleting listed f g same (r ∷ fs) here =
    map-append f (routine_lists deleting (seen listed r) here) (functions_lists deleting (map (seen listed) fs) (here + routine_points (seen listed r)))
    ∙ ap (λ l. l ++ map f (functions_lists deleting (map (seen listed) fs) (here + routine_points (seen listed r)))) (body B deleting (seen listed r).locals f g (same r) (seen listed r) here)
    ∙ ap (λ n. map g (places (is_deleting deleting) here (routine_touches r)) ++ map f (functions_lists deleting (map (seen listed) fs) (here + n))) (sym (routine_touched r))
    ∙ ap (λ l. map g (places (is_deleting deleting) here (routine_touches r)) ++ l) (at_functions B deleting listed f g same fs (here + length (routine_touches r)))
    ∙ sym (map-append g (places (is_deleting deleting) here (routine_touches r)) (places (is_deleting deleting) (here + length (routine_touches r)) (flat_map routine_touches fs)))
    ∙ ap (map g) (sym (places_both (is_deleting deleting) here (routine_touches r) (flat_map routine_touches fs)))

-- with all locals
pub all_seen : (fs : List Routine) → map (seen Live) fs ≡ fs
all_seen fs = map-id fs

pub points_listed : (r : Rlang) → map point_in (functions_lists (deletes r) (map (seen Live) r.functions) 0) ≡ deleting_points r
points_listed r = at_functions ℕ (deletes r) Live point_in (λ p. p) (λ f here live. refl) r.functions 0 ∙ map-id (deleting_points r)

-- with none
pub nothing_listed : (r : Rlang) → functions_lists (deletes r) (map (seen Nothing) r.functions) 0 ≡ empty_lists (deleting_points r)
nothing_listed r = sym (map-id (functions_lists (deletes r) (map (seen Nothing) r.functions) 0)) ∙ at_functions Held (deletes r) Nothing (λ h. h) empty_list (λ f here live. refl) r.functions 0

-- the empty lists of a program are a map, as its lists are
pub empty_are_map : ListsAreMaps → (r : Rlang) → IsMap (empty_lists (deleting_points r))
empty_are_map maps r = record { points = points; locals = empty (deleting_points r) }
  where
    over : map point_in (live_lists r) ≡ deleting_points r
    over = ap (λ fs. map point_in (functions_lists (deletes r) fs 0)) (sym (all_seen r.functions)) ∙ points_listed r

    at_points : (ps : List ℕ) → map point_in (empty_lists ps) ≡ ps
    at_points [] = refl
    at_points (p ∷ ps) = ap (λ xs. p ∷ xs) (at_points ps)

    points : IsIncreasing (map point_in (empty_lists (deleting_points r)))
    points = subst IsIncreasing (over ∙ sym (at_points (deleting_points r))) (maps r).points

    empty : (ps : List ℕ) → Every (λ h. IsIncreasing h.locals) (empty_lists ps)
    empty [] = tt
    empty (p ∷ ps) = (tt, empty ps)
