-- What is live behind each point, as it is computed: a list in the order of the points. And as many touches, nodes and such entries as
-- points.
use Rattle.std.proofs.Common.{◌≡◌, ℕ, ◌+◌, ◌*◌, ◌<◌, Bool, false, ◌||◌, ◌&&◌, List, [], ◌∷◌, ◌++◌, length, Option, refl, arith, length-append}
use Rattle.std.specs.Prelude.{replicate, is_some}
use Rattle.rc_core.specs.Live.{Ways, then_live, round, at_end}
use Rattle.rc_rlang.specs.Points.{change_points, end_points}
use Rattle.rc_rlang.specs.RegionCode.{Step, set, fork, Steps, none, more, Act, drop, perform, assign, store, update, move, delete, leave, Test, Code, simple, clear, block, branch, loop, repeat, break, continue, Codes, done, then, Routine}
use Rattle.rc_rlang.specs.RegionPoints.{step_points, steps_points, act_points, branch_points, code_points, codes_points, routine_points}
use Rattle.rc_rlang.specs.RegionLive.{before_steps, before_act, before_code, before_codes, loop_head, repeat_tail}
use Rattle.rc_rlang.specs.Touches.{nothing, step_touches, steps_touches, act_touches, test_touches, code_touches, codes_touches, routine_touches}
use Rattle.rc_liveness.proofs.Each.{repeated}

abbrev pub Live : Type 0
Live = ℕ → Bool

-- of a loop: out of its body, behind its third part, and behind its condition
abbrev pub loop_third : Steps → Option Test → (third a : Code) → Ways → Ways
loop_third steps test third a k = then_live (loop_head steps test third a k) k

abbrev pub loop_body : Steps → Option Test → (third a : Code) → Ways → Ways
loop_body steps test third a k = round (before_code third (loop_third steps test third a k)) k

abbrev pub loop_test : Steps → Option Test → (third a : Code) → Ways → Live
loop_test steps test third a k y = (is_some test && k.next y) || before_code a (loop_body steps test third a k) y

abbrev pub repeat_test : Code → Steps → Ways → Test → Live
repeat_test a steps k test y = k.next y || before_code (repeat 0 a steps test) k y

abbrev mutual
  pub step_behind : Step → Live → List Live
  step_behind (set line h ty op) live = live ∷ []
  step_behind (fork line h test result a b) live = (λ y. before_steps a live y || before_steps b live y) ∷ (steps_behind a live ++ steps_behind b live)

  pub steps_behind : Steps → Live → List Live
  steps_behind none live = []
  steps_behind (more s rest) live = step_behind s (before_steps rest live) ++ steps_behind rest live

abbrev pub act_behind : Act → Live → List Live
act_behind drop live = []
act_behind (perform line f tys) live = live ∷ []
act_behind (assign line x ty) live = live ∷ []
act_behind (store line a) live = live ∷ []
act_behind (update line a change ty) live = replicate (change_points change) live
act_behind (move line cells left right) live = replicate (2 * length cells) live
act_behind (delete line) live = live ∷ []
act_behind (leave line result) live = (λ y. false) ∷ []

abbrev mutual
  pub code_behind : Code → Ways → List Live
  code_behind (simple steps act) k = steps_behind steps (before_act act k.next) ++ act_behind act k.next
  code_behind (clear line x ty) k = k.next ∷ []
  code_behind (block codes) k = codes_behind codes k
  code_behind (branch steps test a b) k =
      steps_behind steps (λ y. before_code a k y || before_code b k y) ++ ((λ y. before_code a k y || before_code b k y) ∷ (code_behind a k ++ code_behind b k))
  code_behind (loop line steps test third a) k =
      before_code (loop line steps test third a) k
      ∷ (steps_behind steps (loop_test steps test third a k)
      ++ (replicate (branch_points test) (loop_test steps test third a k)
      ++ (code_behind a (loop_body steps test third a k) ++ code_behind third (loop_third steps test third a k))))
  code_behind (repeat line a steps test) k =
      before_code (repeat line a steps test) k
      ∷ (code_behind a (round (repeat_tail a steps test k) k)
      ++ (steps_behind steps (repeat_test a steps k test)
      ++ (repeat_test a steps k test ∷ [])))
  code_behind (break line) k = k.broken ∷ []
  code_behind (continue line) k = k.continued ∷ []

  pub codes_behind : Codes → Ways → List Live
  codes_behind done k = []
  codes_behind (then c rest) k = code_behind c (then_live (before_codes rest k) k) ++ codes_behind rest k

abbrev pub routine_behind : Routine → List Live
routine_behind f = before_code f.body at_end ∷ (code_behind f.body at_end ++ replicate (end_points f.result) (λ y. false))

-- as many as points

two : {A : Type 0} (a b : List A) (i j : ℕ) → length a ≡ i → length b ≡ j → length (a ++ b) ≡ i + j
two a b i j ea eb =
    let x = length-append a b in
    omega (arith, x, ea, eb)

mutual
  pub step_touched : (s : Step) → length (step_touches s) ≡ step_points s
  step_touched (set line h ty op) = refl
  step_touched (fork line h test result a b) = let x = two (steps_touches a) (steps_touches b) _ _ (steps_touched a) (steps_touched b) in omega (arith, x)

  pub steps_touched : (s : Steps) → length (steps_touches s) ≡ steps_points s
  steps_touched none = refl
  steps_touched (more s rest) = two (step_touches s) (steps_touches rest) _ _ (step_touched s) (steps_touched rest)

pub act_touched : (act : Act) → length (act_touches act) ≡ act_points act
act_touched drop = refl
act_touched (perform line g tys) = refl
act_touched (assign line x ty) = refl
act_touched (store line a) = refl
act_touched (update line a change ty) = repeated (change_points change) nothing
act_touched (move line kinds left right) = repeated (2 * length kinds) nothing
act_touched (delete line) = refl
act_touched (leave line result) = refl

mutual
  pub code_touched : (c : Code) → length (code_touches c) ≡ code_points c
  code_touched (simple steps act) = two (steps_touches steps) (act_touches act) _ _ (steps_touched steps) (act_touched act)
  code_touched (clear line x ty) = refl
  code_touched (block codes) = codes_touched codes
  code_touched (branch steps test a b) =
      let x = two (code_touches a) (code_touches b) _ _ (code_touched a) (code_touched b) in
      let y = two (steps_touches steps) (nothing ∷ (code_touches a ++ code_touches b)) _ _ (steps_touched steps) refl in
      omega (arith, x, y)
  code_touched (loop line steps test third body) =
      let x = two (code_touches body) (code_touches third) _ _ (code_touched body) (code_touched third) in
      let y = two (test_touches test) (code_touches body ++ code_touches third) _ _ (repeated (branch_points test) nothing) refl in
      let z = two (steps_touches steps) (test_touches test ++ (code_touches body ++ code_touches third)) _ _ (steps_touched steps) refl in
      omega (arith, x, y, z)
  code_touched (repeat line body steps test) =
      let x = two (steps_touches steps) (nothing ∷ []) _ _ (steps_touched steps) refl in
      let y = two (code_touches body) (steps_touches steps ++ nothing ∷ []) _ _ (code_touched body) refl in
      omega (arith, x, y)
  code_touched (break line) = refl
  code_touched (continue line) = refl

  pub codes_touched : (cs : Codes) → length (codes_touches cs) ≡ codes_points cs
  codes_touched done = refl
  codes_touched (then c rest) = two (code_touches c) (codes_touches rest) _ _ (code_touched c) (codes_touched rest)

mutual
  pub step_lives : (s : Step) (live : Live) → length (step_behind s live) ≡ step_points s
  step_lives (set line h ty op) live = refl
  step_lives (fork line h test result a b) live = let x = two (steps_behind a live) (steps_behind b live) _ _ (steps_live a live) (steps_live b live) in omega (arith, x)

  pub steps_live : (s : Steps) (live : Live) → length (steps_behind s live) ≡ steps_points s
  steps_live none live = refl
  steps_live (more s rest) live = two (step_behind s (before_steps rest live)) (steps_behind rest live) _ _ (step_lives s (before_steps rest live)) (steps_live rest live)

pub act_lives : (act : Act) (live : Live) → length (act_behind act live) ≡ act_points act
act_lives drop live = refl
act_lives (perform line g tys) live = refl
act_lives (assign line x ty) live = refl
act_lives (store line a) live = refl
act_lives (update line a change ty) live = repeated (change_points change) live
act_lives (move line kinds left right) live = repeated (2 * length kinds) live
act_lives (delete line) live = refl
act_lives (leave line result) live = refl

mutual
  pub code_lives : (c : Code) (k : Ways) → length (code_behind c k) ≡ code_points c
  code_lives (simple steps act) k = two (steps_behind steps (before_act act k.next)) (act_behind act k.next) _ _ (steps_live steps _) (act_lives act k.next)
  code_lives (clear line x ty) k = refl
  code_lives (block codes) k = codes_live codes k
  code_lives (branch steps test a b) k =
      let live = λ (y : ℕ). before_code a k y || before_code b k y in
      let x = two (code_behind a k) (code_behind b k) _ _ (code_lives a k) (code_lives b k) in
      let y = two (steps_behind steps live) (live ∷ (code_behind a k ++ code_behind b k)) _ _ (steps_live steps live) refl in
      omega (arith, x, y)
  code_lives (loop line steps test third body) k =
      let live = loop_test steps test third body k in
      let k1 = loop_body steps test third body k in
      let k2 = loop_third steps test third body k in
      let x = two (code_behind body k1) (code_behind third k2) _ _ (code_lives body k1) (code_lives third k2) in
      let y = two (replicate (branch_points test) live) (code_behind body k1 ++ code_behind third k2) _ _ (repeated (branch_points test) live) refl in
      let z = two (steps_behind steps live) (replicate (branch_points test) live ++ (code_behind body k1 ++ code_behind third k2)) _ _ (steps_live steps live) refl in
      omega (arith, x, y, z)
  code_lives (repeat line body steps test) k =
      let live = repeat_test body steps k test in
      let k1 = round (repeat_tail body steps test k) k in
      let x = two (steps_behind steps live) (live ∷ []) _ _ (steps_live steps live) refl in
      let y = two (code_behind body k1) (steps_behind steps live ++ live ∷ []) _ _ (code_lives body k1) refl in
      omega (arith, x, y)
  code_lives (break line) k = refl
  code_lives (continue line) k = refl

  pub codes_live : (cs : Codes) (k : Ways) → length (codes_behind cs k) ≡ codes_points cs
  codes_live done k = refl
  codes_live (then c rest) k = two (code_behind c (then_live (before_codes rest k) k)) (codes_behind rest k) _ _ (code_lives c _) (codes_live rest k)

pub routine_touched : (f : Routine) → length (routine_touches f) ≡ routine_points f
routine_touched f =
    let x = two (code_touches f.body) (replicate (end_points f.result) nothing) _ _ (code_touched f.body) (repeated (end_points f.result) nothing) in
    omega (arith, x)

pub routine_lives : (f : Routine) → length (routine_behind f) ≡ routine_points f
routine_lives f =
    let dead = λ (y : ℕ). false in
    let x = two (code_behind f.body at_end) (replicate (end_points f.result) dead) _ _ (code_lives f.body at_end) (repeated (end_points f.result) dead) in
    omega (arith, x)

-- a step has a point
pub some_point : (s : Step) → 0 < step_points s
some_point (set line h ty op) = omega arith
some_point (fork line h test result a b) = omega arith
