-- Labels change nothing of what is live, nor of which functions delete: neither looks at lines.
use Rattle.std.proofs.Common.{◌≡◌, ℕ, zero, suc, ◌+◌, Bool, false, ◌||◌, ◌&&◌, List, [], ◌∷◌, Option, Some, None, refl, ap, ◌∙◌, arith}
use Rattle.std.specs.Prelude.{is_some, slice_get}
use Rattle.std.specs.Option.{option_map}
use Rattle.std.proofs.Math.Path.{fun_ext}
use Rattle.rc_core.specs.Live.{Ways, then_live, round}
use Rattle.rc_rlang.specs.RegionCode.{Step, set, fork, Steps, none, more, Act, drop, perform, assign, store, update, move, delete, leave, Test, Code, simple, clear, block, branch, loop, repeat, break, continue, Codes, done, then, Routine, Rlang}
use Rattle.rc_rlang.specs.RegionLive.{before_step, before_steps, before_act, before_code, before_codes, loop_head, repeat_tail}
use Rattle.rc_rlang.specs.RegionPoints.{steps_points, branch_points, code_points}
use Rattle.rc_rlang.specs.RegionRuns.{deletes, routine_deletes}
use Rattle.rc_labels.specs.Labels.{Numbering}
use Rattle.rc_labels.specs.Labelled.{step_labelled, steps_labelled, test_labelled, act_labelled, code_labelled, codes_labelled, routine_labelled, routines_labelled, labelled}

module _ (n : Numbering) where
  mutual
    step_lives : (s : Step) (live : ℕ → Bool) (x : ℕ) → before_step (step_labelled n s) live x ≡ before_step s live x
    step_lives (set line h ty op) live x = refl
    step_lives (fork line h test result a b) live x = ap (λ l. l || before_steps (steps_labelled n b) live x) (steps_lives_at a live x) ∙ ap (λ l. before_steps a live x || l) (steps_lives_at b live x)

    steps_lives_at : (x : Steps) (live : ℕ → Bool) (y : ℕ) → before_steps (steps_labelled n x) live y ≡ before_steps x live y
    steps_lives_at none live y = refl
    steps_lives_at (more s rest) live y = step_lives s (before_steps (steps_labelled n rest) live) y ∙ ap (λ l. before_step s l y) (fun_ext (λ z. steps_lives_at rest live z))

  pub steps_lives : (x : Steps) (live : ℕ → Bool) → before_steps (steps_labelled n x) live ≡ before_steps x live
  steps_lives x live = fun_ext (λ y. steps_lives_at x live y)

  pub test_there : (test : Option Test) → is_some (option_map (test_labelled n) test) ≡ is_some test
  test_there None = refl
  test_there (Some test) = refl

  module _ (marked : (point : ℕ) → Bool) where
    act_lives_at : (act : Act) (here : ℕ) (live : ℕ → Bool) (x : ℕ) → before_act (act_labelled n marked act here) live x ≡ before_act act live x
    act_lives_at drop here live x = refl
    act_lives_at (perform line f tys) here live x = refl
    act_lives_at (assign line y ty) here live x = refl
    act_lives_at (store line a) here live x = refl
    act_lives_at (update line a change ty) here live x = refl
    act_lives_at (move line cells left right) here live x = refl
    act_lives_at (delete line) here live x = refl
    act_lives_at (leave line result) here live x = refl

    pub act_lives : (act : Act) (here : ℕ) (live : ℕ → Bool) → before_act (act_labelled n marked act here) live ≡ before_act act live
    act_lives act here live = fun_ext (λ x. act_lives_at act here live x)

    -- a part does so at its place
    abbrev LivesAs : (c' c : Code) → Type 0
    LivesAs c' c = (k : Ways) (x : ℕ) → before_code c' k x ≡ before_code c k x

    branch_lives : (steps : Steps) (a' b' a b : Code) → LivesAs a' a → LivesAs b' b → (k : Ways) (x : ℕ) → before_steps (steps_labelled n steps) (λ y. before_code a' k y || before_code b' k y) x ≡ before_steps steps (λ y. before_code a k y || before_code b k y) x
    branch_lives steps a' b' a b of_a of_b k x =
        steps_lives_at steps (λ y. before_code a' k y || before_code b' k y) x ∙ ap (λ l. before_steps steps l x) (fun_ext (λ y. ap (λ l. l || before_code b' k y) (of_a k y) ∙ ap (λ l. before_code a k y || l) (of_b k y)))

    head_lives : (steps : Steps) (test : Option Test) (third' a' third a : Code) → LivesAs third' third → LivesAs a' a → (k : Ways) (x : ℕ) →
        before_steps (steps_labelled n steps) (λ y. (is_some (option_map (test_labelled n) test) && k.next y) || before_code a' (round (before_code third' (then_live (λ _. false) k)) k) y) x
        ≡ before_steps steps (λ y. (is_some test && k.next y) || before_code a (round (before_code third (then_live (λ _. false) k)) k) y) x
    head_lives steps test third' a' third a of_third of_a k x =
        steps_lives_at steps (λ y. (is_some (option_map (test_labelled n) test) && k.next y) || before_code a' (round (before_code third' (then_live (λ _. false) k)) k) y) x
        ∙ ap (λ l. before_steps steps l x) (fun_ext (λ y.
        ap (λ is. (is && k.next y) || before_code a' (round (before_code third' (then_live (λ _. false) k)) k) y) (test_there test)
        ∙ ap (λ l. (is_some test && k.next y) || l) (of_a (round (before_code third' (then_live (λ _. false) k)) k) y ∙ ap (λ l. before_code a (round l k) y) (fun_ext (λ z. of_third (then_live (λ _. false) k) z)))))

    again_lives : (a' a : Code) (steps : Steps) → LivesAs a' a → (k : Ways) (x : ℕ) → before_code a' (round (before_steps (steps_labelled n steps) k.next) k) x ≡ before_code a (round (before_steps steps k.next) k) x
    again_lives a' a steps of_a k x = of_a (round (before_steps (steps_labelled n steps) k.next) k) x ∙ ap (λ l. before_code a (round l k) x) (steps_lives steps k.next)

    mutual
      code_lives_at : (c : Code) (here : ℕ) → LivesAs (code_labelled n marked c here) c
      code_lives_at (simple steps act) here k x =
          steps_lives_at steps (before_act (act_labelled n marked act (here + steps_points steps)) k.next) x
          ∙ ap (λ l. before_steps steps l x) (act_lives act (here + steps_points steps) k.next)
      code_lives_at (clear line y ty) here k x = refl
      code_lives_at (block codes) here k x = codes_lives_at codes here k x
      code_lives_at (branch steps test a b) here k x =
          let at_a = suc (here + steps_points steps) in
          branch_lives steps (code_labelled n marked a at_a) (code_labelled n marked b (at_a + code_points a)) a b (code_lives_at a at_a) (code_lives_at b (at_a + code_points a)) k x
      code_lives_at (loop line steps test third a) here k x =
          let at_a = suc here + steps_points steps + branch_points test in
          head_lives steps test (code_labelled n marked third (at_a + code_points a)) (code_labelled n marked a at_a) third a (code_lives_at third (at_a + code_points a)) (code_lives_at a at_a) k x
      code_lives_at (repeat line a steps test) here k x = again_lives (code_labelled n marked a (suc here)) a steps (code_lives_at a (suc here)) k x
      code_lives_at (break line) here k x = refl
      code_lives_at (continue line) here k x = refl

      codes_lives_at : (c : Codes) (here : ℕ) (k : Ways) (x : ℕ) → before_codes (codes_labelled n marked c here) k x ≡ before_codes c k x
      codes_lives_at done here k x = refl
      codes_lives_at (then c rest) here k x =
          code_lives_at c here (then_live (before_codes (codes_labelled n marked rest (here + code_points c)) k) k) x
          ∙ ap (λ l. before_code c (then_live l k) x) (fun_ext (λ y. codes_lives_at rest (here + code_points c) k y))

    pub code_lives : (c : Code) (here : ℕ) (k : Ways) → before_code (code_labelled n marked c here) k ≡ before_code c k
    code_lives c here k = fun_ext (λ x. code_lives_at c here k x)

    pub codes_lives : (c : Codes) (here : ℕ) (k : Ways) → before_codes (codes_labelled n marked c here) k ≡ before_codes c k
    codes_lives c here k = fun_ext (λ x. codes_lives_at c here k x)

    -- at a loop's head, and behind the body of one that tests there
    pub loop_lives : (steps : Steps) (test : Option Test) (third a : Code) (at_third at_a : ℕ) (k : Ways) →
        loop_head (steps_labelled n steps) (option_map (test_labelled n) test) (code_labelled n marked third at_third) (code_labelled n marked a at_a) k ≡ loop_head steps test third a k
    loop_lives steps test third a at_third at_a k =
        fun_ext (λ x. head_lives steps test (code_labelled n marked third at_third) (code_labelled n marked a at_a) third a (code_lives_at third at_third) (code_lives_at a at_a) k x)

    pub again_lives_there : (a : Code) (steps : Steps) (test : Test) (at_a : ℕ) (k : Ways) → before_code (repeat 0 (code_labelled n marked a at_a) (steps_labelled n steps) (test_labelled n test)) k ≡ before_code (repeat 0 a steps test) k
    again_lives_there a steps test at_a k = fun_ext (λ x. again_lives (code_labelled n marked a at_a) a steps (code_lives_at a at_a) k x)

    pub repeat_lives : (a : Code) (steps : Steps) (test : Test) (at_a : ℕ) (k : Ways) → repeat_tail (code_labelled n marked a at_a) (steps_labelled n steps) (test_labelled n test) k ≡ repeat_tail a steps test k
    repeat_lives a steps test at_a k =
        steps_lives steps (λ y. k.next y || before_code (code_labelled n marked a at_a) (round (before_steps (steps_labelled n steps) k.next) k) y)
        ∙ ap (before_steps steps) (fun_ext (λ y. ap (λ l. k.next y || l) (again_lives (code_labelled n marked a at_a) a steps (code_lives_at a at_a) k y)))

  pub there : (marks : (function point : ℕ) → Bool) (fs : List Routine) (first g : ℕ) → slice_get (routines_labelled n marks first fs) g ≡ option_map (routine_labelled n (marks (first + g))) (slice_get fs g)
  there marks [] first g = refl
  there marks (f ∷ fs) first zero = ap (λ k. Some (routine_labelled n (marks k) f)) (let e : first ≡ first + 0 = omega arith in e)
  there marks (f ∷ fs) first (suc g) = there marks fs (suc first) g ∙ ap (λ k. option_map (routine_labelled n (marks k)) (slice_get fs g)) (let e : suc first + g ≡ first + suc g = omega arith in e)

  pub deletes_same : (marks : (function point : ℕ) → Bool) (r : Rlang) → deletes (labelled n marks r) ≡ deletes r
  deletes_same marks r = fun_ext (λ g. ap routine_deletes (there marks r.functions 0 g) ∙ by (marks (0 + g)) (slice_get r.functions g))
    where
      by : (marked : (point : ℕ) → Bool) (o : Option Routine) → routine_deletes (option_map (routine_labelled n marked) o) ≡ routine_deletes o
      by marked None = refl
      by marked (Some f) = refl
