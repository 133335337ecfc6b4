-- The code of statements, and a whole call of a function, do the same where stores are left to `put`.
use Rattle.std.proofs.Common.{◌≡◌, ℕ, zero, suc, ◌+◌, Bool, true, false, ◌||◌, ◌&&◌, List, ◌++◌, length, Option, Some, None, refl, ap, ◌∙◌, subst, arith}
use Rattle.std.specs.Prelude.{slice_get, is_some}
use Rattle.rc_core.specs.Heap.{Value, Null}
use Rattle.rc_core.specs.Runs.{Run, Go, bind, branching}
use Rattle.rc_core.specs.Source.{World, source}
use Rattle.rc_rlang.specs.RegionCode.{Steps, none, more, Test, Code, Codes}
use Rattle.rc_rlang.specs.RegionCode as Code
use Rattle.rc_rlang.specs.RegionPoints.{steps_points, act_points, code_points, codes_points}
use Rattle.rc_rlang.specs.RegionLive.{before_act, before_code, before_codes, loop_head, repeat_tail}
use Rattle.rc_rlang.specs.RegionRuns.{blank_temporaries, sized, result_of, run_routine, code_run, codes_run, rounds, rounds_first, behind, behind_body, test_value, Way, Next, Broke, Continued, Returned, act_run, Temporaries, steps_run}
use Rattle.rc_rlang.specs.RegionFlow.{nothing, going, first_of, steps_nodes, Ends, act_nodes, test_nodes, code_nodes, codes_nodes}
use Rattle.rc_annotations.specs.Holding.{AllHold}
use Rattle.rc_annotations.specs.Variables.{past}
use Rattle.rc_annotations.specs.Worlds.{Grown, Made, Sane}
use Rattle.rc_along.specs.Along.{Stand, given_to, RightSteps, RightRoutine, RoutineMeets, RightCode, RightCodes, ActMeets, HeadMeets, CodeMeets, CodesMeet, RoundsMeet, behind_meets, body_meets, nothing_more}
use Rattle.rc_along.specs.MarkedRuns.{act_marked, code_marked, codes_marked, routine_marked}
use Rattle.rc_core.specs.Live.{Ways, then_live, round}
use Rattle.rc_core.specs.Live as L
use Rattle.rc_core.specs.Laws.{IfGoes}
use Rattle.rc_annotations.proofs.WorldFacts.{goes_both}
use Rattle.rc_annotations.proofs.Nodes.{steps_count, code_count}
use Rattle.rc_along.proofs.Standing.{stand_left, stand_right, positive, twin, twin_branch}
use Rattle.rc_along.proofs.Settings.{Setting, Calling, Marking}
use Rattle.rc_along.proofs.Crossing.{n, all, At}
use Rattle.rc_along.proofs.StepsHold.{steps_good}
use Rattle.rc_along.proofs.ActsHold.{GoodWay, first_sum, first_more}
use Rattle.rc_along.proofs.CodeHolds.{turn_says, turned_good, Goal, Going, go_on, head_good, Does, code_good}
use Rattle.rc_along.proofs.RoutinesHold.{begin_good, body_stands}
use Rattle.rc_along.proofs.MarkedActs.{steps_same, act_same}

module _ (frame : Setting) (around : Calling frame) (marking : Marking frame around) where
  open frame use {r, temporaries, a, c, g, f, there, copied, whole, heap0}
  open around use {deleting, calls, inside, keeps_calls}
  open marking use {calls', put, trusting, marked, proven, calls_same}

  abbrev pub Same : Code → (here : ℕ) → Ends → Type 0
  Same x here k = (ways : Ways) (env : List Value) (t : Temporaries) (w : World) → CodeMeets deleting f calls inside x ways env t w → At frame (first_of (code_points x) here k.next) env t w → code_marked source put deleting f.locals marked x here calls' ways env t w ≡ code_run source deleting f.locals x calls ways env t w

  pub behind_same : (k : Ends) (x : ℕ) (go go' : Going frame around) (Met : Goal frame around) → ((env : List Value) (t : Temporaries) (w : World) → At frame x env t w → Met env t w → go' env t w ≡ go env t w) → (way : Way) (w : World) → GoodWay frame around (record k { next = x }) way w → behind_meets Met way w → behind go' way w ≡ behind go way w
  behind_same k x go go' Met h (Next env t) w p m = h env t w p m
  behind_same k x go go' Met h (Broke env t) w p m = refl
  behind_same k x go go' Met h (Continued env t) w p m = refl
  behind_same k x go go' Met h (Returned v) w p m = refl

  pub body_same : (k : Ends) (x : ℕ) (go go' : Going frame around) (Met : Goal frame around) → ((env : List Value) (t : Temporaries) (w : World) → At frame x env t w → Met env t w → go' env t w ≡ go env t w) → (way : Way) (w : World) → GoodWay frame around (record { next = x; broken = k.next; continued = x }) way w → body_meets Met way w → behind_body go' way w ≡ behind_body go way w
  body_same k x go go' Met h (Next env t) w p m = h env t w p m
  body_same k x go go' Met h (Broke env t) w p m = refl
  body_same k x go go' Met h (Continued env t) w p m = h env t w p m
  body_same k x go go' Met h (Returned v) w p m = refl

  abbrev pub AgainSame : ℕ → Goal frame around → (again again' : Going frame around) → Type 0
  AgainSame here Met again again' = (env : List Value) (t : Temporaries) (w : World) → At frame here env t w → Met env t w → again' env t w ≡ again env t w

  -- a turn, and then the next round
  pub turn_same : (here : ℕ) (Met : Goal frame around) (again again' : Going frame around) → AgainSame here Met again again' → AgainSame here (λ env2 t2 w2. IfGoes (λ _ w3. Met env2 t2 w3) (source.take_turn w2)) (λ env2 t2 w2. bind (source.take_turn w2) (λ _ w3. again env2 t2 w3)) (λ env2 t2 w2. bind (source.take_turn w2) (λ _ w3. again' env2 t2 w3))
  turn_same here Met again again' h env2 t2 w2 i2 k2 =
      twin (λ u w3. At frame here env2 t2 w3 × Met env2 t2 w3) (source.take_turn w2) (source.take_turn w2) (λ _ w3. again env2 t2 w3) (λ _ w3. again' env2 t2 w3) refl
      (goes_both (λ u w3. At frame here env2 t2 w3) (λ u w3. Met env2 t2 w3) (source.take_turn w2) (turn_says frame around w2.turns (At frame here env2 t2) w2 (λ m. turned_good frame around here env2 t2 w2 m i2)) (record { holds = k2 }))
      (λ u w3 q. h env2 t2 w3 q.0 q.1)

  pub rounds_same : (here : ℕ) (Round : Goal frame around → Goal frame around) (head head' : List Value → Temporaries → World → Run World Temporaries) (test : Option Test) (body body' : Going frame around → Going frame around)
      → ((Met : Goal frame around) (again again' : Going frame around) → AgainSame here Met again again' → (env : List Value) (t : Temporaries) (w : World) → At frame here env t w → Round Met env t w
      → bind (head' env t w) (λ t1. branching (test_value test t1) (body' again' env t1) (Go (Next env t1))) ≡ bind (head env t w) (λ t1. branching (test_value test t1) (body again env t1) (Go (Next env t1))))
      → (m : ℕ) → AgainSame here (RoundsMeet m Round) (rounds source deleting f.locals m head test body) (rounds source deleting f.locals m head' test body')
  rounds_same here Round head head' test body body' hh zero env t w i meets = refl
  rounds_same here Round head head' test body body' hh (suc m) env t w i meets =
      hh (λ env2 t2 w2. IfGoes (λ _ w3. RoundsMeet m Round env2 t2 w3) (source.take_turn w2)) (λ env2 t2 w2. bind (source.take_turn w2) (λ _ w3. rounds source deleting f.locals m head test body env2 t2 w3)) (λ env2 t2 w2. bind (source.take_turn w2) (λ _ w3. rounds source deleting f.locals m head' test body' env2 t2 w3))
      (turn_same here (RoundsMeet m Round) (rounds source deleting f.locals m head test body) (rounds source deleting f.locals m head' test body') (rounds_same here Round head head' test body body' hh m)) env t w i meets

  pub rounds_first_same : (here : ℕ) (Round : Goal frame around → Goal frame around) (tail tail' : List Value → Temporaries → World → Run World Temporaries) (test : Option Test) (body body' : Going frame around → Going frame around)
      → ((Met : Goal frame around) (again again' : Going frame around) → AgainSame here Met again again' → (env : List Value) (t : Temporaries) (w : World) → At frame here env t w → Round Met env t w
      → body' (λ env1 t1 w1. bind (tail' env1 t1 w1) (λ t2. branching (test_value test t2) (again' env1 t2) (Go (Next env1 t2)))) env t w ≡ body (λ env1 t1 w1. bind (tail env1 t1 w1) (λ t2. branching (test_value test t2) (again env1 t2) (Go (Next env1 t2)))) env t w)
      → (m : ℕ) → AgainSame here (RoundsMeet m Round) (rounds_first source deleting f.locals m tail test body) (rounds_first source deleting f.locals m tail' test body')
  rounds_first_same here Round tail tail' test body body' hh zero env t w i meets = refl
  rounds_first_same here Round tail tail' test body body' hh (suc m) env t w i meets =
      hh (λ env2 t2 w2. IfGoes (λ _ w3. RoundsMeet m Round env2 t2 w3) (source.take_turn w2)) (λ env2 t2 w2. bind (source.take_turn w2) (λ _ w3. rounds_first source deleting f.locals m tail test body env2 t2 w3)) (λ env2 t2 w2. bind (source.take_turn w2) (λ _ w3. rounds_first source deleting f.locals m tail' test body' env2 t2 w3))
      (turn_same here (RoundsMeet m Round) (rounds_first source deleting f.locals m tail test body) (rounds_first source deleting f.locals m tail' test body') (rounds_first_same here Round tail tail' test body body' hh m)) env t w i meets

  -- steps and a test
  pub head_same : (steps : Steps) (test : Test) (here at to_yes to_no : ℕ) (live : ℕ → Bool) (if_true if_false : Goal frame around) (env : List Value) (t : Temporaries) (w : World) (go_yes go_no go_yes' go_no' : Going frame around) → Stand (all frame) here (steps_nodes f steps here at) → Stand (all frame) at (test_nodes f (Some test) to_yes to_no)
      → RightSteps r f (n frame) steps → HeadMeets deleting f calls inside steps (Some test) live if_true if_false env t w → At frame (first_of (steps_points steps) here at) env t w
      → AgainSame to_yes if_true go_yes go_yes' → AgainSame to_no if_false go_no go_no'
      → bind (steps_run source deleting f.locals steps calls' live env t w) (λ t1. branching (test_value (Some test) t1) (go_yes' env t1) (go_no' env t1)) ≡ bind (steps_run source deleting f.locals steps calls live env t w) (λ t1. branching (test_value (Some test) t1) (go_yes env t1) (go_no env t1))
  head_same steps test here at to_yes to_no live if_true if_false env t w go_yes go_no go_yes' go_no' ss ts rs meets good hy hn =
      twin (λ t1 w1. (test_value (Some test) t1 ≡ true → At frame to_yes env t1 w1 × if_true env t1 w1) × (test_value (Some test) t1 ≡ false → At frame to_no env t1 w1 × if_false env t1 w1)) (steps_run source deleting f.locals steps calls live env t w) (steps_run source deleting f.locals steps calls' live env t w)
      (λ t1. branching (test_value (Some test) t1) (go_yes env t1) (go_no env t1)) (λ t1. branching (test_value (Some test) t1) (go_yes' env t1) (go_no' env t1))
      (steps_same frame around marking steps here at live env t w ss rs meets.0 good)
      (head_good frame around steps test here at to_yes to_no live if_true if_false env t w ss ts rs meets good)
      (λ t1 w1 p. twin_branch (test_value (Some test) t1) (go_yes env t1) (go_yes' env t1) (go_no env t1) (go_no' env t1) w1 (λ e. hy env t1 w1 (p.0 e).0 (p.0 e).1) (λ e. hn env t1 w1 (p.1 e).0 (p.1 e).1))

  -- the body of a loop, what comes behind it, and the next round
  pub round_same : (third body : Code) (here at_body at_third back : ℕ) (k : Ends) (ways1 ways2 : Ways) → back ≡ first_of (code_points third) at_third here
      → Does frame around body at_body (record { next = back; broken = k.next; continued = back }) → Does frame around third at_third (record k { next = here }) → Same body at_body (record { next = back; broken = k.next; continued = back }) → Same third at_third (record k { next = here })
      → (Met : Goal frame around) (again again' : Going frame around) → AgainSame here Met again again'
      → AgainSame (first_of (code_points body) at_body back) (λ env t w. CodeMeets deleting f calls inside body ways1 env t w × IfGoes (body_meets (λ env3 t3 w3. CodeMeets deleting f calls inside third ways2 env3 t3 w3 × IfGoes (behind_meets Met) (code_run source deleting f.locals third calls ways2 env3 t3 w3))) (code_run source deleting f.locals body calls ways1 env t w))
      (λ env t w. bind (code_run source deleting f.locals body calls ways1 env t w) (behind_body (λ env2 t2 w2. bind (code_run source deleting f.locals third calls ways2 env2 t2 w2) (behind again))))
      (λ env t w. bind (code_marked source put deleting f.locals marked body at_body calls' ways1 env t w) (behind_body (λ env2 t2 w2. bind (code_marked source put deleting f.locals marked third at_third calls' ways2 env2 t2 w2) (behind again'))))
  round_same third body here at_body at_third back k ways1 ways2 e body_does third_does body_is third_is Met again again' h env t w i meets =
      let go : Going frame around = λ env2 t2 w2. bind (code_run source deleting f.locals third calls ways2 env2 t2 w2) (behind again) in
      let go' : Going frame around = λ env2 t2 w2. bind (code_marked source put deleting f.locals marked third at_third calls' ways2 env2 t2 w2) (behind again') in
      let Inner : Goal frame around = λ env3 t3 w3. CodeMeets deleting f calls inside third ways2 env3 t3 w3 × IfGoes (behind_meets Met) (code_run source deleting f.locals third calls ways2 env3 t3 w3) in
      let kb : Ends = record { next = back; broken = k.next; continued = back } in
      let kt : Ends = record k { next = here } in
      twin (λ way w1. GoodWay frame around kb way w1 × body_meets Inner way w1) (code_run source deleting f.locals body calls ways1 env t w) (code_marked source put deleting f.locals marked body at_body calls' ways1 env t w) (behind_body go) (behind_body go') (body_is ways1 env t w meets.0 i)
      (goes_both (GoodWay frame around kb) (body_meets Inner) (code_run source deleting f.locals body calls ways1 env t w) (body_does ways1 env t w meets.0 i) (record { holds = meets.1 }))
      (λ way w1 p. body_same k back go go' Inner (λ env2 t2 w2 i2 m2.
      let i3 = subst (λ x. At frame x env2 t2 w2) e i2 in
      twin (λ way2 w3. GoodWay frame around kt way2 w3 × behind_meets Met way2 w3) (code_run source deleting f.locals third calls ways2 env2 t2 w2) (code_marked source put deleting f.locals marked third at_third calls' ways2 env2 t2 w2) (behind again) (behind again') (third_is ways2 env2 t2 w2 m2.0 i3)
      (goes_both (GoodWay frame around kt) (behind_meets Met) (code_run source deleting f.locals third calls ways2 env2 t2 w2) (third_does ways2 env2 t2 w2 m2.0 i3) (record { holds = m2.1 }))
      (λ way2 w3 p2. behind_same k here again again' Met h way2 w3 p2.0 p2.1)) way w1 p.0 p.1)

  pub next_same : (x : ℕ) → AgainSame x (nothing_more deleting f calls inside) (λ env t w. Go (Next env t) w) (λ env t w. Go (Next env t) w)
  next_same x env t w i m = refl

  pub loop_some_same : (line : ℕ) (steps : Steps) (test : Test) (third body : Code) (here : ℕ) (k : Ends) → RightSteps r f (n frame) steps
      → let at = suc here + steps_points steps in let at_body = at + 1 in let at_third = at_body + code_points body in let back = first_of (code_points third) at_third here in let inside' = first_of (code_points body) at_body back in
      Stand (all frame) (suc here) (steps_nodes f steps (suc here) at) → Stand (all frame) at (test_nodes f (Some test) inside' k.next) → Does frame around body at_body (record { next = back; broken = k.next; continued = back }) → Does frame around third at_third (record k { next = here })
      → Same body at_body (record { next = back; broken = k.next; continued = back }) → Same third at_third (record k { next = here })
      → slice_get (all frame) here ≡ Some (going nothing (first_of (steps_points steps + 1) (suc here) inside')) → (ways : Ways) (env : List Value) (t : Temporaries) (w : World) → CodeMeets deleting f calls inside (Code.loop line steps (Some test) third body) ways env t w → At frame here env t w
      → code_marked source put deleting f.locals marked (Code.loop line steps (Some test) third body) here calls' ways env t w ≡ code_run source deleting f.locals (Code.loop line steps (Some test) third body) calls ways env t w
  loop_some_same line steps test third body here k rs ss ts body_does third_does body_is third_is q ways env t w meets i =
      let at = suc here + steps_points steps in
      let at_body = at + 1 in
      let at_third = at_body + code_points body in
      let back = first_of (code_points third) at_third here in
      let inside' = first_of (code_points body) at_body back in
      let ways2 : Ways = then_live (loop_head steps (Some test) third body ways) ways in
      let ways1 : Ways = round (before_code third ways2) ways in
      let live : ℕ → Bool = λ y. (is_some (Some test) && ways.next y) || before_code body ways1 y in
      let Inner : Goal frame around → Goal frame around = λ Met env2 t2 w2. CodeMeets deleting f calls inside body ways1 env2 t2 w2 × IfGoes (body_meets (λ env3 t3 w3. CodeMeets deleting f calls inside third ways2 env3 t3 w3 × IfGoes (behind_meets Met) (code_run source deleting f.locals third calls ways2 env3 t3 w3))) (code_run source deleting f.locals body calls ways1 env2 t2 w2) in
      let go : Going frame around → Going frame around = λ again env1 t1 w1. bind (code_run source deleting f.locals body calls ways1 env1 t1 w1) (behind_body (λ env2 t2 w2. bind (code_run source deleting f.locals third calls ways2 env2 t2 w2) (behind again))) in
      let go' : Going frame around → Going frame around = λ again env1 t1 w1. bind (code_marked source put deleting f.locals marked body at_body calls' ways1 env1 t1 w1) (behind_body (λ env2 t2 w2. bind (code_marked source put deleting f.locals marked third at_third calls' ways2 env2 t2 w2) (behind again))) in
      rounds_same here (λ Met env1 t1 w1. HeadMeets deleting f calls inside steps (Some test) live (Inner Met) (nothing_more deleting f calls inside) env1 t1 w1) (steps_run source deleting f.locals steps calls live) (steps_run source deleting f.locals steps calls' live) (Some test) go go'
      (λ Met again again' h env1 t1 w1 j m.
      head_same steps test (suc here) at inside' k.next live (Inner Met) (nothing_more deleting f calls inside) env1 t1 w1 (go again) (λ env2 t2 w2. Go (Next env2 t2) w2) (go' again') (λ env2 t2 w2. Go (Next env2 t2) w2) ss ts rs m
      (subst (λ p. At frame p env1 t1 w1) (first_more frame around (steps_points steps) 1 (suc here) inside' (omega arith)) (go_on frame around here _ env1 t1 w1 q j))
      (round_same third body here at_body at_third back k ways1 ways2 refl body_does third_does body_is third_is Met again again' h) (next_same k.next))
      (suc (source.turns_left w)) env t w i (meets (suc (source.turns_left w)))

  pub loop_none_same : (line : ℕ) (steps : Steps) (third body : Code) → steps ≡ none → (here : ℕ) (k : Ends)
      → let at = suc here + steps_points steps in let at_body = at + 0 in let at_third = at_body + code_points body in let back = first_of (code_points third) at_third here in let inside' = first_of (code_points body) at_body back in
      Does frame around body at_body (record { next = back; broken = k.next; continued = back }) → Does frame around third at_third (record k { next = here }) → Same body at_body (record { next = back; broken = k.next; continued = back }) → Same third at_third (record k { next = here })
      → slice_get (all frame) here ≡ Some (going nothing (first_of (steps_points steps + 0) (suc here) inside')) → (ways : Ways) (env : List Value) (t : Temporaries) (w : World) → CodeMeets deleting f calls inside (Code.loop line steps None third body) ways env t w → At frame here env t w
      → code_marked source put deleting f.locals marked (Code.loop line steps None third body) here calls' ways env t w ≡ code_run source deleting f.locals (Code.loop line steps None third body) calls ways env t w
  loop_none_same line none third body e here k body_does third_does body_is third_is q ways env t w meets i =
      let at_body = suc here + 0 + 0 in
      let at_third = at_body + code_points body in
      let back = first_of (code_points third) at_third here in
      let inside' = first_of (code_points body) at_body back in
      let ways2 : Ways = then_live (loop_head none None third body ways) ways in
      let ways1 : Ways = round (before_code third ways2) ways in
      let live : ℕ → Bool = λ y. (is_some {T = Test} None && ways.next y) || before_code body ways1 y in
      let Inner : Goal frame around → Goal frame around = λ Met env2 t2 w2. CodeMeets deleting f calls inside body ways1 env2 t2 w2 × IfGoes (body_meets (λ env3 t3 w3. CodeMeets deleting f calls inside third ways2 env3 t3 w3 × IfGoes (behind_meets Met) (code_run source deleting f.locals third calls ways2 env3 t3 w3))) (code_run source deleting f.locals body calls ways1 env2 t2 w2) in
      let go : Going frame around → Going frame around = λ again env1 t1 w1. bind (code_run source deleting f.locals body calls ways1 env1 t1 w1) (behind_body (λ env2 t2 w2. bind (code_run source deleting f.locals third calls ways2 env2 t2 w2) (behind again))) in
      let go' : Going frame around → Going frame around = λ again env1 t1 w1. bind (code_marked source put deleting f.locals marked body at_body calls' ways1 env1 t1 w1) (behind_body (λ env2 t2 w2. bind (code_marked source put deleting f.locals marked third at_third calls' ways2 env2 t2 w2) (behind again))) in
      rounds_same here (λ Met env1 t1 w1. HeadMeets deleting f calls inside none None live (Inner Met) (nothing_more deleting f calls inside) env1 t1 w1) (steps_run source deleting f.locals none calls live) (steps_run source deleting f.locals none calls' live) None go go'
      (λ Met again again' h env1 t1 w1 j m. round_same third body here at_body at_third back k ways1 ways2 refl body_does third_does body_is third_is Met again again' h env1 t1 w1 (go_on frame around here inside' env1 t1 w1 q j) (m.1.1 refl))
      (suc (source.turns_left w)) env t w i (meets (suc (source.turns_left w)))
  loop_none_same line (more x rest) third body e here k body_does third_does body_is third_is q ways env t w meets i = cc

  pub repeat_same : (line : ℕ) (body : Code) (steps : Steps) (test : Test) (here : ℕ) (k : Ends) → RightSteps r f (n frame) steps
      → let at_tail = suc here + code_points body in let at_test = at_tail + steps_points steps in let tail = first_of (steps_points steps) at_tail at_test in
      Stand (all frame) at_tail (steps_nodes f steps at_tail at_test) → Stand (all frame) at_test (test_nodes f (Some test) here k.next) → Does frame around body (suc here) (record { next = tail; broken = k.next; continued = tail }) → Same body (suc here) (record { next = tail; broken = k.next; continued = tail })
      → slice_get (all frame) here ≡ Some (going nothing (first_of (code_points body) (suc here) tail)) → (ways : Ways) (env : List Value) (t : Temporaries) (w : World) → CodeMeets deleting f calls inside (Code.repeat line body steps test) ways env t w → At frame here env t w
      → code_marked source put deleting f.locals marked (Code.repeat line body steps test) here calls' ways env t w ≡ code_run source deleting f.locals (Code.repeat line body steps test) calls ways env t w
  repeat_same line body steps test here k rs ss ts body_does body_is q ways env t w meets i =
      let at_tail = suc here + code_points body in
      let at_test = at_tail + steps_points steps in
      let tail = first_of (steps_points steps) at_tail at_test in
      let kb : Ends = record { next = tail; broken = k.next; continued = tail } in
      let live : ℕ → Bool = λ y. ways.next y || before_code (Code.repeat 0 body steps test) ways y in
      let ways1 : Ways = round (repeat_tail body steps test ways) ways in
      let Inner : Goal frame around → Goal frame around = λ Met env2 t2 w2. HeadMeets deleting f calls inside steps (Some test) live Met (nothing_more deleting f calls inside) env2 t2 w2 in
      rounds_first_same here (λ Met env1 t1 w1. CodeMeets deleting f calls inside body ways1 env1 t1 w1 × IfGoes (body_meets (Inner Met)) (code_run source deleting f.locals body calls ways1 env1 t1 w1)) (steps_run source deleting f.locals steps calls live) (steps_run source deleting f.locals steps calls' live) (Some test)
      (λ again env1 t1 w1. bind (code_run source deleting f.locals body calls ways1 env1 t1 w1) (behind_body again))
      (λ again env1 t1 w1. bind (code_marked source put deleting f.locals marked body (suc here) calls' ways1 env1 t1 w1) (behind_body again))
      (λ Met again again' h env1 t1 w1 j m.
      let go : Going frame around = λ env2 t2 w2. bind (steps_run source deleting f.locals steps calls live env2 t2 w2) (λ t3. branching (test_value (Some test) t3) (again env2 t3) (Go (Next env2 t3))) in
      let go' : Going frame around = λ env2 t2 w2. bind (steps_run source deleting f.locals steps calls' live env2 t2 w2) (λ t3. branching (test_value (Some test) t3) (again' env2 t3) (Go (Next env2 t3))) in
      let i1 : At frame (first_of (code_points body) (suc here) tail) env1 t1 w1 = (go_on frame around here _ env1 t1 w1 q j) in
      twin (λ way w2. GoodWay frame around kb way w2 × body_meets (Inner Met) way w2) (code_run source deleting f.locals body calls ways1 env1 t1 w1) (code_marked source put deleting f.locals marked body (suc here) calls' ways1 env1 t1 w1) (behind_body go) (behind_body go') (body_is ways1 env1 t1 w1 m.0 i1)
      (goes_both (GoodWay frame around kb) (body_meets (Inner Met)) (code_run source deleting f.locals body calls ways1 env1 t1 w1) (body_does ways1 env1 t1 w1 m.0 i1) (record { holds = m.1 }))
      (λ way w2 p. body_same k tail go go' (Inner Met) (λ env2 t2 w3 i2 m2.
      head_same steps test at_tail at_test here k.next live Met (nothing_more deleting f calls inside) env2 t2 w3 again (λ env3 t3 w4. Go (Next env3 t3) w4) again' (λ env3 t3 w4. Go (Next env3 t3) w4) ss ts rs m2 i2 h (next_same k.next)) way w2 p.0 p.1))
      (suc (source.turns_left w)) env t w i (meets (suc (source.turns_left w)))

  mutual
    pub code_same : (x : Code) (here : ℕ) (k : Ends) → Stand (all frame) here (code_nodes f x here k) → RightCode r f (n frame) x → Same x here k
    code_same (Code.simple steps act) here k st right ways env t w meets i =
        let at = here + steps_points steps in
        let to = first_of (act_points act) at k.next in
        let m = steps_run source deleting f.locals steps calls (before_act act ways.next) env t w in
        let left = stand_left (all frame) here (steps_nodes f steps here to) (act_nodes f act at k.next) st in
        let first = subst (λ p. At frame p env t w) (first_sum frame around (steps_points steps) (act_points act) here k.next) i in
        twin (λ t1 w1. At frame to env t1 w1 × ActMeets deleting f calls inside act ways.next env t1 w1) m (steps_run source deleting f.locals steps calls' (before_act act ways.next) env t w) (λ t1. act_run source deleting f.locals act calls ways.next env t1) (λ t1. act_marked source put deleting f.locals marked act at calls' ways.next env t1)
        (steps_same frame around marking steps here to (before_act act ways.next) env t w left right.0 meets.0 first)
        (goes_both (At frame to env) (λ t1 w1. ActMeets deleting f calls inside act ways.next env t1 w1) m (steps_good frame around steps here to (before_act act ways.next) env t w left right.0 meets.0 first) (record { holds = meets.1 }))
        (λ t1 w1 q. act_same frame around marking act at k ways.next env t1 w1 (stand_right (all frame) here at (steps_nodes f steps here to) (act_nodes f act at k.next) (let j = steps_count f steps here to in omega (arith, j)) st) right.1 q.1 q.0)
    code_same (Code.clear line x ty) here k st right ways env t w meets i = refl
    code_same (Code.block codes) here k st right ways env t w meets i = codes_same codes here k st right ways env t w meets i
    code_same (Code.branch steps test x y) here k st right ways env t w meets i =
        let at = here + steps_points steps in
        let at_y = suc at + code_points x in
        let to_x = first_of (code_points x) (suc at) k.next in
        let to_y = first_of (code_points y) at_y k.next in
        let S = steps_nodes f steps here at in
        let T = test_nodes f (Some test) to_x to_y in
        let X = code_nodes f x (suc at) k in
        let Y = code_nodes f y at_y k in
        let rest = stand_right (all frame) here at S (T ++ (X ++ Y)) (let j = steps_count f steps here at in omega (arith, j)) st in
        let arms = stand_right (all frame) at (suc at) T (X ++ Y) (omega arith) rest in
        let live = λ (v : ℕ). before_code x ways v || before_code y ways v in
        head_same steps test here at to_x to_y live (CodeMeets deleting f calls inside x ways) (CodeMeets deleting f calls inside y ways) env t w (code_run source deleting f.locals x calls ways) (code_run source deleting f.locals y calls ways) (code_marked source put deleting f.locals marked x (suc at) calls' ways) (code_marked source put deleting f.locals marked y at_y calls' ways)
        (stand_left (all frame) here S (T ++ (X ++ Y)) st) (stand_left (all frame) at T (X ++ Y) rest) right.0 meets
        (subst (λ p. At frame p env t w) (ap (λ i. first_of i here k.next) (let e : steps_points steps + 1 + code_points x + code_points y ≡ steps_points steps + (1 + code_points x + code_points y) = omega arith in e) ∙ first_more frame around (steps_points steps) (1 + code_points x + code_points y) here k.next (omega arith)) i)
        (λ env1 t1 w1 i1 m1. code_same x (suc at) k (stand_left (all frame) (suc at) X Y arms) right.1 ways env1 t1 w1 m1 i1)
        (λ env1 t1 w1 i1 m1. code_same y at_y k (stand_right (all frame) (suc at) at_y X Y (let j = code_count f x (suc at) k in omega (arith, j)) arms) right.2 ways env1 t1 w1 m1 i1)
    code_same (Code.loop line steps None third body) here k st right ways env t w meets i =
        let at = suc here + steps_points steps in
        let at_body = at + 0 in
        let at_third = at_body + code_points body in
        let back = first_of (code_points third) at_third here in
        let k1 : Ends = record { next = back; broken = k.next; continued = back } in
        let k2 : Ends = record k { next = here } in
        let S = steps_nodes f steps (suc here) at in
        let B = code_nodes f body at_body k1 in
        let C = code_nodes f third at_third k2 in
        let arms = stand_right (all frame) (suc here) at_body S (B ++ C) (let j = steps_count f steps (suc here) at in omega (arith, j)) st.1 in
        let at_b = stand_left (all frame) at_body B C arms in
        let at_c = stand_right (all frame) at_body at_third B C (let j = code_count f body at_body k1 in omega (arith, j)) arms in
        loop_none_same line steps third body right.0 here k (code_good frame around body at_body k1 at_b right.2) (code_good frame around third at_third k2 at_c right.1) (code_same body at_body k1 at_b right.2) (code_same third at_third k2 at_c right.1)
        st.0 ways env t w meets (subst (λ p. At frame p env t w) (positive (1 + steps_points steps + 0 + code_points body + code_points third) here k.next (omega arith)) i)
    code_same (Code.loop line steps (Some test) third body) here k st right ways env t w meets i =
        let at = suc here + steps_points steps in
        let at_body = at + 1 in
        let at_third = at_body + code_points body in
        let back = first_of (code_points third) at_third here in
        let inside' = first_of (code_points body) at_body back in
        let k1 : Ends = record { next = back; broken = k.next; continued = back } in
        let k2 : Ends = record k { next = here } in
        let S = steps_nodes f steps (suc here) at in
        let T = test_nodes f (Some test) inside' k.next in
        let B = code_nodes f body at_body k1 in
        let C = code_nodes f third at_third k2 in
        let rest = stand_right (all frame) (suc here) at S (T ++ (B ++ C)) (let j = steps_count f steps (suc here) at in omega (arith, j)) st.1 in
        let arms = stand_right (all frame) at at_body T (B ++ C) (omega arith) rest in
        let at_b = stand_left (all frame) at_body B C arms in
        let at_c = stand_right (all frame) at_body at_third B C (let j = code_count f body at_body k1 in omega (arith, j)) arms in
        loop_some_same line steps test third body here k right.0
        (stand_left (all frame) (suc here) S (T ++ (B ++ C)) st.1) (stand_left (all frame) at T (B ++ C) rest)
        (code_good frame around body at_body k1 at_b right.2) (code_good frame around third at_third k2 at_c right.1) (code_same body at_body k1 at_b right.2) (code_same third at_third k2 at_c right.1)
        st.0 ways env t w meets (subst (λ p. At frame p env t w) (positive (1 + steps_points steps + 1 + code_points body + code_points third) here k.next (omega arith)) i)
    code_same (Code.repeat line body steps test) here k st right ways env t w meets i =
        let at_tail = suc here + code_points body in
        let at_test = at_tail + steps_points steps in
        let tail = first_of (steps_points steps) at_tail at_test in
        let k1 : Ends = record { next = tail; broken = k.next; continued = tail } in
        let B = code_nodes f body (suc here) k1 in
        let S = steps_nodes f steps at_tail at_test in
        let T = test_nodes f (Some test) here k.next in
        let rest = stand_right (all frame) (suc here) at_tail B (S ++ T) (let j = code_count f body (suc here) k1 in omega (arith, j)) st.1 in
        let at_b = stand_left (all frame) (suc here) B (S ++ T) st.1 in
        repeat_same line body steps test here k right.0
        (stand_left (all frame) at_tail S T rest) (stand_right (all frame) at_tail at_test S T (let j = steps_count f steps at_tail at_test in omega (arith, j)) rest)
        (code_good frame around body (suc here) k1 at_b right.1) (code_same body (suc here) k1 at_b right.1)
        st.0 ways env t w meets (subst (λ p. At frame p env t w) (positive (1 + code_points body + steps_points steps + 1) here k.next (omega arith)) i)
    code_same (Code.break line) here k st right ways env t w meets i = refl
    code_same (Code.continue line) here k st right ways env t w meets i = refl

    pub codes_same : (x : Codes) (here : ℕ) (k : Ends) → Stand (all frame) here (codes_nodes f x here k) → RightCodes r f (n frame) x → (ways : Ways) (env : List Value) (t : Temporaries) (w : World) → CodesMeet deleting f calls inside x ways env t w → At frame (first_of (codes_points x) here k.next) env t w
        → codes_marked source put deleting f.locals marked x here calls' ways env t w ≡ codes_run source deleting f.locals x calls ways env t w
    codes_same Code.done here k st right ways env t w meets i = refl
    codes_same (Code.then x rest) here k st right ways env t w meets i =
        let at = here + code_points x in
        let to = first_of (codes_points rest) at k.next in
        let k1 : Ends = record k { next = to } in
        let m = code_run source deleting f.locals x calls (then_live (before_codes rest ways) ways) env t w in
        let left = stand_left (all frame) here (code_nodes f x here k1) (codes_nodes f rest at k) st in
        let first = subst (λ p. At frame p env t w) (first_sum frame around (code_points x) (codes_points rest) here k.next) i in
        twin (λ way w1. GoodWay frame around k1 way w1 × behind_meets (λ env1 t1 w1. CodesMeet deleting f calls inside rest ways env1 t1 w1) way w1) m (code_marked source put deleting f.locals marked x here calls' (then_live (before_codes rest ways) ways) env t w) (behind (codes_run source deleting f.locals rest calls ways)) (behind (codes_marked source put deleting f.locals marked rest at calls' ways))
        (code_same x here k1 left right.0 (then_live (before_codes rest ways) ways) env t w meets.0 first)
        (goes_both (GoodWay frame around k1) (behind_meets (λ env1 t1 w1. CodesMeet deleting f calls inside rest ways env1 t1 w1)) m (code_good frame around x here k1 left right.0 (then_live (before_codes rest ways) ways) env t w meets.0 first) (record { holds = meets.1 }))
        (λ way w1 p. behind_same k to (codes_run source deleting f.locals rest calls ways) (codes_marked source put deleting f.locals marked rest at calls' ways) (λ env1 t1 w1. CodesMeet deleting f calls inside rest ways env1 t1 w1)
        (λ env2 t2 w2 i2 m2. codes_same rest at k (stand_right (all frame) here at (code_nodes f x here k1) (codes_nodes f rest at k) (let j = code_count f x here k1 in omega (arith, j)) st) right.1 ways env2 t2 w2 m2 i2) way w1 p.0 p.1)

  pub routine_same : (xs : List Value) (w : World) → copied ≡ given_to f xs → length xs ≡ f.parameters → RightRoutine r f (n frame) → RoutineMeets deleting f calls inside xs w → Sane w → Grown heap0 w.heap → AllHold (a.entry g) (past copied (λ i. Null)) w.heap → ((i : ℕ) → Made w.heap (past copied (λ k. Null) i))
      → routine_marked source put deleting marked calls' (Some f) xs w ≡ run_routine source deleting calls (Some f) xs w
  routine_same xs w same long_xs right meets sane grown hold made' =
      let at_end' = suc (code_points f.body) in
      let k : Ends = record { next = at_end'; broken = at_end'; continued = at_end' } in
      ap (λ m. bind m (result_of f.result)) (code_same f.body 1 k (body_stands frame around).0 right.body L.at_end (sized f.locals xs) blank_temporaries w meets (begin_good frame around xs w same long_xs sane grown hold made'))
