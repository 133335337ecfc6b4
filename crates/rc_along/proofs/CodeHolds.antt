-- Facts hold along the code of statements.
use Rattle.std.proofs.Common.{◌≡◌, ℕ, zero, suc, ◌+◌, Bool, true, false, ◌||◌, ◌&&◌, not, List, ◌++◌, get_or, Option, Some, None, refl, sym, ap, ◌∙◌, subst, arith}
use Rattle.std.specs.Prelude.{slice_get, is_some}
use Rattle.rc_core.specs.Types.{Ty}
use Rattle.rc_core.specs.Heap.{Value, Null, zero_of}
use Rattle.rc_core.specs.Runs.{Run, Go, bind, branching}
use Rattle.rc_core.specs.Source.{World, turn_from, source}
use Rattle.rc_rlang.specs.RegionCode.{Steps, none, more, Test, Code, Codes}
use Rattle.rc_rlang.specs.RegionCode as Code
use Rattle.rc_rlang.specs.RegionPoints.{steps_points, act_points, code_points, codes_points}
use Rattle.rc_rlang.specs.RegionLive.{before_act, before_code, before_codes, loop_head, repeat_tail}
use Rattle.rc_core.specs.Execution.{with_local}
use Rattle.rc_rlang.specs.RegionRuns.{code_run, codes_run, rounds, rounds_first, behind, behind_body, test_value, if_wanted, Way, Next, Broke, Continued, Returned, act_run, Temporaries, temporary, holds, steps_run}
use Rattle.rc_rlang.specs.RegionFlow.{Effect, nothing, nulled, Node, going, is_regional, one_of, first_of, local_variable, yes_effect, no_effect, steps_nodes, Ends, act_nodes, forking, if_regional, test_nodes, code_nodes, codes_nodes}
use Rattle.rc_annotations.specs.Effects.{Absent}
use Rattle.rc_annotations.specs.Variables.{picks}
use Rattle.rc_annotations.specs.Worlds.{Made}
use Rattle.rc_along.specs.Along.{Stand, RightSteps, RightCode, RightCodes, ActMeets, TestMeets, HeadMeets, CodeMeets, CodesMeet, RoundsMeet, behind_meets, body_meets, nothing_more}
use Rattle.rc_core.specs.Live.{Ways, then_live, round}
use Rattle.rc_core.specs.Laws.{IfGoes}
use Rattle.rc_annotations.proofs.Variables as V
use Rattle.rc_annotations.proofs.WorldFacts.{Goes, goes_bind, goes_more, goes_both, goes_branching, gives, stays_itself}
use Rattle.rc_annotations.proofs.Nodes.{steps_count, code_count}
use Rattle.rc_along.proofs.Standing.{stand_left, stand_right, null_zero, positive}
use Rattle.rc_along.proofs.Settings.{Setting, Calling}
use Rattle.rc_along.proofs.Crossing.{n, all, At, leads, cross, cross_assigned, new_temp, Quiet, says_yes, says_no}
use Rattle.rc_along.proofs.StepsHold.{steps_good}
use Rattle.rc_along.proofs.ActsHold.{GoodWay, long_update, long_map, act_good, first_sum, first_more}

module _ (frame : Setting) (around : Calling frame) where
  open frame use {r, temporaries, a, c, g, f, there, copied, whole, heap0}
  open around use {deleting, calls, inside, keeps_calls}

  -- a test
  pub test_good : (test : Test) (at to_yes to_no : ℕ) (env : List Value) (t : Temporaries) (w : World) → Stand (all frame) at (test_nodes f (Some test) to_yes to_no) → TestMeets test t → At frame at env t w
      → (test_value (Some test) t ≡ true → At frame to_yes env t w) × (test_value (Some test) t ≡ false → At frame to_no env t w)
  test_good test at to_yes to_no env t w st meets good = by test.wanted st.0
    where
      over : (effect : Effect) (to e : ℕ) (node : Node) → slice_get (all frame) at ≡ Some node → slice_get node.edges e ≡ Some (record { effect = effect; to = to }) → Quiet frame effect env t w → At frame to env t w
      over effect to e node q edge quiet = cross frame at to effect env env t t w w (record { node = node; e = e; at = q; edge = edge }) good (stays_itself w good.sane) refl (λ u. refl) quiet.0 quiet.1

      yes' : holds test.ty (temporary test.ty t 0) ≡ true → Quiet frame (yes_effect f test.ty 0) env t w
      yes' e = says_yes frame env t w test.ty 0 meets (λ i. e)

      no' : holds test.ty (temporary test.ty t 0) ≡ false → Quiet frame (no_effect f test.ty 0) env t w
      no' e = says_no frame env t w test.ty 0 (λ i. e)

      turned : (b : Bool) → not b ≡ true → b ≡ false
      turned true e = cc
      turned false e = refl

      back : (b : Bool) → not b ≡ false → b ≡ true
      back true e = refl
      back false e = cc

      by : (wanted : Bool) → slice_get (all frame) at ≡ Some (one_of wanted (forking (yes_effect f test.ty 0) (no_effect f test.ty 0) to_yes to_no) (forking (no_effect f test.ty 0) (yes_effect f test.ty 0) to_yes to_no))
          → (if_wanted wanted (holds test.ty (temporary test.ty t 0)) ≡ true → At frame to_yes env t w) × (if_wanted wanted (holds test.ty (temporary test.ty t 0)) ≡ false → At frame to_no env t w)
      by true q = ((λ e. over _ to_yes 0 _ q refl (yes' e)), (λ e. over _ to_no 1 _ q refl (no' e)))
      by false q = ((λ e. over _ to_yes 0 _ q refl (no' (turned _ e))), (λ e. over _ to_no 1 _ q refl (yes' (back _ e))))

  -- rounds keep what holds at the loop's point
  pub turn_says : (turns : ℕ) (I : World → Type 0) (w : World) → ((m : ℕ) → I (record w { turns = m })) → Goes (λ u w1. I w1) (turn_from turns w)
  turn_says zero I w h = record { holds = tt }
  turn_says (suc m) I w h = gives (λ u w1. I w1) tt (record w { turns = m }) (h m)

  pub turned_good : (p : ℕ) (env : List Value) (t : Temporaries) (w : World) (m : ℕ) → At frame p env t w → At frame p env t (record w { turns = m })
  turned_good p env t w m good = record { facts = good.facts; made = good.made; sane = record { sound = good.sane.sound; rooted = good.sane.rooted }; grown = good.grown; long = good.long }

  abbrev pub Goal : Type 1
  Goal = List Value → Temporaries → World → Type 0

  abbrev pub Going : Type 0
  Going = List Value → Temporaries → World → Run World Way

  pub rounds_good : (P : Way → World → Type 0) (here : ℕ) (Round : Goal → Goal) (head : List Value → Temporaries → World → Run World Temporaries) (test : Option Test) (body : Going → Going)
      → ((more' : Goal) (again : Going) → ((env : List Value) (t : Temporaries) (w : World) → At frame here env t w → more' env t w → Goes P (again env t w)) → (env : List Value) (t : Temporaries) (w : World) → At frame here env t w → Round more' env t w
      → Goes P (bind (head env t w) (λ t1. branching (test_value test t1) (body again env t1) (Go (Next env t1)))))
      → (m : ℕ) (env : List Value) (t : Temporaries) (w : World) → At frame here env t w → RoundsMeet m Round env t w → Goes P (rounds source deleting f.locals m head test body env t w)
  rounds_good P here Round head test body hh zero env t w i meets = record { holds = tt }
  rounds_good P here Round head test body hh (suc m) env t w i meets =
      hh (λ env2 t2 w2. IfGoes (λ _ w3. RoundsMeet m Round env2 t2 w3) (source.take_turn w2)) (λ env2 t2 w2. bind (source.take_turn w2) (λ _ w3. rounds source deleting f.locals m head test body env2 t2 w3))
      (λ env2 t2 w2 i2 k2. goes_bind (λ u w3. At frame here env2 t2 w3 × RoundsMeet m Round env2 t2 w3) P (source.take_turn w2) (λ _ w3. rounds source deleting f.locals m head test body env2 t2 w3)
      (goes_both (λ u w3. At frame here env2 t2 w3) (λ u w3. RoundsMeet m Round env2 t2 w3) (source.take_turn w2) (turn_says w2.turns (At frame here env2 t2) w2 (λ k. turned_good here env2 t2 w2 k i2)) (record { holds = k2 }))
      (λ u w3 q. rounds_good P here Round head test body hh m env2 t2 w3 q.0 q.1))
      env t w i meets

  pub rounds_first_good : (P : Way → World → Type 0) (here : ℕ) (Round : Goal → Goal) (tail : List Value → Temporaries → World → Run World Temporaries) (test : Option Test) (body : Going → Going)
      → ((more' : Goal) (again : Going) → ((env : List Value) (t : Temporaries) (w : World) → At frame here env t w → more' env t w → Goes P (again env t w)) → (env : List Value) (t : Temporaries) (w : World) → At frame here env t w → Round more' env t w
      → Goes P (body (λ env1 t1 w1. bind (tail env1 t1 w1) (λ t2. branching (test_value test t2) (again env1 t2) (Go (Next env1 t2)))) env t w))
      → (m : ℕ) (env : List Value) (t : Temporaries) (w : World) → At frame here env t w → RoundsMeet m Round env t w → Goes P (rounds_first source deleting f.locals m tail test body env t w)
  rounds_first_good P here Round tail test body hh zero env t w i meets = record { holds = tt }
  rounds_first_good P here Round tail test body hh (suc m) env t w i meets =
      hh (λ env2 t2 w2. IfGoes (λ _ w3. RoundsMeet m Round env2 t2 w3) (source.take_turn w2)) (λ env2 t2 w2. bind (source.take_turn w2) (λ _ w3. rounds_first source deleting f.locals m tail test body env2 t2 w3))
      (λ env2 t2 w2 i2 k2. goes_bind (λ u w3. At frame here env2 t2 w3 × RoundsMeet m Round env2 t2 w3) P (source.take_turn w2) (λ _ w3. rounds_first source deleting f.locals m tail test body env2 t2 w3)
      (goes_both (λ u w3. At frame here env2 t2 w3) (λ u w3. RoundsMeet m Round env2 t2 w3) (source.take_turn w2) (turn_says w2.turns (At frame here env2 t2) w2 (λ k. turned_good here env2 t2 w2 k i2)) (record { holds = k2 }))
      (λ u w3 q. rounds_first_good P here Round tail test body hh m env2 t2 w3 q.0 q.1))
      env t w i meets

  pub behind_post : (k : Ends) (x : ℕ) (go : Going) (Met : Goal) → ((env : List Value) (t : Temporaries) (w : World) → At frame x env t w → Met env t w → Goes (GoodWay frame around k) (go env t w)) → (way : Way) (w : World) → GoodWay frame around (record k { next = x }) way w → behind_meets Met way w → Goes (GoodWay frame around k) (behind go way w)
  behind_post k x go Met h (Next env t) w p m = h env t w p m
  behind_post k x go Met h (Broke env t) w p m = gives (GoodWay frame around k) (Broke env t) w p
  behind_post k x go Met h (Continued env t) w p m = gives (GoodWay frame around k) (Continued env t) w p
  behind_post k x go Met h (Returned v) w p m = gives (GoodWay frame around k) (Returned v) w p

  pub body_post : (k : Ends) (x : ℕ) (go : Going) (Met : Goal) → ((env : List Value) (t : Temporaries) (w : World) → At frame x env t w → Met env t w → Goes (GoodWay frame around k) (go env t w)) → (way : Way) (w : World) → GoodWay frame around (record { next = x; broken = k.next; continued = x }) way w → body_meets Met way w → Goes (GoodWay frame around k) (behind_body go way w)
  body_post k x go Met h (Next env t) w p m = h env t w p m
  body_post k x go Met h (Broke env t) w p m = gives (GoodWay frame around k) (Next env t) w p
  body_post k x go Met h (Continued env t) w p m = h env t w p m
  body_post k x go Met h (Returned v) w p m = gives (GoodWay frame around k) (Returned v) w p

  pub clear_good : (line x : ℕ) (ty : Ty) (here : ℕ) (k : Ends) (env : List Value) (s : Temporaries) (w : World) → get_or (picks f) x false ≡ is_regional ty → slice_get (all frame) here ≡ Some (going (if_regional ty (nulled (local_variable f x))) k.next) → At frame here env s w → At frame k.next (with_local env x (zero_of ty)) s w
  clear_good line x ty here k env s w is st good = by (is_regional ty) refl st
    where
      by : (b : Bool) → is_regional ty ≡ b → slice_get (all frame) here ≡ Some (going (one_of b (nulled (local_variable f x)) nothing) k.next) → At frame k.next (with_local env x (zero_of ty)) s w
      by true e q =
          let null' : Null ≡ zero_of ty = sym (null_zero ty e) in
          cross_assigned frame here k.next (nulled (local_variable f x)) (local_variable f x) (zero_of ty) env (with_local env x (zero_of ty)) s s w w (leads frame here _ k.next q) good (stays_itself w good.sane) (long_update frame around env x (zero_of ty))
          (λ u. V.local_set f copied whole env s.regions x (zero_of ty) u (good.long ∙ sym (long_map frame around f.locals)) (is ∙ e)) refl
          (subst (Made w.heap) null' (λ p. absurd p)) (subst Absent (null' ∙ sym (new_temp frame env s (zero_of ty))) (λ p. p))
      by false e q = cross frame here k.next nothing env (with_local env x (zero_of ty)) s s w w (leads frame here nothing k.next q) good (stays_itself w good.sane) (long_update frame around env x (zero_of ty))
          (λ u. V.other_set f copied whole env s.regions x (zero_of ty) u (good.long ∙ sym (long_map frame around f.locals)) (is ∙ e)) refl tt

  pub go_on : (here to : ℕ) (env : List Value) (s : Temporaries) (w : World) → slice_get (all frame) here ≡ Some (going nothing to) → At frame here env s w → At frame to env s w
  go_on here to env s w q good = cross frame here to nothing env env s s w w (leads frame here nothing to q) good (stays_itself w good.sane) refl (λ u. refl) refl tt

  -- steps and a test, where a statement begins
  pub head_good : (steps : Steps) (test : Test) (here at to_yes to_no : ℕ) (live : ℕ → Bool) (if_true if_false : Goal) (env : List Value) (t : Temporaries) (w : World) → Stand (all frame) here (steps_nodes f steps here at) → Stand (all frame) at (test_nodes f (Some test) to_yes to_no)
      → RightSteps r f (n frame) steps → HeadMeets deleting f calls inside steps (Some test) live if_true if_false env t w → At frame (first_of (steps_points steps) here at) env t w
      → Goes (λ t1 w1. (test_value (Some test) t1 ≡ true → At frame to_yes env t1 w1 × if_true env t1 w1) × (test_value (Some test) t1 ≡ false → At frame to_no env t1 w1 × if_false env t1 w1)) (steps_run source deleting f.locals steps calls live env t w)
  head_good steps test here at to_yes to_no live if_true if_false env t w ss st rs meets good =
      goes_more (λ t1 w1. At frame at env t1 w1 × (TestMeets test t1 × (test_value (Some test) t1 ≡ true → if_true env t1 w1) × (test_value (Some test) t1 ≡ false → if_false env t1 w1))) _ (steps_run source deleting f.locals steps calls live env t w)
      (λ t1 w1 q. let b = test_good test at to_yes to_no env t1 w1 st q.1.0 q.0 in ((λ y. (b.0 y, q.1.1 y)), (λ y. (b.1 y, q.1.2 y))))
      (goes_both (At frame at env) _ (steps_run source deleting f.locals steps calls live env t w)
      (steps_good frame around steps here at live env t w ss rs meets.0 good) (record { holds = meets.1 }))

  abbrev pub Does : Code → (here : ℕ) → Ends → Type 0
  Does x here k = (ways : Ways) (env : List Value) (t : Temporaries) (w : World) → CodeMeets deleting f calls inside x ways env t w → At frame (first_of (code_points x) here k.next) env t w → Goes (GoodWay frame around k) (code_run source deleting f.locals x calls ways env t w)

  -- the body of a loop, what comes behind it, and the next round
  pub round_good : (third body : Code) (here at_body at_third back : ℕ) (k : Ends) (ways1 ways2 : Ways) → back ≡ first_of (code_points third) at_third here
      → Does body at_body (record { next = back; broken = k.next; continued = back }) → Does third at_third (record k { next = here })
      → (more' : Goal) (again : Going) → ((env : List Value) (t : Temporaries) (w : World) → At frame here env t w → more' env t w → Goes (GoodWay frame around k) (again env t w)) → (env : List Value) (t : Temporaries) (w : World) → At frame (first_of (code_points body) at_body back) env t w
      → (CodeMeets deleting f calls inside body ways1 env t w × IfGoes (body_meets (λ env3 t3 w3. CodeMeets deleting f calls inside third ways2 env3 t3 w3 × IfGoes (behind_meets more') (code_run source deleting f.locals third calls ways2 env3 t3 w3))) (code_run source deleting f.locals body calls ways1 env t w))
      → Goes (GoodWay frame around k) (bind (code_run source deleting f.locals body calls ways1 env t w) (behind_body (λ env2 t2 w2. bind (code_run source deleting f.locals third calls ways2 env2 t2 w2) (behind again))))
  round_good third body here at_body at_third back k ways1 ways2 e body_does third_does more' again h env t w i meets =
      let go : Going = λ env2 t2 w2. bind (code_run source deleting f.locals third calls ways2 env2 t2 w2) (behind again) in
      let Met : Goal = λ env3 t3 w3. CodeMeets deleting f calls inside third ways2 env3 t3 w3 × IfGoes (behind_meets more') (code_run source deleting f.locals third calls ways2 env3 t3 w3) in
      let kb : Ends = record { next = back; broken = k.next; continued = back } in
      let kt : Ends = record k { next = here } in
      goes_bind (λ way w1. GoodWay frame around kb way w1 × body_meets Met way w1) (GoodWay frame around k) (code_run source deleting f.locals body calls ways1 env t w) (behind_body go)
      (goes_both (GoodWay frame around kb) (body_meets Met) (code_run source deleting f.locals body calls ways1 env t w) (body_does ways1 env t w meets.0 i) (record { holds = meets.1 }))
      (λ way w1 p. body_post k back go Met (λ env2 t2 w2 i2 m2.
      goes_bind (λ way2 w3. GoodWay frame around kt way2 w3 × behind_meets more' way2 w3) (GoodWay frame around k) (code_run source deleting f.locals third calls ways2 env2 t2 w2) (behind again)
      (goes_both (GoodWay frame around kt) (behind_meets more') (code_run source deleting f.locals third calls ways2 env2 t2 w2) (third_does ways2 env2 t2 w2 m2.0 (subst (λ x. At frame x env2 t2 w2) e i2)) (record { holds = m2.1 }))
      (λ way2 w3 p2. behind_post k here again more' h way2 w3 p2.0 p2.1)) way w1 p.0 p.1)

  pub loop_some : (line : ℕ) (steps : Steps) (test : Test) (third body : Code) (here : ℕ) (k : Ends) → RightSteps r f (n frame) steps
      → let at = suc here + steps_points steps in let at_body = at + 1 in let at_third = at_body + code_points body in let back = first_of (code_points third) at_third here in let inside' = first_of (code_points body) at_body back in
      Stand (all frame) (suc here) (steps_nodes f steps (suc here) at) → Stand (all frame) at (test_nodes f (Some test) inside' k.next) → Does body at_body (record { next = back; broken = k.next; continued = back }) → Does third at_third (record k { next = here })
      → slice_get (all frame) here ≡ Some (going nothing (first_of (steps_points steps + 1) (suc here) inside')) → (ways : Ways) (env : List Value) (t : Temporaries) (w : World) → CodeMeets deleting f calls inside (Code.loop line steps (Some test) third body) ways env t w → At frame here env t w
      → Goes (GoodWay frame around k) (code_run source deleting f.locals (Code.loop line steps (Some test) third body) calls ways env t w)
  loop_some line steps test third body here k rs ss ts body_does third_does q ways env t w meets i =
      let at = suc here + steps_points steps in
      let at_body = at + 1 in
      let at_third = at_body + code_points body in
      let back = first_of (code_points third) at_third here in
      let inside' = first_of (code_points body) at_body back in
      let ways2 : Ways = then_live (loop_head steps (Some test) third body ways) ways in
      let ways1 : Ways = round (before_code third ways2) ways in
      let live : ℕ → Bool = λ y. (is_some (Some test) && ways.next y) || before_code body ways1 y in
      let Inner : Goal → Goal = λ more' env2 t2 w2. CodeMeets deleting f calls inside body ways1 env2 t2 w2 × IfGoes (body_meets (λ env3 t3 w3. CodeMeets deleting f calls inside third ways2 env3 t3 w3 × IfGoes (behind_meets more') (code_run source deleting f.locals third calls ways2 env3 t3 w3))) (code_run source deleting f.locals body calls ways1 env2 t2 w2) in
      rounds_good (GoodWay frame around k) here (λ more' env1 t1 w1. HeadMeets deleting f calls inside steps (Some test) live (Inner more') (nothing_more deleting f calls inside) env1 t1 w1) (steps_run source deleting f.locals steps calls live) (Some test)
      (λ again env1 t1 w1. bind (code_run source deleting f.locals body calls ways1 env1 t1 w1) (behind_body (λ env2 t2 w2. bind (code_run source deleting f.locals third calls ways2 env2 t2 w2) (behind again))))
      (λ more' again h env1 t1 w1 j m.
      goes_bind (λ t2 w2. (test_value (Some test) t2 ≡ true → At frame inside' env1 t2 w2 × Inner more' env1 t2 w2) × (test_value (Some test) t2 ≡ false → At frame k.next env1 t2 w2 × Unit {0})) (GoodWay frame around k) (steps_run source deleting f.locals steps calls live env1 t1 w1) _
      (head_good steps test (suc here) at inside' k.next live (Inner more') (nothing_more deleting f calls inside) env1 t1 w1 ss ts rs m (subst (λ p. At frame p env1 t1 w1) (first_more frame around (steps_points steps) 1 (suc here) inside' (omega arith)) (go_on here _ env1 t1 w1 q j)))
      (λ t2 w2 p. goes_branching (GoodWay frame around k) (test_value (Some test) t2) (λ w3. bind (code_run source deleting f.locals body calls ways1 env1 t2 w3) (behind_body (λ env2 t2 w2. bind (code_run source deleting f.locals third calls ways2 env2 t2 w2) (behind again)))) (Go (Next env1 t2)) w2
      (λ e. round_good third body here at_body at_third back k ways1 ways2 refl body_does third_does more' again h env1 t2 w2 (p.0 e).0 (p.0 e).1)
      (λ e. gives (GoodWay frame around k) (Next env1 t2) w2 (p.1 e).0)))
      (suc (source.turns_left w)) env t w i (meets (suc (source.turns_left w)))

  pub loop_none : (line : ℕ) (steps : Steps) (third body : Code) → steps ≡ none → (here : ℕ) (k : Ends)
      → let at = suc here + steps_points steps in let at_body = at + 0 in let at_third = at_body + code_points body in let back = first_of (code_points third) at_third here in let inside' = first_of (code_points body) at_body back in
      Does body at_body (record { next = back; broken = k.next; continued = back }) → Does third at_third (record k { next = here })
      → slice_get (all frame) here ≡ Some (going nothing (first_of (steps_points steps + 0) (suc here) inside')) → (ways : Ways) (env : List Value) (t : Temporaries) (w : World) → CodeMeets deleting f calls inside (Code.loop line steps None third body) ways env t w → At frame here env t w
      → Goes (GoodWay frame around k) (code_run source deleting f.locals (Code.loop line steps None third body) calls ways env t w)
  loop_none line none third body e here k body_does third_does q ways env t w meets i =
      let at_body = suc here + 0 + 0 in
      let at_third = at_body + code_points body in
      let back = first_of (code_points third) at_third here in
      let inside' = first_of (code_points body) at_body back in
      let ways2 : Ways = then_live (loop_head none None third body ways) ways in
      let ways1 : Ways = round (before_code third ways2) ways in
      let live : ℕ → Bool = λ y. (is_some {T = Test} None && ways.next y) || before_code body ways1 y in
      let Inner : Goal → Goal = λ more' env2 t2 w2. CodeMeets deleting f calls inside body ways1 env2 t2 w2 × IfGoes (body_meets (λ env3 t3 w3. CodeMeets deleting f calls inside third ways2 env3 t3 w3 × IfGoes (behind_meets more') (code_run source deleting f.locals third calls ways2 env3 t3 w3))) (code_run source deleting f.locals body calls ways1 env2 t2 w2) in
      rounds_good (GoodWay frame around k) here (λ more' env1 t1 w1. HeadMeets deleting f calls inside none None live (Inner more') (nothing_more deleting f calls inside) env1 t1 w1) (steps_run source deleting f.locals none calls live) None
      (λ again env1 t1 w1. bind (code_run source deleting f.locals body calls ways1 env1 t1 w1) (behind_body (λ env2 t2 w2. bind (code_run source deleting f.locals third calls ways2 env2 t2 w2) (behind again))))
      (λ more' again h env1 t1 w1 j m. round_good third body here at_body at_third back k ways1 ways2 refl body_does third_does more' again h env1 t1 w1 (go_on here inside' env1 t1 w1 q j) (m.1.1 refl))
      (suc (source.turns_left w)) env t w i (meets (suc (source.turns_left w)))
  loop_none line (more x rest) third body e here k body_does third_does q ways env t w meets i = cc

  pub repeat_good : (line : ℕ) (body : Code) (steps : Steps) (test : Test) (here : ℕ) (k : Ends) → RightSteps r f (n frame) steps
      → let at_tail = suc here + code_points body in let at_test = at_tail + steps_points steps in let tail = first_of (steps_points steps) at_tail at_test in
      Stand (all frame) at_tail (steps_nodes f steps at_tail at_test) → Stand (all frame) at_test (test_nodes f (Some test) here k.next) → Does body (suc here) (record { next = tail; broken = k.next; continued = tail })
      → slice_get (all frame) here ≡ Some (going nothing (first_of (code_points body) (suc here) tail)) → (ways : Ways) (env : List Value) (t : Temporaries) (w : World) → CodeMeets deleting f calls inside (Code.repeat line body steps test) ways env t w → At frame here env t w
      → Goes (GoodWay frame around k) (code_run source deleting f.locals (Code.repeat line body steps test) calls ways env t w)
  repeat_good line body steps test here k rs ss ts body_does q ways env t w meets i =
      let at_tail = suc here + code_points body in
      let at_test = at_tail + steps_points steps in
      let tail = first_of (steps_points steps) at_tail at_test in
      let kb : Ends = record { next = tail; broken = k.next; continued = tail } in
      let live : ℕ → Bool = λ y. ways.next y || before_code (Code.repeat 0 body steps test) ways y in
      let ways1 : Ways = round (repeat_tail body steps test ways) ways in
      let Met : Goal → Goal = λ more' env2 t2 w2. HeadMeets deleting f calls inside steps (Some test) live more' (nothing_more deleting f calls inside) env2 t2 w2 in
      rounds_first_good (GoodWay frame around k) here (λ more' env1 t1 w1. CodeMeets deleting f calls inside body ways1 env1 t1 w1 × IfGoes (body_meets (Met more')) (code_run source deleting f.locals body calls ways1 env1 t1 w1)) (steps_run source deleting f.locals steps calls live) (Some test)
      (λ again env1 t1 w1. bind (code_run source deleting f.locals body calls ways1 env1 t1 w1) (behind_body again))
      (λ more' again h env1 t1 w1 j m.
      let go : Going = λ env2 t2 w2. bind (steps_run source deleting f.locals steps calls live env2 t2 w2) (λ t3. branching (test_value (Some test) t3) (again env2 t3) (Go (Next env2 t3))) in
      goes_bind (λ way w2. GoodWay frame around kb way w2 × body_meets (Met more') way w2) (GoodWay frame around k) (code_run source deleting f.locals body calls ways1 env1 t1 w1) (behind_body go)
      (goes_both (GoodWay frame around kb) (body_meets (Met more')) (code_run source deleting f.locals body calls ways1 env1 t1 w1) (body_does ways1 env1 t1 w1 m.0 (go_on here _ env1 t1 w1 q j)) (record { holds = m.1 }))
      (λ way w2 p. body_post k tail go (Met more') (λ env2 t2 w2 i2 m2.
      goes_bind (λ t3 w3. (test_value (Some test) t3 ≡ true → At frame here env2 t3 w3 × more' env2 t3 w3) × (test_value (Some test) t3 ≡ false → At frame k.next env2 t3 w3 × Unit {0})) (GoodWay frame around k) (steps_run source deleting f.locals steps calls live env2 t2 w2) _
      (head_good steps test at_tail at_test here k.next live more' (nothing_more deleting f calls inside) env2 t2 w2 ss ts rs m2 i2)
      (λ t3 w3 p3. goes_branching (GoodWay frame around k) (test_value (Some test) t3) (again env2 t3) (Go (Next env2 t3)) w3 (λ e. h env2 t3 w3 (p3.0 e).0 (p3.0 e).1) (λ e. gives (GoodWay frame around k) (Next env2 t3) w3 (p3.1 e).0))) way w2 p.0 p.1))
      (suc (source.turns_left w)) env t w i (meets (suc (source.turns_left w)))

  mutual
    pub code_good : (x : Code) (here : ℕ) (k : Ends) → Stand (all frame) here (code_nodes f x here k) → RightCode r f (n frame) x → Does x here k
    code_good (Code.simple steps act) here k st right ways env t w meets i =
        let at = here + steps_points steps in
        let to = first_of (act_points act) at k.next in
        goes_bind (λ t1 w1. At frame to env t1 w1 × ActMeets deleting f calls inside act ways.next env t1 w1) (GoodWay frame around k) (steps_run source deleting f.locals steps calls (before_act act ways.next) env t w) (λ t1. act_run source deleting f.locals act calls ways.next env t1)
        (goes_both (At frame to env) (λ t1 w1. ActMeets deleting f calls inside act ways.next env t1 w1) (steps_run source deleting f.locals steps calls (before_act act ways.next) env t w)
        (steps_good frame around steps here to (before_act act ways.next) env t w (stand_left (all frame) here (steps_nodes f steps here to) (act_nodes f act at k.next) st) right.0 meets.0
        (subst (λ p. At frame p env t w) (first_sum frame around (steps_points steps) (act_points act) here k.next) i))
        (record { holds = meets.1 }))
        (λ t1 w1 q. act_good frame around act at k ways.next env t1 w1 (stand_right (all frame) here at (steps_nodes f steps here to) (act_nodes f act at k.next) (let j = steps_count f steps here to in omega (arith, j)) st) right.1 q.1 q.0)
    code_good (Code.clear line x ty) here k st right ways env t w meets i = gives (GoodWay frame around k) (Next (with_local env x (zero_of ty)) t) w (clear_good line x ty here k env t w right st.0 i)
    code_good (Code.block codes) here k st right ways env t w meets i = codes_good codes here k st right ways env t w meets i
    code_good (Code.branch steps test x y) here k st right ways env t w meets i =
        let at = here + steps_points steps in
        let at_y = suc at + code_points x in
        let to_x = first_of (code_points x) (suc at) k.next in
        let to_y = first_of (code_points y) at_y k.next in
        let S = steps_nodes f steps here at in
        let T = test_nodes f (Some test) to_x to_y in
        let X = code_nodes f x (suc at) k in
        let Y = code_nodes f y at_y k in
        let rest = stand_right (all frame) here at S (T ++ (X ++ Y)) (let j = steps_count f steps here at in omega (arith, j)) st in
        let arms = stand_right (all frame) at (suc at) T (X ++ Y) (omega arith) rest in
        let live = λ (v : ℕ). before_code x ways v || before_code y ways v in
        goes_bind (λ t1 w1. (test_value (Some test) t1 ≡ true → At frame to_x env t1 w1 × CodeMeets deleting f calls inside x ways env t1 w1) × (test_value (Some test) t1 ≡ false → At frame to_y env t1 w1 × CodeMeets deleting f calls inside y ways env t1 w1)) (GoodWay frame around k) (steps_run source deleting f.locals steps calls live env t w) _
        (head_good steps test here at to_x to_y live (CodeMeets deleting f calls inside x ways) (CodeMeets deleting f calls inside y ways) env t w (stand_left (all frame) here S (T ++ (X ++ Y)) st) (stand_left (all frame) at T (X ++ Y) rest) right.0 meets
        (subst (λ p. At frame p env t w) (ap (λ i. first_of i here k.next) (let e : steps_points steps + 1 + code_points x + code_points y ≡ steps_points steps + (1 + code_points x + code_points y) = omega arith in e) ∙ first_more frame around (steps_points steps) (1 + code_points x + code_points y) here k.next (omega arith)) i))
        (λ t1 w1 q. goes_branching (GoodWay frame around k) (test_value (Some test) t1) (code_run source deleting f.locals x calls ways env t1) (code_run source deleting f.locals y calls ways env t1) w1
        (λ e. code_good x (suc at) k (stand_left (all frame) (suc at) X Y arms) right.1 ways env t1 w1 (q.0 e).1 (q.0 e).0)
        (λ e. code_good y at_y k (stand_right (all frame) (suc at) at_y X Y (let j = code_count f x (suc at) k in omega (arith, j)) arms) right.2 ways env t1 w1 (q.1 e).1 (q.1 e).0))
    code_good (Code.loop line steps None third body) here k st right ways env t w meets i =
        let at = suc here + steps_points steps in
        let at_body = at + 0 in
        let at_third = at_body + code_points body in
        let back = first_of (code_points third) at_third here in
        let k1 : Ends = record { next = back; broken = k.next; continued = back } in
        let k2 : Ends = record k { next = here } in
        let S = steps_nodes f steps (suc here) at in
        let B = code_nodes f body at_body k1 in
        let C = code_nodes f third at_third k2 in
        let arms = stand_right (all frame) (suc here) at_body S (B ++ C) (let j = steps_count f steps (suc here) at in omega (arith, j)) st.1 in
        loop_none line steps third body right.0 here k
        (code_good body at_body k1 (stand_left (all frame) at_body B C arms) right.2)
        (code_good third at_third k2 (stand_right (all frame) at_body at_third B C (let j = code_count f body at_body k1 in omega (arith, j)) arms) right.1)
        st.0 ways env t w meets (subst (λ p. At frame p env t w) (positive (1 + steps_points steps + 0 + code_points body + code_points third) here k.next (omega arith)) i)
    code_good (Code.loop line steps (Some test) third body) here k st right ways env t w meets i =
        let at = suc here + steps_points steps in
        let at_body = at + 1 in
        let at_third = at_body + code_points body in
        let back = first_of (code_points third) at_third here in
        let inside' = first_of (code_points body) at_body back in
        let k1 : Ends = record { next = back; broken = k.next; continued = back } in
        let k2 : Ends = record k { next = here } in
        let S = steps_nodes f steps (suc here) at in
        let T = test_nodes f (Some test) inside' k.next in
        let B = code_nodes f body at_body k1 in
        let C = code_nodes f third at_third k2 in
        let rest = stand_right (all frame) (suc here) at S (T ++ (B ++ C)) (let j = steps_count f steps (suc here) at in omega (arith, j)) st.1 in
        let arms = stand_right (all frame) at at_body T (B ++ C) (omega arith) rest in
        loop_some line steps test third body here k right.0
        (stand_left (all frame) (suc here) S (T ++ (B ++ C)) st.1) (stand_left (all frame) at T (B ++ C) rest)
        (code_good body at_body k1 (stand_left (all frame) at_body B C arms) right.2)
        (code_good third at_third k2 (stand_right (all frame) at_body at_third B C (let j = code_count f body at_body k1 in omega (arith, j)) arms) right.1)
        st.0 ways env t w meets (subst (λ p. At frame p env t w) (positive (1 + steps_points steps + 1 + code_points body + code_points third) here k.next (omega arith)) i)
    code_good (Code.repeat line body steps test) here k st right ways env t w meets i =
        let at_tail = suc here + code_points body in
        let at_test = at_tail + steps_points steps in
        let tail = first_of (steps_points steps) at_tail at_test in
        let k1 : Ends = record { next = tail; broken = k.next; continued = tail } in
        let B = code_nodes f body (suc here) k1 in
        let S = steps_nodes f steps at_tail at_test in
        let T = test_nodes f (Some test) here k.next in
        let rest = stand_right (all frame) (suc here) at_tail B (S ++ T) (let j = code_count f body (suc here) k1 in omega (arith, j)) st.1 in
        repeat_good line body steps test here k right.0
        (stand_left (all frame) at_tail S T rest) (stand_right (all frame) at_tail at_test S T (let j = steps_count f steps at_tail at_test in omega (arith, j)) rest)
        (code_good body (suc here) k1 (stand_left (all frame) (suc here) B (S ++ T) st.1) right.1)
        st.0 ways env t w meets (subst (λ p. At frame p env t w) (positive (1 + code_points body + steps_points steps + 1) here k.next (omega arith)) i)
    code_good (Code.break line) here k st right ways env t w meets i = gives (GoodWay frame around k) (Broke env t) w (go_on here k.broken env t w st.0 i)
    code_good (Code.continue line) here k st right ways env t w meets i = gives (GoodWay frame around k) (Continued env t) w (go_on here k.continued env t w st.0 i)

    pub codes_good : (x : Codes) (here : ℕ) (k : Ends) → Stand (all frame) here (codes_nodes f x here k) → RightCodes r f (n frame) x → (ways : Ways) (env : List Value) (t : Temporaries) (w : World) → CodesMeet deleting f calls inside x ways env t w → At frame (first_of (codes_points x) here k.next) env t w → Goes (GoodWay frame around k) (codes_run source deleting f.locals x calls ways env t w)
    codes_good Code.done here k st right ways env t w meets i = gives (GoodWay frame around k) (Next env t) w i
    codes_good (Code.then x rest) here k st right ways env t w meets i =
        let at = here + code_points x in
        let to = first_of (codes_points rest) at k.next in
        let k1 : Ends = record k { next = to } in
        let m = code_run source deleting f.locals x calls (then_live (before_codes rest ways) ways) env t w in
        goes_bind (λ way w1. GoodWay frame around k1 way w1 × behind_meets (λ env1 t1 w1. CodesMeet deleting f calls inside rest ways env1 t1 w1) way w1) (GoodWay frame around k) m (behind (codes_run source deleting f.locals rest calls ways))
        (goes_both (GoodWay frame around k1) (behind_meets (λ env1 t1 w1. CodesMeet deleting f calls inside rest ways env1 t1 w1)) m
        (code_good x here k1 (stand_left (all frame) here (code_nodes f x here k1) (codes_nodes f rest at k) st) right.0 (then_live (before_codes rest ways) ways) env t w meets.0 (subst (λ p. At frame p env t w) (first_sum frame around (code_points x) (codes_points rest) here k.next) i))
        (record { holds = meets.1 }))
        (λ way w1 p. behind_post k to (codes_run source deleting f.locals rest calls ways) (λ env1 t1 w1. CodesMeet deleting f calls inside rest ways env1 t1 w1)
        (λ env2 t2 w2 i2 m2. codes_good rest at k (stand_right (all frame) here at (code_nodes f x here k1) (codes_nodes f rest at k) (let j = code_count f x here k1 in omega (arith, j)) st) right.1 ways env2 t2 w2 m2 i2) way w1 p.0 p.1)
