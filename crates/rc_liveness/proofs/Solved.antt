-- Whatever a path comes to is computed: what is live before and behind the points, as computed, goes along with every edge.
use Rattle.std.proofs.Common.{◌≡◌, ℕ, zero, suc, ◌+◌, ◌*◌, Bool, true, false, ◌||◌, ◌&&◌, nat_eq, List, [], ◌∷◌, ◌++◌, length, Option, Some, None, ⊎_elim, refl, sym, ap, ◌∙◌, subst, arith}
use Rattle.std.specs.Prelude.{slice_get, replicate, is_some, IsTrue}
use Rattle.rc_core.specs.Live.{Ways, then_live, round, unless_set}
use Rattle.std.proofs.lemmas.Bool.{or_left, or_right}
use Rattle.rc_rlang.specs.Points.{change_points}
use Rattle.rc_rlang.specs.RegionCode.{Operation, copy, call, Step, set, fork, Steps, none, more, Act, drop, perform, assign, store, update, move, delete, leave, Test, Code, simple, clear, block, branch, loop, repeat, break, continue, Codes, done, then, Routine}
use Rattle.rc_rlang.specs.RegionPoints.{step_points, steps_points, act_points, branch_points, code_points, codes_points}
use Rattle.rc_rlang.specs.RegionLive.{operation_uses, before_step, before_steps, before_act, before_code, before_codes, repeat_tail}
use Rattle.rc_rlang.specs.RegionFits.{CodeFits, CodesFit}
use Rattle.rc_rlang.specs.RegionFlow.{Effect, Node, Ends, first_of, in_line, change_effects, step_nodes, steps_nodes, act_nodes, test_nodes, code_nodes, codes_nodes, routine_nodes}
use Rattle.rc_rlang.specs.Touches.{Touch, nothing, reads, sets, deletes, calls, operation_touch, step_touches, steps_touches, act_touches, test_touches, code_touches, codes_touches, routine_touches}
use Rattle.rc_rlang.specs.LivePaths.{Leads}
use Rattle.rc_annotations.proofs.Nodes.{step_count, steps_count, act_count, test_count, code_count}
use Rattle.rc_liveness.proofs.Each.{Each, front, rest, join, repeated}
use Rattle.rc_liveness.proofs.Behind.{Live, loop_third, loop_body, loop_test, repeat_test, step_behind, steps_behind, act_behind, code_behind, codes_behind, routine_behind, step_touched, steps_touched, code_touched, step_lives, steps_live, code_lives, some_point}
use Rattle.rc_liveness.proofs.Agrees.{loop_once, repeat_once, no_steps}
use Rattle.rc_liveness.proofs.Edges.{one_edge, two_edges, no_edge, test_edges, first_here, first_next, first_two, line_some}

module _ (f : Routine) (x : ℕ) where
  abbrev pub IsNode : ℕ → Node → Type 0
  IsNode n node = slice_get (routine_nodes f) n ≡ Some node

  abbrev pub IsTouch : ℕ → Touch → Type 0
  IsTouch n t = slice_get (routine_touches f) n ≡ Some t

  abbrev pub HasLive : ℕ → Live → Type 0
  HasLive n l = slice_get (routine_behind f) n ≡ Some l

  -- whether the local is live before a point that has this touch, and what is live behind it
  abbrev pub touched : Touch → Bool → Bool
  touched nothing live = live
  touched (reads y) live = nat_eq y x || live
  touched (sets y) live = unless_set y x live
  touched deletes live = live
  touched (calls g) live = live

  abbrev pub solved : Option Touch → Option Live → Bool
  solved None l = false
  solved (Some t) None = false
  solved (Some t) (Some l) = touched t (l x)

  abbrev pub Before : ℕ → Bool
  Before n = solved (slice_get (routine_touches f) n) (slice_get (routine_behind f) n)

  pub before_is : (n : ℕ) (t : Touch) (l : Live) → IsTouch n t → HasLive n l → Before n ≡ touched t (l x)
  before_is n t l p q = ap (λ o. solved o (slice_get (routine_behind f) n)) p ∙ ap (λ o. solved (Some t) o) q

  -- what is live before is so
  abbrev pub Enters : ℕ → Bool → Type 0
  Enters n b = IsTrue (Before n) → IsTrue b

  -- and what an edge leads to
  abbrev pub Closed : ℕ → Live → Type 0
  Closed n l = (to : ℕ) → Leads f n to → Enters to (l x)

  enters : (n : ℕ) (t : Touch) (l : Live) → IsTouch n t → HasLive n l → Enters n (touched t (l x))
  enters n t l p q u = sym (before_is n t l p q) ∙ u

  moved : (n m : ℕ) (b : Bool) → n ≡ m → Enters m b → Enters n b
  moved n m b e h = subst (λ i. Enters i b) (sym e) h

  operation_touched : (op : Operation) (b : Bool) → touched (operation_touch op) b ≡ (operation_uses op x || b)
  operation_touched (copy y) b = refl
  operation_touched (call g tys) b = refl
  operation_touched op b = refl

  mutual
    step_in : (s : Step) (here next : ℕ) (live : Live) → Each IsNode here (step_nodes f s here next) → Each IsTouch here (step_touches s) → Each HasLive here (step_behind s live) →
        Enters next (live x) → Enters here (before_step s live x) × Each Closed here (step_behind s live)
    step_in (set line h ty op) here next live n t l k =
        ((λ u. sym (operation_touched op (live x)) ∙ enters here (operation_touch op) live t.0 l.0 u), ((λ to d. moved to next (live x) (one_edge f here _ next n.0 to d) k), tt))
    step_in (fork line h test result a b) here next live n t l k =
        let at_b = suc here + steps_points a in
        let of_a = steps_in a (suc here) next live (front IsNode (suc here) _ _ n.1) (front IsTouch (suc here) _ _ t.1) (front HasLive (suc here) _ _ l.1) k in
        let of_b = steps_in b at_b next live (rest IsNode (suc here) (steps_points a) _ _ (steps_count f a (suc here) next) n.1) (rest IsTouch (suc here) (steps_points a) _ _ (steps_touched a) t.1) (rest HasLive (suc here) (steps_points a) _ _ (steps_live a live) l.1) k in (
          (λ u. enters here nothing (λ y. before_steps a live y || before_steps b live y) t.0 l.0 u),
          (
            (λ to d. ⊎_elim
                (λ p. moved to _ _ p (λ u. or_left (before_steps a live x) (before_steps b live x) (of_a.0 u)))
                (λ p. moved to _ _ p (λ u. or_right (before_steps a live x) (before_steps b live x) (of_b.0 u)))
                (two_edges f here _ _ _ _ n.0 to d)),
            join Closed (suc here) (steps_points a) (steps_behind a live) (steps_behind b live) (steps_live a live) of_a.1 of_b.1,
          ),
        )

    pub steps_in : (s : Steps) (here next : ℕ) (live : Live) → Each IsNode here (steps_nodes f s here next) → Each IsTouch here (steps_touches s) → Each HasLive here (steps_behind s live) →
        Enters next (live x) → Enters (first_of (steps_points s) here next) (before_steps s live x) × Each Closed here (steps_behind s live)
    steps_in none here next live n t l k = (k, tt)
    steps_in (more s r) here next live n t l k =
        let to = first_of (steps_points r) (here + step_points s) next in
        let of_r = steps_in r (here + step_points s) next live (rest IsNode here (step_points s) _ _ (step_count f s here to) n) (rest IsTouch here (step_points s) _ _ (step_touched s) t) (rest HasLive here (step_points s) _ _ (step_lives s (before_steps r live)) l) k in
        let of_s = step_in s here to (before_steps r live) (front IsNode here _ _ n) (front IsTouch here _ _ t) (front HasLive here _ _ l) of_r.0 in
        let some = some_point s in (
          moved _ here _ (first_here (steps_points (more s r)) here next (omega (arith, some))) of_s.0,
          join Closed here (step_points s) (step_behind s (before_steps r live)) (steps_behind r live) (step_lives s (before_steps r live)) of_s.1 of_r.1,
        )

  line_in : (es : List Effect) (n here next : ℕ) (live : Live) → length (in_line es here next) ≡ n → Each IsNode here (in_line es here next) → Each IsTouch here (replicate n nothing) → Each HasLive here (replicate n live) →
      Enters next (live x) → Enters (first_of n here next) (live x) × Each Closed here (replicate n live)
  line_in [] zero here next live c s t l k = (k, tt)
  line_in [] (suc n) here next live c s t l k = absurd (omega (arith, c))
  line_in (e ∷ []) zero here next live c s t l k = absurd (omega (arith, c))
  line_in (e ∷ []) (suc zero) here next live c s t l k = (enters here nothing live t.0 l.0, ((λ to d. moved to next (live x) (one_edge f here e next s.0 to d) k), tt))
  line_in (e ∷ []) (suc (suc n)) here next live c s t l k = absurd (omega (arith, c))
  line_in (e ∷ d ∷ es) zero here next live c s t l k = absurd (omega (arith, c))
  line_in (e ∷ d ∷ es) (suc n) here next live c s t l k =
      let some = line_some d es (suc here) next in
      let r = line_in (d ∷ es) n (suc here) next live (omega (arith, c)) s.1 t.1 l.1 k in
      let at = first_here n (suc here) next (omega (arith, some, c)) in
      (enters here nothing live t.0 l.0, ((λ to g. moved to (first_of n (suc here) next) (live x) (one_edge f here e (suc here) s.0 to g ∙ sym at) r.0), r.1))

  act_in : (act : Act) (here next : ℕ) (live : Live) → Each IsNode here (act_nodes f act here next) → Each IsTouch here (act_touches act) → Each HasLive here (act_behind act live) →
      Enters next (live x) → Enters (first_of (act_points act) here next) (before_act act live x) × Each Closed here (act_behind act live)
  act_in drop here next live n t l k = (k, tt)
  act_in (perform line g tys) here next live n t l k = (enters here (calls g) live t.0 l.0, ((λ to d. moved to next (live x) (one_edge f here _ next n.0 to d) k), tt))
  act_in (assign line y ty) here next live n t l k = (enters here (sets y) live t.0 l.0, ((λ to d. moved to next (live x) (one_edge f here _ next n.0 to d) k), tt))
  act_in (store line a) here next live n t l k = (enters here nothing live t.0 l.0, ((λ to d. moved to next (live x) (one_edge f here _ next n.0 to d) k), tt))
  act_in (update line a change ty) here next live n t l k = line_in (change_effects f a change) (change_points change) here next live (act_count f (update line a change ty) here next) n t l k
  act_in (move line cells left right) here next live n t l k = line_in _ (2 * length cells) here next live (act_count f (move line cells left right) here next) n t l k
  act_in (delete line) here next live n t l k = (enters here deletes live t.0 l.0, ((λ to d. moved to next (live x) (one_edge f here _ next n.0 to d) k), tt))
  act_in (leave line result) here next live n t l k = (enters here nothing (λ y. false) t.0 l.0, ((λ to d. absurd (no_edge f here _ n.0 to d)), tt))

  -- steps, and a condition behind them or none
  head_in : (steps : Steps) (test : Option Test) (here to_yes to_no : ℕ) (live : Live) → (test ≡ None → steps ≡ none) →
      Each IsNode here (steps_nodes f steps here (here + steps_points steps)) → Each IsNode (here + steps_points steps) (test_nodes f test to_yes to_no) →
      Each IsTouch here (steps_touches steps) → Each IsTouch (here + steps_points steps) (test_touches test) →
      Each HasLive here (steps_behind steps live) → Each HasLive (here + steps_points steps) (replicate (branch_points test) live) →
      Enters to_yes (live x) → (IsTrue (is_some test) → Enters to_no (live x)) →
      Enters (first_of (steps_points steps + branch_points test) here to_yes) (before_steps steps live x) × (Each Closed here (steps_behind steps live) × Each Closed (here + steps_points steps) (replicate (branch_points test) live))
  head_in none None here to_yes to_no live e n n1 t t1 l l1 y z = (y, (tt, tt))
  head_in (more s r) None here to_yes to_no live e n n1 t t1 l l1 y z = absurd (some_steps (e refl))
    where
      some_steps : more s r ≡ none → ⊥
      some_steps p = cc
  head_in steps (Some test) here to_yes to_no live e n n1 t t1 l l1 y z =
      let at = here + steps_points steps in
      let of_steps = steps_in steps here at live n t l (enters at nothing live t1.0 l1.0) in
      let begins : first_of (steps_points steps + 1) here to_yes ≡ first_of (steps_points steps) here at = first_here (steps_points steps + 1) here to_yes (omega arith) ∙ sym (first_next (steps_points steps) here) in
      (moved _ _ _ begins of_steps.0, (of_steps.1, ((λ to d. ⊎_elim (λ p. moved to to_yes (live x) p y) (λ p. moved to to_no (live x) p (z refl)) (test_edges f at test.wanted _ _ to_yes to_no n1.0 to d)), tt)))

  -- where a statement's code leads
  pub record WaysEnter (e : Ends) (k : Ways) : Type 0 where
    pub next : Enters e.next (k.next x)
    pub broken : Enters e.broken (k.broken x)
    pub continued : Enters e.continued (k.continued x)

  abbrev pub CodeIn : Code → Type 0
  CodeIn c = (here : ℕ) (e : Ends) (k : Ways) → Each IsNode here (code_nodes f c here e) → Each IsTouch here (code_touches c) → Each HasLive here (code_behind c k) →
      WaysEnter e k → Enters (first_of (code_points c) here e.next) (before_code c k x) × Each Closed here (code_behind c k)

  branch_in : (steps : Steps) (test : Test) (a b : Code) → CodeIn a → CodeIn b → CodeIn (branch steps test a b)
  branch_in steps test a b in_a in_b here e k n t l w =
      let p = steps_points steps in
      let at = here + p in
      let live : Live = λ y. before_code a k y || before_code b k y in
      let at_b = suc at + code_points a in
      let n1 = rest IsNode here p _ _ (steps_count f steps here at) n in
      let t1 = rest IsTouch here p _ _ (steps_touched steps) t in
      let l1 = rest HasLive here p _ _ (steps_live steps live) l in
      let of_a = in_a (suc at) e k (front IsNode (suc at) _ _ n1.1) (front IsTouch (suc at) _ _ t1.1) (front HasLive (suc at) _ _ l1.1) w in
      let of_b = in_b at_b e k (rest IsNode (suc at) (code_points a) _ _ (code_count f a (suc at) e) n1.1) (rest IsTouch (suc at) (code_points a) _ _ (code_touched a) t1.1) (rest HasLive (suc at) (code_points a) _ _ (code_lives a k) l1.1) w in
      let head = head_in steps (Some test) here (first_of (code_points a) (suc at) e.next) (first_of (code_points b) at_b e.next) live (λ q. absurd (test_is q))
      (front IsNode here _ _ n) (n1.0, tt) (front IsTouch here _ _ t) (t1.0, tt) (front HasLive here _ _ l) (l1.0, tt)
      (λ u. or_left (before_code a k x) (before_code b k x) (of_a.0 u)) (λ _ u. or_right (before_code a k x) (before_code b k x) (of_b.0 u)) in (
        moved _ _ _ (first_here (code_points (branch steps test a b)) here e.next (omega arith) ∙ sym (first_here (p + 1) here (first_of (code_points a) (suc at) e.next) (omega arith))) head.0,
        join Closed here p (steps_behind steps live) (live ∷ (code_behind a k ++ code_behind b k)) (steps_live steps live) head.1.0
            (head.1.1.0, join Closed (suc at) (code_points a) (code_behind a k) (code_behind b k) (code_lives a k) of_a.1 of_b.1),
      )
    where
      test_is : Some test ≡ None → ⊥
      test_is q = cc

  loop_in : (line : ℕ) (steps : Steps) (test : Option Test) (third a : Code) → (test ≡ None → steps ≡ none) → CodeIn third → CodeIn a → CodeIn (loop line steps test third a)
  loop_in line steps test third a e in_third in_a here ends k n t l w =
      let p = steps_points steps in
      let at = suc here + p in
      let at_a = at + branch_points test in
      let at_third = at_a + code_points a in
      let back = first_of (code_points third) at_third here in
      let inside = first_of (code_points a) at_a back in
      let live = loop_test steps test third a k in
      let k1 = loop_body steps test third a k in
      let k2 = loop_third steps test third a k in
      let e1 : Ends = record { next = back; broken = ends.next; continued = back } in
      let e2 : Ends = record ends { next = here } in
      let n1 = rest IsNode (suc here) p _ _ (steps_count f steps (suc here) at) n.1 in
      let n2 = rest IsNode at (branch_points test) _ _ (test_count f test inside ends.next) n1 in
      let t1 = rest IsTouch (suc here) p _ _ (steps_touched steps) t.1 in
      let t2 = rest IsTouch at (branch_points test) _ _ (repeated (branch_points test) nothing) t1 in
      let l1 = rest HasLive (suc here) p _ _ (steps_live steps live) l.1 in
      let l2 = rest HasLive at (branch_points test) _ _ (repeated (branch_points test) live) l1 in
      let enter_here : Enters here (before_code (loop line steps test third a) k x) = enters here nothing (before_code (loop line steps test third a) k) t.0 l.0 in
      let of_third = in_third at_third e2 k2 (rest IsNode at_a (code_points a) _ _ (code_count f a at_a e1) n2) (rest IsTouch at_a (code_points a) _ _ (code_touched a) t2) (rest HasLive at_a (code_points a) _ _ (code_lives a k1) l2)
      (record { next = enter_here; broken = w.broken; continued = w.continued }) in
      let of_a = in_a at_a e1 k1 (front IsNode at_a _ _ n2) (front IsTouch at_a _ _ t2) (front HasLive at_a _ _ l2) (record { next = of_third.0; broken = w.next; continued = of_third.0 }) in
      let head = head_in steps test (suc here) inside ends.next live e
      (front IsNode (suc here) _ _ n.1) (front IsNode at _ _ n1) (front IsTouch (suc here) _ _ t.1) (front IsTouch at _ _ t1) (front HasLive (suc here) _ _ l.1) (front HasLive at _ _ l1)
      (λ u. or_right (is_some test && k.next x) (before_code a k1 x) (of_a.0 u)) (λ s u. or_left (is_some test && k.next x) (before_code a k1 x) (and_both (is_some test) (k.next x) s (w.next u))) in (
        moved _ here _ (first_here (code_points (loop line steps test third a)) here ends.next (omega arith)) enter_here,
        (
          (λ to d. moved to _ _ (one_edge f here _ _ n.0 to d) (λ u. loop_once line steps test third a k x (head.0 u))),
          join Closed (suc here) p (steps_behind steps live) (replicate (branch_points test) live ++ (code_behind a k1 ++ code_behind third k2)) (steps_live steps live) head.1.0
              (join Closed at (branch_points test) (replicate (branch_points test) live) (code_behind a k1 ++ code_behind third k2) (repeated (branch_points test) live) head.1.1
              (join Closed at_a (code_points a) (code_behind a k1) (code_behind third k2) (code_lives a k1) of_a.1 of_third.1)),
        ),
      )
    where
      and_both : (b c : Bool) → IsTrue b → IsTrue c → IsTrue (b && c)
      and_both true c p q = q
      and_both false c p q = cc

  repeat_in : (line : ℕ) (a : Code) (steps : Steps) (test : Test) → CodeIn a → CodeIn (repeat line a steps test)
  repeat_in line a steps test in_a here ends k n t l w =
      let p = steps_points steps in
      let at_tail = suc here + code_points a in
      let at = at_tail + p in
      let tail = first_of p at_tail at in
      let live = repeat_test a steps k test in
      let k1 = round (repeat_tail a steps test k) k in
      let e1 : Ends = record { next = tail; broken = ends.next; continued = tail } in
      let n1 = rest IsNode (suc here) (code_points a) _ _ (code_count f a (suc here) e1) n.1 in
      let n2 = rest IsNode at_tail p _ _ (steps_count f steps at_tail at) n1 in
      let t1 = rest IsTouch (suc here) (code_points a) _ _ (code_touched a) t.1 in
      let t2 = rest IsTouch at_tail p _ _ (steps_touched steps) t1 in
      let l1 = rest HasLive (suc here) (code_points a) _ _ (code_lives a k1) l.1 in
      let l2 = rest HasLive at_tail p _ _ (steps_live steps live) l1 in
      let enter_here : Enters here (before_code (repeat line a steps test) k x) = enters here nothing (before_code (repeat line a steps test) k) t.0 l.0 in
      let head = head_in steps (Some test) at_tail here ends.next live (λ q. absurd (test_is q))
      (front IsNode at_tail _ _ n1) n2 (front IsTouch at_tail _ _ t1) t2 (front HasLive at_tail _ _ l1) l2
      (λ u. or_right (k.next x) (before_code (repeat 0 a steps test) k x) (enter_here u)) (λ _ u. or_left (k.next x) (before_code (repeat 0 a steps test) k x) (w.next u)) in
      let at_end = moved tail _ _ (first_next p at_tail ∙ sym (first_here (p + 1) at_tail here (omega arith))) head.0 in
      let of_a = in_a (suc here) e1 k1 (front IsNode (suc here) _ _ n.1) (front IsTouch (suc here) _ _ t.1) (front HasLive (suc here) _ _ l.1) (record { next = at_end; broken = w.next; continued = at_end }) in (
        moved _ here _ (first_here (code_points (repeat line a steps test)) here ends.next (omega arith)) enter_here,
        (
          (λ to d. moved to _ _ (one_edge f here _ _ n.0 to d) (λ u. repeat_once line a steps test k x (of_a.0 u))),
          join Closed (suc here) (code_points a) (code_behind a k1) (steps_behind steps live ++ (live ∷ [])) (code_lives a k1) of_a.1
              (join Closed at_tail p (steps_behind steps live) (live ∷ []) (steps_live steps live) head.1.0 head.1.1),
        ),
      )
    where
      test_is : Some test ≡ None → ⊥
      test_is q = cc

  mutual
    pub code_in : (c : Code) → CodeFits c → CodeIn c
    code_in (simple steps act) fit here e k n t l w =
        let p = steps_points steps in
        let at = here + p in
        let to = first_of (act_points act) at e.next in
        let of_act = act_in act at e.next k.next (rest IsNode here p _ _ (steps_count f steps here to) n) (rest IsTouch here p _ _ (steps_touched steps) t) (rest HasLive here p _ _ (steps_live steps (before_act act k.next)) l) w.next in
        let of_steps = steps_in steps here to (before_act act k.next) (front IsNode here _ _ n) (front IsTouch here _ _ t) (front HasLive here _ _ l) of_act.0 in (
          moved _ _ _ (first_two p (act_points act) here e.next) of_steps.0,
          join Closed here p (steps_behind steps (before_act act k.next)) (act_behind act k.next) (steps_live steps (before_act act k.next)) of_steps.1 of_act.1,
        )
    code_in (clear line y ty) fit here e k n t l w = (enters here (sets y) k.next t.0 l.0, ((λ to d. moved to e.next (k.next x) (one_edge f here _ e.next n.0 to d) w.next), tt))
    code_in (block codes) fit here e k n t l w = codes_in codes fit here e k n t l w
    code_in (branch steps test a b) fit here e k n t l w = branch_in steps test a b (code_in a fit.2) (code_in b fit.3) here e k n t l w
    code_in (loop line steps test third a) fit here e k n t l w = loop_in line steps test third a (no_steps steps test fit.0 fit.1) (code_in third fit.2) (code_in a fit.3) here e k n t l w
    code_in (repeat line a steps test) fit here e k n t l w = repeat_in line a steps test (code_in a fit.0) here e k n t l w
    code_in (break line) fit here e k n t l w = (enters here nothing k.broken t.0 l.0, ((λ to d. moved to e.broken (k.broken x) (one_edge f here _ e.broken n.0 to d) w.broken), tt))
    code_in (continue line) fit here e k n t l w = (enters here nothing k.continued t.0 l.0, ((λ to d. moved to e.continued (k.continued x) (one_edge f here _ e.continued n.0 to d) w.continued), tt))

    codes_in : (cs : Codes) → CodesFit cs → (here : ℕ) (e : Ends) (k : Ways) → Each IsNode here (codes_nodes f cs here e) → Each IsTouch here (codes_touches cs) → Each HasLive here (codes_behind cs k) →
        WaysEnter e k → Enters (first_of (codes_points cs) here e.next) (before_codes cs k x) × Each Closed here (codes_behind cs k)
    codes_in done fit here e k n t l w = (w.next, tt)
    codes_in (then c r) fit here e k n t l w =
        let p = code_points c in
        let at = here + p in
        let to = first_of (codes_points r) at e.next in
        let k1 = then_live (before_codes r k) k in
        let of_r = codes_in r fit.1 at e k (rest IsNode here p _ _ (code_count f c here (record e { next = to })) n) (rest IsTouch here p _ _ (code_touched c) t) (rest HasLive here p _ _ (code_lives c k1) l) w in
        let of_c = code_in c fit.0 here (record e { next = to }) k1 (front IsNode here _ _ n) (front IsTouch here _ _ t) (front HasLive here _ _ l) (record { next = of_r.0; broken = w.broken; continued = w.continued }) in (
          moved _ _ _ (first_two p (codes_points r) here e.next) of_c.0,
          join Closed here p (code_behind c k1) (codes_behind r k) (code_lives c k1) of_c.1 of_r.1,
        )
