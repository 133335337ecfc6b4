-- Whatever is computed as live is found by a path.
use Rattle.std.proofs.Common.{◌≡◌, ℕ, zero, suc, ◌+◌, ◌*◌, Bool, true, false, ◌||◌, ◌&&◌, nat_eq, List, [], ◌∷◌, ◌++◌, length, Option, Some, None, ◌⊎◌, inl, inr, ⊎_elim, refl, sym, ap, ◌∙◌, subst, arith}
use Rattle.std.specs.Prelude.{replicate, is_some, not, IsTrue, IsFalse}
use Rattle.std.proofs.lemmas.Bool.{or_cases, eqb-true}
use Rattle.std.proofs.lemmas.Option.{same_Some}
use Rattle.rc_core.specs.Live.{Ways, then_live, round, unless_set}
use Rattle.rc_rlang.specs.Points.{change_points}
use Rattle.rc_rlang.specs.RegionCode.{Operation, copy, call, Step, set, fork, Steps, none, more, Act, drop, perform, assign, store, update, move, delete, leave, Test, Code, simple, clear, block, branch, loop, repeat, break, continue, Codes, done, then, Routine}
use Rattle.rc_rlang.specs.RegionPoints.{step_points, steps_points, act_points, branch_points, code_points, codes_points}
use Rattle.rc_rlang.specs.RegionLive.{operation_uses, before_step, before_steps, before_act, before_code, before_codes, repeat_tail}
use Rattle.rc_rlang.specs.RegionFits.{CodeFits, CodesFit}
use Rattle.rc_rlang.specs.RegionFlow.{Effect, Ends, first_of, in_line, change_effects, step_nodes, steps_nodes, act_nodes, test_nodes, code_nodes, codes_nodes}
use Rattle.rc_rlang.specs.Touches.{Touch, nothing, reads, sets, deletes, calls, operation_touch, step_touches, steps_touches, act_touches, test_touches, code_touches, codes_touches}
use Rattle.rc_rlang.specs.LivePaths.{Leads, IsLive, read, later, IsLiveBehind}
use Rattle.rc_annotations.proofs.Nodes.{step_count, steps_count, act_count, test_count, code_count}
use Rattle.rc_liveness.proofs.Each.{Each, front, rest, join, repeated}
use Rattle.rc_liveness.proofs.Behind.{Live, loop_third, loop_body, loop_test, repeat_test, step_behind, steps_behind, act_behind, code_behind, codes_behind, step_touched, steps_touched, code_touched, step_lives, steps_live, code_lives, some_point}
use Rattle.rc_liveness.proofs.Agrees.{no_steps}
use Rattle.rc_liveness.proofs.Edges.{leads_on, leads_yes, leads_no, test_yes, test_no, first_here, first_next, first_two, line_some}
use Rattle.rc_liveness.proofs.Solved.{IsNode, IsTouch}

and_cases : (b c : Bool) → IsTrue (b && c) → IsTrue b × IsTrue c
and_cases true c h = (refl, h)
and_cases false c h = cc

unset_true : (y x : ℕ) (c : Bool) → IsTrue (unless_set y x c) → IsFalse (nat_eq y x) × IsTrue c
unset_true y x c h = by_test (nat_eq y x) h
  where
    by_test : (b : Bool) → IsTrue (not b && c) → IsFalse b × IsTrue c
    by_test true h = cc
    by_test false h = (refl, h)

module _ (f : Routine) (x : ℕ) where
  -- what is live as computed is live by a path
  abbrev pub Leaves : Bool → ℕ → Type 0
  Leaves b n = IsTrue b → IsLive f x n

  abbrev pub Found : ℕ → Live → Type 0
  Found n l = IsTrue (l x) → IsLiveBehind f x n

  at : (n m : ℕ) (b : Bool) → n ≡ m → Leaves b m → Leaves b n
  at n m b e h = subst (λ i. Leaves b i) (sym e) h

  -- on from a point that doesn't set the local
  on : (n : ℕ) (t : Touch) → IsTouch f x n t → (t ≡ sets x → ⊥) → (to : ℕ) → Leads f n to → IsLive f x to → IsLive f x n
  on n t p apart to d h = later n to (λ e. apart (same_Some t (sets x) (sym p ∙ e))) d h

  quiet : nothing ≡ sets x → ⊥
  quiet e = cc

  calling : (g : ℕ) → calls g ≡ sets x → ⊥
  calling g e = cc

  deleting : deletes ≡ sets x → ⊥
  deleting e = cc

  reading : (y : ℕ) → reads y ≡ sets x → ⊥
  reading y e = cc

  setting : (y : ℕ) → IsFalse (nat_eq y x) → sets y ≡ sets x → ⊥
  setting y e p = by (nat_eq x x) (same x) (ap (λ z. nat_eq z x) (same_local p))
    where
      same_local : sets y ≡ sets x → y ≡ x
      same_local q = cc

      same : (n : ℕ) → nat_eq n n ≡ true
      same n = grind arith

      by : (b : Bool) → b ≡ true → nat_eq y x ≡ b → ⊥
      by true q r = cc
      by false q r = cc

  operation_found : (op : Operation) (n to : ℕ) (b : Bool) → IsTouch f x n (operation_touch op) → Leads f n to → Leaves b to → Leaves (operation_uses op x || b) n
  operation_found (copy y) n to b t d k u = ⊎_elim (λ e. read n (t ∙ ap (λ z. Some (reads z)) (eqb-true y x e))) (λ v. on n (reads y) t (reading y) to d (k v)) (or_cases (nat_eq y x) b u)
  operation_found (call g tys) n to b t d k u = on n (calls g) t (calling g) to d (k u)
  operation_found op n to b t d k u = on n nothing t quiet to d (k u)

  forked : (here to_a to_b : ℕ) (a b : Bool) → Leads f here to_a → Leads f here to_b → Leaves a to_a → Leaves b to_b → IsTrue (a || b) → IsLiveBehind f x here
  forked here to_a to_b a b d e k l u = ⊎_elim (λ v. (to_a, d, k v)) (λ v. (to_b, e, l v)) (or_cases a b u)

  mutual
    step_found : (s : Step) (here next : ℕ) (live : Live) → Each (IsNode f x) here (step_nodes f s here next) → Each (IsTouch f x) here (step_touches s) →
        Leaves (live x) next → Leaves (before_step s live x) here × Each Found here (step_behind s live)
    step_found (set line h ty op) here next live n t k =
        (operation_found op here next (live x) t.0 (leads_on f here _ next n.0) k, ((λ u. (next, leads_on f here _ next n.0, k u)), tt))
    step_found (fork line h test result a b) here next live n t k =
        let at_b = suc here + steps_points a in
        let to_a = first_of (steps_points a) (suc here) next in
        let to_b = first_of (steps_points b) at_b next in
        let of_a = steps_found a (suc here) next live (front (IsNode f x) (suc here) _ _ n.1) (front (IsTouch f x) (suc here) _ _ t.1) k in
        let of_b = steps_found b at_b next live (rest (IsNode f x) (suc here) (steps_points a) _ _ (steps_count f a (suc here) next) n.1) (rest (IsTouch f x) (suc here) (steps_points a) _ _ (steps_touched a) t.1) k in
        let behind = λ (u : IsTrue (before_steps a live x || before_steps b live x)). forked here to_a to_b (before_steps a live x) (before_steps b live x) (leads_yes f here _ _ to_a to_b n.0) (leads_no f here _ _ to_a to_b n.0) of_a.0 of_b.0 u in (
          (λ u. let v = behind u in on here nothing t.0 quiet v.0 v.1 v.2),
          (behind, join Found (suc here) (steps_points a) (steps_behind a live) (steps_behind b live) (steps_live a live) of_a.1 of_b.1),
        )

    steps_found : (s : Steps) (here next : ℕ) (live : Live) → Each (IsNode f x) here (steps_nodes f s here next) → Each (IsTouch f x) here (steps_touches s) →
        Leaves (live x) next → Leaves (before_steps s live x) (first_of (steps_points s) here next) × Each Found here (steps_behind s live)
    steps_found none here next live n t k = (k, tt)
    steps_found (more s r) here next live n t k =
        let to = first_of (steps_points r) (here + step_points s) next in
        let of_r = steps_found r (here + step_points s) next live (rest (IsNode f x) here (step_points s) _ _ (step_count f s here to) n) (rest (IsTouch f x) here (step_points s) _ _ (step_touched s) t) k in
        let of_s = step_found s here to (before_steps r live) (front (IsNode f x) here _ _ n) (front (IsTouch f x) here _ _ t) of_r.0 in
        let some = some_point s in (
          at _ here _ (first_here (steps_points (more s r)) here next (omega (arith, some))) of_s.0,
          join Found here (step_points s) (step_behind s (before_steps r live)) (steps_behind r live) (step_lives s (before_steps r live)) of_s.1 of_r.1,
        )

  line_found : (es : List Effect) (n here next : ℕ) (live : Live) → length (in_line es here next) ≡ n → Each (IsNode f x) here (in_line es here next) → Each (IsTouch f x) here (replicate n nothing) →
      Leaves (live x) next → Leaves (live x) (first_of n here next) × Each Found here (replicate n live)
  line_found [] zero here next live c s t k = (k, tt)
  line_found [] (suc n) here next live c s t k = absurd (omega (arith, c))
  line_found (e ∷ []) zero here next live c s t k = absurd (omega (arith, c))
  line_found (e ∷ []) (suc zero) here next live c s t k =
      let d = leads_on f here e next s.0 in
      ((λ u. on here nothing t.0 quiet next d (k u)), ((λ u. (next, d, k u)), tt))
  line_found (e ∷ []) (suc (suc n)) here next live c s t k = absurd (omega (arith, c))
  line_found (e ∷ d ∷ es) zero here next live c s t k = absurd (omega (arith, c))
  line_found (e ∷ d ∷ es) (suc n) here next live c s t k =
      let some = line_some d es (suc here) next in
      let r = line_found (d ∷ es) n (suc here) next live (omega (arith, c)) s.1 t.1 k in
      let g = leads_on f here e (suc here) s.0 in
      let into = at (suc here) _ (live x) (sym (first_here n (suc here) next (omega (arith, some, c)))) r.0 in
      ((λ u. on here nothing t.0 quiet (suc here) g (into u)), ((λ u. (suc here, g, into u)), r.1))

  act_found : (act : Act) (here next : ℕ) (live : Live) → Each (IsNode f x) here (act_nodes f act here next) → Each (IsTouch f x) here (act_touches act) →
      Leaves (live x) next → Leaves (before_act act live x) (first_of (act_points act) here next) × Each Found here (act_behind act live)
  act_found drop here next live n t k = (k, tt)
  act_found (perform line g tys) here next live n t k =
      let d = leads_on f here _ next n.0 in
      ((λ u. on here (calls g) t.0 (calling g) next d (k u)), ((λ u. (next, d, k u)), tt))
  act_found (assign line y ty) here next live n t k =
      let d = leads_on f here _ next n.0 in
      ((λ u. let v = unset_true y x (live x) u in on here (sets y) t.0 (setting y v.0) next d (k v.1)), ((λ u. (next, d, k u)), tt))
  act_found (store line a) here next live n t k =
      let d = leads_on f here _ next n.0 in
      ((λ u. on here nothing t.0 quiet next d (k u)), ((λ u. (next, d, k u)), tt))
  act_found (update line a change ty) here next live n t k = line_found (change_effects f a change) (change_points change) here next live (act_count f (update line a change ty) here next) n t k
  act_found (move line cells left right) here next live n t k = line_found _ (2 * length cells) here next live (act_count f (move line cells left right) here next) n t k
  act_found (delete line) here next live n t k =
      let d = leads_on f here _ next n.0 in
      ((λ u. on here deletes t.0 deleting next d (k u)), ((λ u. (next, d, k u)), tt))
  act_found (leave line result) here next live n t k = ((λ u. absurd (nothing_live u)), ((λ u. absurd (nothing_live u)), tt))
    where
      nothing_live : IsTrue false → ⊥
      nothing_live u = cc

  head_found : (steps : Steps) (test : Option Test) (here to_yes to_no : ℕ) (live : Live) → (test ≡ None → steps ≡ none) →
      Each (IsNode f x) here (steps_nodes f steps here (here + steps_points steps)) → Each (IsNode f x) (here + steps_points steps) (test_nodes f test to_yes to_no) →
      Each (IsTouch f x) here (steps_touches steps) → Each (IsTouch f x) (here + steps_points steps) (test_touches test) →
      (IsTrue (live x) → (IsLive f x to_yes) ⊎ (IsTrue (is_some test) × IsLive f x to_no)) →
      Leaves (before_steps steps live x) (first_of (steps_points steps + branch_points test) here to_yes) × (Each Found here (steps_behind steps live) × Each Found (here + steps_points steps) (replicate (branch_points test) live))
  head_found none None here to_yes to_no live e n n1 t t1 k = ((λ u. ⊎_elim (λ h. h) (λ h. absurd (no_test h.0)) (k u)), (tt, tt))
    where
      no_test : IsTrue false → ⊥
      no_test u = cc
  head_found (more s r) None here to_yes to_no live e n n1 t t1 k = absurd (some_steps (e refl))
    where
      some_steps : more s r ≡ none → ⊥
      some_steps p = cc
  head_found steps (Some test) here to_yes to_no live e n n1 t t1 k =
      let m = here + steps_points steps in
      let behind = λ (u : IsTrue (live x)). tested m to_yes to_no (test_yes f m test.wanted _ _ to_yes to_no n1.0) (test_no f m test.wanted _ _ to_yes to_no n1.0) (k u) in
      let of_steps = steps_found steps here m live n t (λ u. let v = behind u in on m nothing t1.0 quiet v.0 v.1 v.2) in
      let begins : first_of (steps_points steps + 1) here to_yes ≡ first_of (steps_points steps) here m = first_here (steps_points steps + 1) here to_yes (omega arith) ∙ sym (first_next (steps_points steps) here) in
      (at _ _ _ begins of_steps.0, (of_steps.1, (behind, tt)))
    where
      tested : (m to_yes to_no : ℕ) → Leads f m to_yes → Leads f m to_no → (IsLive f x to_yes) ⊎ (IsTrue true × IsLive f x to_no) → IsLiveBehind f x m
      tested m to_yes to_no d g (inl h) = (to_yes, d, h)
      tested m to_yes to_no d g (inr h) = (to_no, g, h.1)

  -- where a statement's code leads
  pub record WaysLeave (e : Ends) (k : Ways) : Type 0 where
    pub next : Leaves (k.next x) e.next
    pub broken : Leaves (k.broken x) e.broken
    pub continued : Leaves (k.continued x) e.continued

  abbrev pub CodeFound : Code → Type 0
  CodeFound c = (here : ℕ) (e : Ends) (k : Ways) → Each (IsNode f x) here (code_nodes f c here e) → Each (IsTouch f x) here (code_touches c) →
      WaysLeave e k → Leaves (before_code c k x) (first_of (code_points c) here e.next) × Each Found here (code_behind c k)

  branch_found : (steps : Steps) (test : Test) (a b : Code) → CodeFound a → CodeFound b → CodeFound (branch steps test a b)
  branch_found steps test a b found_a found_b here e k n t w =
      let p = steps_points steps in
      let m = here + p in
      let live : Live = λ y. before_code a k y || before_code b k y in
      let at_b = suc m + code_points a in
      let n1 = rest (IsNode f x) here p _ _ (steps_count f steps here m) n in
      let t1 = rest (IsTouch f x) here p _ _ (steps_touched steps) t in
      let of_a = found_a (suc m) e k (front (IsNode f x) (suc m) _ _ n1.1) (front (IsTouch f x) (suc m) _ _ t1.1) w in
      let of_b = found_b at_b e k (rest (IsNode f x) (suc m) (code_points a) _ _ (code_count f a (suc m) e) n1.1) (rest (IsTouch f x) (suc m) (code_points a) _ _ (code_touched a) t1.1) w in
      let head = head_found steps (Some test) here (first_of (code_points a) (suc m) e.next) (first_of (code_points b) at_b e.next) live (λ q. absurd (test_is q))
      (front (IsNode f x) here _ _ n) (n1.0, tt) (front (IsTouch f x) here _ _ t) (t1.0, tt)
      (λ u. ⊎_elim (λ v. inl (of_a.0 v)) (λ v. inr (refl, of_b.0 v)) (or_cases (before_code a k x) (before_code b k x) u)) in (
        at _ _ _ (first_here (code_points (branch steps test a b)) here e.next (omega arith) ∙ sym (first_here (p + 1) here (first_of (code_points a) (suc m) e.next) (omega arith))) head.0,
        join Found here p (steps_behind steps live) (live ∷ (code_behind a k ++ code_behind b k)) (steps_live steps live) head.1.0
            (head.1.1.0, join Found (suc m) (code_points a) (code_behind a k) (code_behind b k) (code_lives a k) of_a.1 of_b.1),
      )
    where
      test_is : Some test ≡ None → ⊥
      test_is q = cc

  loop_found : (line : ℕ) (steps : Steps) (test : Option Test) (third a : Code) → (test ≡ None → steps ≡ none) → CodeFound third → CodeFound a → CodeFound (loop line steps test third a)
  loop_found line steps test third a e found_third found_a here ends k n t w =
      let p = steps_points steps in
      let m = suc here + p in
      let at_a = m + branch_points test in
      let at_third = at_a + code_points a in
      let back = first_of (code_points third) at_third here in
      let inside = first_of (code_points a) at_a back in
      let to = first_of (p + branch_points test) (suc here) inside in
      let live = loop_test steps test third a k in
      let k1 = loop_body steps test third a k in
      let k2 = loop_third steps test third a k in
      let e1 : Ends = record { next = back; broken = ends.next; continued = back } in
      let e2 : Ends = record ends { next = here } in
      let n0 = front (IsNode f x) (suc here) _ _ n.1 in
      let t0 = front (IsTouch f x) (suc here) _ _ t.1 in
      let n1 = rest (IsNode f x) (suc here) p _ _ (steps_count f steps (suc here) m) n.1 in
      let n2 = rest (IsNode f x) m (branch_points test) _ _ (test_count f test inside ends.next) n1 in
      let t1 = rest (IsTouch f x) (suc here) p _ _ (steps_touched steps) t.1 in
      let t2 = rest (IsTouch f x) m (branch_points test) _ _ (repeated (branch_points test) nothing) t1 in
      let na = front (IsNode f x) at_a _ _ n2 in
      let ta = front (IsTouch f x) at_a _ _ t2 in
      let n3 = rest (IsNode f x) at_a (code_points a) _ _ (code_count f a at_a e1) n2 in
      let t3 = rest (IsTouch f x) at_a (code_points a) _ _ (code_touched a) t2 in
      -- once round
      let once2 = then_live (λ _. false) k in
      let third_once = (found_third at_third e2 once2 n3 t3 (record { next = λ u. absurd (dead u); broken = w.broken; continued = w.continued })).0 in
      let once1 = round (before_code third once2) k in
      let a_once = (found_a at_a e1 once1 na ta (record { next = third_once; broken = w.next; continued = third_once })).0 in
      let into = (head_found steps test (suc here) inside ends.next (λ y. (is_some test && k.next y) || before_code a once1 y) e n0 (front (IsNode f x) m _ _ n1) t0 (front (IsTouch f x) m _ _ t1) (either (is_some test) (k.next x) (before_code a once1 x) inside ends.next w.next a_once)).0 in
      let d = leads_on f here _ to n.0 in
      let live_here = λ (u : IsTrue (before_code (loop line steps test third a) k x)). on here nothing t.0 quiet to d (into u) in
      -- and with all rounds behind
      let of_third = found_third at_third e2 k2 n3 t3 (record { next = live_here; broken = w.broken; continued = w.continued }) in
      let of_a = found_a at_a e1 k1 na ta (record { next = of_third.0; broken = w.next; continued = of_third.0 }) in
      let head = head_found steps test (suc here) inside ends.next live e n0 (front (IsNode f x) m _ _ n1) t0 (front (IsTouch f x) m _ _ t1) (either (is_some test) (k.next x) (before_code a k1 x) inside ends.next w.next of_a.0) in (
        at _ here _ (first_here (code_points (loop line steps test third a)) here ends.next (omega arith)) live_here,
        (
          (λ u. (to, d, into u)),
          join Found (suc here) p (steps_behind steps live) (replicate (branch_points test) live ++ (code_behind a k1 ++ code_behind third k2)) (steps_live steps live) head.1.0
              (join Found m (branch_points test) (replicate (branch_points test) live) (code_behind a k1 ++ code_behind third k2) (repeated (branch_points test) live) head.1.1
              (join Found at_a (code_points a) (code_behind a k1) (code_behind third k2) (code_lives a k1) of_a.1 of_third.1)),
        ),
      )
    where
      dead : IsTrue false → ⊥
      dead u = cc

      either : (some out round : Bool) (inside behind : ℕ) → Leaves out behind → Leaves round inside → IsTrue ((some && out) || round) → (IsLive f x inside) ⊎ (IsTrue some × IsLive f x behind)
      either some out round inside behind k l u = ⊎_elim (λ v. let b = and_cases some out v in inr (b.0, k b.1)) (λ v. inl (l v)) (or_cases (some && out) round u)

  repeat_found : (line : ℕ) (a : Code) (steps : Steps) (test : Test) → CodeFound a → CodeFound (repeat line a steps test)
  repeat_found line a steps test found_a here ends k n t w =
      let p = steps_points steps in
      let at_tail = suc here + code_points a in
      let m = at_tail + p in
      let tail = first_of p at_tail m in
      let ends_at : tail ≡ first_of (p + 1) at_tail here = first_next p at_tail ∙ sym (first_here (p + 1) at_tail here (omega arith)) in
      let to = first_of (code_points a) (suc here) tail in
      let live = repeat_test a steps k test in
      let k1 = round (repeat_tail a steps test k) k in
      let e1 : Ends = record { next = tail; broken = ends.next; continued = tail } in
      let n0 = front (IsNode f x) (suc here) _ _ n.1 in
      let t0 = front (IsTouch f x) (suc here) _ _ t.1 in
      let n1 = rest (IsNode f x) (suc here) (code_points a) _ _ (code_count f a (suc here) e1) n.1 in
      let n2 = rest (IsNode f x) at_tail p _ _ (steps_count f steps at_tail m) n1 in
      let t1 = rest (IsTouch f x) (suc here) (code_points a) _ _ (code_touched a) t.1 in
      let t2 = rest (IsTouch f x) at_tail p _ _ (steps_touched steps) t1 in
      -- once round
      let tail_once = at tail _ _ ends_at (head_found steps (Some test) at_tail here ends.next k.next (λ q. absurd (test_is q)) (front (IsNode f x) at_tail _ _ n1) n2 (front (IsTouch f x) at_tail _ _ t1) t2 (λ u. inr (refl, w.next u))).0 in
      let into = (found_a (suc here) e1 (round (before_steps steps k.next) k) n0 t0 (record { next = tail_once; broken = w.next; continued = tail_once })).0 in
      let d = leads_on f here _ to n.0 in
      let live_here = λ (u : IsTrue (before_code (repeat line a steps test) k x)). on here nothing t.0 quiet to d (into u) in
      -- and with all rounds behind
      let head = head_found steps (Some test) at_tail here ends.next live (λ q. absurd (test_is q)) (front (IsNode f x) at_tail _ _ n1) n2 (front (IsTouch f x) at_tail _ _ t1) t2
      (λ u. ⊎_elim (λ v. inr (refl, w.next v)) (λ v. inl (live_here v)) (or_cases (k.next x) (before_code (repeat 0 a steps test) k x) u)) in
      let at_end = at tail _ _ ends_at head.0 in
      let of_a = found_a (suc here) e1 k1 n0 t0 (record { next = at_end; broken = w.next; continued = at_end }) in (
        at _ here _ (first_here (code_points (repeat line a steps test)) here ends.next (omega arith)) live_here,
        (
          (λ u. (to, d, into u)),
          join Found (suc here) (code_points a) (code_behind a k1) (steps_behind steps live ++ (live ∷ [])) (code_lives a k1) of_a.1
              (join Found at_tail p (steps_behind steps live) (live ∷ []) (steps_live steps live) head.1.0 head.1.1),
        ),
      )
    where
      test_is : Some test ≡ None → ⊥
      test_is q = cc

  mutual
    pub code_found : (c : Code) → CodeFits c → CodeFound c
    code_found (simple steps act) fit here e k n t w =
        let p = steps_points steps in
        let m = here + p in
        let to = first_of (act_points act) m e.next in
        let of_act = act_found act m e.next k.next (rest (IsNode f x) here p _ _ (steps_count f steps here to) n) (rest (IsTouch f x) here p _ _ (steps_touched steps) t) w.next in
        let of_steps = steps_found steps here to (before_act act k.next) (front (IsNode f x) here _ _ n) (front (IsTouch f x) here _ _ t) of_act.0 in (
          at _ _ _ (first_two p (act_points act) here e.next) of_steps.0,
          join Found here p (steps_behind steps (before_act act k.next)) (act_behind act k.next) (steps_live steps (before_act act k.next)) of_steps.1 of_act.1,
        )
    code_found (clear line y ty) fit here e k n t w =
        let d = leads_on f here _ e.next n.0 in
        ((λ u. let v = unset_true y x (k.next x) u in on here (sets y) t.0 (setting y v.0) e.next d (w.next v.1)), ((λ u. (e.next, d, w.next u)), tt))
    code_found (block codes) fit here e k n t w = codes_found codes fit here e k n t w
    code_found (branch steps test a b) fit here e k n t w = branch_found steps test a b (code_found a fit.2) (code_found b fit.3) here e k n t w
    code_found (loop line steps test third a) fit here e k n t w = loop_found line steps test third a (no_steps steps test fit.0 fit.1) (code_found third fit.2) (code_found a fit.3) here e k n t w
    code_found (repeat line a steps test) fit here e k n t w = repeat_found line a steps test (code_found a fit.0) here e k n t w
    code_found (break line) fit here e k n t w =
        let d = leads_on f here _ e.broken n.0 in
        ((λ u. on here nothing t.0 quiet e.broken d (w.broken u)), ((λ u. (e.broken, d, w.broken u)), tt))
    code_found (continue line) fit here e k n t w =
        let d = leads_on f here _ e.continued n.0 in
        ((λ u. on here nothing t.0 quiet e.continued d (w.continued u)), ((λ u. (e.continued, d, w.continued u)), tt))

    codes_found : (cs : Codes) → CodesFit cs → (here : ℕ) (e : Ends) (k : Ways) → Each (IsNode f x) here (codes_nodes f cs here e) → Each (IsTouch f x) here (codes_touches cs) →
        WaysLeave e k → Leaves (before_codes cs k x) (first_of (codes_points cs) here e.next) × Each Found here (codes_behind cs k)
    codes_found done fit here e k n t w = (w.next, tt)
    codes_found (then c r) fit here e k n t w =
        let p = code_points c in
        let m = here + p in
        let to = first_of (codes_points r) m e.next in
        let k1 = then_live (before_codes r k) k in
        let of_r = codes_found r fit.1 m e k (rest (IsNode f x) here p _ _ (code_count f c here (record e { next = to })) n) (rest (IsTouch f x) here p _ _ (code_touched c) t) w in
        let of_c = code_found c fit.0 here (record e { next = to }) k1 (front (IsNode f x) here _ _ n) (front (IsTouch f x) here _ _ t) (record { next = of_r.0; broken = w.broken; continued = w.continued }) in (
          at _ _ _ (first_two p (codes_points r) here e.next) of_c.0,
          join Found here p (code_behind c k1) (codes_behind r k) (code_lives c k1) of_c.1 of_r.1,
        )
