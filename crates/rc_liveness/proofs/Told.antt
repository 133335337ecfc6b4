-- What is computed as live behind each point is what paths tell; and so is each list.
use Rattle.std.proofs.Common.{◌≡◌, ℕ, zero, suc, ◌+◌, ◌<◌, Bool, true, false, ◌||◌, nat_eq, List, [], ◌∷◌, ◌++◌, Option, Some, None, refl, sym, ap, ◌∙◌, subst, arith}
use Rattle.std.specs.Prelude.{slice_get, replicate, IsTrue, ◌↔◌}
use Rattle.std.specs.List.{AllByRecursion as Every}
use Rattle.std.proofs.lemmas.Bool.{or_left, or_right, eqb-true}
use Rattle.std.proofs.lemmas.Option.{slice_get_within, same_Some}
use Rattle.rc_core.specs.Types.{Ty}
use Rattle.rc_core.specs.Live.{Ways, unless_set, at_end}
use Rattle.rc_rlang.specs.Points.{end_points}
use Rattle.rc_rlang.specs.RegionCode.{Kind, numeric, regional, kind_of, Operation, call, Step, set, fork, Steps, none, more, Act, drop, perform, assign, store, update, move, delete, leave, Code, simple, clear, block, branch, loop, repeat, break, continue, Codes, done, then, Routine}
use Rattle.rc_rlang.specs.RegionPoints.{step_points, steps_points, branch_points, code_points, routine_points}
use Rattle.rc_rlang.specs.RegionLive.{before_steps, before_act, before_code, before_codes, repeat_tail}
use Rattle.rc_core.specs.Live.{then_live, round}
use Rattle.rc_rlang.specs.RegionRuns.{pin_when, pins_from}
use Rattle.rc_rlang.specs.RegionFits.{CodeFits}
use Rattle.rc_rlang.specs.RegionFlow.{Ends, first_of, code_nodes, end_nodes, routine_nodes}
use Rattle.rc_rlang.specs.Touches.{Touch, nothing, reads, sets, deletes, calls, code_touches, routine_touches}
use Rattle.rc_rlang.specs.LiveLists.{Held, held_if, operation_lists, step_lists, steps_lists, act_lists, code_lists, codes_lists, routine_lists}
use Rattle.rc_rlang.specs.LivePaths.{Leads, IsLive, read, later, IsLiveBehind, IsReference}
use Rattle.rc_annotations.proofs.Nodes.{code_count, nodes_are_points}
use Rattle.rc_liveness.specs.Laws.{TellsPaths, ListsArePaths}
use Rattle.rc_liveness.proofs.Each.{Each, front, rest, join, stands, there, repeated}
use Rattle.rc_liveness.proofs.Each as E
use Rattle.rc_liveness.proofs.Behind.{Live, loop_third, loop_body, loop_test, repeat_test, step_behind, steps_behind, act_behind, code_behind, codes_behind, routine_behind, code_touched, code_lives, step_lives, steps_live, routine_touched, routine_lives}
use Rattle.rc_liveness.proofs.Edges.{one_edge, no_edge, leads_on}
use Rattle.rc_liveness.proofs.Solved.{IsNode, IsTouch, HasLive, touched, Before, before_is, Enters, Closed, code_in}
use Rattle.rc_liveness.proofs.Found.{Found, code_found}

abbrev dead : Live
dead y = false

each_more : {A : Type 0} (P Q : ℕ → A → Type 0) (here : ℕ) (xs : List A) → ((n : ℕ) (a : A) → P n a → Q n a) → Each P here xs → Each Q here xs
each_more P Q here [] g e = tt
each_more P Q here (a ∷ xs) g e = (g here a e.0, each_more P Q (suc here) xs g e.1)

each_both : {A : Type 0} (P Q R : ℕ → A → Type 0) (here : ℕ) (xs : List A) → ((n : ℕ) (a : A) → P n a → Q n a → R n a) → Each P here xs → Each Q here xs → Each R here xs
each_both P Q R here [] g d e = tt
each_both P Q R here (a ∷ xs) g d e = (g here a d.0 e.0, each_both P Q R (suc here) xs g d.1 e.1)

-- from another first number
each_from : {A : Type 0} (P : ℕ → A → Type 0) (first here : ℕ) (xs : List A) → Each P here xs → Each (λ n a. (point : ℕ) × (n ≡ first + point) × P point a) (first + here) xs
each_from P first here [] e = tt
each_from {A} P first here (a ∷ xs) e = ((here, refl, e.0), subst (λ i. Each (λ n a. (point : ℕ) × (n ≡ first + point) × P point a) i xs) (let k : first + suc here ≡ suc (first + here) = omega arith in k) (each_from P first (suc here) xs e.1))

dead_found : (f : Routine) (x n here : ℕ) → Each (Found f x) here (replicate n dead)
dead_found f x zero here = tt
dead_found f x (suc n) here = ((λ u. absurd (nothing_live u)), dead_found f x n (suc here))
  where
    nothing_live : IsTrue false → ⊥
    nothing_live u = cc

module _ (f : Routine) (fit : CodeFits f.body) where
  abbrev end_at : ℕ
  end_at = suc (code_points f.body)

  abbrev ends : Ends
  ends = record { next = end_at; broken = end_at; continued = end_at }

  to_end : 1 + code_points f.body ≡ end_at
  to_end = omega arith

  nodes_stand : (x : ℕ) → Each (IsNode f x) 0 (routine_nodes f)
  nodes_stand x = stands (routine_nodes f)

  touches_stand : (x : ℕ) → Each (IsTouch f x) 0 (routine_touches f)
  touches_stand x = stands (routine_touches f)

  lives_stand : (x : ℕ) → Each (HasLive f x) 0 (routine_behind f)
  lives_stand x = stands (routine_behind f)

  end_nodes_stand : (x : ℕ) → Each (IsNode f x) end_at (end_nodes f f.result end_at)
  end_nodes_stand x = subst (λ i. Each (IsNode f x) i (end_nodes f f.result end_at)) to_end (rest (IsNode f x) 1 (code_points f.body) (code_nodes f f.body 1 ends) (end_nodes f f.result end_at) (code_count f f.body 1 ends) (nodes_stand x).1)

  end_touches_stand : (x : ℕ) → Each (IsTouch f x) end_at (replicate (end_points f.result) nothing)
  end_touches_stand x = subst (λ i. Each (IsTouch f x) i (replicate (end_points f.result) nothing)) to_end (rest (IsTouch f x) 1 (code_points f.body) (code_touches f.body) (replicate (end_points f.result) nothing) (code_touched f.body) (touches_stand x).1)

  end_lives_stand : (x : ℕ) → Each (HasLive f x) end_at (replicate (end_points f.result) dead)
  end_lives_stand x = subst (λ i. Each (HasLive f x) i (replicate (end_points f.result) dead)) to_end (rest (HasLive f x) 1 (code_points f.body) (code_behind f.body at_end) (replicate (end_points f.result) dead) (code_lives f.body at_end) (lives_stand x).1)

  enters_dead : (x n : ℕ) → IsTouch f x n nothing → HasLive f x n dead → Enters f x n false
  enters_dead x n t l u = sym (before_is f x n nothing dead t l) ∙ u

  end_in : (x : ℕ) (o : Option Ty) (here : ℕ) → Each (IsNode f x) here (end_nodes f o here) → Each (IsTouch f x) here (replicate (end_points o) nothing) → Each (HasLive f x) here (replicate (end_points o) dead) →
      Enters f x here false × Each (Closed f x) here (replicate (end_points o) dead)
  end_in x None here n t l = (enters_dead x here t.0 l.0, ((λ to d. absurd (no_edge f here _ n.0 to d)), tt))
  end_in x (Some ty) here n t l = (
    enters_dead x here t.0 l.0,
    (
      (λ to d. subst (λ i. Enters f x i false) (sym (one_edge f here _ (suc here) n.0 to d)) (enters_dead x (suc here) t.1.0 l.1.0)),
      ((λ to d. absurd (no_edge f (suc here) _ n.1.0 to d)), tt),
    ),
  )

  all_closed : (x : ℕ) → Each (Closed f x) 0 (routine_behind f)
  all_closed x =
      let at_last = end_in x f.result end_at (end_nodes_stand x) (end_touches_stand x) (end_lives_stand x) in
      let body = code_in f x f.body fit 1 ends at_end
      (front (IsNode f x) 1 (code_nodes f f.body 1 ends) (end_nodes f f.result end_at) (nodes_stand x).1)
      (front (IsTouch f x) 1 (code_touches f.body) (replicate (end_points f.result) nothing) (touches_stand x).1)
      (front (HasLive f x) 1 (code_behind f.body at_end) (replicate (end_points f.result) dead) (lives_stand x).1)
      (record { next = at_last.0; broken = at_last.0; continued = at_last.0 }) in (
        (λ to d. subst (λ i. Enters f x i (before_code f.body at_end x)) (sym (one_edge f 0 _ _ (nodes_stand x).0 to d)) body.0),
        join (Closed f x) 1 (code_points f.body) (code_behind f.body at_end) (replicate (end_points f.result) dead) (code_lives f.body at_end) body.1
            (subst (λ i. Each (Closed f x) i (replicate (end_points f.result) dead)) (sym to_end) at_last.1),
      )

  all_found : (x : ℕ) → Each (Found f x) 0 (routine_behind f)
  all_found x =
      let body = code_found f x f.body fit 1 ends at_end
      (front (IsNode f x) 1 (code_nodes f f.body 1 ends) (end_nodes f f.result end_at) (nodes_stand x).1)
      (front (IsTouch f x) 1 (code_touches f.body) (replicate (end_points f.result) nothing) (touches_stand x).1)
      (record { next = λ u. absurd (nothing_live u); broken = λ u. absurd (nothing_live u); continued = λ u. absurd (nothing_live u) }) in (
        (λ u. (first_of (code_points f.body) 1 end_at, leads_on f 0 _ _ (nodes_stand x).0, body.0 u)),
        join (Found f x) 1 (code_points f.body) (code_behind f.body at_end) (replicate (end_points f.result) dead) (code_lives f.body at_end) body.1
            (dead_found f x (end_points f.result) (1 + code_points f.body)),
      )
    where
      nothing_live : IsTrue false → ⊥
      nothing_live u = cc

  -- a point of the function has a touch, and what is live behind it
  has_touch : (n : ℕ) → n < routine_points f → (t : Touch) × (slice_get (routine_touches f) n ≡ Some t)
  has_touch n l = let e = routine_touched f in there (routine_touches f) n (omega (arith, l, e))

  has_live : (n : ℕ) → n < routine_points f → (l : Live) × (slice_get (routine_behind f) n ≡ Some l)
  has_live n l = let e = routine_lives f in there (routine_behind f) n (omega (arith, l, e))

  touch_keeps : (x : ℕ) (t : Touch) (b : Bool) → (t ≡ sets x → ⊥) → IsTrue b → IsTrue (touched f x t b)
  touch_keeps x nothing b apart u = u
  touch_keeps x (reads y) b apart u = or_right (nat_eq y x) b u
  touch_keeps x (sets y) b apart u = by (nat_eq y x) refl
    where
      by : (c : Bool) → nat_eq y x ≡ c → IsTrue (unless_set y x b)
      by true e = absurd (apart (ap sets (eqb-true y x e)))
      by false e = cc
  touch_keeps x deletes b apart u = u
  touch_keeps x (calls g) b apart u = u

  same_number : (n : ℕ) → nat_eq n n ≡ true
  same_number n = grind arith

  path_solved : (x n : ℕ) → IsLive f x n → IsTrue (Before f x n)
  path_solved x _ (read n t) =
      let bound = routine_touched f in
      let inside = slice_get_within (routine_touches f) n (reads x) t in
      let l = has_live n (omega (arith, bound, inside)) in
      before_is f x n (reads x) l.0 t l.1 ∙ or_left (nat_eq x x) (l.0 x) (same_number x)
  path_solved x _ (later n next apart d h) =
      let bound = nodes_are_points f in
      let inside = slice_get_within (routine_nodes f) n d.node d.there in
      let l = has_live n (omega (arith, bound, inside)) in
      let t = has_touch n (omega (arith, bound, inside)) in
      let closed = E.at (Closed f x) 0 (routine_behind f) (all_closed x) n l.0 l.1 in
      let live = closed next (subst (λ i. Leads f i next) (let k : n ≡ 0 + n = omega arith in k) d) (path_solved x next h) in
      before_is f x n t.0 l.0 t.1 l.1 ∙ touch_keeps x t.0 (l.0 x) (λ e. apart (t.1 ∙ ap Some e)) live

  abbrev Told : ℕ → Live → Type 0
  Told n l = (x : ℕ) → IsTrue (l x) ↔ IsLiveBehind f x n

  all_told : Each Told 0 (routine_behind f)
  all_told = each_more (λ n l. slice_get (routine_behind f) n ≡ Some l) Told 0 (routine_behind f) told (stands (routine_behind f))
    where
      from_zero : (n : ℕ) → 0 + n ≡ n
      from_zero n = omega arith

      told : (n : ℕ) (l : Live) → slice_get (routine_behind f) n ≡ Some l → Told n l
      told n l s x = (
        (λ u. subst (λ i. IsLiveBehind f x i) (from_zero n) (E.at (Found f x) 0 (routine_behind f) (all_found x) n l s u)),
        (λ p. E.at (Closed f x) 0 (routine_behind f) (all_closed x) n l s p.0 (subst (λ i. Leads f i p.0) (sym (from_zero n)) p.1) (path_solved x p.0 p.2)),
      )

-- what is listed is what is live behind the point
record Heard (types : List Ty) (R : ℕ → Live → Type 0) (e : Held) : Type 0 where
  live : Live
  locals : e.locals ≡ pins_from types 0 live
  holds : R e.point live

every_join : {A : Type 0} (P : A → Type 0) (xs ys : List A) → Every P xs → Every P ys → Every P (xs ++ ys)
every_join P [] ys d e = e
every_join P (x ∷ xs) ys d e = (d.0, every_join P xs ys d.1 e)

every_more : {A : Type 0} (P Q : A → Type 0) (xs : List A) → ((a : A) → P a → Q a) → Every P xs → Every Q xs
every_more P Q [] g e = tt
every_more P Q (a ∷ xs) g e = (g a e.0, every_more P Q xs g e.1)

module _ (deleting : ℕ → Bool) (types : List Ty) (R : ℕ → Live → Type 0) where
  abbrev AllHeard : List Held → Type 0
  AllHeard es = Every (Heard types R) es

  if_heard : (b : Bool) (here : ℕ) (live : Live) → R here live → AllHeard (held_if deleting types b here live)
  if_heard true here live r = (record { live = live; locals = refl; holds = r }, tt)
  if_heard false here live r = tt

  operation_heard : (op : Operation) (here : ℕ) (live : Live) → R here live → AllHeard (operation_lists deleting types op here live)
  operation_heard (call g tys) here live r = if_heard (deleting g) here live r
  operation_heard op here live r = tt

  mutual
    step_heard : (s : Step) (here : ℕ) (live : Live) → Each R here (step_behind s live) → AllHeard (step_lists deleting types s here live)
    step_heard (set line h ty op) here live e = operation_heard op here live e.0
    step_heard (fork line h test result a b) here live e =
        every_join (Heard types R) (steps_lists deleting types a (suc here) live) (steps_lists deleting types b (suc here + steps_points a) live)
        (steps_heard a (suc here) live (front R (suc here) _ _ e.1)) (steps_heard b (suc here + steps_points a) live (rest R (suc here) (steps_points a) _ _ (steps_live a live) e.1))

    steps_heard : (s : Steps) (here : ℕ) (live : Live) → Each R here (steps_behind s live) → AllHeard (steps_lists deleting types s here live)
    steps_heard none here live e = tt
    steps_heard (more s r) here live e =
        every_join (Heard types R) (step_lists deleting types s here (before_steps r live)) (steps_lists deleting types r (here + step_points s) live)
        (step_heard s here (before_steps r live) (front R here _ _ e)) (steps_heard r (here + step_points s) live (rest R here (step_points s) _ _ (step_lives s (before_steps r live)) e))

  act_heard : (act : Act) (here : ℕ) (live : Live) → Each R here (act_behind act live) → AllHeard (act_lists deleting types act here live)
  act_heard drop here live e = tt
  act_heard (perform line g tys) here live e = if_heard (deleting g) here live e.0
  act_heard (assign line y ty) here live e = tt
  act_heard (store line a) here live e = tt
  act_heard (update line a change ty) here live e = tt
  act_heard (move line cells left right) here live e = tt
  act_heard (delete line) here live e = (record { live = live; locals = refl; holds = e.0 }, tt)
  act_heard (leave line result) here live e = tt

  mutual
    code_heard : (c : Code) (here : ℕ) (k : Ways) → Each R here (code_behind c k) → AllHeard (code_lists deleting types c here k)
    code_heard (simple steps act) here k e =
        let live = before_act act k.next in
        every_join (Heard types R) (steps_lists deleting types steps here live) (act_lists deleting types act (here + steps_points steps) k.next)
        (steps_heard steps here live (front R here _ _ e)) (act_heard act (here + steps_points steps) k.next (rest R here (steps_points steps) _ _ (steps_live steps live) e))
    code_heard (clear line y ty) here k e = tt
    code_heard (block codes) here k e = codes_heard codes here k e
    code_heard (branch steps test a b) here k e =
        let live = λ (y : ℕ). before_code a k y || before_code b k y in
        let at = here + steps_points steps in
        let after = (rest R here (steps_points steps) _ _ (steps_live steps live) e).1 in
        every_join (Heard types R) (steps_lists deleting types steps here live) (code_lists deleting types a (suc at) k ++ code_lists deleting types b (suc at + code_points a) k)
        (steps_heard steps here live (front R here _ _ e))
        (every_join (Heard types R) (code_lists deleting types a (suc at) k) (code_lists deleting types b (suc at + code_points a) k)
        (code_heard a (suc at) k (front R (suc at) _ _ after)) (code_heard b (suc at + code_points a) k (rest R (suc at) (code_points a) _ _ (code_lives a k) after)))
    code_heard (loop line steps test third a) here k e =
        let live = loop_test steps test third a k in
        let k1 = loop_body steps test third a k in
        let k2 = loop_third steps test third a k in
        let at = suc here + steps_points steps in
        let at_a = at + branch_points test in
        let after = rest R (suc here) (steps_points steps) _ _ (steps_live steps live) e.1 in
        let parts = rest R at (branch_points test) _ _ (repeated (branch_points test) live) after in
        every_join (Heard types R) (steps_lists deleting types steps (suc here) live) (code_lists deleting types a at_a k1 ++ code_lists deleting types third (at_a + code_points a) k2)
        (steps_heard steps (suc here) live (front R (suc here) _ _ e.1))
        (every_join (Heard types R) (code_lists deleting types a at_a k1) (code_lists deleting types third (at_a + code_points a) k2)
        (code_heard a at_a k1 (front R at_a _ _ parts)) (code_heard third (at_a + code_points a) k2 (rest R at_a (code_points a) _ _ (code_lives a k1) parts)))
    code_heard (repeat line a steps test) here k e =
        let live = repeat_test a steps k test in
        let k1 = round (repeat_tail a steps test k) k in
        let after = rest R (suc here) (code_points a) _ _ (code_lives a k1) e.1 in
        every_join (Heard types R) (code_lists deleting types a (suc here) k1) (steps_lists deleting types steps (suc here + code_points a) live)
        (code_heard a (suc here) k1 (front R (suc here) _ _ e.1))
        (steps_heard steps (suc here + code_points a) live (front R (suc here + code_points a) _ _ after))
    code_heard (break line) here k e = tt
    code_heard (continue line) here k e = tt

    codes_heard : (cs : Codes) (here : ℕ) (k : Ways) → Each R here (codes_behind cs k) → AllHeard (codes_lists deleting types cs here k)
    codes_heard done here k e = tt
    codes_heard (then c r) here k e =
        let k1 = then_live (before_codes r k) k in
        every_join (Heard types R) (code_lists deleting types c here k1) (codes_lists deleting types r (here + code_points c) k)
        (code_heard c here k1 (front R here _ _ e)) (codes_heard r (here + code_points c) k (rest R here (code_points c) _ _ (code_lives c k1) e))

-- the locals that are listed
pub record Pinned (tys : List Ty) (base : ℕ) (live : Live) (x : ℕ) : Type 0 where
  pub number : ℕ
  pub is : x ≡ base + number
  pub ty : Ty
  pub typed : slice_get tys number ≡ Some ty
  pub refers : kind_of ty ≡ regional
  pub lives : IsTrue (live x)

pin_later : (ty : Ty) (tys : List Ty) (base : ℕ) (live : Live) (x : ℕ) → Pinned tys (suc base) live x → Pinned (ty ∷ tys) base live x
pin_later ty tys base live x p = let e = p.is in record { number = suc p.number; is = omega (arith, e); ty = p.ty; typed = p.typed; refers = p.refers; lives = p.lives }

pub pins_are : (tys : List Ty) (base : ℕ) (live : Live) (x i : ℕ) → slice_get (pins_from tys base live) i ≡ Some x → Pinned tys base live x
pins_are [] base live x i e = cc
pins_are (ty ∷ tys) base live x i e = by (λ j d. pins_are tys (suc base) live x j d) (kind_of ty) (live base) refl refl i e
  where
    by : ((j : ℕ) → slice_get (pins_from tys (suc base) live) j ≡ Some x → Pinned tys (suc base) live x) → (k : Kind) (b : Bool) → kind_of ty ≡ k → live base ≡ b → (i : ℕ) → slice_get (pin_when k b base (pins_from tys (suc base) live)) i ≡ Some x → Pinned (ty ∷ tys) base live x
    by others regional true p q zero e = let is = same_Some base x e in record { number = 0; is = omega (arith, is); ty = ty; typed = refl; refers = p; lives = subst (λ y. IsTrue (live y)) is q }
    by others regional true p q (suc i) e = pin_later ty tys base live x (others i e)
    by others regional false p q i e = pin_later ty tys base live x (others i e)
    by others numeric b p q i e = pin_later ty tys base live x (others i e)

abbrev pub Listed : ℕ → List ℕ → Type 0
Listed x xs = (i : ℕ) × (slice_get xs i ≡ Some x)

listed_later : (k : Kind) (b : Bool) (y x : ℕ) (xs : List ℕ) → Listed x xs → Listed x (pin_when k b y xs)
listed_later regional true y x xs l = (suc l.0, l.1)
listed_later regional false y x xs l = l
listed_later numeric b y x xs l = l

pub are_pins : (tys : List Ty) (base : ℕ) (live : Live) (number : ℕ) (ty : Ty) → slice_get tys number ≡ Some ty → kind_of ty ≡ regional → IsTrue (live (base + number)) → Listed (base + number) (pins_from tys base live)
are_pins [] base live number ty e p u = cc
are_pins (t ∷ tys) base live zero ty e p u =
    let q : base + 0 ≡ base = omega arith in
    subst (λ y. Listed y (pins_from (t ∷ tys) base live)) (sym q) (first (ap kind_of (same_Some t ty e) ∙ p) (subst (λ y. IsTrue (live y)) q u))
  where
    first : kind_of t ≡ regional → live base ≡ true → Listed base (pin_when (kind_of t) (live base) base (pins_from tys (suc base) live))
    first k l = subst (λ b. Listed base (pin_when (kind_of t) b base (pins_from tys (suc base) live))) (sym l) (subst (λ m. Listed base (pin_when m true base (pins_from tys (suc base) live))) (sym k) (0, refl))
are_pins (t ∷ tys) base live (suc number) ty e p u =
    let q : suc base + number ≡ base + suc number = omega arith in
    listed_later (kind_of t) (live base) base (base + suc number) (pins_from tys (suc base) live)
    (subst (λ y. Listed y (pins_from tys (suc base) live)) q (are_pins tys (suc base) live number ty e p (subst (λ y. IsTrue (live y)) (sym q) u)))

told_by : (f : Routine) (first : ℕ) (e : Held) → Heard f.locals (λ n l. (point : ℕ) × (n ≡ first + point) × ((x : ℕ) → IsTrue (l x) ↔ IsLiveBehind f x point)) e → TellsPaths f first e
told_by f first e h = record { point = h.holds.0; is = h.holds.1; lists = λ x. (listed x, in_list x) }
  where
    from_zero : (n : ℕ) → 0 + n ≡ n
    from_zero n = omega arith

    listed : (x : ℕ) → Listed x e.locals → IsReference f x × IsLiveBehind f x h.holds.0
    listed x l =
        let p = pins_are f.locals 0 h.live x l.0 (subst (λ ls. slice_get ls l.0 ≡ Some x) h.locals l.1) in
        (record { ty = p.ty; there = subst (λ n. slice_get f.locals n ≡ Some p.ty) (sym (p.is ∙ from_zero p.number)) p.typed; refers = p.refers }, (h.holds.2 x).0 p.lives)

    in_list : (x : ℕ) → IsReference f x × IsLiveBehind f x h.holds.0 → Listed x e.locals
    in_list x p =
        subst (λ ls. Listed x ls) (sym h.locals) (subst (λ y. Listed y (pins_from f.locals 0 h.live)) (from_zero x)
        (are_pins f.locals 0 h.live x p.0.ty p.0.there p.0.refers (subst (λ y. IsTrue (h.live y)) (sym (from_zero x)) ((h.holds.2 x).1 p.1))))

pub lists_tell : ListsArePaths
lists_tell deleting f first fit =
    let all = (all_told f fit).1 in
    let body = front (Told f fit) 1 (code_behind f.body at_end) (replicate (end_points f.result) dead) all in
    let R = λ (n : ℕ) (l : Live). (point : ℕ) × (n ≡ first + point) × ((x : ℕ) → IsTrue (l x) ↔ IsLiveBehind f x point) in
    let q : first + 1 ≡ suc first = omega arith in
    every_more (Heard f.locals R) (TellsPaths f first) (routine_lists deleting f first) (told_by f first)
    (code_heard deleting f.locals R f.body (suc first) at_end (subst (λ i. Each R i (code_behind f.body at_end)) q (each_from (Told f fit) first 1 (code_behind f.body at_end) body)))
