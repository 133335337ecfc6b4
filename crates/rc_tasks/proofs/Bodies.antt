-- The appended bodies of `yield` and `main` against what a yield and the run do.
use Rattle.rc_tasks.proofs.Common.{◌≡◌, ℕ, zero, suc, ◌+◌, ◌<◌, ◌≤◌, not, ◌||◌, ◌⊎◌, inl, inr, List, [], ◌∷◌, ◌++◌, length, map, nat_eq, slice_get, cond, Some, None, refl, sym, ap, ◌∙◌, subst, arith, ℤ, pos, ◌+ℤ◌, int_lt, Unsigned, Int, wrapped, converted, truth, equals, int, Signed, constant, Stmt, block, evaluate, while, return, call, none, Stmts, done, then, Function, Program, Value, Number, Null, Ways, before, before_all, then_live, either, while_body, at_end, Stop, Run, Go, Stopped, bind, branching, Calls, number_in, is_true, static, aimed, Flow, Next, held_value, held, function_deletes, deletes, result_of, behind, behind_body, calling, value_of, exec, exec_all, rounds, run_function, World, source, Tasks, TaskWorld, yield_of, declaration, declared, tasks, is_none_left, called, yielding, driving, starting, counter, digit, occurs, also, any_left, call_of, calls_of, every_task, taking, yield_body, yield_function, main_body, main_function, appended}
use Rattle.std.proofs.Common.{Bool, true, false, nat_lt}
use Rattle.std.specs.List.{AllByRecursion as Every}
use Rattle.rc_tasks.proofs.Moved.{moved}
use Rattle.rc_tasks.proofs.Follows.{Follows, goes, stops, Alike, calling_follows}
use Rattle.rc_tasks.proofs.Heaps.{Fine}
use Rattle.rc_tasks.proofs.Worlds.{lifted_world, Related, tasks_alike}
use Rattle.rc_tasks.proofs.Yields.{counter_object, choices_object, counter_silent, choices_silent, unsigned_same, int_same, same_digits, counter_loaded, choice_loaded, counter_stored}

-- what goes on behind a run, where the other's goes on otherwise
through : {W V A B C D : Type 0} (R : W → V → Type 0) {f : A → B} {g : C → D} {m : Run W A} {n : Run V B} {k : A → W → Run W C} (N : Run V B → Run V D) →
    Follows R f m n → ((x : A) (w : W) (v : V) → R w v → Follows R g (k x w) (N (Go (f x) v))) → ((st : Stop) (w : W) (v : V) → R w v → Follows R g (Stopped st w) (N (Stopped st v))) → Follows R g (bind m k) (N n)
through R N (goes x w v r) h z = h x w v r
through R N (stops st w v r) h z = z st w v r

pub held_none : (live : ℕ → Bool) → ((x : ℕ) → live x ≡ false) → (env : List Value) → held live env ≡ []
held_none live h [] = refl
held_none live h (v ∷ env) = ap (λ b. held_value b v (held (λ x. live (suc x)) env)) (h 0) ∙ held_none (λ x. live (suc x)) (λ x. h (suc x)) env

held_number : (b : Bool) (z : ℤ) (vs : List Value) → held_value b (Number z) vs ≡ vs
held_number true z vs = refl
held_number false z vs = refl

-- the locals but for the second, which is a number
held_choice : (live : ℕ → Bool) → ((x : ℕ) → nat_eq 1 x ≡ false → live x ≡ false) → (p : Value) (z : ℤ) (rest : List Value) → held live (p ∷ Number z ∷ rest) ≡ []
held_choice live h p z rest =
    ap (λ b. held_value b p (held (λ x. live (suc x)) (Number z ∷ rest))) (h 0 refl) ∙ held_number (live 1) z (held (λ x. live (suc (suc x))) rest)
    ∙ held_none (λ x. live (suc (suc x))) (λ x. h (suc (suc x)) (apart x)) rest
  where
    apart : (x : ℕ) → nat_eq 1 (suc (suc x)) ≡ false
    apart x = grind arith

true_of : (b : Bool) → is_true (Number (truth b)) ≡ b
true_of true = refl
true_of false = refl

same_number : (d e : ℕ) → nat_eq d e ≡ true → d ≡ e
same_number d e h = grind (arith, h)

pub left_or_none : (taken left : List ℕ) → nat_lt (length taken) (length (taken ++ left)) ≡ not (is_none_left left)
left_or_none [] [] = refl
left_or_none [] (d ∷ left) = grind arith
left_or_none (c ∷ taken) left = less (length taken) (length (taken ++ left)) ∙ left_or_none taken left
  where
    less : (a b : ℕ) → nat_lt (suc a) (suc b) ≡ nat_lt a b
    less a b = grind arith

-- each task once
abbrev Absent : ℕ → List ℕ → Type 0
Absent c [] = Unit {0}
Absent c (e ∷ es) = (nat_eq c e ≡ false) × Absent c es

abbrev Once : ℕ → List ℕ → Type 0
Once c [] = ⊥
Once c (e ∷ es) = ((nat_eq c e ≡ true) × Absent c es) ⊎ ((nat_eq c e ≡ false) × Once c es)

abbrev absent : ℕ → List ℕ → Bool
absent c [] = true
absent c (e ∷ es) = cond (nat_eq c e) false (absent c es)

abbrev once : ℕ → List ℕ → Bool
once c [] = false
once c (e ∷ es) = cond (nat_eq c e) (absent c es) (once c es)

is_absent : (c : ℕ) (es : List ℕ) → absent c es ≡ true → Absent c es
is_absent c [] h = tt
is_absent c (e ∷ es) h = by (is_absent c es) (nat_eq c e) refl h
  where
    by : (absent c es ≡ true → Absent c es) → (b : Bool) → nat_eq c e ≡ b → cond b false (absent c es) ≡ true → Absent c (e ∷ es)
    by rest true q h = cc
    by rest false q h = (q, rest h)

is_once : (c : ℕ) (es : List ℕ) → once c es ≡ true → Once c es
is_once c [] h = cc
is_once c (e ∷ es) h = by (is_once c es) (nat_eq c e) refl h
  where
    by : (once c es ≡ true → Once c es) → (b : Bool) → nat_eq c e ≡ b → cond b (absent c es) (once c es) ≡ true → Once c (e ∷ es)
    by rest true q h = inl (q, is_absent c es h)
    by rest false q h = inr (q, rest h)

each_once : (c : ℕ) → c < 10 → once c (0 ∷ 1 ∷ 2 ∷ 3 ∷ 4 ∷ 5 ∷ 6 ∷ 7 ∷ 8 ∷ 9 ∷ []) ≡ true
each_once zero lt = refl
each_once (suc zero) lt = refl
each_once (suc (suc zero)) lt = refl
each_once (suc (suc (suc zero))) lt = refl
each_once (suc (suc (suc (suc zero)))) lt = refl
each_once (suc (suc (suc (suc (suc zero))))) lt = refl
each_once (suc (suc (suc (suc (suc (suc zero)))))) lt = refl
each_once (suc (suc (suc (suc (suc (suc (suc zero))))))) lt = refl
each_once (suc (suc (suc (suc (suc (suc (suc (suc zero)))))))) lt = refl
each_once (suc (suc (suc (suc (suc (suc (suc (suc (suc zero))))))))) lt = refl
each_once (suc (suc (suc (suc (suc (suc (suc (suc (suc (suc n)))))))))) lt = absurd (omega (arith, lt))

same_value_of : (c e : ℕ) → c < 10 → is_true (Number (truth (equals (converted Int (pos (digit c))) (pos (digit e))))) ≡ nat_eq c e
same_value_of c e lt = true_of (equals (converted Int (pos (digit c))) (pos (digit e))) ∙ ap (λ z. equals z (pos (digit e))) (int_same (digit c) (omega (arith, lt))) ∙ same_digits c e

one_further : (k : ℕ) → k < 1000 → Number (converted Unsigned (wrapped (converted Unsigned (pos k) +ℤ pos 1))) ≡ Number (pos (k + 1))
one_further k lt =
    ap (λ z. Number (converted Unsigned (wrapped (z +ℤ pos 1)))) (unsigned_same k (omega (arith, lt)))
    ∙ ap (λ z. Number (converted Unsigned z)) (unsigned_same (k + 1) (omega (arith, lt))) ∙ ap Number (unsigned_same (k + 1) (omega (arith, lt)))

module _ (t : Tasks) (choices : List ℕ) (line : ℕ) (few : length choices ≤ 1000) where
  abbrev g : ℕ
  g = length t.program.globals

  abbrev s : ℕ
  s = length t.program.strings

  abbrev P : Program
  P = appended t choices line

  abbrev pub R : TaskWorld → World → Type 0
  R w v = Related g s counter_object (choices_object choices) choices w v

  abbrev m : Value → Value
  m = moved g s

  pub alike : Alike R g s tasks source
  alike = tasks_alike g s counter_object (choices_object choices) choices counter_silent (choices_silent choices)

  pub one_more : length P.globals ≡ suc (length t.program.globals)
  one_more = longer counter t.program.globals
    where
      longer : {A : Type 0} (x : A) (xs : List A) → length (xs ++ x ∷ []) ≡ suc (length xs)
      longer x [] = refl
      longer x (y ∷ xs) = ap suc (longer x xs)

  pub same_deletes : (f : ℕ) → deletes P f ≡ deletes (declared t) f
  same_deletes f = same t.program.functions f
    where
      same : (fs : List Function) (f : ℕ) → function_deletes (slice_get (fs ++ yield_function t choices line ∷ main_function t choices (suc line) ∷ []) f) ≡ function_deletes (slice_get (fs ++ declaration None ∷ declaration (Some int) ∷ []) f)
      same [] zero = refl
      same [] (suc zero) = refl
      same [] (suc (suc f)) = refl
      same (h ∷ fs) zero = refl
      same (h ∷ fs) (suc f) = same fs f

  abbrev pub Alike_calls : Calls TaskWorld → Calls World → Type 0
  Alike_calls c d = (f : ℕ) (xs : List Value) (w : TaskWorld) (v : World) → R w v → Follows R m (c f xs w) (d f (map m xs) v)

  module _ (c : Calls TaskWorld) (d : Calls World) (h : Alike_calls c d) where
    called_follows : (live : ℕ → Bool) (env : List Value) → held live env ≡ [] → (f : ℕ) (w : TaskWorld) (v : World) → R w v → Follows R m (called t c f w) (calling source P d live env f [] v)
    called_follows live env e f w v r =
        subst (λ hs. Follows R m (called t c f w) (branching (deletes P f) (λ w1. bind (d f [] (source.enter hs w1)) (λ x w2. Go x (source.leave w1 w2))) (d f []) v)) (sym e)
        (calling_follows R tasks source (declared t) P.globals P.strings P.functions P.main alike one_more same_deletes c d h (λ _. false) [] f [] w v r)

    -- rc_at < COUNT
    test_at : (at : ℕ) (live : ℕ → Bool) (env : List Value) (w : TaskWorld) (v : World) (r : R w v) → value_of source P d live (any_left t choices at) env v ≡ Go (Number (truth (not (is_none_left w.choices)))) v
    test_at at live env w v r =
        subst (λ u. value_of source P d live (any_left t choices at) env u ≡ Go (Number (truth (not (is_none_left w.choices)))) u) (sym r.lifts.0)
        (ap (λ n. bind n (λ x w1. Go (Number (truth (int_lt (number_in x) (converted Unsigned (pos (length choices)))))) w1)) (counter_loaded g s choices w.source r.lifts.1 at (length r.taken))
        ∙ ap (λ z. Go (Number (truth (int_lt (pos (length r.taken)) z))) u1) (unsigned_same (length choices) (omega (arith, few)))
        ∙ ap (λ b. Go (Number (truth b)) u1) (ap (λ cs. nat_lt (length r.taken) (length cs)) r.all ∙ left_or_none r.taken w.choices))
      where
        u1 : World
        u1 = lifted_world g s (counter_object (length r.taken)) (choices_object choices) w.source

    -- the calls of tasks
    chain_live : (at : ℕ) (ds : List ℕ) (x : ℕ) → nat_eq 1 x ≡ false → before_all (calls_of t choices at ds) at_end x ≡ false
    chain_live at [] x apart = refl
    chain_live at (e ∷ es) x apart = by (chain_live at es x apart) (occurs e choices)
      where
        by : before_all (calls_of t choices at es) at_end x ≡ false → (b : Bool) → before_all (also b (call_of t choices at e) (calls_of t choices at es)) at_end x ≡ false
        by rest false = rest
        by rest true = ap (λ u. (u || false) || ((false || before_all (calls_of t choices at es) at_end x) || before_all (calls_of t choices at es) at_end x)) apart ∙ ap (λ k. (false || k) || k) rest

    chain_held : (at : ℕ) (ds : List ℕ) (p : Value) (z : ℤ) (rest : List Value) → held (before_all (calls_of t choices at ds) at_end) (p ∷ Number z ∷ rest) ≡ []
    chain_held at ds p z rest = held_choice (before_all (calls_of t choices at ds) at_end) (chain_live at ds) p z rest

    module _ (at : ℕ) (f : Function) (p : Value) (rest : List Value) (cd : ℕ) (small : cd < 10) where
      abbrev env : List Value
      env = p ∷ Number (pos (digit cd)) ∷ rest

      abbrev chain : List ℕ → World → Run World Flow
      chain ds v = exec_all source P (calls_of t choices at ds) f d at_end env v

      abbrev doing : List ℕ → ℕ → World → Run World Flow
      doing es n u = bind (exec source P (evaluate at (call at (t.task n) none)) f d (then_live (before_all (calls_of t choices at es) at_end) at_end) env u) (behind (exec_all source P (calls_of t choices at es) f d at_end))

      -- a test that fails
      passed : (e : ℕ) (es : List ℕ) → nat_eq cd e ≡ false → (v : World) → chain (e ∷ es) v ≡ chain es v
      passed e es apart v = by (occurs e choices)
        where
          by : (b : Bool) → exec_all source P (also b (call_of t choices at e) (calls_of t choices at es)) f d at_end env v ≡ chain es v
          by false = refl
          by true = ap (λ b. bind (branching b (exec source P (evaluate at (call at (t.task e) none)) f d (then_live (before_all (calls_of t choices at es) at_end) at_end) env) (Go (Next env)) v) (behind (exec_all source P (calls_of t choices at es) f d at_end)))
              (same_value_of cd e small ∙ apart)

      chain_none : (ds : List ℕ) → Absent cd ds → (v : World) → chain ds v ≡ Go (Next env) v
      chain_none [] a v = refl
      chain_none (e ∷ es) a v = passed e es a.0 v ∙ chain_none es a.1 v

      -- the end of the body behind them
      abbrev finish : Run World Flow → Run World Value
      finish n = bind (bind n (behind (exec_all source P done f d at_end))) (result_of None)

      abbrev Does : TaskWorld → Run World Value → Type 0
      Does w n = Follows R m (bind (called t c (t.task cd) w) (λ _ w1. Go Null w1)) n

      chain_follows : (ds : List ℕ) → Once cd ds → occurs cd choices ≡ true → (w : TaskWorld) (v : World) → R w v → Does w (finish (chain ds v))
      chain_follows [] o occ w v r = absurd o
      chain_follows (e ∷ es) (inr o) occ w v r = subst (λ n. Does w (finish n)) (sym (passed e es o.0 v)) (chain_follows es o.1 occ w v r)
      chain_follows (e ∷ es) (inl o) occ w v r =
          subst (λ n. Does w (finish n)) (sym reached)
          (through R (λ n. finish (bind (bind n (λ _ w1. Go (Next env) w1)) (behind (exec_all source P (calls_of t choices at es) f d at_end))))
          (called_follows (before_all (calls_of t choices at es) at_end) env (chain_held at es p (pos (digit cd)) rest) (t.task cd) w v r)
          (λ x w1 v1 r1. subst (λ n. Follows R m (Go Null w1) (finish n)) (sym (chain_none es o.1 v1)) (goes Null w1 v1 r1))
          (λ st w1 v1 r1. stops st w1 v1 r1))
        where
          same : cd ≡ e
          same = same_number cd e o.0

          reached : chain (e ∷ es) v ≡ bind (bind (calling source P d (before_all (calls_of t choices at es) at_end) env (t.task cd) [] v) (λ _ w1. Go (Next env) w1)) (behind (exec_all source P (calls_of t choices at es) f d at_end))
          reached =
              ap (λ b. exec_all source P (also b (call_of t choices at e) (calls_of t choices at es)) f d at_end env v) (ap (λ n. occurs n choices) (sym same) ∙ occ)
              ∙ ap (λ b. bind (branching b (exec source P (evaluate at (call at (t.task e) none)) f d (then_live (before_all (calls_of t choices at es) at_end) at_end) env) (Go (Next env)) v) (behind (exec_all source P (calls_of t choices at es) f d at_end))) (same_value_of cd e small ∙ o.0)
              ∙ ap (λ n. doing es n v) (sym same)

    -- what precedes the calls: c = s[rc_at]; rc_at++;
    module _ (at : ℕ) (e0 e1 : Value) (rest : List Value) where
      abbrev yf : Function
      yf = yield_function t choices at

      abbrev text : Value
      text = static (length P.globals + s)

      abbrev world : ℕ → World → World
      world k w = lifted_world g s (counter_object k) (choices_object choices) w

      text_is : text ≡ static (suc (g + s))
      text_is = ap static (more (length P.globals) g s one_more)
        where
          more : (a b k : ℕ) → a ≡ suc b → a + k ≡ suc (b + k)
          more a b k e = omega (arith, e)

      taking_runs : (taken : List ℕ) (cd : ℕ) (left : List ℕ) → choices ≡ taken ++ cd ∷ left → (w : World) → Fine (g + s) w.heap →
          exec_all source P (taking t choices at) yf d at_end (text ∷ Number (pos 0) ∷ rest) (world (length taken) w)
          ≡ exec_all source P (calls_of t choices at (every_task t choices at)) yf d at_end (text ∷ Number (pos (digit cd)) ∷ rest) (world (length taken + 1) w)
      taking_runs taken cd left e w fine =
          rw (counter_loaded g s choices w fine at (length taken)) (rw found (rw (counter_loaded g s choices w fine at (length taken)) (rw (one_further (length taken) room) (rw (counter_stored g s choices w fine at (length taken) (length taken + 1)) refl))))
        where
          found : source.load at (aimed text (pos (length taken))) (world (length taken) w) ≡ Go (Number (pos (digit cd))) (world (length taken) w)
          found = ap (λ p. source.load at (aimed p (pos (length taken))) (world (length taken) w)) text_is ∙ choice_loaded g s choices w fine at taken cd left e

          behind_taken : (xs ys : List ℕ) → length (xs ++ cd ∷ ys) ≡ length xs + suc (length ys)
          behind_taken [] ys = omega arith
          behind_taken (x ∷ xs) ys = omega (arith, behind_taken xs ys)

          room : length taken < 1000
          room = omega (arith, few, ap length e, behind_taken taken left)

      occurs_there : (xs ys : List ℕ) (cd : ℕ) → occurs cd (xs ++ cd ∷ ys) ≡ true
      occurs_there [] ys cd = ap (λ b. b || occurs cd ys) (same cd)
        where
          same : (n : ℕ) → nat_eq n n ≡ true
          same n = grind arith
      occurs_there (x ∷ xs) ys cd = ap (λ b. nat_eq x cd || b) (occurs_there xs ys cd) ∙ or_true (nat_eq x cd)
        where
          or_true : (b : Bool) → (b || true) ≡ true
          or_true true = refl
          or_true false = refl

      small_there : (xs ys : List ℕ) (cd : ℕ) → Every (λ c. c < 10) (xs ++ cd ∷ ys) → cd < 10
      small_there [] ys cd all = all.0
      small_there (x ∷ xs) ys cd all = small_there xs ys cd all.1

      one_taken : (xs : List ℕ) (cd : ℕ) → length (xs ++ cd ∷ []) ≡ length xs + 1
      one_taken [] cd = omega arith
      one_taken (x ∷ xs) cd = omega (arith, one_taken xs cd)

      rejoined : (xs ys : List ℕ) (cd : ℕ) → xs ++ cd ∷ ys ≡ (xs ++ cd ∷ []) ++ ys
      rejoined [] ys cd = refl
      rejoined (x ∷ xs) ys cd = ap (λ l. x ∷ l) (rejoined xs ys cd)

      abbrev env2 : List Value
      env2 = text ∷ Number (pos 0) ∷ rest

      abbrev ky : Ways
      ky = then_live (before_all done at_end) at_end

      abbrev ended : Run World Flow → Run World Value
      ended n = bind (bind n (behind (exec_all source P done yf d at_end))) (result_of None)

      abbrev decided : Bool → World → Run World Value
      decided b v = ended (branching b (exec_all source P (taking t choices at) yf d at_end env2) (Go (Next env2)) v)

      module _ (all_small : Every (λ c. c < 10) choices) where
        taken_follows : (w : TaskWorld) (v : World) (r : R w v) (cd : ℕ) (left : List ℕ) → w.choices ≡ cd ∷ left →
            Follows R m (yielding t c (cd ∷ left) w) (ended (exec_all source P (taking t choices at) yf d at_end env2 v))
        taken_follows w v r cd left q =
            subst (λ u. Follows R m (yielding t c (cd ∷ left) w) (ended (exec_all source P (taking t choices at) yf d at_end env2 u))) (sym r.lifts.0)
            (subst (λ n. Follows R m (yielding t c (cd ∷ left) w) (ended n)) (sym (taking_runs r.taken cd left e w.source r.lifts.1))
            (chain_follows at yf text rest cd small (every_task t choices at) (is_once cd (every_task t choices at) (each_once cd small)) occ (record w { choices = left }) _ related))
          where
            e : choices ≡ r.taken ++ cd ∷ left
            e = r.all ∙ ap (λ l. r.taken ++ l) q

            small : cd < 10
            small = small_there r.taken left cd (subst (Every (λ c. c < 10)) e all_small)

            occ : occurs cd choices ≡ true
            occ = ap (occurs cd) e ∙ occurs_there r.taken left cd

            related : R (record w { choices = left }) (world (length r.taken + 1) w.source)
            related = record {
              taken = r.taken ++ cd ∷ [];
              all = e ∙ rejoined r.taken left cd;
              lifts = (ap (λ n. world n w.source) (sym (one_taken r.taken cd)), r.lifts.1);
            }

        decided_follows : (w : TaskWorld) (v : World) (r : R w v) (left : List ℕ) → w.choices ≡ left → Follows R m (yielding t c left w) (decided (not (is_none_left left)) v)
        decided_follows w v r [] q = goes Null w v r
        decided_follows w v r (cd ∷ left) q = taken_follows w v r cd left q

        yield_at : (w : TaskWorld) (v : World) → R w v → Follows R m (yielding t c w.choices w) (bind (exec source P (yield_body t choices at) yf d at_end (e0 ∷ e1 ∷ rest) v) (result_of None))
        yield_at w v r =
            subst (λ n. Follows R m (yielding t c w.choices w) (ended (bind n (λ x. branching (is_true x) (exec_all source P (taking t choices at) yf d at_end env2) (Go (Next env2))))))
            (sym (test_at at (either (before (block (taking t choices at)) ky) (before (block done) ky)) env2 w v r))
            (subst (λ b. Follows R m (yielding t c w.choices w) (decided b v)) (sym (true_of (not (is_none_left w.choices)))) (decided_follows w v r w.choices refl))

    module _ (at : ℕ) (all_small : Every (λ c. c < 10) choices) where
      pub yield_follows : (xs : List Value) (w : TaskWorld) (v : World) → R w v → Follows R m (yielding t c w.choices w) (run_function source P d (Some (yield_function t choices at)) (map m xs) v)
      yield_follows [] w v r = yield_at at Null (Number (pos 0)) [] all_small w v r
      yield_follows (x ∷ []) w v r = yield_at at (m x) Null (Number (pos 0) ∷ []) all_small w v r
      yield_follows (x ∷ y ∷ xs) w v r = yield_at at (m x) (m y) (map m xs ++ Null ∷ Number (pos 0) ∷ []) all_small w v r

      abbrev mf : Function
      mf = main_function t choices at

      abbrev last : Stmts
      last = then (return at (Some (constant at Signed (pos 0)))) done

      abbrev kw : Ways
      kw = then_live (before_all last at_end) at_end

      abbrev yield_call : Stmt
      yield_call = evaluate at (call at (yield_of t) none)

      abbrev test : List Value → World → Run World Value
      test = value_of source P d (either kw.next (before yield_call (while_body (any_left t choices at) yield_call kw))) (any_left t choices at)

      abbrev body : (List Value → World → Run World Flow) → List Value → World → Run World Flow
      body again env w = bind (exec source P yield_call mf d (while_body (any_left t choices at) yield_call kw) env w) (behind_body again)

      abbrev closing : Run World Flow → Run World Value
      closing n = bind (bind n (behind (exec_all source P last mf d at_end))) (result_of (Some int))

      abbrev again : ℕ → List Value → World → Run World Flow
      again n env1 w1 = bind (source.take_turn w1) (λ _ w2. rounds source P n test body env1 w2)

      driving_follows : (n : ℕ) (locals : List Value) (w : TaskWorld) (v : World) → R w v → Follows R m (driving t n c w) (closing (rounds source P n test body locals v))
      driving_follows zero locals w v r = stops _ w v r
      driving_follows (suc n) locals w v r =
          subst (λ k. Follows R m (driving t (suc n) c w) (closing (bind k (λ x. branching (is_true x) (body (again n) locals) (Go (Next locals)))))) (sym (test_at at (either kw.next (before yield_call (while_body (any_left t choices at) yield_call kw))) locals w v r))
          (subst (λ b. Follows R m (driving t (suc n) c w) (closing (branching b (body (again n) locals) (Go (Next locals)) v))) (sym (true_of (not (is_none_left w.choices))))
          (by (driving_follows n locals) (is_none_left w.choices)))
        where
          by : ((w : TaskWorld) (v : World) → R w v → Follows R m (driving t n c w) (closing (rounds source P n test body locals v))) →
              (b : Bool) → Follows R m (branching b (Go (Number (pos 0))) (λ w1. bind (called t c (yield_of t) w1) (λ _ w2. bind (tasks.take_turn w2) (λ _ w3. driving t n c w3))) w) (closing (branching (not b) (body (again n) locals) (Go (Next locals)) v))
          by rest true = goes (Number (pos 0)) w v r
          by rest false =
              through R (λ k. closing (bind (bind k (λ _ w1. Go (Next locals) w1)) (behind_body (again n))))
              (called_follows (while_body (any_left t choices at) yield_call kw).next locals (held_none (while_body (any_left t choices at) yield_call kw).next (λ x. refl) locals) (yield_of t) w v r)
              (λ x w1 v1 r1. through R (λ k. closing (bind k (λ _ w2. rounds source P n test body locals w2))) (alike.take_turn w1 v1 r1) (λ _ w2 v2 r2. rest w2 v2 r2) (λ st w2 v2 r2. stops st w2 v2 r2))
              (λ st w1 v1 r1. stops st w1 v1 r1)

      abbrev loop_and_last : Stmts
      loop_and_last = then (while at (any_left t choices at) yield_call) last

      main_at : (locals : List Value) (w : TaskWorld) (v : World) → R w v → Follows R m (starting t c w) (bind (exec source P (main_body t choices at) mf d at_end locals v) (result_of (Some int)))
      main_at locals w v r =
          through R (λ k. bind (bind (bind k (λ _ w1. Go (Next locals) w1)) (behind (exec_all source P loop_and_last mf d at_end))) (result_of (Some int)))
          (called_follows (before_all loop_and_last at_end) locals (held_none (before_all loop_and_last at_end) (λ x. refl) locals) t.start w v r)
          (λ x w1 v1 r1. subst (λ n. Follows R m (driving t (suc (tasks.turns_left w1)) c w1) (closing (rounds source P (suc n) test body locals v1))) (alike.turns_left w1 v1 r1) (driving_follows (suc (tasks.turns_left w1)) locals w1 v1 r1))
          (λ st w1 v1 r1. stops st w1 v1 r1)

      pub main_follows : (xs : List Value) (w : TaskWorld) (v : World) → R w v → Follows R m (starting t c w) (run_function source P d (Some (main_function t choices at)) (map m xs) v)
      main_follows xs w v r = main_at (map m xs ++ []) w v r
