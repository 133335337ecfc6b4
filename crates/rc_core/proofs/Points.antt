-- Execution by points is execution, and what is live behind an item is what the paths say.
use Rattle.std.proofs.Common.{◌≡◌, ℕ, suc, zero, Bool, true, false, ◌&&◌, [], ◌∷◌, refl, sym, ap, ◌∙◌, inl, inr, ⊎_elim, subst}
use Rattle.std.proofs.lemmas.Bool.{false≢true}
use Rattle.std.specs.Prelude.{◌↔◌, Option, Some, None, is_some, IsTrue, List}
use Rattle.rc_core.specs.declared.stmt.Change.{Change}
use Rattle.rc_core.specs.Programs.{Expr, Place, Stmt, block, declare, assign, store, update, copy, evaluate, delete, branch, while, repeat, for, break, continue, return, Stmts, done, then, Function, Program}
use Rattle.rc_core.specs.Layout.{size}
use Rattle.rc_core.specs.Types.{struct}
use Rattle.rc_core.specs.Heap.{Value}
use Rattle.rc_core.specs.Live.{Ways, then_live, unless_set, before, before_all, either, for_head, for_third, for_body, while_body, repeat_body, repeat_head}
use Rattle.rc_core.specs.Flow.{while_loop, for_loop, Item, statement, condition, round_end, Point, statements, Leads, item_uses, item_sets, IsLive, used, later, IsLiveBehind, AreLive}
use Rattle.rc_core.specs.Runs.{Run, Go, Stopped, bind, branching, Calls, Ops}
use Rattle.rc_core.specs.Evaluation.{is_true, eval, target}
use Rattle.rc_core.specs.Execution.{Flow as Outcome, Next, Broke, Continued, Returned, held_value, held, deletes, behind_body, behind, value_of, set_local, changed, rounds, rounds_first, test_of, exec, exec_all}
use Rattle.rc_core.specs.Points.{ways_of, live_at, live_behind, only, exec_at, exec_all_at}
use Rattle.rc_core.proofs.Paths.{Agree, before_agrees, all_agree, all_ways, at_is, ways_live, or_left, or_right, or_cases, or_cong, and_next, and_cases, same_truth, live_if, repeat_test_is, if_live, while_live, do_live}

-- the ways agree with those of the point
abbrev Same : Ways → Point → Type 0
Same k p = (x : ℕ) → Agree x k (ways_of p)

same_rest : (more : Stmts) (k : Ways) (p : Point) → Same k p → Same (then_live (before_all more k) k) (statements more p)
same_rest more k p s x =
    let a = s x in
    let b = all_ways more p x in
    record { next = all_agree more k (ways_of p) x a ∙ sym b.next; broken = a.broken ∙ sym b.broken; continued = a.continued ∙ sym b.continued }

same_while : (test : Expr) (body : Stmt) (k : Ways) (p : Point) → Same k p → Same (while_body test body k) (round_end (while_loop test body) ∷ p)
same_while test body k p s x =
    let h = before_agrees (while 0 test body) k (ways_of p) x (s x) in
    record { next = h; broken = (s x).next; continued = h }

same_repeat : (test : Expr) (body : Stmt) (k : Ways) (p : Point) → Same k p → Same (repeat_body body test k) (round_end (while_loop test body) ∷ p)
same_repeat test body k p s x =
    let h = repeat_test_is body test k x ∙ before_agrees (while 0 test body) k (ways_of p) x (s x) in
    record { next = h; broken = (s x).next; continued = h }

same_third : (test : Option Expr) (third body : Stmt) (k : Ways) (p : Point) → Same k p → Same (for_third test third body k) (condition (for_loop test third body) ∷ p)
same_third test third body k p s x = record { next = before_agrees (for 0 (block done) test third body) k (ways_of p) x (s x); broken = (s x).broken; continued = (s x).continued }

same_for : (test : Option Expr) (third body : Stmt) (k : Ways) (p : Point) → Same k p → Same (for_body test third body k) (round_end (for_loop test third body) ∷ p)
same_for test third body k p s x =
    let h = before_agrees third (for_third test third body k) (for_third test third body (ways_of p)) x (same_third test third body k p s x) in
    record { next = h; broken = (s x).next; continued = h }

-- behind conditions
abbrev SameLive : (a b : ℕ → Bool) → Type 0
SameLive a b = (x : ℕ) → a x ≡ b x

behind_if : (line : ℕ) (test : Expr) (a b : Stmt) (k : Ways) (p : Point) → Same k p → SameLive (either (before a k) (before b k)) (live_behind (statement (branch line test a b)) p)
behind_if line test a b k p s x = or_cong _ _ _ _ (before_agrees a k (ways_of p) x (s x)) (before_agrees b k (ways_of p) x (s x))

behind_loop : (test : Expr) (third body : Stmt) (k inside : Ways) (p : Point) → Same k p → Same inside (round_end (for_loop (Some test) third body) ∷ p) →
    SameLive (either k.next (before body inside)) (live_behind (condition (for_loop (Some test) third body)) p)
behind_loop test third body k inside p s i x = or_cong _ _ _ _ (s x).next (before_agrees body inside (ways_of (round_end (for_loop (Some test) third body) ∷ p)) x (i x))

behind_do : (test : Expr) (body : Stmt) (k : Ways) (p : Point) → Same k p → SameLive (either k.next (repeat_head body test k)) (live_behind (condition (while_loop test body)) p)
behind_do test body k p s x =
    let a : AreLive k p = live_if k (ways_of p) p s (ways_live p) in
    let one = do_live test body k p a x in
    let two = while_live test body k p a x in
    same_truth _ _ (λ h. two.1 (one.0 h)) (λ h. one.1 (two.0 h)) ∙ behind_loop test (block done) body k (while_body test body k) p s (same_while test body k p s) x

held_same : (a b : ℕ → Bool) (env : List Value) → SameLive a b → held a env ≡ held b env
held_same a b [] s = refl
held_same a b (v ∷ env) s =
    ap (λ t. held_value t v (held (λ x. a (suc x)) env)) (s 0)
    ∙ ap (held_value (b 0) v) (held_same (λ x. a (suc x)) (λ x. b (suc x)) env (λ x. s (suc x)))

-- two runs one after the other
bind_same : {W A B : Type 0} (m n : Run W A) (f g : A → W → Run W B) → m ≡ n → ((x : A) (w : W) → f x w ≡ g x w) → bind m f ≡ bind n g
bind_same m n f g s h = ap (λ r. bind r f) s ∙ on n
  where
    on : (r : Run _ _) → bind r f ≡ bind r g
    on (Go x w) = h x w
    on (Stopped stop w) = refl

branching_same : {W A : Type 0} (b : Bool) (f g h i : W → Run W A) (w : W) → f w ≡ h w → g w ≡ i w → branching b f g w ≡ branching b h i w
branching_same true f g h i w s t = s
branching_same false f g h i w s t = t

behind_same : {W : Type 0} (f g : List Value → W → Run W Outcome) → ((env : List Value) (w : W) → f env w ≡ g env w) → (flow : Outcome) (w : W) → behind f flow w ≡ behind g flow w
behind_same f g h (Next env) w = h env w
behind_same f g h (Broke env) w = refl
behind_same f g h (Continued env) w = refl
behind_same f g h (Returned v) w = refl

behind_body_same : {W : Type 0} (f g : List Value → W → Run W Outcome) → ((env : List Value) (w : W) → f env w ≡ g env w) → (flow : Outcome) (w : W) → behind_body f flow w ≡ behind_body g flow w
behind_body_same f g h (Next env) w = h env w
behind_body_same f g h (Broke env) w = refl
behind_body_same f g h (Continued env) w = h env w
behind_body_same f g h (Returned v) w = refl

module _ {W : Type 0} (ops : Ops W) (program : Program) where
  abbrev Goes : Type 0
  Goes = List Value → W → Run W Outcome

  abbrev SameTest : (a b : List Value → W → Run W Value) → Type 0
  SameTest a b = (env : List Value) (w : W) → a env w ≡ b env w

  abbrev SameGoes : (f g : Goes) → Type 0
  SameGoes f g = (env : List Value) (w : W) → f env w ≡ g env w

  abbrev SameBody : (a b : Goes → Goes) → Type 0
  SameBody a b = (f g : Goes) → SameGoes f g → SameGoes (a f) (b g)

  rounds_same : (n : ℕ) (test test1 : List Value → W → Run W Value) (body body1 : Goes → Goes) → SameTest test test1 → SameBody body body1 → SameGoes (rounds ops program n test body) (rounds ops program n test1 body1)
  rounds_same zero test test1 body body1 s h env w = refl
  rounds_same (suc n) test test1 body body1 s h env w =
      bind_same (test env w) (test1 env w) _ _ (s env w) (λ v w1.
      branching_same (is_true v) _ _ _ _ w1
      (h _ _ (λ env1 w2. bind_same (ops.take_turn w2) (ops.take_turn w2) _ _ refl (λ _ w3. rounds_same n test test1 body body1 s h env1 w3)) env w1)
      refl)

  rounds_first_same : (n : ℕ) (test test1 : List Value → W → Run W Value) (body body1 : Goes → Goes) → SameTest test test1 → SameBody body body1 → SameGoes (rounds_first ops program n test body) (rounds_first ops program n test1 body1)
  rounds_first_same zero test test1 body body1 s h env w = refl
  rounds_first_same (suc n) test test1 body body1 s h env w =
      h _ _ (λ env1 w1. bind_same (test env1 w1) (test1 env1 w1) _ _ (s env1 w1) (λ v w2.
      branching_same (is_true v) _ _ _ _ w2
      (bind_same (ops.take_turn w2) (ops.take_turn w2) _ _ refl (λ _ w3. rounds_first_same n test test1 body body1 s h env1 w3))
      refl)) env w

  -- a call, by the values that are held
  abbrev calling_with : Calls W → List Value → Calls W
  calling_with calls values f arguments w =
      branching (deletes program f) (λ w1. bind (calls f arguments (ops.enter values w1)) (λ v w2. Go v (ops.leave w1 w2))) (calls f arguments) w

  module _ (f : Function) (calls : Calls W) where
    value_same : (a b : ℕ → Bool) → SameLive a b → (e : Expr) → SameTest (value_of ops program calls a e) (value_of ops program calls b e)
    value_same a b s e env w = ap (λ vs. eval ops program e (calling_with calls vs) env w) (held_same a b env s)

    set_same : (a b : ℕ → Bool) → SameLive a b → (x : ℕ) (e : Expr) → SameGoes (set_local ops program calls a x e) (set_local ops program calls b x e)
    set_same a b s x e env w = bind_same _ _ _ _ (value_same (λ y. unless_set x y (a y)) (λ y. unless_set x y (b y)) (λ y. ap (unless_set x y) (s y)) e env w) (λ v w1. refl)

    -- a statement without parts asks only what is live where it ends
    module _ (k : Ways) (b : ℕ → Bool) (s : SameLive k.next b) where
      store_same : (line : ℕ) (place : Place) (e : Expr) → SameGoes (exec ops program (store line place e) f calls k) (exec ops program (store line place e) f calls (only b))
      store_same line place e env w =
          ap (λ vs. bind (target ops program place (calling_with calls vs) env w) (λ t w1. bind (eval ops program e (calling_with calls vs) env w1) (λ v w2. bind (ops.store line t v w2) (λ _ w3. Go (Next env) w3)))) (held_same k.next b env s)

      update_same : (line : ℕ) (place : Place) (change : Change) (e : Expr) → SameGoes (exec ops program (update line place change e) f calls k) (exec ops program (update line place change e) f calls (only b))
      update_same line place change e env w =
          ap (λ vs. bind (target ops program place (calling_with calls vs) env w) (λ t w1. bind (eval ops program e (calling_with calls vs) env w1) (λ v w2. bind (ops.load line t w2) (λ old w3. bind (changed ops program line change old v w3) (λ new w4. bind (ops.store line t new w4) (λ _ w5. Go (Next env) w5)))))) (held_same k.next b env s)

      copy_same : (line structure : ℕ) (left right : Place) → SameGoes (exec ops program (copy line structure left right) f calls k) (exec ops program (copy line structure left right) f calls (only b))
      copy_same line structure left right env w =
          ap (λ vs. bind (target ops program left (calling_with calls vs) env w) (λ to w1. bind (target ops program right (calling_with calls vs) env w1) (λ from w2. bind (ops.load_all line from (size program.structs (struct structure)) w2) (λ values w3. bind (ops.store_all line to values w3) (λ _ w4. Go (Next env) w4))))) (held_same k.next b env s)

      evaluate_same : (line : ℕ) (e : Expr) → SameGoes (exec ops program (evaluate line e) f calls k) (exec ops program (evaluate line e) f calls (only b))
      evaluate_same line e env w = ap (λ vs. bind (eval ops program e (calling_with calls vs) env w) (λ _ w1. Go (Next env) w1)) (held_same k.next b env s)

      delete_same : (line : ℕ) (e : Expr) → SameGoes (exec ops program (delete line e) f calls k) (exec ops program (delete line e) f calls (only b))
      delete_same line e env w = ap (λ vs. bind (eval ops program e (calling_with calls vs) env w) (λ v w1. bind (ops.delete line vs v w1) (λ _ w2. Go (Next env) w2))) (held_same k.next b env s)

    live_same : (k : Ways) (p : Point) → Same k p → SameLive k.next (live_at p)
    live_same k p s x = (s x).next

    loop_test : (test : Option Expr) (third body : Stmt) (k : Ways) (p : Point) → Same k p →
        SameTest (test_of ops program calls (either k.next (before body (for_body test third body k))) test) (test_of ops program calls (live_behind (condition (for_loop test third body)) p) test)
    loop_test None third body k p s env w = refl
    loop_test (Some test) third body k p s env w = value_same _ _ (behind_loop test third body k (for_body (Some test) third body k) p s (same_for (Some test) third body k p s)) test env w

    mutual
      pub at_point : (s : Stmt) (k : Ways) (p : Point) → Same k p → SameGoes (exec ops program s f calls k) (exec_at ops program s f calls p)
      at_point (block body) k p s env w = all_at body k p s env w
      at_point (declare line x None) k p s env w = refl
      at_point (declare line x (Some e)) k p s env w = set_same k.next (live_at p) (live_same k p s) x e env w
      at_point (assign line x e) k p s env w = set_same k.next (live_at p) (live_same k p s) x e env w
      at_point (store line place e) k p s env w = store_same k (live_at p) (live_same k p s) line place e env w
      at_point (update line place change e) k p s env w = update_same k (live_at p) (live_same k p s) line place change e env w
      at_point (copy line t left right) k p s env w = copy_same k (live_at p) (live_same k p s) line t left right env w
      at_point (evaluate line e) k p s env w = evaluate_same k (live_at p) (live_same k p s) line e env w
      at_point (delete line e) k p s env w = delete_same k (live_at p) (live_same k p s) line e env w
      at_point (branch line test a b) k p s env w =
          bind_same _ _ _ _ (value_same _ _ (behind_if line test a b k p s) test env w) (λ v w1.
          branching_same (is_true v) _ _ _ _ w1 (at_point a k p s env w1) (at_point b k p s env w1))
      at_point (while line test body) k p s env w =
          rounds_same (suc (ops.turns_left w)) _ _ _ _ (value_same _ _ (behind_loop test (block done) body k (while_body test body k) p s (same_while test body k p s)) test)
          (λ go go1 h env1 w1. bind_same _ _ _ _ (at_point body (while_body test body k) (round_end (while_loop test body) ∷ p) (same_while test body k p s) env1 w1) (behind_body_same go go1 h)) env w
      at_point (repeat line body test) k p s env w =
          rounds_first_same (suc (ops.turns_left w)) _ _ _ _ (value_same _ _ (behind_do test body k p s) test)
          (λ go go1 h env1 w1. bind_same _ _ _ _ (at_point body (repeat_body body test k) (round_end (while_loop test body) ∷ p) (same_repeat test body k p s) env1 w1) (behind_body_same go go1 h)) env w
      at_point (for line first test third body) k p s env w =
          bind_same _ _ _ _ (at_point first (then_live (for_head test third body k) k) (condition (for_loop test third body) ∷ p) (same_third test third body k p s) env w) (behind_same _ _ (λ env1 w1.
          rounds_same (suc (ops.turns_left w1)) _ _ _ _ (loop_test test third body k p s)
          (λ go go1 h env2 w2. bind_same _ _ _ _ (at_point body (for_body test third body k) (round_end (for_loop test third body) ∷ p) (same_for test third body k p s) env2 w2)
          (behind_body_same _ _ (λ env3 w3. bind_same _ _ _ _ (at_point third (for_third test third body k) (condition (for_loop test third body) ∷ p) (same_third test third body k p s) env3 w3) (behind_same go go1 h)))) env1 w1))
      at_point (break line) k p s env w = refl
      at_point (continue line) k p s env w = refl
      at_point (return line None) k p s env w = refl
      at_point (return line (Some e)) k p s env w = refl

      pub all_at : (body : Stmts) (k : Ways) (p : Point) → Same k p → SameGoes (exec_all ops program body f calls k) (exec_all_at ops program body f calls p)
      all_at done k p s env w = refl
      all_at (then t more) k p s env w =
          bind_same _ _ _ _ (at_point t (then_live (before_all more k) k) (statements more p) (same_rest more k p s) env w) (behind_same _ _ (all_at more k p s))

same_itself : (p : Point) → Same (ways_of p) p
same_itself p x = record { next = refl; broken = refl; continued = refl }

pub runs_at_its_point : {W : Type 0} (ops : Ops W) (program : Program) (s : Stmt) (f : Function) (calls : Calls W) (p : Point) (env : List Value) (w : W) → exec ops program s f calls (ways_of p) env w ≡ exec_at ops program s f calls p env w
runs_at_its_point ops program s f calls p env w = at_point ops program f calls s (ways_of p) p (same_itself p) env w

-- what only leads on
leads_on : (i : Item) (rest : Point) (x : ℕ) → item_uses i x ≡ false → item_sets i x ≡ false → IsTrue (live_at (i ∷ rest) x) ↔ IsLiveBehind x i rest
leads_on i rest x u t = ((λ h. out ((at_is (i ∷ rest) x).0 h)), (λ h. (at_is (i ∷ rest) x).1 (later i rest h.0 t h.1 h.2)))
  where
    out : IsLive x (i ∷ rest) → IsLiveBehind x i rest
    out (used _ _ h) = absurd (false≢true (sym u ∙ h))
    out (later _ _ next s l h) = (next, l, h)

leads_to : (i : Item) (rest : Point) (x : ℕ) → Leads i rest rest → ((next : Point) → Leads i rest next → next ≡ rest) → IsTrue (live_at rest x) ↔ IsLiveBehind x i rest
leads_to i rest x here only_there = ((λ h. (rest, here, (at_is rest x).0 h)), (λ h. (at_is rest x).1 (subst (λ m. IsLive x m) (only_there h.0 h.1) h.2)))

pub is_behind : (i : Item) (rest : Point) (x : ℕ) → IsTrue (live_behind i rest x) ↔ IsLiveBehind x i rest
is_behind (statement (block body)) rest x = leads_on (statement (block body)) rest x refl refl
is_behind (statement (declare line y value)) rest x = leads_to (statement (declare line y value)) rest x refl (λ next l. l)
is_behind (statement (assign line y e)) rest x = leads_to (statement (assign line y e)) rest x refl (λ next l. l)
is_behind (statement (store line place e)) rest x = leads_to (statement (store line place e)) rest x refl (λ next l. l)
is_behind (statement (update line place change e)) rest x = leads_to (statement (update line place change e)) rest x refl (λ next l. l)
is_behind (statement (copy line s left right)) rest x = leads_to (statement (copy line s left right)) rest x refl (λ next l. l)
is_behind (statement (evaluate line e)) rest x = leads_to (statement (evaluate line e)) rest x refl (λ next l. l)
is_behind (statement (delete line e)) rest x = leads_to (statement (delete line e)) rest x refl (λ next l. l)
is_behind (statement (branch line test a b)) rest x = if_live line test a b (ways_of rest) rest (ways_live rest) x
is_behind (statement (while line test a)) rest x = leads_on (statement (while line test a)) rest x refl refl
is_behind (statement (repeat line a test)) rest x = leads_on (statement (repeat line a test)) rest x refl refl
is_behind (statement (for line first test third a)) rest x = leads_on (statement (for line first test third a)) rest x refl refl
is_behind (statement (break line)) rest x = leads_on (statement (break line)) rest x refl refl
is_behind (statement (continue line)) rest x = leads_on (statement (continue line)) rest x refl refl
is_behind (statement (return line value)) rest x = ((λ h. absurd (false≢true h)), (λ h. absurd h.1))
is_behind (condition loop) rest x = (out, λ h. back h.0 h.1 h.2)
  where
    out : IsTrue (live_behind (condition loop) rest x) → IsLiveBehind x (condition loop) rest
    out h = ⊎_elim
        (λ u. let v = and_cases loop.test (live_at rest x) u in (rest, inr (v.0, refl), (at_is rest x).0 v.1))
        (λ u. (statement loop.body ∷ round_end loop ∷ rest, inl refl, (at_is (statement loop.body ∷ round_end loop ∷ rest) x).0 u))
        (or_cases (is_some loop.test && live_at rest x) _ h)

    back : (next : Point) → Leads (condition loop) rest next → IsLive x next → IsTrue (live_behind (condition loop) rest x)
    back next (inl e) u = or_right (is_some loop.test && live_at rest x) _ ((at_is (statement loop.body ∷ round_end loop ∷ rest) x).1 (subst (λ m. IsLive x m) e u))
    back next (inr e) u = or_left _ _ (and_next loop.test (live_at rest x) e.0 ((at_is rest x).1 (subst (λ m. IsLive x m) e.1 u)))
is_behind (round_end loop) rest x = leads_on (round_end loop) rest x refl refl
