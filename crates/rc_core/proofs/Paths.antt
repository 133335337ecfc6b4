-- What the functions of liveness compute is the paths.
use Rattle.std.proofs.Common.{◌≡◌, ℕ, Bool, true, false, ◌||◌, ◌&&◌, not, [], ◌∷◌, refl, sym, ap, ◌∙◌, ◌⊎◌, inl, inr, ⊎_elim, subst}
use Rattle.std.specs.Prelude.{nat_eq, ◌↔◌, Option, Some, None, is_some, IsTrue, IsFalse, IsSome}
use Rattle.rc_core.specs.Programs.{Expr, Stmt, block, declare, assign, store, update, copy, evaluate, delete, branch, while, repeat, for, break, continue, return, Stmts, done, then}
use Rattle.rc_core.specs.Live.{uses, place_uses, optional_uses, Ways, round, then_live, unless_set, before, before_all, while_head, repeat_head, for_head, while_body, repeat_test, repeat_body, for_third, for_body, either}
use Rattle.rc_core.specs.Points.{ways_of, live_at as At}
use Rattle.rc_core.specs.Flow.{Loop, while_loop, for_loop, Item, statement, condition, round_end, Point, statements, out_of, back_of, Leads, item_uses, item_sets, IsLive, used, later, IsLiveBehind, AreLive}

pub or_left : (a b : Bool) → IsTrue a → IsTrue (a || b)
or_left true b h = refl
or_left false b h = cc

pub or_right : (a b : Bool) → IsTrue b → IsTrue (a || b)
or_right true b h = refl
or_right false b h = h

pub or_cases : (a b : Bool) → IsTrue (a || b) → (IsTrue a) ⊎ (IsTrue b)
or_cases true b h = inl refl
or_cases false b h = inr h

or_first : (a b c : Bool) → IsTrue (a || b) → IsTrue (a || (b || c))
or_first true b c h = refl
or_first false b c h = or_left b c h

or_ends : (a b c : Bool) → IsTrue (a || (b || c)) → (IsTrue (a || b)) ⊎ (IsTrue c)
or_ends true b c h = inl refl
or_ends false b c h = or_cases b c h

pub or_cong : (a b c d : Bool) → a ≡ c → b ≡ d → (a || b) ≡ (c || d)
or_cong a b c d e f = cc

unset_true : (y x : ℕ) (c : Bool) → IsTrue (unless_set y x c) → IsFalse (nat_eq y x) × IsTrue c
unset_true y x c h = by_test (nat_eq y x) h
  where
    by_test : (b : Bool) → IsTrue (not b && c) → IsFalse b × IsTrue c
    by_test true h = cc
    by_test false h = (refl, h)

unset : (y x : ℕ) (c : Bool) → IsFalse (nat_eq y x) → IsTrue c → IsTrue (unless_set y x c)
unset y x c e h = by_test (nat_eq y x) e
  where
    by_test : (b : Bool) → IsFalse b → IsTrue (not b && c)
    by_test true e = cc
    by_test false e = h

-- the ways that agree at a local
pub record Agree (x : ℕ) (k l : Ways) : Type 0 where
  pub next : k.next x ≡ l.next x
  pub broken : k.broken x ≡ l.broken x
  pub continued : k.continued x ≡ l.continued x

-- what is live before a statement at a local goes by what is live behind it at that local
mutual
  pub before_agrees : (s : Stmt) (k l : Ways) (x : ℕ) → Agree x k l → before s k x ≡ before s l x
  before_agrees (block body) k l x a = all_agree body k l x a
  before_agrees (declare line y value) k l x a = ap (λ b. optional_uses value x || unless_set y x b) a.next
  before_agrees (assign line y e) k l x a = ap (λ b. uses e x || unless_set y x b) a.next
  before_agrees (store line place e) k l x a = ap (λ b. place_uses place x || (uses e x || b)) a.next
  before_agrees (update line place change e) k l x a = ap (λ b. place_uses place x || (uses e x || b)) a.next
  before_agrees (copy line s left right) k l x a = ap (λ b. place_uses left x || (place_uses right x || b)) a.next
  before_agrees (evaluate line e) k l x a = ap (λ b. uses e x || b) a.next
  before_agrees (delete line e) k l x a = ap (λ b. uses e x || b) a.next
  before_agrees (branch line test p q) k l x a = ap (λ b. uses test x || b) (or_cong _ _ _ _ (before_agrees p k l x a) (before_agrees q k l x a))
  before_agrees (while line test p) k l x a = ap (λ b. uses test x || b) (or_cong _ _ _ _ a.next (before_agrees p _ _ x (record { next = refl; broken = a.next; continued = refl })))
  before_agrees (repeat line p test) k l x a =
      let e = ap (λ b. uses test x || b) a.next in
      before_agrees p _ _ x (record { next = e; broken = a.next; continued = e })
  before_agrees (for line first test third p) k l x a =
      let t = before_agrees third (then_live (λ _. false) k) (then_live (λ _. false) l) x (record { next = refl; broken = a.broken; continued = a.continued }) in
      let r = before_agrees p (round (before third (then_live (λ _. false) k)) k) (round (before third (then_live (λ _. false) l)) l) x (record { next = t; broken = a.next; continued = t }) in
      let h = ap (λ b. optional_uses test x || b) (or_cong _ _ _ _ (ap (λ b. is_some test && b) a.next) r) in
      before_agrees first _ _ x (record { next = h; broken = a.broken; continued = a.continued })
  before_agrees (break line) k l x a = a.broken
  before_agrees (continue line) k l x a = a.continued
  before_agrees (return line value) k l x a = refl

  pub all_agree : (body : Stmts) (k l : Ways) (x : ℕ) → Agree x k l → before_all body k x ≡ before_all body l x
  all_agree done k l x a = a.next
  all_agree (then s rest) k l x a = before_agrees s (then_live (before_all rest k) k) (then_live (before_all rest l) l) x (record { next = all_agree rest k l x a; broken = a.broken; continued = a.continued })

pub all_ways : (body : Stmts) (rest : Point) (x : ℕ) → Agree x (ways_of (statements body rest)) (then_live (before_all body (ways_of rest)) (ways_of rest))
all_ways done rest x = record { next = refl; broken = refl; continued = refl }
all_ways (then s more) rest x =
    let a = all_ways more rest x in
    record { next = before_agrees s (ways_of (statements more rest)) (then_live (before_all more (ways_of rest)) (ways_of rest)) x a; broken = a.broken; continued = a.continued }

broken_is : (p : Point) (x : ℕ) → (ways_of p).broken x ≡ At (out_of p) x
broken_is [] x = refl
broken_is (statement s ∷ rest) x = broken_is rest x
broken_is (condition loop ∷ rest) x = broken_is rest x
broken_is (round_end loop ∷ rest) x = refl

continued_is : (p : Point) (x : ℕ) → (ways_of p).continued x ≡ At (back_of p) x
continued_is [] x = refl
continued_is (statement s ∷ rest) x = continued_is rest x
continued_is (condition loop ∷ rest) x = continued_is rest x
continued_is (round_end loop ∷ rest) x = refl

out_all : (body : Stmts) (rest : Point) → out_of (statements body rest) ≡ out_of rest
out_all done rest = refl
out_all (then s more) rest = out_all more rest

back_all : (body : Stmts) (rest : Point) → back_of (statements body rest) ≡ back_of rest
back_all done rest = refl
back_all (then s more) rest = back_all more rest

-- what is live at a loop's condition by a second round is so by the first
condition_again : (loop : Loop) (rest : Point) (x : ℕ) → IsTrue (At (statement loop.body ∷ round_end loop ∷ rest) x) → IsTrue (At (condition loop ∷ rest) x)
condition_again loop rest x h = by_condition (At (condition loop ∷ rest) x) refl
  where
    by_condition : (b : Bool) → b ≡ At (condition loop ∷ rest) x → IsTrue (At (condition loop ∷ rest) x)
    by_condition true e = sym e
    by_condition false e =
        let k = ways_of rest in
        let t = before_agrees loop.third (then_live (λ _. false) k) (for_third loop.test loop.third loop.body k) x (record { next = e; broken = refl; continued = refl }) in
        let b = before_agrees loop.body (round (before loop.third (then_live (λ _. false) k)) k) (for_body loop.test loop.third loop.body k) x (record { next = t; broken = refl; continued = t }) in
        or_right (optional_uses loop.test x) _ (or_right (is_some loop.test && k.next x) _ (b ∙ h))

pub and_next : (o : Option Expr) (b : Bool) → IsSome o → IsTrue b → IsTrue (is_some o && b)
and_next None b s h = cc
and_next (Some e) b s h = h

pub and_cases : (o : Option Expr) (b : Bool) → IsTrue (is_some o && b) → IsSome o × IsTrue b
and_cases None b h = cc
and_cases (Some e) b h = (refl, h)

or_assoc : (a b c : Bool) → (a || (b || c)) ≡ ((a || b) || c)
or_assoc true b c = refl
or_assoc false b c = refl

-- what is live at a `do`'s body by a second round is so by the first
repeat_again : (line : ℕ) (body : Stmt) (test : Expr) (k : Ways) (x : ℕ) → IsTrue (before body (for_body (Some test) (block done) body k) x) → IsTrue (before (repeat line body test) k x)
repeat_again line body test k x h = by_test (uses test x || k.next x) refl (before body (round (λ _. false) k) x) refl
  where
    second_is : (a : Bool) → (uses test x || k.next x) ≡ a → (for_body (Some test) (block done) body k).next x ≡ (a || before body (round (λ _. false) k) x)
    second_is a e = or_assoc (uses test x) (k.next x) _ ∙ ap (λ v. v || before body (round (λ _. false) k) x) e

    agree_at : (uses test x || k.next x) ≡ (for_body (Some test) (block done) body k).next x → IsTrue (before (repeat line body test) k x)
    agree_at e = before_agrees body (round (λ y. uses test y || k.next y) k) (for_body (Some test) (block done) body k) x (record { next = e; broken = refl; continued = e }) ∙ h

    by_test : (a : Bool) → (uses test x || k.next x) ≡ a → (b : Bool) → before body (round (λ _. false) k) x ≡ b → IsTrue (before (repeat line body test) k x)
    by_test true e b f = agree_at (e ∙ sym (second_is true e))
    by_test false e false f = agree_at (e ∙ sym (second_is false e ∙ f))
    by_test false e true f = before_agrees body (round (λ y. uses test y || k.next y) k) (round (λ _. false) k) x (record { next = e; broken = refl; continued = e }) ∙ f

-- one step
use_live : (i : Item) (rest : Point) (x : ℕ) → IsTrue (item_uses i x) → IsTrue (At (i ∷ rest) x)
use_live (statement (block body)) rest x h = cc
use_live (statement (declare line y value)) rest x h = or_left _ _ h
use_live (statement (assign line y e)) rest x h = or_left _ _ h
use_live (statement (store line place e)) rest x h = or_first (place_uses place x) (uses e x) _ h
use_live (statement (update line place change e)) rest x h = or_first (place_uses place x) (uses e x) _ h
use_live (statement (copy line s left right)) rest x h = or_first (place_uses left x) (place_uses right x) _ h
use_live (statement (evaluate line e)) rest x h = or_left _ _ h
use_live (statement (delete line e)) rest x h = or_left _ _ h
use_live (statement (branch line test a b)) rest x h = or_left _ _ h
use_live (statement (while line test a)) rest x h = cc
use_live (statement (repeat line a test)) rest x h = cc
use_live (statement (for line first test third a)) rest x h = cc
use_live (statement (break line)) rest x h = cc
use_live (statement (continue line)) rest x h = cc
use_live (statement (return line value)) rest x h = h
use_live (condition loop) rest x h = or_left _ _ h
use_live (round_end loop) rest x h = cc

lead_live : (i : Item) (rest next : Point) (x : ℕ) → IsFalse (item_sets i x) → Leads i rest next → IsTrue (At next x) → IsTrue (At (i ∷ rest) x)
lead_live (statement (block body)) rest next x s l h = sym (all_ways body rest x).next ∙ sym (ap (λ p. At p x) l) ∙ h
lead_live (statement (declare line y value)) rest next x s l h = or_right (optional_uses value x) _ (unset y x _ s (sym (ap (λ p. At p x) l) ∙ h))
lead_live (statement (assign line y e)) rest next x s l h = or_right (uses e x) _ (unset y x _ s (sym (ap (λ p. At p x) l) ∙ h))
lead_live (statement (store line place e)) rest next x s l h = or_right (place_uses place x) _ (or_right (uses e x) _ (sym (ap (λ p. At p x) l) ∙ h))
lead_live (statement (update line place change e)) rest next x s l h = or_right (place_uses place x) _ (or_right (uses e x) _ (sym (ap (λ p. At p x) l) ∙ h))
lead_live (statement (copy line t left right)) rest next x s l h = or_right (place_uses left x) _ (or_right (place_uses right x) _ (sym (ap (λ p. At p x) l) ∙ h))
lead_live (statement (evaluate line e)) rest next x s l h = or_right (uses e x) _ (sym (ap (λ p. At p x) l) ∙ h)
lead_live (statement (delete line e)) rest next x s l h = or_right (uses e x) _ (sym (ap (λ p. At p x) l) ∙ h)
lead_live (statement (branch line test a b)) rest next x s (inl l) h = or_right (uses test x) _ (or_left _ _ (sym (ap (λ p. At p x) l) ∙ h))
lead_live (statement (branch line test a b)) rest next x s (inr l) h = or_right (uses test x) _ (or_right (before a (ways_of rest) x) _ (sym (ap (λ p. At p x) l) ∙ h))
lead_live (statement (while line test a)) rest next x s l h = sym (ap (λ p. At p x) l) ∙ h
lead_live (statement (repeat line a test)) rest next x s l h = repeat_again line a test (ways_of rest) x (sym (ap (λ p. At p x) l) ∙ h)
lead_live (statement (for line first test third a)) rest next x s l h = sym (ap (λ p. At p x) l) ∙ h
lead_live (statement (break line)) rest next x s l h = broken_is rest x ∙ sym (ap (λ p. At p x) l) ∙ h
lead_live (statement (continue line)) rest next x s l h = continued_is rest x ∙ sym (ap (λ p. At p x) l) ∙ h
lead_live (statement (return line value)) rest next x s l h = absurd l
lead_live (condition loop) rest next x s (inl l) h = condition_again loop rest x (sym (ap (λ p. At p x) l) ∙ h)
lead_live (condition loop) rest next x s (inr l) h = or_right (optional_uses loop.test x) _ (or_left _ _ (and_next loop.test _ l.0 (sym (ap (λ p. At p x) l.1) ∙ h)))
lead_live (round_end loop) rest next x s l h = sym (ap (λ p. At p x) l) ∙ h

path_live : (x : ℕ) (p : Point) → IsLive x p → IsTrue (At p x)
path_live x _ (used i rest h) = use_live i rest x h
path_live x _ (later i rest next s l h) = lead_live i rest next x s l (path_live x next h)

-- at the ways that are live where they lead, at the local
record Sound (k : Ways) (p : Point) (x : ℕ) : Type 0 where
  next : IsTrue (k.next x) → IsLive x p
  broken : IsTrue (k.broken x) → IsLive x (out_of p)
  continued : IsTrue (k.continued x) → IsLive x (back_of p)

abbrev HasPath : Stmt → ℕ → Type 0
HasPath s x = (p : Point) (k : Ways) → Sound k p x → IsTrue (before s k x) → IsLive x (statement s ∷ p)

nothing_paths : (x : ℕ) → HasPath (block done) x
nothing_paths x p k s h = later _ p p refl refl (s.next h)

condition_paths : (test : Option Expr) (third body : Stmt) (x : ℕ) → HasPath third x → HasPath body x →
    (p : Point) (k : Ways) → Sound k p x → IsTrue (for_head test third body k x) → IsLive x (condition (for_loop test third body) ∷ p)
condition_paths test third body x of_third of_body p k s h = ⊎_elim (λ u. used _ p u) (λ u. ⊎_elim out round_paths (or_cases _ _ u)) (or_cases (optional_uses test x) _ h)
  where
    out : IsTrue (is_some test && k.next x) → IsLive x (condition (for_loop test third body) ∷ p)
    out u = let v = and_cases test (k.next x) u in later _ p p refl (inr (v.0, refl)) (s.next v.1)

    third_paths : IsTrue (before third (then_live (λ _. false) k) x) → IsLive x (round_end (for_loop test third body) ∷ p)
    third_paths u = later _ p _ refl refl (of_third (condition (for_loop test third body) ∷ p) (then_live (λ _. false) k) (record { next = λ f. cc; broken = s.broken; continued = s.continued }) u)

    round_paths : IsTrue (before body (round (before third (then_live (λ _. false) k)) k) x) → IsLive x (condition (for_loop test third body) ∷ p)
    round_paths u = later _ p _ refl (inl refl) (of_body (round_end (for_loop test third body) ∷ p) _ (record { next = third_paths; broken = s.next; continued = third_paths }) u)

repeat_path : (body : Stmt) (test : Expr) (x : ℕ) → HasPath body x → (p : Point) (k : Ways) → Sound k p x →
    IsTrue (repeat_head body test k x) → IsLive x (statement body ∷ round_end (while_loop test body) ∷ p)
repeat_path body test x of_body p k s h = of_body (round_end (while_loop test body) ∷ p) (round (λ y. uses test y || k.next y) k) (record { next = again; broken = s.next; continued = again }) h
  where
    at_condition : IsTrue (uses test x || k.next x) → IsLive x (condition (while_loop test body) ∷ p)
    at_condition u = ⊎_elim (λ v. used _ p v) (λ v. later _ p p refl (inr (refl, refl)) (s.next v)) (or_cases _ _ u)

    again : IsTrue (uses test x || k.next x) → IsLive x (round_end (while_loop test body) ∷ p)
    again u = later _ p (statement (block done) ∷ condition (while_loop test body) ∷ p) refl refl (later _ (condition (while_loop test body) ∷ p) (condition (while_loop test body) ∷ p) refl refl (at_condition u))

mutual
  paths : (s : Stmt) (x : ℕ) → HasPath s x
  paths (block body) x p k s h = later _ p _ refl refl (all_paths body x p k s h)
  paths (declare line y value) x p k s h = ⊎_elim (λ u. used _ p u) (λ u. let v = unset_true y x _ u in later _ p p v.0 refl (s.next v.1)) (or_cases _ _ h)
  paths (assign line y e) x p k s h = ⊎_elim (λ u. used _ p u) (λ u. let v = unset_true y x _ u in later _ p p v.0 refl (s.next v.1)) (or_cases _ _ h)
  paths (store line place e) x p k s h = ⊎_elim (λ u. used _ p u) (λ u. later _ p p refl refl (s.next u)) (or_ends (place_uses place x) (uses e x) _ h)
  paths (update line place change e) x p k s h = ⊎_elim (λ u. used _ p u) (λ u. later _ p p refl refl (s.next u)) (or_ends (place_uses place x) (uses e x) _ h)
  paths (copy line t left right) x p k s h = ⊎_elim (λ u. used _ p u) (λ u. later _ p p refl refl (s.next u)) (or_ends (place_uses left x) (place_uses right x) _ h)
  paths (evaluate line e) x p k s h = ⊎_elim (λ u. used _ p u) (λ u. later _ p p refl refl (s.next u)) (or_cases _ _ h)
  paths (delete line e) x p k s h = ⊎_elim (λ u. used _ p u) (λ u. later _ p p refl refl (s.next u)) (or_cases _ _ h)
  paths (branch line test a b) x p k s h = ⊎_elim (λ u. used _ p u) (λ u. ⊎_elim (λ v. later _ p _ refl (inl refl) (paths a x p k s v)) (λ v. later _ p _ refl (inr refl) (paths b x p k s v)) (or_cases _ _ u)) (or_cases _ _ h)
  paths (while line test a) x p k s h = later _ p _ refl refl (condition_paths (Some test) (block done) a x (nothing_paths x) (paths a x) p k s h)
  paths (repeat line a test) x p k s h = later _ p _ refl refl (repeat_path a test x (paths a x) p k s h)
  paths (for line first test third a) x p k s h =
      later _ p _ refl refl (paths first x (condition (for_loop test third a) ∷ p) _ (record { next = condition_paths test third a x (paths third x) (paths a x) p k s; broken = s.broken; continued = s.continued }) h)
  paths (break line) x p k s h = later _ p _ refl refl (s.broken h)
  paths (continue line) x p k s h = later _ p _ refl refl (s.continued h)
  paths (return line value) x p k s h = used _ p h

  all_paths : (body : Stmts) (x : ℕ) (p : Point) (k : Ways) → Sound k p x → IsTrue (before_all body k x) → IsLive x (statements body p)
  all_paths done x p k s h = s.next h
  all_paths (then t more) x p k s h =
      paths t x (statements more p) (then_live (before_all more k) k)
      (record { next = all_paths more x p k s; broken = λ u. subst (λ m. IsLive x m) (sym (out_all more p)) (s.broken u); continued = λ u. subst (λ m. IsLive x m) (sym (back_all more p)) (s.continued u) }) h

ways_sound : (p : Point) (x : ℕ) → Sound (ways_of p) p x
ways_sound [] x = record { next = λ h. cc; broken = λ h. cc; continued = λ h. cc }
ways_sound (statement s ∷ rest) x =
    let r = ways_sound rest x in
    record { next = λ h. paths s x rest (ways_of rest) r h; broken = r.broken; continued = r.continued }
ways_sound (condition loop ∷ rest) x =
    let r = ways_sound rest x in
    record { next = λ h. condition_paths loop.test loop.third loop.body x (paths loop.third x) (paths loop.body x) rest (ways_of rest) r h; broken = r.broken; continued = r.continued }
ways_sound (round_end loop ∷ rest) x =
    let r = ways_sound rest x in
    record { next = again r; broken = r.next; continued = again r }
  where
    at_condition : Sound (ways_of rest) rest x → IsTrue (At (condition loop ∷ rest) x) → IsLive x (condition loop ∷ rest)
    at_condition r h = condition_paths loop.test loop.third loop.body x (paths loop.third x) (paths loop.body x) rest (ways_of rest) r h

    again : Sound (ways_of rest) rest x → IsTrue (At (round_end loop ∷ rest) x) → IsLive x (round_end loop ∷ rest)
    again r h = later (round_end loop) rest (statement loop.third ∷ condition loop ∷ rest) refl refl (paths loop.third x (condition loop ∷ rest) (for_third loop.test loop.third loop.body (ways_of rest)) (record { next = at_condition r; broken = r.broken; continued = r.continued }) h)

-- the function is the paths
pub at_is : (p : Point) (x : ℕ) → IsTrue (At p x) ↔ IsLive x p
at_is p x = ((ways_sound p x).next, path_live x p)

pub ways_live : (p : Point) → AreLive (ways_of p) p
ways_live p = record { next = λ x. at_is p x; broken = λ x. ((ways_sound p x).broken, λ h. broken_is p x ∙ path_live x (out_of p) h); continued = λ x. ((ways_sound p x).continued, λ h. continued_is p x ∙ path_live x (back_of p) h) }

pub same_truth : (a b : Bool) → (IsTrue a → IsTrue b) → (IsTrue b → IsTrue a) → a ≡ b
same_truth true b f g = sym (f refl)
same_truth false true f g = g refl
same_truth false false f g = refl

-- the ways at a point are the only ones that are live there
agree_if : (k l : Ways) (p : Point) → AreLive k p → AreLive l p → (x : ℕ) → Agree x k l
agree_if k l p a b x = record {
  next = same_truth _ _ (λ h. (b.next x).1 ((a.next x).0 h)) (λ h. (a.next x).1 ((b.next x).0 h));
  broken = same_truth _ _ (λ h. (b.broken x).1 ((a.broken x).0 h)) (λ h. (a.broken x).1 ((b.broken x).0 h));
  continued = same_truth _ _ (λ h. (b.continued x).1 ((a.continued x).0 h)) (λ h. (a.continued x).1 ((b.continued x).0 h));
}

pub live_if : (k l : Ways) (p : Point) → ((x : ℕ) → Agree x k l) → AreLive l p → AreLive k p
live_if k l p e a = record {
  next = λ x. ((λ h. (a.next x).0 (sym (e x).next ∙ h)), (λ h. (e x).next ∙ (a.next x).1 h));
  broken = λ x. ((λ h. (a.broken x).0 (sym (e x).broken ∙ h)), (λ h. (e x).broken ∙ (a.broken x).1 h));
  continued = λ x. ((λ h. (a.continued x).0 (sym (e x).continued ∙ h)), (λ h. (e x).continued ∙ (a.continued x).1 h));
}

pub statement_live : (s : Stmt) (k : Ways) (p : Point) → AreLive k p → AreLive (then_live (before s k) k) (statement s ∷ p)
statement_live s k p a = live_if _ (ways_of (statement s ∷ p)) (statement s ∷ p) (λ x. agree_at x (agree_if k (ways_of p) p a (ways_live p) x)) (ways_live (statement s ∷ p))
  where
    agree_at : (x : ℕ) → Agree x k (ways_of p) → Agree x (then_live (before s k) k) (ways_of (statement s ∷ p))
    agree_at x e = record { next = before_agrees s k (ways_of p) x e; broken = e.broken; continued = e.continued }

pub statements_live : (body : Stmts) (k : Ways) (p : Point) → AreLive k p → AreLive (then_live (before_all body k) k) (statements body p)
statements_live body k p a = live_if _ (ways_of (statements body p)) (statements body p) (λ x. agree_at x (agree_if k (ways_of p) p a (ways_live p) x) (all_ways body p x)) (ways_live (statements body p))
  where
    agree_at : (x : ℕ) → Agree x k (ways_of p) → Agree x (ways_of (statements body p)) (then_live (before_all body (ways_of p)) (ways_of p)) → Agree x (then_live (before_all body k) k) (ways_of (statements body p))
    agree_at x e f = record { next = all_agree body k (ways_of p) x e ∙ sym f.next; broken = e.broken ∙ sym f.broken; continued = e.continued ∙ sym f.continued }

pub while_body_live : (test : Expr) (body : Stmt) (k : Ways) (p : Point) → AreLive k p → AreLive (while_body test body k) (round_end (while_loop test body) ∷ p)
while_body_live test body k p a = live_if _ (ways_of (round_end (while_loop test body) ∷ p)) (round_end (while_loop test body) ∷ p) (λ x. agree_at x (agree_if k (ways_of p) p a (ways_live p) x)) (ways_live (round_end (while_loop test body) ∷ p))
  where
    agree_at : (x : ℕ) → Agree x k (ways_of p) → Agree x (while_body test body k) (ways_of (round_end (while_loop test body) ∷ p))
    agree_at x e = let h = before_agrees (while 0 test body) k (ways_of p) x e in record { next = h; broken = e.next; continued = h }

-- before the condition of a `do` the same is live as before that of a `while`
pub repeat_test_is : (body : Stmt) (test : Expr) (k : Ways) (x : ℕ) → repeat_test body test k x ≡ while_head test body k x
repeat_test_is body test k x =
    by_test (uses test x || k.next x) refl
  where
    by_test : (a : Bool) → (uses test x || k.next x) ≡ a → repeat_test body test k x ≡ while_head test body k x
    by_test true e = or_assoc (uses test x) (k.next x) _ ∙ ap (λ v. v || repeat_head body test k x) e ∙ sym (or_assoc (uses test x) (k.next x) _ ∙ ap (λ v. v || before body (round (λ _. false) k) x) e)
    by_test false e = ap (λ v. uses test x || (k.next x || v)) (before_agrees body (round (λ y. uses test y || k.next y) k) (round (λ _. false) k) x (record { next = e; broken = refl; continued = e }))

pub repeat_body_live : (test : Expr) (body : Stmt) (k : Ways) (p : Point) → AreLive k p → AreLive (repeat_body body test k) (round_end (while_loop test body) ∷ p)
repeat_body_live test body k p a = live_if _ (while_body test body k) (round_end (while_loop test body) ∷ p) (λ x. record { next = repeat_test_is body test k x; broken = refl; continued = repeat_test_is body test k x }) (while_body_live test body k p a)

pub for_third_live : (test : Option Expr) (third body : Stmt) (k : Ways) (p : Point) → AreLive k p → AreLive (for_third test third body k) (condition (for_loop test third body) ∷ p)
for_third_live test third body k p a = live_if _ (ways_of (condition (for_loop test third body) ∷ p)) (condition (for_loop test third body) ∷ p) (λ x. agree_at x (agree_if k (ways_of p) p a (ways_live p) x)) (ways_live (condition (for_loop test third body) ∷ p))
  where
    agree_at : (x : ℕ) → Agree x k (ways_of p) → Agree x (for_third test third body k) (ways_of (condition (for_loop test third body) ∷ p))
    agree_at x e = record { next = before_agrees (for 0 (block done) test third body) k (ways_of p) x e; broken = e.broken; continued = e.continued }

pub for_body_live : (test : Option Expr) (third body : Stmt) (k : Ways) (p : Point) → AreLive k p → AreLive (for_body test third body k) (round_end (for_loop test third body) ∷ p)
for_body_live test third body k p a = live_if _ (ways_of (round_end (for_loop test third body) ∷ p)) (round_end (for_loop test third body) ∷ p) (λ x. agree_at x (agree_if k (ways_of p) p a (ways_live p) x)) (ways_live (round_end (for_loop test third body) ∷ p))
  where
    agree_at : (x : ℕ) → Agree x k (ways_of p) → Agree x (for_body test third body k) (ways_of (round_end (for_loop test third body) ∷ p))
    agree_at x e =
        let c = before_agrees (for 0 (block done) test third body) k (ways_of p) x e in
        let h = before_agrees third (for_third test third body k) (for_third test third body (ways_of p)) x (record { next = c; broken = e.broken; continued = e.continued }) in
        record { next = h; broken = e.next; continued = h }

pub if_live : (line : ℕ) (test : Expr) (a b : Stmt) (k : Ways) (p : Point) → AreLive k p → (x : ℕ) → IsTrue (either (before a k) (before b k) x) ↔ IsLiveBehind x (statement (branch line test a b)) p
if_live line test a b k p h x = ((λ u. ⊎_elim (λ v. (statement a ∷ p, inl refl, (by_yes.next x).0 v)) (λ v. (statement b ∷ p, inr refl, (by_no.next x).0 v)) (or_cases _ _ u)), back)
  where
    by_yes : AreLive (then_live (before a k) k) (statement a ∷ p)
    by_yes = statement_live a k p h

    by_no : AreLive (then_live (before b k) k) (statement b ∷ p)
    by_no = statement_live b k p h

    back_at : (next : Point) → (next ≡ statement a ∷ p) ⊎ (next ≡ statement b ∷ p) → IsLive x next → IsTrue (before a k x || before b k x)
    back_at next (inl e) u = or_left _ _ ((by_yes.next x).1 (subst (λ m. IsLive x m) e u))
    back_at next (inr e) u = or_right _ _ ((by_no.next x).1 (subst (λ m. IsLive x m) e u))

    back : IsLiveBehind x (statement (branch line test a b)) p → IsTrue (before a k x || before b k x)
    back u = back_at u.0 u.1 u.2

-- behind a condition, where the ways into the body are live at its round's end
loop_live : (test : Expr) (third body : Stmt) (k inside : Ways) (p : Point) → AreLive k p → AreLive inside (round_end (for_loop (Some test) third body) ∷ p) →
    (x : ℕ) → IsTrue (either k.next (before body inside) x) ↔ IsLiveBehind x (condition (for_loop (Some test) third body)) p
loop_live test third body k inside p h i x = ((λ u. ⊎_elim (λ v. (p, inr (refl, refl), (h.next x).0 v)) (λ v. (statement body ∷ round_end (for_loop (Some test) third body) ∷ p, inl refl, (by_body.next x).0 v)) (or_cases _ _ u)), back)
  where
    by_body : AreLive (then_live (before body inside) inside) (statement body ∷ round_end (for_loop (Some test) third body) ∷ p)
    by_body = statement_live body inside _ i

    back_at : (next : Point) → Leads (condition (for_loop (Some test) third body)) p next → IsLive x next → IsTrue (k.next x || before body inside x)
    back_at next (inl e) u = or_right _ _ ((by_body.next x).1 (subst (λ m. IsLive x m) e u))
    back_at next (inr e) u = or_left _ _ ((h.next x).1 (subst (λ m. IsLive x m) e.1 u))

    back : IsLiveBehind x (condition (for_loop (Some test) third body)) p → IsTrue (k.next x || before body inside x)
    back u = back_at u.0 u.1 u.2

pub while_live : (test : Expr) (body : Stmt) (k : Ways) (p : Point) → AreLive k p →
    (x : ℕ) → IsTrue (either k.next (before body (while_body test body k)) x) ↔ IsLiveBehind x (condition (while_loop test body)) p
while_live test body k p h = loop_live test (block done) body k (while_body test body k) p h (while_body_live test body k p h)

pub for_live : (test : Expr) (third body : Stmt) (k : Ways) (p : Point) → AreLive k p →
    (x : ℕ) → IsTrue (either k.next (before body (for_body (Some test) third body k)) x) ↔ IsLiveBehind x (condition (for_loop (Some test) third body)) p
for_live test third body k p h = loop_live test third body k (for_body (Some test) third body k) p h (for_body_live (Some test) third body k p h)

pub do_live : (test : Expr) (body : Stmt) (k : Ways) (p : Point) → AreLive k p →
    (x : ℕ) → IsTrue (either k.next (repeat_head body test k) x) ↔ IsLiveBehind x (condition (while_loop test body)) p
do_live test body k p h x = ((λ u. ⊎_elim (λ v. (p, inr (refl, refl), (h.next x).0 v)) (λ v. (statement body ∷ round_end (while_loop test body) ∷ p, inl refl, into v)) (or_cases _ _ u)), (λ u. ⊎_elim (λ v. or_left _ _ v) (λ v. or_right (k.next x) _ (repeat_again 0 body test k x v)) (or_cases _ _ ((while_live test body k p h x).1 u))))
  where
    into : IsTrue (repeat_head body test k x) → IsLive x (statement body ∷ round_end (while_loop test body) ∷ p)
    into v = repeat_path body test x (paths body x) p k (record { next = (h.next x).0; broken = (h.broken x).0; continued = (h.continued x).0 }) v
