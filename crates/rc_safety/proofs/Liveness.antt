-- Once round a loop decides what is live: a local that is live by a further round is live at the head already.
use Rattle.std.proofs.Common.{◌≡◌, ℕ, Bool, true, false, ◌||◌, ◌&&◌, not, nat_eq, Option, is_some, refl, ◌⊎◌, inl, inr}
use Rattle.rc_core.specs.Programs.{Expr, Stmt, block, declare, assign, store, update, copy, evaluate, delete, branch, while, repeat, for, break, continue, return, Stmts, done, then}
use Rattle.rc_core.specs.Live.{uses, optional_uses, Ways, round, then_live, before, before_all, while_head, while_body, repeat_head, repeat_test, repeat_body, for_head, for_third, for_body}

pub or_left : (a b : Bool) → a ≡ true → (a || b) ≡ true
or_left true b e = refl
or_left false b e = cc

pub or_right : (a b : Bool) → b ≡ true → (a || b) ≡ true
or_right true b e = refl
or_right false b e = e

pub or_cases : (a b : Bool) → (a || b) ≡ true → (a ≡ true) ⊎ (b ≡ true)
or_cases true b e = inl refl
or_cases false b e = inr e

-- if a holds, b does or P
abbrev pub OrElse : (P : Type 0) → (a b : Bool) → Type 0
OrElse P a b = a ≡ true → (b ≡ true) ⊎ P

same_or : (P : Type 0) (a : Bool) → OrElse P a a
same_or P a e = inl e

both_or : (P : Type 0) (a b a1 b1 : Bool) → OrElse P a a1 → OrElse P b b1 → OrElse P (a || b) (a1 || b1)
both_or P true b a1 b1 f g e = one (f refl)
  where
    one : (a1 ≡ true) ⊎ P → ((a1 || b1) ≡ true) ⊎ P
    one (inl y) = inl (or_left a1 b1 y)
    one (inr p) = inr p
both_or P false b a1 b1 f g e = one (g e)
  where
    one : (b1 ≡ true) ⊎ P → ((a1 || b1) ≡ true) ⊎ P
    one (inl y) = inl (or_right a1 b1 y)
    one (inr p) = inr p

and_or : (P : Type 0) (c a a1 : Bool) → OrElse P a a1 → OrElse P (c && a) (c && a1)
and_or P true a a1 f e = f e
and_or P false a a1 f e = cc

never_or : (P : Type 0) (b : Bool) → OrElse P false b
never_or P b e = cc

-- at each way out of a statement
pub record WaysOrElse (P : Type 0) (k k1 : Ways) (x : ℕ) : Type 0 where
  pub next : OrElse P (k.next x) (k1.next x)
  pub broken : OrElse P (k.broken x) (k1.broken x)
  pub continued : OrElse P (k.continued x) (k1.continued x)

mutual
  pub before_or : (P : Type 0) (s : Stmt) (k k1 : Ways) (x : ℕ) → WaysOrElse P k k1 x → OrElse P (before s k x) (before s k1 x)
  before_or P (block body) k k1 x ways = before_all_or P body k k1 x ways
  before_or P (declare line y value) k k1 x ways = both_or P _ _ _ _ (same_or P (optional_uses value x)) (and_or P (not (nat_eq y x)) _ _ ways.next)
  before_or P (assign line y e) k k1 x ways = both_or P _ _ _ _ (same_or P (uses e x)) (and_or P (not (nat_eq y x)) _ _ ways.next)
  before_or P (store line place e) k k1 x ways = both_or P _ _ _ _ (same_or P _) (both_or P _ _ _ _ (same_or P _) ways.next)
  before_or P (update line place change e) k k1 x ways = both_or P _ _ _ _ (same_or P _) (both_or P _ _ _ _ (same_or P _) ways.next)
  before_or P (copy line s left right) k k1 x ways = both_or P _ _ _ _ (same_or P _) (both_or P _ _ _ _ (same_or P _) ways.next)
  before_or P (evaluate line e) k k1 x ways = both_or P _ _ _ _ (same_or P _) ways.next
  before_or P (delete line e) k k1 x ways = both_or P _ _ _ _ (same_or P _) ways.next
  before_or P (branch line test a b) k k1 x ways = both_or P _ _ _ _ (same_or P _) (both_or P _ _ _ _ (before_or P a k k1 x ways) (before_or P b k k1 x ways))
  before_or P (while line test a) k k1 x ways =
      both_or P _ _ _ _ (same_or P _) (both_or P _ _ _ _ ways.next (before_or P a (round (λ _. false) k) (round (λ _. false) k1) x (record { next = never_or P false; broken = ways.next; continued = never_or P false })))
  before_or P (repeat line a test) k k1 x ways =
      before_or P a (round (λ y. uses test y || k.next y) k) (round (λ y. uses test y || k1.next y) k1) x
      (record { next = both_or P _ _ _ _ (same_or P _) ways.next; broken = ways.next; continued = both_or P _ _ _ _ (same_or P _) ways.next })
  before_or P (for line first test third a) k k1 x ways =
      let again = before_or P third (then_live (λ _. false) k) (then_live (λ _. false) k1) x (record { next = never_or P false; broken = ways.broken; continued = ways.continued }) in
      let body = before_or P a (round (before third (then_live (λ _. false) k)) k) (round (before third (then_live (λ _. false) k1)) k1) x (record { next = again; broken = ways.next; continued = again }) in
      before_or P first _ _ x (record { next = both_or P _ _ _ _ (same_or P (optional_uses test x)) (both_or P _ _ _ _ (and_or P (is_some test) _ _ ways.next) body); broken = ways.broken; continued = ways.continued })
  before_or P (break line) k k1 x ways = ways.broken
  before_or P (continue line) k k1 x ways = ways.continued
  before_or P (return line value) k k1 x ways = same_or P (optional_uses value x)

  pub before_all_or : (P : Type 0) (s : Stmts) (k k1 : Ways) (x : ℕ) → WaysOrElse P k k1 x → OrElse P (before_all s k x) (before_all s k1 x)
  before_all_or P done k k1 x ways = ways.next
  before_all_or P (then s rest) k k1 x ways =
      before_or P s (then_live (before_all rest k) k) (then_live (before_all rest k1) k1) x (record { next = before_all_or P rest k k1 x ways; broken = ways.broken; continued = ways.continued })

or_itself : (a : Bool) → (a ≡ true) ⊎ (a ≡ true) → a ≡ true
or_itself a (inl e) = e
or_itself a (inr e) = e

-- what is live before a body is live at the loop's head
pub while_body_to_head : (test : Expr) (body : Stmt) (k : Ways) (x : ℕ) → before body (while_body test body k) x ≡ true → while_head test body k x ≡ true
while_body_to_head test body k x l = one (before_or (while_head test body k x ≡ true) body (while_body test body k) (round (λ _. false) k) x (record { next = λ e. inr e; broken = same_or _ (k.next x); continued = λ e. inr e }) l)
  where
    one : (before body (round (λ _. false) k) x ≡ true) ⊎ (while_head test body k x ≡ true) → while_head test body k x ≡ true
    one (inl e) = or_right (uses test x) _ (or_right (k.next x) _ e)
    one (inr e) = e

pub repeat_body_to_head : (body : Stmt) (test : Expr) (k : Ways) (x : ℕ) → before body (repeat_body body test k) x ≡ true → repeat_head body test k x ≡ true
repeat_body_to_head body test k x l = or_itself _ (before_or (repeat_head body test k x ≡ true) body (repeat_body body test k) (round (λ y. uses test y || k.next y) k) x (record { next = back; broken = same_or _ (k.next x); continued = back }) l)
  where
    split : (a b c : Bool) → (a || (b || c)) ≡ true → ((a || b) ≡ true) ⊎ (c ≡ true)
    split true b c e = inl refl
    split false true c e = inl refl
    split false false c e = inr e

    back : OrElse (repeat_head body test k x ≡ true) (repeat_test body test k x) (uses test x || k.next x)
    back e = split (uses test x) (k.next x) (repeat_head body test k x) e

pub for_body_to_head : (test : Option Expr) (third body : Stmt) (k : Ways) (x : ℕ) → before body (for_body test third body k) x ≡ true → for_head test third body k x ≡ true
for_body_to_head test third body k x l =
    one (before_or (for_head test third body k x ≡ true) body (for_body test third body k) (round (before third (then_live (λ _. false) k)) k) x (record { next = again; broken = same_or _ (k.next x); continued = again }) l)
  where
    again : OrElse (for_head test third body k x ≡ true) (before third (for_third test third body k) x) (before third (then_live (λ _. false) k) x)
    again e = before_or (for_head test third body k x ≡ true) third (for_third test third body k) (then_live (λ _. false) k) x (record { next = λ e. inr e; broken = same_or _ (k.broken x); continued = same_or _ (k.continued x) }) e

    one : (before body (round (before third (then_live (λ _. false) k)) k) x ≡ true) ⊎ (for_head test third body k x ≡ true) → for_head test third body k x ≡ true
    one (inl e) = or_right (optional_uses test x) _ (or_right (is_some test && k.next x) _ e)
    one (inr e) = e
