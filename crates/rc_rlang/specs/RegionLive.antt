-- Liveness of the program's locals on region code: which of them may still be read. Temporaries are no locals. `Ways` tells what is live
-- at a statement's three ways on: to the next one, out of the loop around it, and to that loop's next round. Each function goes backward,
-- from what is live behind a part to what is live before it. A copy reads its local, an assignment and a clearing set one, behind a return
-- nothing is live, and all other operations leave it as it is. Of a loop it is enough to go once round, with nothing live behind the round:
-- what a later round reads the first one reads too, or sets before. Inside an expression, which ends in one place, a plain function from
-- locals does.
use Rattle.std.specs.Prelude.{ℕ, Bool, false, ◌||◌, ◌&&◌, nat_eq, Option, is_some}
use Rattle.rc_core.specs.Live.{Ways, unless_set, then_live, round}
use Rattle.rc_rlang.specs.RegionCode.{Operation, copy, Step, set, fork, Steps, none, more, Act, drop, perform, assign, store, update, move, delete, leave, Test, Code, simple, clear, block, branch, loop, repeat, break, continue, Codes, done, then}

abbrev pub operation_uses : Operation → ℕ → Bool
operation_uses (copy y) x = nat_eq y x
operation_uses op x = false

abbrev mutual
  pub before_step : Step → (ℕ → Bool) → ℕ → Bool
  before_step (set line h ty op) live x = operation_uses op x || live x
  before_step (fork line h ty to a b) live x = before_steps a live x || before_steps b live x

  pub before_steps : Steps → (ℕ → Bool) → ℕ → Bool
  before_steps none live x = live x
  before_steps (more s rest) live x = before_step s (before_steps rest live) x

abbrev pub before_act : Act → (ℕ → Bool) → ℕ → Bool
before_act drop live x = live x
before_act (perform line f tys) live x = live x
before_act (assign line y ty) live x = unless_set y x (live x)
before_act (store line a) live x = live x
before_act (update line a change ty) live x = live x
before_act (move line cells left right) live x = live x
before_act (delete line) live x = live x
before_act (leave line result) live x = false

abbrev mutual
  pub before_code : Code → Ways → ℕ → Bool
  before_code (simple steps act) k x = before_steps steps (before_act act k.next) x
  before_code (clear line y ty) k x = unless_set y x (k.next x)
  before_code (block codes) k x = before_codes codes k x
  before_code (branch steps test a b) k x = before_steps steps (λ y. before_code a k y || before_code b k y) x
  before_code (loop line steps test third a) k x =
      before_steps steps (λ y. (is_some test && k.next y) || before_code a (round (before_code third (then_live (λ _. false) k)) k) y) x
  before_code (repeat line a steps test) k x = before_code a (round (before_steps steps k.next) k) x
  before_code (break line) k x = k.broken x
  before_code (continue line) k x = k.continued x

  pub before_codes : Codes → Ways → ℕ → Bool
  before_codes done k x = k.next x
  before_codes (then c rest) k x = before_code c (then_live (before_codes rest k) k) x

abbrev pub loop_head : Steps → Option Test → (third body : Code) → Ways → ℕ → Bool
loop_head steps test third body k = before_code (loop 0 steps test third body) k

abbrev pub repeat_tail : Code → Steps → Test → Ways → ℕ → Bool
repeat_tail body steps test k = before_steps steps (λ y. k.next y || before_code (repeat 0 body steps test) k y)
