-- What is live before a part at a local goes by what is live behind it at that local; and code without a condition has no steps for one.
use Rattle.std.proofs.Common.{◌≡◌, ℕ, Bool, true, false, ◌||◌, ◌&&◌, List, [], ◌∷◌, Option, None, refl, ap, ◌∙◌, sym}
use Rattle.std.specs.Prelude.{is_some, IsTrue}
use Rattle.rc_core.specs.Types.{Ty}
use Rattle.rc_core.specs.Live.{Ways, then_live, round, unless_set}
use Rattle.rc_rlang.specs.RegionCode.{Step, set, fork, Steps, none, more, Act, drop, perform, assign, store, update, move, delete, leave, Test, Code, simple, clear, block, branch, loop, repeat, break, continue, Codes, done, then}
use Rattle.rc_rlang.specs.RegionLive.{operation_uses, before_step, before_steps, before_act, before_code, before_codes, repeat_tail}
use Rattle.rc_rlang.specs.RegionFits.{StepFits, StepsFit, step_types, steps_types, test_types}
use Rattle.rc_liveness.proofs.Behind.{Live, loop_third, loop_body, loop_test, repeat_test}

or_cong : (a b c d : Bool) → a ≡ c → b ≡ d → (a || b) ≡ (c || d)
or_cong a b c d e f = cc

-- the ways that agree at a local
pub record Agree (x : ℕ) (k l : Ways) : Type 0 where
  pub next : k.next x ≡ l.next x
  pub broken : k.broken x ≡ l.broken x
  pub continued : k.continued x ≡ l.continued x

mutual
  step_agrees : (s : Step) (l m : Live) (x : ℕ) → l x ≡ m x → before_step s l x ≡ before_step s m x
  step_agrees (set line h ty op) l m x e = ap (λ b. operation_uses op x || b) e
  step_agrees (fork line h test result a b) l m x e = or_cong _ _ _ _ (steps_agree a l m x e) (steps_agree b l m x e)

  pub steps_agree : (s : Steps) (l m : Live) (x : ℕ) → l x ≡ m x → before_steps s l x ≡ before_steps s m x
  steps_agree none l m x e = e
  steps_agree (more s rest) l m x e = step_agrees s (before_steps rest l) (before_steps rest m) x (steps_agree rest l m x e)

act_agrees : (act : Act) (l m : Live) (x : ℕ) → l x ≡ m x → before_act act l x ≡ before_act act m x
act_agrees drop l m x e = e
act_agrees (perform line f tys) l m x e = e
act_agrees (assign line y ty) l m x e = ap (λ b. unless_set y x b) e
act_agrees (store line a) l m x e = e
act_agrees (update line a change ty) l m x e = e
act_agrees (move line cells left right) l m x e = e
act_agrees (delete line) l m x e = e
act_agrees (leave line result) l m x e = refl

mutual
  pub code_agrees : (c : Code) (k l : Ways) (x : ℕ) → Agree x k l → before_code c k x ≡ before_code c l x
  code_agrees (simple steps act) k l x a = steps_agree steps (before_act act k.next) (before_act act l.next) x (act_agrees act k.next l.next x a.next)
  code_agrees (clear line y ty) k l x a = ap (λ b. unless_set y x b) a.next
  code_agrees (block codes) k l x a = codes_agree codes k l x a
  code_agrees (branch steps test p q) k l x a = steps_agree steps (λ y. before_code p k y || before_code q k y) (λ y. before_code p l y || before_code q l y) x (or_cong _ _ _ _ (code_agrees p k l x a) (code_agrees q k l x a))
  code_agrees (loop line steps test third p) k l x a =
      let t = code_agrees third (then_live (λ _. false) k) (then_live (λ _. false) l) x (record { next = refl; broken = a.broken; continued = a.continued }) in
      let r = code_agrees p (round (before_code third (then_live (λ _. false) k)) k) (round (before_code third (then_live (λ _. false) l)) l) x (record { next = t; broken = a.next; continued = t }) in
      steps_agree steps
      (λ y. (is_some test && k.next y) || before_code p (round (before_code third (then_live (λ _. false) k)) k) y)
      (λ y. (is_some test && l.next y) || before_code p (round (before_code third (then_live (λ _. false) l)) l) y) x
      (or_cong _ _ _ _ (ap (λ b. is_some test && b) a.next) r)
  code_agrees (repeat line p steps test) k l x a =
      let t = steps_agree steps k.next l.next x a.next in
      code_agrees p (round (before_steps steps k.next) k) (round (before_steps steps l.next) l) x (record { next = t; broken = a.next; continued = t })
  code_agrees (break line) k l x a = a.broken
  code_agrees (continue line) k l x a = a.continued

  codes_agree : (cs : Codes) (k l : Ways) (x : ℕ) → Agree x k l → before_codes cs k x ≡ before_codes cs l x
  codes_agree done k l x a = a.next
  codes_agree (then c rest) k l x a =
      code_agrees c (then_live (before_codes rest k) k) (then_live (before_codes rest l) l) x (record { next = codes_agree rest k l x a; broken = a.broken; continued = a.continued })

-- once round a loop is enough: what is live with a second round behind is so without
pub loop_once : (line : ℕ) (steps : Steps) (test : Option Test) (third a : Code) (k : Ways) (x : ℕ) → IsTrue (before_steps steps (loop_test steps test third a k) x) → IsTrue (before_code (loop line steps test third a) k x)
loop_once line steps test third a k x u = by (before_code (loop line steps test third a) k x) refl
  where
    by : (b : Bool) → before_code (loop line steps test third a) k x ≡ b → IsTrue (before_code (loop line steps test third a) k x)
    by true e = e
    by false e =
        let t = code_agrees third (then_live (λ _. false) k) (loop_third steps test third a k) x (record { next = sym e; broken = refl; continued = refl }) in
        let r = code_agrees a (round (before_code third (then_live (λ _. false) k)) k) (loop_body steps test third a k) x (record { next = t; broken = refl; continued = t }) in
        steps_agree steps
        (λ y. (is_some test && k.next y) || before_code a (round (before_code third (then_live (λ _. false) k)) k) y)
        (loop_test steps test third a k) x (ap (λ b. (is_some test && k.next x) || b) r) ∙ u

or_false : (b : Bool) → (b || false) ≡ b
or_false true = refl
or_false false = refl

pub repeat_once : (line : ℕ) (a : Code) (steps : Steps) (test : Test) (k : Ways) (x : ℕ) → IsTrue (before_code a (round (repeat_tail a steps test k) k) x) → IsTrue (before_code (repeat line a steps test) k x)
repeat_once line a steps test k x u = by (before_code (repeat line a steps test) k x) refl
  where
    by : (b : Bool) → before_code (repeat line a steps test) k x ≡ b → IsTrue (before_code (repeat line a steps test) k x)
    by true e = e
    by false e =
        let t = steps_agree steps k.next (repeat_test a steps k test) x (sym (or_false (k.next x)) ∙ ap (λ b. k.next x || b) (sym e)) in
        code_agrees a (round (before_steps steps k.next) k) (round (repeat_tail a steps test k) k) x (record { next = t; broken = refl; continued = t }) ∙ u

-- steps that leave nothing are none

step_leaves : (s : Step) (base : ℕ) (tys : List Ty) → StepFits s base tys → step_types s tys ≡ [] → ⊥
step_leaves (set line h ty op) base tys fit e = cc
step_leaves (fork line h test result a b) base [] fit e = fit
step_leaves (fork line h test result a b) base (ty ∷ below) fit e = cc

steps_leave : (s : Steps) (base : ℕ) (tys : List Ty) → StepsFit s base tys → (tys ≡ [] → ⊥) → steps_types s tys ≡ [] → ⊥
steps_leave none base tys fit full e = full e
steps_leave (more s rest) base tys fit full e = steps_leave rest base (step_types s tys) fit.1 (step_leaves s base tys fit.0) e

pub no_steps : (s : Steps) (test : Option Test) → StepsFit s 0 [] → steps_types s [] ≡ test_types test → test ≡ None → s ≡ none
no_steps none test fit e n = refl
no_steps (more s rest) test fit e n = absurd (steps_leave rest 0 (step_types s []) fit.1 (step_leaves s 0 [] fit.0) (e ∙ ap test_types n))
