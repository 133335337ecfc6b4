-- Statements, in a function that may delete or may not.
use Rattle.std.proofs.Common.{◌≡◌, ℕ, zero, suc, pos, Bool, true, false, ◌||◌, List, Option, Some, None, is_some, IfSome, ◌&&◌, refl, subst, ◌⊎◌, inl, inr}
use Rattle.rc_core.specs.declared.stmt.Change.{Change}
use Rattle.rc_core.specs.declared.stmt.Change.TheVariants.{Compute, Step}
use Rattle.rc_core.specs.Types.{struct}
use Rattle.rc_core.specs.Programs.{Expr, convert, call, Stmt, block, declare, assign, store, update, copy, evaluate, delete, branch, while, repeat, for, break, continue, return, Stmts, done, then, Function, Program}
use Rattle.rc_core.specs.Layout.{size}
use Rattle.rc_core.specs.Heap.{Value, Number, Null}
use Rattle.rc_core.specs.Live.{uses, optional_uses, place_uses, Ways, round, then_live, unless_set, before, before_all, while_head, while_body, repeat_head, repeat_test, repeat_body, for_head, for_third, for_body, either}
use Rattle.rc_core.specs.Runs.{Run, Go, Stopped, bind, Calls}
use Rattle.rc_core.specs.Source.{World, source}
use Rattle.rc_core.specs.Evaluation.{is_true, eval_all}
use Rattle.rc_core.specs.Execution.{Flow, Next, Broke, Continued, Returned, with_local, held, local_type, deletes, behind_body, behind, calling, value_of, set_local, changed, rounds, rounds_first, test_of, exec, exec_all}
use Rattle.rc_core.specs.Deletes.{IsQuiet, IsQuietInside, IsPlaced, ArePlaced, KeepsRegions, KeepRegions}
use Rattle.rc_safety.proofs.Worlds.{Nothing, Fresh, AllFresh, IsSound, FreshIn, AllFreshIn, reaches_itself, still_fresh, Yields, gives, yields_then, yields_more, yields_quietly, yields_branching}
use Rattle.rc_safety.proofs.Turns.{take_turn_yields}
use Rattle.rc_safety.proofs.Allocations.{step_yields}
use Rattle.rc_safety.proofs.Accesses.{load_yields, load_all_yields, store_yields, store_all_yields}
use Rattle.rc_safety.proofs.Deletions.{delete_yields, enter_sound, leave_reaches}
use Rattle.rc_safety.proofs.Liveness.{or_left, or_right, or_cases, while_body_to_head, repeat_body_to_head, for_body_to_head}
use Rattle.rc_safety.proofs.Locals.{LiveAreFresh, live_stay_fresh, fewer_live, left_fresh, right_fresh, held_are_fresh, live_from_held, set_stays_fresh, zero_is_fresh}
use Rattle.rc_safety.proofs.Evaluations.{FreshTarget, computed_yields, eval_yields, eval_all_yields, target_yields}

-- both ways behind a condition were live at the head
while_ways : (test : Expr) (body : Stmt) (k : Ways) (x : ℕ) → either k.next (before body (while_body test body k)) x ≡ true → while_head test body k x ≡ true
while_ways test body k x l = one (or_cases (k.next x) _ l)
  where
    one : (k.next x ≡ true) ⊎ (before body (while_body test body k) x ≡ true) → while_head test body k x ≡ true
    one (inl e) = or_right (uses test x) _ (or_left (k.next x) _ e)
    one (inr e) = while_body_to_head test body k x e

for_ways : (test : Option Expr) (third body : Stmt) (k : Ways) (x : ℕ) → (optional_uses test x || ((is_some test && k.next x) || before body (for_body test third body k) x)) ≡ true → for_head test third body k x ≡ true
for_ways test third body k x l = one (or_cases (optional_uses test x) _ l)
  where
    two : ((is_some test && k.next x) ≡ true) ⊎ (before body (for_body test third body k) x ≡ true) → for_head test third body k x ≡ true
    two (inl e) = or_right (optional_uses test x) _ (or_left (is_some test && k.next x) _ e)
    two (inr e) = for_body_to_head test third body k x e

    one : (optional_uses test x ≡ true) ⊎ (((is_some test && k.next x) || before body (for_body test third body k) x) ≡ true) → for_head test third body k x ≡ true
    one (inl e) = or_left (optional_uses test x) _ e
    one (inr e) = two (or_cases (is_some test && k.next x) _ e)

-- at each way out what is live there is fresh, and so is a value that is returned
abbrev pub FlowIsFresh : Ways → Flow → World → Type 0
FlowIsFresh k (Next env) w = LiveAreFresh k.next env w
FlowIsFresh k (Broke env) w = LiveAreFresh k.broken env w
FlowIsFresh k (Continued env) w = LiveAreFresh k.continued env w
FlowIsFresh k (Returned v) w = FreshIn w v

-- a value is fresh, and what was to stay live still is
abbrev pub FreshBesides : (live : ℕ → Bool) → (locals : List Value) → Value → World → Type 0
FreshBesides live locals v w = FreshIn w v × LiveAreFresh live locals w

pub flow_yields : (may : Bool) (k : Ways) (flow : Flow) (w : World) → IsSound w → FlowIsFresh k flow w → Yields may w (FlowIsFresh k) (Go flow w)
flow_yields may k flow w sound fresh = gives may w w (FlowIsFresh k) flow (reaches_itself may w sound) fresh

behind_yields : (may : Bool) (k : Ways) (next : ℕ → Bool) (go : List Value → World → Run World Flow)
    → ((env : List Value) (w : World) → IsSound w → LiveAreFresh next env w → Yields may w (FlowIsFresh k) (go env w))
    → (flow : Flow) (w : World) → IsSound w → FlowIsFresh (then_live next k) flow w → Yields may w (FlowIsFresh k) (behind go flow w)
behind_yields may k next go on (Next env) w sound fresh = on env w sound fresh
behind_yields may k next go on (Broke env) w sound fresh = flow_yields may k (Broke env) w sound fresh
behind_yields may k next go on (Continued env) w sound fresh = flow_yields may k (Continued env) w sound fresh
behind_yields may k next go on (Returned v) w sound fresh = flow_yields may k (Returned v) w sound fresh

behind_body_yields : (may : Bool) (k : Ways) (back : ℕ → Bool) (go : List Value → World → Run World Flow)
    → ((env : List Value) (w : World) → IsSound w → LiveAreFresh back env w → Yields may w (FlowIsFresh k) (go env w))
    → (flow : Flow) (w : World) → IsSound w → FlowIsFresh (round back k) flow w → Yields may w (FlowIsFresh k) (behind_body go flow w)
behind_body_yields may k back go on (Next env) w sound fresh = on env w sound fresh
behind_body_yields may k back go on (Broke env) w sound fresh = flow_yields may k (Next env) w sound fresh
behind_body_yields may k back go on (Continued env) w sound fresh = on env w sound fresh
behind_body_yields may k back go on (Returned v) w sound fresh = flow_yields may k (Returned v) w sound fresh

turn_yields : (may : Bool) (lives : ℕ → Bool) (env : List Value) (w : World) → IsSound w → LiveAreFresh lives env w → Yields may w (λ _. LiveAreFresh lives env) (source.take_turn w)
turn_yields may lives env w sound fresh =
    yields_quietly may w _ _ (yields_more false w Nothing (λ _. LiveAreFresh lives env) _ (take_turn_yields w sound) (λ _ w1 r _. live_stay_fresh lives env w w1 r fresh))

-- a call that deletes: what waited is still fresh behind it
left_yields : (waits : List Value) (w : World) (m : Run World Value) → Yields true (source.enter waits w) Fresh m → Yields true w (λ v w1. FreshIn w1 v × AllFreshIn w1 waits) (bind m (λ v w2. Go v (source.leave w w2)))
left_yields waits w (Go v w2) y =
    let out = leave_reaches waits w w2 y.holds.0 in
    gives true w (source.leave w w2) _ v out.0 (y.holds.1, out.1)
left_yields waits w (Stopped stop w2) y = record { holds = y.holds }

module _ (program : Program) (calls : Calls World)
    (called : (f : ℕ) (arguments : List Value) (w : World) → IsSound w → AllFreshIn w arguments → Yields (deletes program f) w Fresh (calls f arguments w)) where
  quiet_call : (live : ℕ → Bool) (env : List Value) (f : ℕ) (arguments : List Value) (w : World) → deletes program f ≡ false → IsSound w → AllFreshIn w arguments → Yields false w Fresh (calling source program calls live env f arguments w)
  quiet_call live env f arguments w quiet sound fresh =
      yields_branching false w Fresh (deletes program f) _ _ (λ e. cc) (λ e. subst (λ may. Yields may w Fresh (calls f arguments w)) e (called f arguments w sound fresh))

  deleting_call : (may : Bool) (live : ℕ → Bool) (env : List Value) (f : ℕ) (arguments : List Value) (w : World) → (may ≡ false → deletes program f ≡ false) → IsSound w → AllFreshIn w arguments → LiveAreFresh live env w
      → Yields may w (FreshBesides live env) (calling source program calls live env f arguments w)
  deleting_call may live env f arguments w allowed sound fresh lives =
      yields_branching may w (FreshBesides live env) (deletes program f) _ _ (one may allowed) (λ e.
      yields_quietly may w _ _ (yields_more false w Fresh (FreshBesides live env) _ (subst (λ b. Yields b w Fresh (calls f arguments w)) e (called f arguments w sound fresh)) (λ v w1 r fv. (fv, live_stay_fresh live env w w1 r lives))))
    where
      one : (may : Bool) → (may ≡ false → deletes program f ≡ false) → deletes program f ≡ true → Yields may w (FreshBesides live env) (bind (calls f arguments (source.enter (held live env) w)) (λ v w2. Go v (source.leave w w2)))
      one false allowed e = let both : deletes program f ≡ false = allowed refl in cc
      one true allowed e =
          let all = held_are_fresh w live env lives in
          let inner = called f arguments (source.enter (held live env) w) (enter_sound (held live env) w sound all) fresh in
          yields_more true w _ (FreshBesides live env) _ (left_yields (held live env) w _ (subst (λ b. Yields b (source.enter (held live env) w) Fresh (calls f arguments (source.enter (held live env) w))) e inner))
          (λ v w1 r s. (s.0, live_from_held w1 live env s.1))

  quiet_value : (may : Bool) (live : ℕ → Bool) (e : Expr) (env : List Value) (w : World) → IsQuiet program e → IsSound w → LiveAreFresh (uses e) env w → LiveAreFresh live env w
      → Yields may w (FreshBesides live env) (value_of source program calls live e env w)
  quiet_value may live e env w quiet sound used lives =
      yields_quietly may w _ _ (yields_more false w Fresh (FreshBesides live env) _ (eval_yields program (calling source program calls live env) (quiet_call live env) env e w quiet sound used)
      (λ v w1 r fv. (fv, live_stay_fresh live env w w1 r lives)))

  -- a value that one call which deletes may give
  value_yields : (may : Bool) (live : ℕ → Bool) (e : Expr) (env : List Value) (w : World) → IsQuietInside program e → (may ≡ false → IsQuiet program e) → IsSound w → LiveAreFresh (uses e) env w → LiveAreFresh live env w
      → Yields may w (FreshBesides live env) (value_of source program calls live e env w)
  value_yields may live (call line f arguments) env w inside kept sound used lives =
      yields_then may w (λ vs w1. AllFreshIn w1 vs × LiveAreFresh live env w1) (FreshBesides live env) (eval_all source program arguments (calling source program calls live env) env w) (calling source program calls live env f)
      (yields_quietly may w _ _ (yields_more false w AllFresh _ _ (eval_all_yields program (calling source program calls live env) (quiet_call live env) env arguments w inside sound used) (λ vs w1 r fvs. (fvs, live_stay_fresh live env w w1 r lives))))
      (λ vs w1 r s. deleting_call may live env f vs w1 (λ no. (kept no).0) r.sound s.0 s.1)
  value_yields may live (convert line from to e) env w inside kept sound used lives =
      yields_then may w (FreshBesides live env) (FreshBesides live env) (value_of source program calls live e env w) _ (value_yields may live e env w inside kept sound used lives) (λ v w1 r s.
      gives may w1 w1 (FreshBesides live env) _ (reaches_itself may w1 r.sound) (refl, s.1))
  value_yields may live e env w inside kept sound used lives = quiet_value may live e env w inside sound used lives

  set_yields : (may : Bool) (k : Ways) (x : ℕ) (e : Expr) (env : List Value) (w : World) → IsQuietInside program e → (may ≡ false → IsQuiet program e) → IsSound w → LiveAreFresh (λ y. uses e y || unless_set x y (k.next y)) env w
      → Yields may w (FlowIsFresh k) (set_local source program calls k.next x e env w)
  set_yields may k x e env w inside kept sound lives =
      let others : ℕ → Bool = λ y. unless_set x y (k.next y) in
      yields_then may w (FreshBesides others env) (FlowIsFresh k) _ _ (value_yields may others e env w inside kept sound (left_fresh env (uses e) others w lives) (right_fresh env (uses e) others w lives)) (λ v w1 r s.
      flow_yields may k (Next (with_local env x v)) w1 r.sound (set_stays_fresh w1 k.next env x v s.0 s.1))

  changed_yields : (line : ℕ) (change : Change) (old v : Value) (w : World) → IsSound w → FreshIn w old → Yields false w Fresh (changed source program line change old v w)
  changed_yields line (Compute from operator s) old v w sound fresh =
      yields_then false w Nothing Fresh _ _ (computed_yields false line _ w sound) (λ n w1 r _. gives false w1 w1 Fresh _ (reaches_itself false w1 r.sound) refl)
  changed_yields line (Step direction) old v w sound fresh = step_yields line old _ w sound fresh

  -- a loop whose condition stands before its body: what is live at its head, and before its body
  rounds_yields : (may : Bool) (k : Ways) (head inner : ℕ → Bool) (test : List Value → World → Run World Value) (body : (List Value → World → Run World Flow) → List Value → World → Run World Flow)
      → ((env : List Value) (w : World) → IsSound w → LiveAreFresh head env w → Yields may w (λ v w1. (is_true v ≡ true → LiveAreFresh inner env w1) × (is_true v ≡ false → LiveAreFresh k.next env w1)) (test env w))
      → ((again : List Value → World → Run World Flow) → ((env : List Value) (w : World) → IsSound w → LiveAreFresh head env w → Yields may w (FlowIsFresh k) (again env w))
      → (env : List Value) (w : World) → IsSound w → LiveAreFresh inner env w → Yields may w (FlowIsFresh k) (body again env w))
      → (n : ℕ) (env : List Value) (w : World) → IsSound w → LiveAreFresh head env w → Yields may w (FlowIsFresh k) (rounds source program n test body env w)
  rounds_yields may k head inner test body tests bodies zero env w sound fresh = record { holds = tt }
  rounds_yields may k head inner test body tests bodies (suc n) env w sound fresh =
      yields_then may w _ (FlowIsFresh k) (test env w) _ (tests env w sound fresh) (λ v w1 r s.
      yields_branching may w1 (FlowIsFresh k) (is_true v) _ _
      (λ e. bodies _ (λ env2 w2 sound2 fresh2.
      yields_then may w2 _ (FlowIsFresh k) (source.take_turn w2) _ (turn_yields may head env2 w2 sound2 fresh2) (λ _ w3 r3 fresh3. rounds_yields may k head inner test body tests bodies n env2 w3 r3.sound fresh3)) env w1 r.sound (s.0 e))
      (λ e. flow_yields may k (Next env) w1 r.sound (s.1 e)))

  -- a loop whose condition stands behind its body: what is live before its body, and before its condition
  rounds_first_yields : (may : Bool) (k : Ways) (head back : ℕ → Bool) (test : List Value → World → Run World Value) (body : (List Value → World → Run World Flow) → List Value → World → Run World Flow)
      → ((env : List Value) (w : World) → IsSound w → LiveAreFresh back env w → Yields may w (λ _. LiveAreFresh (either k.next head) env) (test env w))
      → ((again : List Value → World → Run World Flow) → ((env : List Value) (w : World) → IsSound w → LiveAreFresh back env w → Yields may w (FlowIsFresh k) (again env w))
      → (env : List Value) (w : World) → IsSound w → LiveAreFresh head env w → Yields may w (FlowIsFresh k) (body again env w))
      → (n : ℕ) (env : List Value) (w : World) → IsSound w → LiveAreFresh head env w → Yields may w (FlowIsFresh k) (rounds_first source program n test body env w)
  rounds_first_yields may k head back test body tests bodies zero env w sound fresh = record { holds = tt }
  rounds_first_yields may k head back test body tests bodies (suc n) env w sound fresh =
      bodies _ (λ env1 w1 sound1 fresh1.
      yields_then may w1 _ (FlowIsFresh k) (test env1 w1) _ (tests env1 w1 sound1 fresh1) (λ v w2 r2 fresh2.
      yields_branching may w2 (FlowIsFresh k) (is_true v) _ _
      (λ _. yields_then may w2 _ (FlowIsFresh k) (source.take_turn w2) _ (turn_yields may head env1 w2 r2.sound (right_fresh env1 k.next head w2 fresh2)) (λ _ w3 r3 fresh3. rounds_first_yields may k head back test body tests bodies n env1 w3 r3.sound fresh3))
      (λ _. flow_yields may k (Next env1) w2 r2.sound (left_fresh env1 k.next head w2 fresh2)))) env w sound fresh

  -- the condition of a `for` may be missing
  test_yields : (may : Bool) (k : Ways) (inner : ℕ → Bool) (test : Option Expr) (env : List Value) (w : World) → IfSome test (IsQuietInside program) → (may ≡ false → IfSome test (IsQuiet program)) → IsSound w → LiveAreFresh (λ y. optional_uses test y || ((is_some test && k.next y) || inner y)) env w
      → Yields may w (λ v w1. (is_true v ≡ true → LiveAreFresh inner env w1) × (is_true v ≡ false → LiveAreFresh k.next env w1)) (test_of source program calls (either k.next inner) test env w)
  test_yields may k inner None env w inside kept sound fresh =
      gives may w w _ (Number (pos 1)) (reaches_itself may w sound) ((λ _. fresh), (λ e. let never : true ≡ false = e in cc))
  test_yields may k inner (Some e) env w inside kept sound fresh =
      let lives = right_fresh env (uses e) (either k.next inner) w fresh in
      yields_more may w (FreshBesides (either k.next inner) env) _ _ (value_yields may (either k.next inner) e env w inside kept sound (left_fresh env (uses e) (either k.next inner) w fresh) lives)
      (λ v w1 r s. ((λ _. right_fresh env k.next inner w1 s.1), (λ _. left_fresh env k.next inner w1 s.1)))

  -- only a function that may delete has a deletion
  deletion_may : (may : Bool) (P : Bool → Type 0) → (may ≡ false → ⊥) → P true → P may
  deletion_may true P never p = p
  deletion_may false P never p = absurd (never refl)

  mutual
    pub exec_yields : (may : Bool) (s : Stmt) (f : Function) (k : Ways) (env : List Value) (w : World) → IsPlaced program s → (may ≡ false → KeepsRegions program s) → IsSound w → LiveAreFresh (before s k) env w
        → Yields may w (FlowIsFresh k) (exec source program s f calls k env w)
    exec_yields may (block body) f k env w placed kept sound fresh = exec_all_yields may body f k env w placed kept sound fresh
    exec_yields may (declare line x None) f k env w placed kept sound fresh =
        flow_yields may k (Next (with_local env x _)) w sound (set_stays_fresh w k.next env x _ (zero_is_fresh w (local_type f x)) fresh)
    exec_yields may (declare line x (Some e)) f k env w placed kept sound fresh = set_yields may k x e env w placed kept sound fresh
    exec_yields may (assign line x e) f k env w placed kept sound fresh = set_yields may k x e env w placed kept sound fresh
    exec_yields may (store line place e) f k env w placed kept sound fresh =
        let calls1 = calling source program calls k.next env in
        let rest : ℕ → Bool = λ y. uses e y || k.next y in
        yields_quietly may w _ _
        (yields_then false w FreshTarget (FlowIsFresh k) _ _ (target_yields program calls1 (quiet_call k.next env) env place w placed.0 sound (left_fresh env (place_uses place) rest w fresh)) (λ t w1 r1 ft.
        let fresh1 = live_stay_fresh rest env w w1 r1 (right_fresh env (place_uses place) rest w fresh) in
        yields_then false w1 Fresh (FlowIsFresh k) _ _ (eval_yields program calls1 (quiet_call k.next env) env e w1 placed.1 r1.sound (left_fresh env (uses e) k.next w1 fresh1)) (λ v w2 r2 fv.
        yields_then false w2 Nothing (FlowIsFresh k) _ _ (store_yields line t v w2 r2.sound (still_fresh w1 w2 r2 t.pointer ft) fv) (λ _ w3 r3 _.
        flow_yields false k (Next env) w3 r3.sound (live_stay_fresh k.next env w2 w3 r3 (live_stay_fresh k.next env w1 w2 r2 (right_fresh env (uses e) k.next w1 fresh1)))))))
    exec_yields may (update line place change e) f k env w placed kept sound fresh =
        let calls1 = calling source program calls k.next env in
        let rest : ℕ → Bool = λ y. uses e y || k.next y in
        yields_quietly may w _ _
        (yields_then false w FreshTarget (FlowIsFresh k) _ _ (target_yields program calls1 (quiet_call k.next env) env place w placed.0 sound (left_fresh env (place_uses place) rest w fresh)) (λ t w1 r1 ft.
        let fresh1 = live_stay_fresh rest env w w1 r1 (right_fresh env (place_uses place) rest w fresh) in
        yields_then false w1 Fresh (FlowIsFresh k) _ _ (eval_yields program calls1 (quiet_call k.next env) env e w1 placed.1 r1.sound (left_fresh env (uses e) k.next w1 fresh1)) (λ v w2 r2 fv.
        let fresh2 = live_stay_fresh k.next env w1 w2 r2 (right_fresh env (uses e) k.next w1 fresh1) in
        let ft2 = still_fresh w1 w2 r2 t.pointer ft in
        yields_then false w2 Fresh (FlowIsFresh k) _ _ (load_yields line t w2 r2.sound ft2) (λ old w3 r3 fo.
        yields_then false w3 Fresh (FlowIsFresh k) _ _ (changed_yields line change old v w3 r3.sound fo) (λ new w4 r4 fn.
        yields_then false w4 Nothing (FlowIsFresh k) _ _ (store_yields line t new w4 r4.sound (still_fresh w3 w4 r4 t.pointer (still_fresh w2 w3 r3 t.pointer ft2)) fn) (λ _ w5 r5 _.
        flow_yields false k (Next env) w5 r5.sound (live_stay_fresh k.next env w4 w5 r5 (live_stay_fresh k.next env w3 w4 r4 (live_stay_fresh k.next env w2 w3 r3 fresh2)))))))))
    exec_yields may (copy line s left right) f k env w placed kept sound fresh =
        let calls1 = calling source program calls k.next env in
        let rest : ℕ → Bool = λ y. place_uses right y || k.next y in
        yields_quietly may w _ _
        (yields_then false w FreshTarget (FlowIsFresh k) _ _ (target_yields program calls1 (quiet_call k.next env) env left w placed.0 sound (left_fresh env (place_uses left) rest w fresh)) (λ to w1 r1 ft.
        let fresh1 = live_stay_fresh rest env w w1 r1 (right_fresh env (place_uses left) rest w fresh) in
        yields_then false w1 FreshTarget (FlowIsFresh k) _ _ (target_yields program calls1 (quiet_call k.next env) env right w1 placed.1 r1.sound (left_fresh env (place_uses right) k.next w1 fresh1)) (λ from w2 r2 ff.
        yields_then false w2 AllFresh (FlowIsFresh k) _ _ (load_all_yields line from (size program.structs (struct s)) w2 r2.sound ff) (λ vs w3 r3 fvs.
        yields_then false w3 Nothing (FlowIsFresh k) _ _ (store_all_yields line to vs w3 r3.sound (still_fresh w2 w3 r3 to.pointer (still_fresh w1 w2 r2 to.pointer ft)) fvs) (λ _ w4 r4 _.
        flow_yields false k (Next env) w4 r4.sound (live_stay_fresh k.next env w3 w4 r4 (live_stay_fresh k.next env w2 w3 r3 (live_stay_fresh k.next env w1 w2 r2 (right_fresh env (place_uses right) k.next w1 fresh1)))))))))
    exec_yields may (evaluate line e) f k env w placed kept sound fresh =
        yields_then may w (FreshBesides k.next env) (FlowIsFresh k) _ _ (value_yields may k.next e env w placed kept sound (left_fresh env (uses e) k.next w fresh) (right_fresh env (uses e) k.next w fresh)) (λ v w1 r s.
        flow_yields may k (Next env) w1 r.sound s.1)
    exec_yields may (delete line e) f k env w placed kept sound fresh =
        yields_then may w (FreshBesides k.next env) (FlowIsFresh k) _ _ (quiet_value may k.next e env w placed sound (left_fresh env (uses e) k.next w fresh) (right_fresh env (uses e) k.next w fresh)) (λ v w1 r s.
        yields_then may w1 (λ _. AllFresh (held k.next env)) (FlowIsFresh k) (source.delete line (held k.next env) v w1) _
        (deletion_may may (λ b. Yields b w1 (λ _. AllFresh (held k.next env)) (source.delete line (held k.next env) v w1)) kept (delete_yields line (held k.next env) v w1 r.sound (held_are_fresh w1 k.next env s.1) s.0)) (λ _ w2 r2 all.
        flow_yields may k (Next env) w2 r2.sound (live_from_held w2 k.next env all)))
    exec_yields may (branch line test a b) f k env w placed kept sound fresh =
        let ways : ℕ → Bool = either (before a k) (before b k) in
        yields_then may w (FreshBesides ways env) (FlowIsFresh k) _ _ (value_yields may ways test env w placed.0 (λ no. (kept no).0) sound (left_fresh env (uses test) ways w fresh) (right_fresh env (uses test) ways w fresh)) (λ v w1 r s.
        yields_branching may w1 (FlowIsFresh k) (is_true v) _ _
        (λ _. exec_yields may a f k env w1 placed.1 (λ no. (kept no).1) r.sound (left_fresh env (before a k) (before b k) w1 s.1))
        (λ _. exec_yields may b f k env w1 placed.2 (λ no. (kept no).2) r.sound (right_fresh env (before a k) (before b k) w1 s.1)))
    exec_yields may (while line test body) f k env w placed kept sound fresh =
        let head : ℕ → Bool = while_head test body k in
        let inner : ℕ → Bool = before body (while_body test body k) in
        rounds_yields may k head inner _ _
        (λ env1 w1 sound1 fresh1.
        yields_more may w1 (FreshBesides (either k.next inner) env1) _ _
        (value_yields may (either k.next inner) test env1 w1 placed.0 (λ no. (kept no).0) sound1 (λ x l. fresh1 x (or_left (uses test x) _ l)) (fewer_live head (either k.next inner) env1 w1 (while_ways test body k) fresh1))
        (λ v w2 r s. ((λ _. right_fresh env1 k.next inner w2 s.1), (λ _. left_fresh env1 k.next inner w2 s.1))))
        (λ again on env1 w1 sound1 fresh1.
        yields_then may w1 (FlowIsFresh (while_body test body k)) (FlowIsFresh k) _ (behind_body again) (exec_yields may body f (while_body test body k) env1 w1 placed.1 (λ no. (kept no).1) sound1 fresh1) (λ flow w2 r s.
        behind_body_yields may k head again on flow w2 r.sound s))
        (suc w.turns) env w sound fresh
    exec_yields may (repeat line body test) f k env w placed kept sound fresh =
        let head : ℕ → Bool = repeat_head body test k in
        let back : ℕ → Bool = repeat_test body test k in
        rounds_first_yields may k head back _ _
        (λ env1 w1 sound1 fresh1.
        yields_more may w1 (FreshBesides (either k.next head) env1) _ _
        (value_yields may (either k.next head) test env1 w1 placed.1 (λ no. (kept no).1) sound1 (left_fresh env1 (uses test) (either k.next head) w1 fresh1) (right_fresh env1 (uses test) (either k.next head) w1 fresh1))
        (λ v w2 r s. s.1))
        (λ again on env1 w1 sound1 fresh1.
        yields_then may w1 (FlowIsFresh (repeat_body body test k)) (FlowIsFresh k) _ (behind_body again)
        (exec_yields may body f (repeat_body body test k) env1 w1 placed.0 (λ no. (kept no).0) sound1 (fewer_live head (before body (repeat_body body test k)) env1 w1 (repeat_body_to_head body test k) fresh1)) (λ flow w2 r s.
        behind_body_yields may k back again on flow w2 r.sound s))
        (suc w.turns) env w sound fresh
    exec_yields may (for line first test third body) f k env w placed kept sound fresh =
        let head : ℕ → Bool = for_head test third body k in
        let inner : ℕ → Bool = before body (for_body test third body k) in
        yields_then may w (FlowIsFresh (then_live head k)) (FlowIsFresh k) _ _ (exec_yields may first f (then_live head k) env w placed.0 (λ no. (kept no).0) sound fresh) (λ flow w0 r0 s0.
        behind_yields may k head _ (λ env1 w1 sound1 fresh1.
        rounds_yields may k head inner _ _
        (λ env2 w2 sound2 fresh2. test_yields may k inner test env2 w2 placed.1 (λ no. (kept no).1) sound2 (fewer_live head _ env2 w2 (for_ways test third body k) fresh2))
        (λ again on env2 w2 sound2 fresh2.
        yields_then may w2 (FlowIsFresh (for_body test third body k)) (FlowIsFresh k) _ _ (exec_yields may body f (for_body test third body k) env2 w2 placed.3 (λ no. (kept no).3) sound2 fresh2) (λ flow3 w3 r3 s3.
        behind_body_yields may k (before third (for_third test third body k)) _ (λ env4 w4 sound4 fresh4.
        yields_then may w4 (FlowIsFresh (for_third test third body k)) (FlowIsFresh k) _ (behind again) (exec_yields may third f (for_third test third body k) env4 w4 placed.2 (λ no. (kept no).2) sound4 fresh4) (λ flow5 w5 r5 s5.
        behind_yields may k head again on flow5 w5 r5.sound s5))
        flow3 w3 r3.sound s3))
        (suc w1.turns) env1 w1 sound1 fresh1)
        flow w0 r0.sound s0)
    exec_yields may (break line) f k env w placed kept sound fresh = flow_yields may k (Broke env) w sound fresh
    exec_yields may (continue line) f k env w placed kept sound fresh = flow_yields may k (Continued env) w sound fresh
    exec_yields may (return line None) f k env w placed kept sound fresh = flow_yields may k (Returned Null) w sound refl
    exec_yields may (return line (Some e)) f k env w placed kept sound fresh =
        yields_then may w (FreshBesides (λ _. false) env) (FlowIsFresh k) _ _ (value_yields may (λ _. false) e env w placed kept sound fresh (λ x l. cc)) (λ v w1 r s.
        flow_yields may k (Returned v) w1 r.sound s.0)

    pub exec_all_yields : (may : Bool) (s : Stmts) (f : Function) (k : Ways) (env : List Value) (w : World) → ArePlaced program s → (may ≡ false → KeepRegions program s) → IsSound w → LiveAreFresh (before_all s k) env w
        → Yields may w (FlowIsFresh k) (exec_all source program s f calls k env w)
    exec_all_yields may done f k env w placed kept sound fresh = flow_yields may k (Next env) w sound fresh
    exec_all_yields may (then s rest) f k env w placed kept sound fresh =
        yields_then may w (FlowIsFresh (then_live (before_all rest k) k)) (FlowIsFresh k) _ (behind (exec_all source program rest f calls k)) (exec_yields may s f (then_live (before_all rest k) k) env w placed.0 (λ no. (kept no).0) sound fresh) (λ flow w1 r s1.
        behind_yields may k (before_all rest k) _ (λ env2 w2 sound2 fresh2. exec_all_yields may rest f k env2 w2 placed.1 (λ no. (kept no).1) sound2 fresh2) flow w1 r.sound s1)
