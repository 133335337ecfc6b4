-- A run in one world and the same run in another: where every operation goes alike, so does every expression, statement and
-- call. What is kept in one world is the case of equal worlds.
use Rattle.std.proofs.Common.{ℕ, zero, suc, ◌<◌, ◌≤◌, Bool, true, false, List, [], Option, Some, None, refl, arith}
use Rattle.std.specs.Prelude.{ℤ, Result, Ok, Err, slice_get, IsFalse}
use Rattle.rc_base.specs.declared.ends.End.TheVariants.{Exit, Trapped, Spent}
use Rattle.rc_base.specs.declared.ends.Trap.{Trap}
use Rattle.rc_core.specs.declared.stmt.Change.{Change}
use Rattle.rc_core.specs.declared.stmt.Change.TheVariants.{Compute, Step}
use Rattle.rc_core.specs.Arithmetic.{calculate, calculate_one}
use Rattle.rc_core.specs.Programs.{Expr, constant, null, string, local, read, address, step, step_from, unary, binary, convert, not_zero, and, or, choose, is_null, same, call, new_region, new_subregion, region_of, allocate, allocate_array, putchar, getchar, Arguments, none, more, Place, global, pointed, indexed, Path, here, field, element, Stmt, block, declare, assign, store, update, copy, evaluate, delete, branch, while, repeat, for, break, continue, return, Stmts, done, then, Function, Program}
use Rattle.rc_core.specs.Types.{Ty}
use Rattle.rc_core.specs.Layout.{Layout}
use Rattle.rc_core.specs.Heap.{Value, Number, Null, Handle, Pointer}
use Rattle.rc_core.specs.Live.{Ways, before, before_all, then_live, either, while_body, repeat_body, repeat_head, for_head, for_third, for_body, at_end}
use Rattle.rc_core.specs.Runs.{Stop, Ends, Stale, Run, Go, Stopped, bind, branching, computed, Target, Ops}
use Rattle.rc_core.specs.Evaluation.{number_in, is_true, toward, region_named, eval, eval_all, target, along}
use Rattle.rc_core.specs.Execution.{Flow, Next, Broke, Continued, Returned, held, first_locals, deletes, result_of, behind_body, behind, calling, value_of, set_local, changed, rounds, rounds_first, test_of, exec, exec_all, run_function, calls_within, run_main}

-- it is no want of turns
abbrev pub is_spent : Stop → Bool
is_spent (Ends (Exit n)) = false
is_spent (Ends (Trapped t line)) = false
is_spent (Ends Spent) = true
is_spent (Stale line) = false

-- both come to the same, in worlds that are related by R where they go on and by S where they stop; where the first one's
-- turns are spent, the second may go on
pub data Follows {W V : Type 0} (R S : W → V → Type 0) (Out Outlasts : W → Type 0) {A : Type 0} : Run W A → Run V A → Type 0 where
  goes : (x : A) (w : W) (v : V) → R w v → Follows R S Out Outlasts (Go x w) (Go x v)
  stops : (s : Stop) (w : W) (v : V) → IsFalse (is_spent s) → S w v → Follows R S Out Outlasts (Stopped s w) (Stopped s v)
  spends : (w : W) (v : V) → Out w → S w v → Follows R S Out Outlasts (Stopped (Ends Spent) w) (Stopped (Ends Spent) v)
  outlasts : (w : W) (m : Run V A) → Outlasts w → Follows R S Out Outlasts (Stopped (Ends Spent) w) m

pub bind_follows : {W V A B : Type 0} {R Q S : W → V → Type 0} {Out Outlasts : W → Type 0} {m : Run W A} {n : Run V A} {k : A → W → Run W B} {l : A → V → Run V B} →
    Follows R S Out Outlasts m n → ((x : A) (w : W) (v : V) → R w v → Follows Q S Out Outlasts (k x w) (l x v)) → Follows Q S Out Outlasts (bind m k) (bind n l)
bind_follows (goes x w v r) h = h x w v r
bind_follows (stops s w v i r) h = stops s w v i r
bind_follows (spends w v o r) h = spends w v o r
bind_follows (outlasts w m o) h = outlasts w _ o

pub weaken : {W V A : Type 0} {R Q S T : W → V → Type 0} {Out Outlasts : W → Type 0} {m : Run W A} {n : Run V A} →
    Follows R S Out Outlasts m n → ((w : W) (v : V) → R w v → Q w v) → ((w : W) (v : V) → S w v → T w v) → Follows Q T Out Outlasts m n
weaken (goes x w v r) h k = goes x w v (h w v r)
weaken (stops s w v i r) h k = stops s w v i (k w v r)
weaken (spends w v o r) h k = spends w v o (k w v r)
weaken (outlasts w m o) h k = outlasts w m o

-- so related, with at most so many turns left
abbrev pub Within : {W V : Type 0} → (R : W → V → Type 0) → Ops W → (most : ℕ) → W → V → Type 0
Within R ops most w v = R w v × (ops.turns_left w ≤ most)

-- each operation goes alike, and adds no turns
pub record Alike {W V : Type 0} (R : W → V → Type 0) (Out Outlasts : W → Type 0) (ops : Ops W) (to : Ops V) : Type 0 where
  pub turns_left : (w : W) (v : V) → R w v → ops.turns_left w ≤ to.turns_left v
  pub take_turn : (w : W) (v : V) → R w v → Follows (λ x y. R x y × (suc (ops.turns_left x) ≤ ops.turns_left w)) (Within R ops (ops.turns_left w)) Out Outlasts (ops.take_turn w) (to.take_turn v)
  pub get_byte : (w : W) (v : V) → R w v → Follows (Within R ops (ops.turns_left w)) (Within R ops (ops.turns_left w)) Out Outlasts (ops.get_byte w) (to.get_byte v)
  pub put_byte : (b : ℕ) (w : W) (v : V) → R w v → Follows (Within R ops (ops.turns_left w)) (Within R ops (ops.turns_left w)) Out Outlasts (ops.put_byte b w) (to.put_byte b v)
  pub new_region : (line : ℕ) (w : W) (v : V) → R w v → Follows (Within R ops (ops.turns_left w)) (Within R ops (ops.turns_left w)) Out Outlasts (ops.new_region line w) (to.new_region line v)
  pub new_subregion : (line : ℕ) (p : Value) (w : W) (v : V) → R w v → Follows (Within R ops (ops.turns_left w)) (Within R ops (ops.turns_left w)) Out Outlasts (ops.new_subregion line p w) (to.new_subregion line p v)
  pub allocate : (line : ℕ) (p : Value) (count : ℤ) (layout : Layout) (w : W) (v : V) → R w v → Follows (Within R ops (ops.turns_left w)) (Within R ops (ops.turns_left w)) Out Outlasts (ops.allocate line p count layout w) (to.allocate line p count layout v)
  pub step : (line : ℕ) (p : Value) (n : ℤ) (w : W) (v : V) → R w v → Follows (Within R ops (ops.turns_left w)) (Within R ops (ops.turns_left w)) Out Outlasts (ops.step line p n w) (to.step line p n v)
  pub load : (line : ℕ) (t : Target) (w : W) (v : V) → R w v → Follows (Within R ops (ops.turns_left w)) (Within R ops (ops.turns_left w)) Out Outlasts (ops.load line t w) (to.load line t v)
  pub store : (line : ℕ) (t : Target) (x : Value) (w : W) (v : V) → R w v → Follows (Within R ops (ops.turns_left w)) (Within R ops (ops.turns_left w)) Out Outlasts (ops.store line t x w) (to.store line t x v)
  pub load_all : (line : ℕ) (t : Target) (n : ℕ) (w : W) (v : V) → R w v → Follows (Within R ops (ops.turns_left w)) (Within R ops (ops.turns_left w)) Out Outlasts (ops.load_all line t n w) (to.load_all line t n v)
  pub store_all : (line : ℕ) (t : Target) (xs : List Value) (w : W) (v : V) → R w v → Follows (Within R ops (ops.turns_left w)) (Within R ops (ops.turns_left w)) Out Outlasts (ops.store_all line t xs w) (to.store_all line t xs v)
  pub delete : (line : ℕ) (xs : List Value) (p : Value) (w : W) (v : V) → R w v → Follows (Within R ops (ops.turns_left w)) (Within R ops (ops.turns_left w)) Out Outlasts (ops.delete line xs p w) (to.delete line xs p v)
  pub enter : (xs : List Value) (w : W) (v : V) → R w v → R (ops.enter xs w) (to.enter xs v) × (ops.turns_left (ops.enter xs w) ≤ ops.turns_left w)
  pub leave : (w w1 : W) (v v1 : V) → R w v → R w1 v1 → R (ops.leave w w1) (to.leave v v1) × (ops.turns_left (ops.leave w w1) ≤ ops.turns_left w1)

module _ {W V : Type 0} (R : W → V → Type 0) (Out Outlasts : W → Type 0) (ops : Ops W) (to : Ops V) (alike : Alike R Out Outlasts ops to) (program : Program) where
  abbrev F : ℕ → {A : Type 0} → Run W A → Run V A → Type 0
  F most m n = Follows (Within R ops most) (Within R ops most) Out Outlasts m n

  abbrev At : ℕ → W → V → Type 0
  At most w v = Within R ops most w v

  -- an operation, where more turns may be left
  op : {A : Type 0} {m : Run W A} {n : Run V A} (b : ℕ) (w : W) (v : V) → At b w v → F (ops.turns_left w) m n → F b m n
  op b w v r h = weaken h (λ x y s. (s.0, omega (arith, s.1, r.1))) (λ x y s. (s.0, omega (arith, s.1, r.1)))

  computed_follows : {A : Type 0} (b line : ℕ) (x : Result A Trap) (w : W) (v : V) → At b w v → F b (computed line x w) (computed line x v)
  computed_follows b line (Ok x) w v r = goes x w v r
  computed_follows b line (Err t) w v r = stops _ w v refl r

  branching_follows : {A : Type 0} (b : ℕ) (c : Bool) (m n : W → Run W A) (m' n' : V → Run V A) → ((w : W) (v : V) → At b w v → F b (m w) (m' v)) → ((w : W) (v : V) → At b w v → F b (n w) (n' v)) →
      (w : W) (v : V) → At b w v → F b (branching c m n w) (branching c m' n' v)
  branching_follows b true m n m' n' h k w v r = h w v r
  branching_follows b false m n m' n' h k w v r = k w v r

  region_named_follows : (b line : ℕ) (x : Value) (w : W) (v : V) → At b w v → F b (region_named line x w) (region_named line x v)
  region_named_follows b line (Number n) w v r = stops _ w v refl r
  region_named_follows b line Null w v r = stops _ w v refl r
  region_named_follows b line (Handle q) w v r = goes _ w v r
  region_named_follows b line (Pointer a) w v r = goes _ w v r

  -- the calls go alike where at most so many turns are left
  abbrev pub CallsFollow : ℕ → (ℕ → List Value → W → Run W Value) → (ℕ → List Value → V → Run V Value) → Type 0
  CallsFollow most calls calls' = (b : ℕ) → b ≤ most → (f : ℕ) (xs : List Value) (w : W) (v : V) → At b w v → F b (calls f xs w) (calls' f xs v)

  restrict : (b most : ℕ) (c : ℕ → List Value → W → Run W Value) (d : ℕ → List Value → V → Run V Value) → b ≤ most → CallsFollow most c d → CallsFollow b c d
  restrict b most c d le h b1 le1 = h b1 (omega (arith, le, le1))

  mutual
    pub eval_follows : (e : Expr) (calls : ℕ → List Value → W → Run W Value) (calls' : ℕ → List Value → V → Run V Value) (b : ℕ) (h : CallsFollow b calls calls') (env : List Value) (w : W) (v : V) → At b w v →
        F b (eval ops program e calls env w) (eval to program e calls' env v)
    eval_follows (constant line s n) c d m h env w v r = goes _ w v r
    eval_follows (null line) c d m h env w v r = goes _ w v r
    eval_follows (string line k) c d m h env w v r = goes _ w v r
    eval_follows (local line x) c d m h env w v r = goes _ w v r
    eval_follows (read line place) c d m h env w v r = bind_follows (target_follows place c d m h env w v r) (λ t w1 v1 r1. op m w1 v1 r1 (alike.load line t w1 v1 r1.0))
    eval_follows (address line g) c d m h env w v r = goes _ w v r
    eval_follows (step line direction p i) c d m h env w v r = bind_follows (eval_follows p c d m h env w v r) (λ x w1 v1 r1. bind_follows (eval_follows i c d m h env w1 v1 r1) (λ n w2 v2 r2. op m w2 v2 r2 (alike.step line x (toward direction (number_in n)) w2 v2 r2.0)))
    eval_follows (step_from line i p) c d m h env w v r = bind_follows (eval_follows i c d m h env w v r) (λ n w1 v1 r1. bind_follows (eval_follows p c d m h env w1 v1 r1) (λ x w2 v2 r2. op m w2 v2 r2 (alike.step line x (number_in n) w2 v2 r2.0)))
    eval_follows (unary line operator s e) c d m h env w v r = bind_follows (eval_follows e c d m h env w v r) (λ x w1 v1 r1. bind_follows (computed_follows m line (calculate_one operator s (number_in x)) w1 v1 r1) (λ n w2 v2 r2. goes _ w2 v2 r2))
    eval_follows (binary line operator s a b) c d m h env w v r =
        bind_follows (eval_follows a c d m h env w v r) (λ x w1 v1 r1. bind_follows (eval_follows b c d m h env w1 v1 r1) (λ y w2 v2 r2.
        bind_follows (computed_follows m line (calculate operator s (number_in x) (number_in y)) w2 v2 r2) (λ n w3 v3 r3. goes _ w3 v3 r3)))
    eval_follows (convert line from ty e) c d m h env w v r = bind_follows (eval_follows e c d m h env w v r) (λ x w1 v1 r1. goes _ w1 v1 r1)
    eval_follows (not_zero line e) c d m h env w v r = bind_follows (eval_follows e c d m h env w v r) (λ x w1 v1 r1. goes _ w1 v1 r1)
    eval_follows (and line a b) c d m h env w v r =
        bind_follows (eval_follows a c d m h env w v r) (λ x. branching_follows m (is_true x) _ _ _ _
        (λ w1 v1 r1. bind_follows (eval_follows b c d m h env w1 v1 r1) (λ y w2 v2 r2. goes _ w2 v2 r2)) (λ w1 v1 r1. goes _ w1 v1 r1))
    eval_follows (or line a b) c d m h env w v r =
        bind_follows (eval_follows a c d m h env w v r) (λ x. branching_follows m (is_true x) _ _ _ _
        (λ w1 v1 r1. goes _ w1 v1 r1) (λ w1 v1 r1. bind_follows (eval_follows b c d m h env w1 v1 r1) (λ y w2 v2 r2. goes _ w2 v2 r2)))
    eval_follows (choose line test a b) c d m h env w v r =
        bind_follows (eval_follows test c d m h env w v r) (λ x. branching_follows m (is_true x) _ _ _ _ (eval_follows a c d m h env) (eval_follows b c d m h env))
    eval_follows (is_null line wanted e) c d m h env w v r = bind_follows (eval_follows e c d m h env w v r) (λ x w1 v1 r1. goes _ w1 v1 r1)
    eval_follows (same line wanted a b) c d m h env w v r = bind_follows (eval_follows a c d m h env w v r) (λ x w1 v1 r1. bind_follows (eval_follows b c d m h env w1 v1 r1) (λ y w2 v2 r2. goes _ w2 v2 r2))
    eval_follows (call line f arguments) c d m h env w v r = bind_follows (all_follow arguments c d m h env w v r) (h m (omega arith) f)
    eval_follows (new_region line) c d m h env w v r = op m w v r (alike.new_region line w v r.0)
    eval_follows (new_subregion line p) c d m h env w v r = bind_follows (eval_follows p c d m h env w v r) (λ x w1 v1 r1. op m w1 v1 r1 (alike.new_subregion line x w1 v1 r1.0))
    eval_follows (region_of line p) c d m h env w v r = bind_follows (eval_follows p c d m h env w v r) (region_named_follows m line)
    eval_follows (allocate line p ty) c d m h env w v r = bind_follows (eval_follows p c d m h env w v r) (λ x w1 v1 r1. op m w1 v1 r1 (alike.allocate line x _ _ w1 v1 r1.0))
    eval_follows (allocate_array line p n ty) c d m h env w v r = bind_follows (eval_follows p c d m h env w v r) (λ x w1 v1 r1. bind_follows (eval_follows n c d m h env w1 v1 r1) (λ y w2 v2 r2. op m w2 v2 r2 (alike.allocate line x _ _ w2 v2 r2.0)))
    eval_follows (putchar line e) c d m h env w v r = bind_follows (eval_follows e c d m h env w v r) (λ x w1 v1 r1. bind_follows (op m w1 v1 r1 (alike.put_byte _ w1 v1 r1.0)) (λ y w2 v2 r2. goes _ w2 v2 r2))
    eval_follows (getchar line) c d m h env w v r = bind_follows (op m w v r (alike.get_byte w v r.0)) (λ n w1 v1 r1. goes _ w1 v1 r1)

    pub all_follow : (es : Arguments) (calls : ℕ → List Value → W → Run W Value) (calls' : ℕ → List Value → V → Run V Value) (b : ℕ) (h : CallsFollow b calls calls') (env : List Value) (w : W) (v : V) → At b w v →
        F b (eval_all ops program es calls env w) (eval_all to program es calls' env v)
    all_follow none c d m h env w v r = goes _ w v r
    all_follow (more e rest) c d m h env w v r = bind_follows (eval_follows e c d m h env w v r) (λ x w1 v1 r1. bind_follows (all_follow rest c d m h env w1 v1 r1) (λ xs w2 v2 r2. goes _ w2 v2 r2))

    pub target_follows : (place : Place) (calls : ℕ → List Value → W → Run W Value) (calls' : ℕ → List Value → V → Run V Value) (b : ℕ) (h : CallsFollow b calls calls') (env : List Value) (w : W) (v : V) → At b w v →
        F b (target ops program place calls env w) (target to program place calls' env v)
    target_follows (global g path) c d m h env w v r = along_follows path _ c d m h env w v r
    target_follows (pointed p path) c d m h env w v r = bind_follows (eval_follows p c d m h env w v r) (λ x w1 v1 r1. along_follows path _ c d m h env w1 v1 r1)
    target_follows (indexed p i path) c d m h env w v r = bind_follows (eval_follows p c d m h env w v r) (λ x w1 v1 r1. bind_follows (eval_follows i c d m h env w1 v1 r1) (λ n w2 v2 r2. along_follows path _ c d m h env w2 v2 r2))

    pub along_follows : (path : Path) (t : Target) (calls : ℕ → List Value → W → Run W Value) (calls' : ℕ → List Value → V → Run V Value) (b : ℕ) (h : CallsFollow b calls calls') (env : List Value) (w : W) (v : V) → At b w v →
        F b (along ops program path t calls env w) (along to program path t calls' env v)
    along_follows here t c d m h env w v r = goes t w v r
    along_follows (field s f rest) t c d m h env w v r = along_follows rest _ c d m h env w v r
    along_follows (element s f i rest) t c d m h env w v r = bind_follows (eval_follows i c d m h env w v r) (λ n w1 v1 r1. along_follows rest _ c d m h env w1 v1 r1)

  calling_follows : (calls : ℕ → List Value → W → Run W Value) (calls' : ℕ → List Value → V → Run V Value) (m : ℕ) → CallsFollow m calls calls' → (live : ℕ → Bool) (env : List Value) →
      CallsFollow m (calling ops program calls live env) (calling to program calls' live env)
  calling_follows c d m h live env b le f xs w v r =
      branching_follows b (deletes program f) _ _ _ _ within (λ w1 v1 r1. h b le f xs w1 v1 r1) w v r
    where
      entered : (w1 : W) (v1 : V) → At b w1 v1 → At b (ops.enter (held live env) w1) (to.enter (held live env) v1)
      entered w1 v1 r1 = let e = alike.enter (held live env) w1 v1 r1.0 in (e.0, omega (arith, e.1, r1.1))

      left : (w1 w2 : W) (v1 v2 : V) → At b w1 v1 → At b w2 v2 → At b (ops.leave w1 w2) (to.leave v1 v2)
      left w1 w2 v1 v2 r1 r2 = let l = alike.leave w1 w2 v1 v2 r1.0 r2.0 in (l.0, omega (arith, l.1, r2.1))

      within : (w1 : W) (v1 : V) → At b w1 v1 → F b (bind (c f xs (ops.enter (held live env) w1)) (λ x w2. Go x (ops.leave w1 w2))) (bind (d f xs (to.enter (held live env) v1)) (λ x v2. Go x (to.leave v1 v2)))
      within w1 v1 r1 = bind_follows (h b le f xs _ _ (entered w1 v1 r1)) (λ x w2 v2 r2. goes x _ _ (left w1 w2 v1 v2 r1 r2))

  module _ (calls : ℕ → List Value → W → Run W Value) (calls' : ℕ → List Value → V → Run V Value) (m : ℕ) (h : CallsFollow m calls calls') where
    pub value_follows : (live : ℕ → Bool) (e : Expr) (env : List Value) (w : W) (v : V) → At m w v → F m (value_of ops program calls live e env w) (value_of to program calls' live e env v)
    value_follows live e env w v r = eval_follows e _ _ m (calling_follows calls calls' m h live env) env w v r

    place_follows : (live : ℕ → Bool) (place : Place) (env : List Value) (w : W) (v : V) → At m w v → F m (target ops program place (calling ops program calls live env) env w) (target to program place (calling to program calls' live env) env v)
    place_follows live place env w v r = target_follows place _ _ m (calling_follows calls calls' m h live env) env w v r

    set_follows : (live : ℕ → Bool) (x : ℕ) (e : Expr) (env : List Value) (w : W) (v : V) → At m w v → F m (set_local ops program calls live x e env w) (set_local to program calls' live x e env v)
    set_follows live x e env w v r = bind_follows (value_follows _ e env w v r) (λ y w1 v1 r1. goes _ w1 v1 r1)

    changed_follows : (line : ℕ) (change : Change) (old x : Value) (w : W) (v : V) → At m w v → F m (changed ops program line change old x w) (changed to program line change old x v)
    changed_follows line (Compute from operator s) old x w v r = bind_follows (computed_follows m line _ w v r) (λ n w1 v1 r1. goes _ w1 v1 r1)
    changed_follows line (Step direction) old x w v r = op m w v r (alike.step line old _ w v r.0)

    test_follows : (live : ℕ → Bool) (test : Option Expr) (env : List Value) (w : W) (v : V) → At m w v → F m (test_of ops program calls live test env w) (test_of to program calls' live test env v)
    test_follows live None env w v r = goes _ w v r
    test_follows live (Some e) env w v r = value_follows live e env w v r

  -- what goes on with locals
  abbrev GoOn : ℕ → (List Value → W → Run W Flow) → (List Value → V → Run V Flow) → Type 0
  GoOn m go go' = (env : List Value) (w : W) (v : V) → At m w v → F m (go env w) (go' env v)

  behind_follows : (m : ℕ) (go : List Value → W → Run W Flow) (go' : List Value → V → Run V Flow) → GoOn m go go' → (x : Flow) (w : W) (v : V) → At m w v → F m (behind go x w) (behind go' x v)
  behind_follows m go go' h (Next env) w v r = h env w v r
  behind_follows m go go' h (Broke env) w v r = goes _ w v r
  behind_follows m go go' h (Continued env) w v r = goes _ w v r
  behind_follows m go go' h (Returned x) w v r = goes _ w v r

  behind_body_follows : (m : ℕ) (go : List Value → W → Run W Flow) (go' : List Value → V → Run V Flow) → GoOn m go go' → (x : Flow) (w : W) (v : V) → At m w v → F m (behind_body go x w) (behind_body go' x v)
  behind_body_follows m go go' h (Next env) w v r = h env w v r
  behind_body_follows m go go' h (Broke env) w v r = goes _ w v r
  behind_body_follows m go go' h (Continued env) w v r = h env w v r
  behind_body_follows m go go' h (Returned x) w v r = goes _ w v r

  result_follows : (m : ℕ) (result : Option Ty) (x : Flow) (w : W) (v : V) → At m w v → F m (result_of result x w) (result_of result x v)
  result_follows m result (Next env) w v r = goes _ w v r
  result_follows m result (Broke env) w v r = goes _ w v r
  result_follows m result (Continued env) w v r = goes _ w v r
  result_follows m result (Returned x) w v r = goes _ w v r

  -- bodies of loops, given what follows a round
  abbrev Rounds : ℕ → ((List Value → W → Run W Flow) → List Value → W → Run W Flow) → ((List Value → V → Run V Flow) → List Value → V → Run V Flow) → Type 0
  Rounds most body body' = (m : ℕ) → m ≤ most → (go : List Value → W → Run W Flow) (go' : List Value → V → Run V Flow) → GoOn m go go' → GoOn m (body go) (body' go')

  abbrev Tests : ℕ → (List Value → W → Run W Value) → (List Value → V → Run V Value) → Type 0
  Tests most test test' = (m : ℕ) → m ≤ most → (env : List Value) (w : W) (v : V) → At m w v → F m (test env w) (test' env v)

  -- a turn, and what goes on with fewer turns
  turn_follows : {A : Type 0} (m : ℕ) (k : W → Run W A) (l : V → Run V A) → ((b : ℕ) → b < m → (w : W) (v : V) → At b w v → F b (k w) (l v)) →
      (w : W) (v : V) → At m w v → F m (bind (ops.take_turn w) (λ _. k)) (bind (to.take_turn v) (λ _. l))
  turn_follows m k l h w v r =
      bind_follows (weaken (alike.take_turn w v r.0) (λ x y s. s) (λ x y s. (s.0, omega (arith, s.1, r.1))))
      (λ _ x y s. op m x y (s.0, omega (arith, s.1, r.1)) (h (ops.turns_left x) (omega (arith, s.1, r.1)) x y (s.0, omega arith)))

  module _ (most : ℕ) (test : List Value → W → Run W Value) (test' : List Value → V → Run V Value) (t : Tests most test test')
      (body : (List Value → W → Run W Flow) → List Value → W → Run W Flow) (body' : (List Value → V → Run V Flow) → List Value → V → Run V Flow) (b : Rounds most body body') where
    pub rounds_follow : (n n' m : ℕ) → m ≤ most → m < n → m < n' → GoOn m (rounds ops program n test body) (rounds to program n' test' body')
    rounds_follow zero n' m le lt lt' env w v r = absurd (omega (arith, lt))
    rounds_follow (suc n) zero m le lt lt' env w v r = absurd (omega (arith, lt'))
    rounds_follow (suc n) (suc n') m le lt lt' env w v r =
        bind_follows (t m le env w v r) (λ x. branching_follows m (is_true x) _ _ _ _
        (b m le _ _ (λ env1. turn_follows m _ _ (λ a la. rounds_follow n n' a (omega (arith, la, le)) (omega (arith, la, lt)) (omega (arith, la, lt')) env1)) env)
        (λ w1 v1 r1. goes _ w1 v1 r1))

    pub rounds_first_follow : (n n' m : ℕ) → m ≤ most → m < n → m < n' → GoOn m (rounds_first ops program n test body) (rounds_first to program n' test' body')
    rounds_first_follow zero n' m le lt lt' env w v r = absurd (omega (arith, lt))
    rounds_first_follow (suc n) zero m le lt lt' env w v r = absurd (omega (arith, lt'))
    rounds_first_follow (suc n) (suc n') m le lt lt' env w v r =
        b m le _ _ (λ env1 w1 v1 r1. bind_follows (t m le env1 w1 v1 r1) (λ x. branching_follows m (is_true x) _ _ _ _
        (turn_follows m _ _ (λ a la. rounds_first_follow n n' a (omega (arith, la, le)) (omega (arith, la, lt)) (omega (arith, la, lt')) env1))
        (λ w2 v2 r2. goes _ w2 v2 r2))) env w v r

  mutual
    pub exec_follows : (s : Stmt) (f : Function) (calls : ℕ → List Value → W → Run W Value) (calls' : ℕ → List Value → V → Run V Value) (m : ℕ) (h : CallsFollow m calls calls') (k : Ways) →
        GoOn m (exec ops program s f calls k) (exec to program s f calls' k)
    exec_follows (block body) f c d m h k env w v r = exec_all_follows body f c d m h k env w v r
    exec_follows (declare line x None) f c d m h k env w v r = goes _ w v r
    exec_follows (declare line x (Some e)) f c d m h k env w v r = set_follows c d m h k.next x e env w v r
    exec_follows (assign line x e) f c d m h k env w v r = set_follows c d m h k.next x e env w v r
    exec_follows (store line place e) f c d m h k env w v r =
        bind_follows (place_follows c d m h k.next place env w v r) (λ t w1 v1 r1. bind_follows (value_follows c d m h k.next e env w1 v1 r1) (λ x w2 v2 r2.
        bind_follows (op m w2 v2 r2 (alike.store line t x w2 v2 r2.0)) (λ _ w3 v3 r3. goes _ w3 v3 r3)))
    exec_follows (update line place change e) f c d m h k env w v r =
        bind_follows (place_follows c d m h k.next place env w v r) (λ t w1 v1 r1. bind_follows (value_follows c d m h k.next e env w1 v1 r1) (λ x w2 v2 r2.
        bind_follows (op m w2 v2 r2 (alike.load line t w2 v2 r2.0)) (λ old w3 v3 r3. bind_follows (changed_follows c d m h line change old x w3 v3 r3) (λ new w4 v4 r4.
        bind_follows (op m w4 v4 r4 (alike.store line t new w4 v4 r4.0)) (λ _ w5 v5 r5. goes _ w5 v5 r5)))))
    exec_follows (copy line s left right) f c d m h k env w v r =
        bind_follows (place_follows c d m h k.next left env w v r) (λ t w1 v1 r1. bind_follows (place_follows c d m h k.next right env w1 v1 r1) (λ from w2 v2 r2.
        bind_follows (op m w2 v2 r2 (alike.load_all line from _ w2 v2 r2.0)) (λ xs w3 v3 r3. bind_follows (op m w3 v3 r3 (alike.store_all line t xs w3 v3 r3.0)) (λ _ w4 v4 r4. goes _ w4 v4 r4))))
    exec_follows (evaluate line e) f c d m h k env w v r = bind_follows (value_follows c d m h k.next e env w v r) (λ _ w1 v1 r1. goes _ w1 v1 r1)
    exec_follows (delete line e) f c d m h k env w v r =
        bind_follows (value_follows c d m h k.next e env w v r) (λ x w1 v1 r1. bind_follows (op m w1 v1 r1 (alike.delete line (held k.next env) x w1 v1 r1.0)) (λ _ w2 v2 r2. goes _ w2 v2 r2))
    exec_follows (branch line test a b) f c d m h k env w v r =
        bind_follows (value_follows c d m h (either (before a k) (before b k)) test env w v r) (λ x. branching_follows m (is_true x) _ _ _ _ (exec_follows a f c d m h k env) (exec_follows b f c d m h k env))
    exec_follows (while line test body) f c d m h k env w v r = op m w v r
        (rounds_follow m _ _ (λ a la. value_follows c d a (restrict a m c d la h) (either k.next (before body (while_body test body k))) test) _ _
        (λ a la go go' g env1 w1 v1 r1. bind_follows (exec_follows body f c d a (restrict a m c d la h) (while_body test body k) env1 w1 v1 r1) (behind_body_follows a go go' g))
        (suc (ops.turns_left w)) (suc (to.turns_left v)) (ops.turns_left w) r.1 (omega arith) (omega (arith, alike.turns_left w v r.0)) env w v (r.0, omega arith))
    exec_follows (repeat line body test) f c d m h k env w v r = op m w v r
        (rounds_first_follow m _ _ (λ a la. value_follows c d a (restrict a m c d la h) (either k.next (repeat_head body test k)) test) _ _
        (λ a la go go' g env1 w1 v1 r1. bind_follows (exec_follows body f c d a (restrict a m c d la h) (repeat_body body test k) env1 w1 v1 r1) (behind_body_follows a go go' g))
        (suc (ops.turns_left w)) (suc (to.turns_left v)) (ops.turns_left w) r.1 (omega arith) (omega (arith, alike.turns_left w v r.0)) env w v (r.0, omega arith))
    exec_follows (for line first test third body) f c d m h k env w v r =
        bind_follows (exec_follows first f c d m h (then_live (for_head test third body k) k) env w v r) (behind_follows m _ _ (λ env1 w1 v1 r1. op m w1 v1 r1
        (rounds_follow m _ _ (λ a la. test_follows c d a (restrict a m c d la h) (either k.next (before body (for_body test third body k))) test) _ _
        (λ a la go go' g env2 w2 v2 r2. bind_follows (exec_follows body f c d a (restrict a m c d la h) (for_body test third body k) env2 w2 v2 r2) (behind_body_follows a _ _ (λ env3 w3 v3 r3.
        bind_follows (exec_follows third f c d a (restrict a m c d la h) (for_third test third body k) env3 w3 v3 r3) (behind_follows a go go' g))))
        (suc (ops.turns_left w1)) (suc (to.turns_left v1)) (ops.turns_left w1) r1.1 (omega arith) (omega (arith, alike.turns_left w1 v1 r1.0)) env1 w1 v1 (r1.0, omega arith))))
    exec_follows (break line) f c d m h k env w v r = goes _ w v r
    exec_follows (continue line) f c d m h k env w v r = goes _ w v r
    exec_follows (return line None) f c d m h k env w v r = goes _ w v r
    exec_follows (return line (Some e)) f c d m h k env w v r = bind_follows (value_follows c d m h (λ _. false) e env w v r) (λ x w1 v1 r1. goes _ w1 v1 r1)

    pub exec_all_follows : (body : Stmts) (f : Function) (calls : ℕ → List Value → W → Run W Value) (calls' : ℕ → List Value → V → Run V Value) (m : ℕ) (h : CallsFollow m calls calls') (k : Ways) →
        GoOn m (exec_all ops program body f calls k) (exec_all to program body f calls' k)
    exec_all_follows done f c d m h k env w v r = goes _ w v r
    exec_all_follows (then s rest) f c d m h k env w v r = bind_follows (exec_follows s f c d m h (then_live (before_all rest k) k) env w v r) (behind_follows m _ _ (exec_all_follows rest f c d m h k))

  run_follows : (calls : ℕ → List Value → W → Run W Value) (calls' : ℕ → List Value → V → Run V Value) (m : ℕ) (h : CallsFollow m calls calls') (f : Option Function) (xs : List Value) (w : W) (v : V) → At m w v →
      F m (run_function ops program calls f xs w) (run_function to program calls' f xs v)
  run_follows c d m h None xs w v r = goes _ w v r
  run_follows c d m h (Some f) xs w v r = bind_follows (exec_follows f.body f c d m h at_end (first_locals f xs) w v r) (result_follows m f.result)

  pub calls_follow : (n n' most : ℕ) → most < n → most < n' → CallsFollow most (calls_within ops program n) (calls_within to program n')
  calls_follow zero n' most lt lt' m le f xs w v r = absurd (omega (arith, lt))
  calls_follow (suc n) zero most lt lt' m le f xs w v r = absurd (omega (arith, lt'))
  calls_follow (suc n) (suc n') most lt lt' m le f xs w v r =
      turn_follows m _ _ (λ a la w1 v1 r1. run_follows _ _ a (calls_follow n n' a (omega (arith, la, le, lt)) (omega (arith, la, le, lt'))) (slice_get program.functions f) xs w1 v1 r1) w v r

  pub main_follows : (w : W) (v : V) → R w v → F (ops.turns_left w) (run_main ops program w) (run_main to program v)
  main_follows w v r = calls_follow (suc (ops.turns_left w)) (suc (to.turns_left v)) (ops.turns_left w) (omega arith) (omega (arith, alike.turns_left w v r)) (ops.turns_left w) (omega arith) program.main [] w v (r, omega arith)
