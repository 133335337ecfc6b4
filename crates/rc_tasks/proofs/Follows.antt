-- A run in one world, and the same run in another where values are moved: where every operation goes alike, so does every
-- expression and statement that names only its own globals and strings.
use Rattle.rc_tasks.proofs.Common.{◌≡◌, ℕ, zero, suc, ◌+◌, ◌<◌, not, List, [], ◌∷◌, length, map, Option, Some, None, refl, sym, ap, ◌∙◌, subst, arith, ℤ, pos, Result, Ok, Err, Trap, Change, Compute, Step, byte_of, converted, type_of, calculate, calculate_one, Expr, constant, null, string, local, read, address, step, step_from, unary, binary, convert, not_zero, and, or, choose, is_null, same, call, new_region, new_subregion, region_of, allocate, allocate_array, putchar, getchar, Arguments, none, more, Place, global, pointed, indexed, Path, here, field, element, Stmt, block, declare, assign, store, copy, evaluate, delete, branch, while, repeat, for, break, continue, return, Stmts, done, then, Global, Function, Program, Ty, struct, Layout, cells, size, offset, count_of, stride, Value, Number, Null, Handle, Pointer, zero_of, Ways, before, before_all, then_live, either, while_body, repeat_body, repeat_head, for_head, for_third, for_body, at_end, Stop, Run, Go, Stopped, bind, branching, computed, Target, Calls, Ops, number_in, is_true, same_value, as_wanted, toward, static, aimed, further, choosing, region_named, local_at, give_number, eval, eval_all, target, along, Flow, Next, Broke, Continued, Returned, with_local, local_type, held, first_locals, deletes, zero_result, result_of, behind_body, behind, calling, value_of, set_local, changed, rounds, rounds_first, test_of, exec, exec_all, run_function, Reaches, AllReach, PlaceReaches, PathReaches, OptionReaches, StatementReaches, StatementsReach}
use Rattle.std.proofs.Common.{Bool, true, false}
use Rattle.rc_core.specs.Programs.{update}
use Rattle.rc_tasks.proofs.Moved.{place, moved, moved_target, moved_flow, number_moved, true_moved, same_moved, global_moved, string_moved, zero_moved, local_moved, with_local_moved, held_moved, first_locals_moved}

-- both come to the same but for what moves, in worlds that are related by R
pub data Follows {W V : Type 0} (R : W → V → Type 0) {A B : Type 0} (move : A → B) : Run W A → Run V B → Type 0 where
  goes : (x : A) (w : W) (v : V) → R w v → Follows R move (Go x w) (Go (move x) v)
  stops : (s : Stop) (w : W) (v : V) → R w v → Follows R move (Stopped s w) (Stopped s v)

abbrev pub same_as : {A : Type 0} → A → A
same_as x = x

module _ {W V : Type 0} (R : W → V → Type 0) where
  pub bind_follows : {A B C D : Type 0} {f : A → B} {g : C → D} {m : Run W A} {n : Run V B} {k : A → W → Run W C} (l : B → V → Run V D) →
      Follows R f m n → ((x : A) (w : W) (v : V) → R w v → Follows R g (k x w) (l (f x) v)) → Follows R g (bind m k) (bind n l)
  bind_follows l (goes x w v r) h = h x w v r
  bind_follows l (stops s w v r) h = stops s w v r

  -- it goes to a value that is the moved one
  pub goes_to : {A B : Type 0} {f : A → B} (x : A) (y : B) (w : W) (v : V) → f x ≡ y → R w v → Follows R f (Go x w) (Go y v)
  goes_to {f} x y w v e r = subst (λ z. Follows R f (Go x w) (Go z v)) e (goes x w v r)

  pub computed_follows : {A : Type 0} (line : ℕ) (x : Result A Trap) (w : W) (v : V) → R w v → Follows R same_as (computed line x w) (computed line x v)
  computed_follows line (Ok x) w v r = goes x w v r
  computed_follows line (Err t) w v r = stops _ w v r

  pub branching_follows : {A B : Type 0} {f : A → B} (b c : Bool) (m n : W → Run W A) (m' n' : V → Run V B) → b ≡ c → ((w : W) (v : V) → R w v → Follows R f (m w) (m' v)) → ((w : W) (v : V) → R w v → Follows R f (n w) (n' v)) →
      (w : W) (v : V) → R w v → Follows R f (branching b m n w) (branching c m' n' v)
  branching_follows {f} b c m n m' n' e h k w v r = subst (λ d. Follows R f (branching b m n w) (branching d m' n' v)) e (both b)
    where
      both : (d : Bool) → Follows R f (branching d m n w) (branching d m' n' v)
      both true = h w v r
      both false = k w v r

module _ {W V : Type 0} (R : W → V → Type 0) (g s : ℕ) where
  abbrev pub F : Run W Value → Run V Value → Type 0
  F m n = Follows R (moved g s) m n

  abbrev pub T : Run W (Unit {0}) → Run V (Unit {0}) → Type 0
  T m n = Follows R same_as m n

  -- each operation goes alike
  pub record Alike (ops : Ops W) (to : Ops V) : Type 0 where
    pub turns_left : (w : W) (v : V) → R w v → ops.turns_left w ≡ to.turns_left v
    pub take_turn : (w : W) (v : V) → R w v → T (ops.take_turn w) (to.take_turn v)
    pub get_byte : (w : W) (v : V) → R w v → Follows R same_as (ops.get_byte w) (to.get_byte v)
    pub put_byte : (b : ℕ) (w : W) (v : V) → R w v → T (ops.put_byte b w) (to.put_byte b v)
    pub new_region : (line : ℕ) (w : W) (v : V) → R w v → F (ops.new_region line w) (to.new_region line v)
    pub new_subregion : (line : ℕ) (p : Value) (w : W) (v : V) → R w v → F (ops.new_subregion line p w) (to.new_subregion line (moved g s p) v)
    pub allocate : (line : ℕ) (p : Value) (count : ℤ) (layout : Layout) (w : W) (v : V) → R w v → F (ops.allocate line p count layout w) (to.allocate line (moved g s p) count layout v)
    pub step : (line : ℕ) (p : Value) (n : ℤ) (w : W) (v : V) → R w v → F (ops.step line p n w) (to.step line (moved g s p) n v)
    pub load : (line : ℕ) (t : Target) (w : W) (v : V) → R w v → F (ops.load line t w) (to.load line (moved_target g s t) v)
    pub store : (line : ℕ) (t : Target) (x : Value) (w : W) (v : V) → R w v → T (ops.store line t x w) (to.store line (moved_target g s t) (moved g s x) v)
    pub load_all : (line : ℕ) (t : Target) (n : ℕ) (w : W) (v : V) → R w v → Follows R (map (moved g s)) (ops.load_all line t n w) (to.load_all line (moved_target g s t) n v)
    pub store_all : (line : ℕ) (t : Target) (xs : List Value) (w : W) (v : V) → R w v → T (ops.store_all line t xs w) (to.store_all line (moved_target g s t) (map (moved g s) xs) v)
    pub delete : (line : ℕ) (xs : List Value) (p : Value) (w : W) (v : V) → R w v → T (ops.delete line xs p w) (to.delete line (map (moved g s) xs) (moved g s p) v)
    pub enter : (xs : List Value) (w : W) (v : V) → R w v → R (ops.enter xs w) (to.enter (map (moved g s) xs) v)
    pub leave : (w w1 : W) (v v1 : V) → R w v → R w1 v1 → R (ops.leave w w1) (to.leave v v1)

-- of the other program only the globals' number and which functions delete count
module _ {W V : Type 0} (R : W → V → Type 0) (ops : Ops W) (to : Ops V) (program : Program) (globals : List Global) (strings : List (List ℕ)) (functions : List Function) (main : ℕ)
    (alike : Alike R (length program.globals) (length program.strings) ops to) (one_more : length globals ≡ suc (length program.globals))
    (same_deletes : (f : ℕ) → deletes (record { structs = program.structs; globals = globals; strings = strings; functions = functions; main = main }) f ≡ deletes program f) where
  abbrev other : Program
  other = record { structs = program.structs; globals = globals; strings = strings; functions = functions; main = main }

  abbrev g : ℕ
  g = length program.globals

  abbrev s : ℕ
  s = length program.strings

  abbrev m : Value → Value
  m = moved g s

  abbrev E : Expr → Type 0
  E e = Reaches g s e

  -- the calls go alike
  abbrev pub CallsFollow : Calls W → Calls V → Type 0
  CallsFollow calls calls' = (f : ℕ) (xs : List Value) (w : W) (v : V) → R w v → F R g s (calls f xs w) (calls' f (map m xs) v)

  static_moved : (k n : ℕ) → place g s k ≡ n → m (static k) ≡ static n
  static_moved k n e = ap (λ o. Pointer (record { region = 0; object = o; index = 0 })) e

  string_at : (k : ℕ) → k < s → m (static (g + k)) ≡ static (length globals + k)
  string_at k lt = static_moved (g + k) (length globals + k) (string_moved g s k lt ∙ n+ (length globals) g k one_more)
    where
      n+ : (a b k : ℕ) → a ≡ suc b → suc (b + k) ≡ a + k
      n+ a b k e = omega (arith, e)

  named_follows : (line : ℕ) (x : Value) (w : W) (v : V) → R w v → F R g s (region_named line x w) (region_named line (m x) v)
  named_follows line (Number n) w v r = stops _ w v r
  named_follows line Null w v r = stops _ w v r
  named_follows line (Handle q) w v r = goes _ w v r
  named_follows line (Pointer a) w v r = goes _ w v r

  given : (n : ℤ) (w : W) (v : V) → R w v → F R g s (give_number n w) (give_number n v)
  given n w v r = goes (Number n) w v r

  wanted_moved : (b c : Bool) → m (as_wanted b c) ≡ as_wanted b c
  wanted_moved true c = refl
  wanted_moved false c = refl

  mutual
    pub eval_follows : (e : Expr) → E e → (c : Calls W) (d : Calls V) → CallsFollow c d → (env : List Value) (w : W) (v : V) → R w v → F R g s (eval ops program e c env w) (eval to other e d (map m env) v)
    eval_follows (constant line sg n) i c d h env w v r = goes (Number n) w v r
    eval_follows (null line) i c d h env w v r = goes Null w v r
    eval_follows (string line k) i c d h env w v r = goes_to R (static (g + k)) _ w v (string_at k i) r
    eval_follows (local line x) i c d h env w v r = goes_to R (local_at env x) _ w v (sym (local_moved g s env x)) r
    eval_follows (read line place) i c d h env w v r = bind_follows R _ (target_follows place i c d h env w v r) (λ t w1 v1 r1. alike.load line t w1 v1 r1)
    eval_follows (address line k) i c d h env w v r = goes_to R (static k) _ w v (static_moved k k (global_moved g s k i)) r
    eval_follows (step line direction p n) i c d h env w v r =
        bind_follows R _ (eval_follows p i.0 c d h env w v r) (λ x w1 v1 r1. bind_follows R _ (eval_follows n i.1 c d h env w1 v1 r1) (λ y w2 v2 r2.
        rw (number_moved g s y) (alike.step line x (toward direction (number_in y)) w2 v2 r2)))
    eval_follows (step_from line n p) i c d h env w v r =
        bind_follows R _ (eval_follows n i.0 c d h env w v r) (λ y w1 v1 r1. bind_follows R _ (eval_follows p i.1 c d h env w1 v1 r1) (λ x w2 v2 r2.
        rw (number_moved g s y) (alike.step line x (number_in y) w2 v2 r2)))
    eval_follows (unary line operator sg e) i c d h env w v r =
        bind_follows R _ (eval_follows e i c d h env w v r) (λ x w1 v1 r1. rw (number_moved g s x) (bind_follows R _ (computed_follows R line (calculate_one operator sg (number_in x)) w1 v1 r1) given))
    eval_follows (binary line operator sg a b) i c d h env w v r =
        bind_follows R _ (eval_follows a i.0 c d h env w v r) (λ x w1 v1 r1. bind_follows R _ (eval_follows b i.1 c d h env w1 v1 r1) (λ y w2 v2 r2.
        rw (number_moved g s x, number_moved g s y) (bind_follows R _ (computed_follows R line (calculate operator sg (number_in x) (number_in y)) w2 v2 r2) given)))
    eval_follows (convert line from ty e) i c d h env w v r = bind_follows R _ (eval_follows e i c d h env w v r) (λ x w1 v1 r1. goes_to R (Number (converted ty (number_in x))) _ w1 v1 (ap (λ n. Number (converted ty n)) (sym (number_moved g s x))) r1)
    eval_follows (not_zero line e) i c d h env w v r = bind_follows R _ (eval_follows e i c d h env w v r) (λ x w1 v1 r1. goes_to R (as_wanted false (is_true x)) _ w1 v1 (wanted_moved false (is_true x) ∙ ap (as_wanted false) (sym (true_moved g s x))) r1)
    eval_follows (and line a b) i c d h env w v r =
        bind_follows R _ (eval_follows a i.0 c d h env w v r) (λ x. branching_follows R (is_true x) (is_true (m x)) _ _ _ _ (sym (true_moved g s x))
        (λ w1 v1 r1. bind_follows R _ (eval_follows b i.1 c d h env w1 v1 r1) (λ y w2 v2 r2. goes_to R (as_wanted true (is_true y)) _ w2 v2 (wanted_moved true (is_true y) ∙ ap (as_wanted true) (sym (true_moved g s y))) r2))
        (λ w1 v1 r1. goes (Number (pos 0)) w1 v1 r1))
    eval_follows (or line a b) i c d h env w v r =
        bind_follows R _ (eval_follows a i.0 c d h env w v r) (λ x. branching_follows R (is_true x) (is_true (m x)) _ _ _ _ (sym (true_moved g s x))
        (λ w1 v1 r1. goes (Number (pos 1)) w1 v1 r1)
        (λ w1 v1 r1. bind_follows R _ (eval_follows b i.1 c d h env w1 v1 r1) (λ y w2 v2 r2. goes_to R (as_wanted true (is_true y)) _ w2 v2 (wanted_moved true (is_true y) ∙ ap (as_wanted true) (sym (true_moved g s y))) r2)))
    eval_follows (choose line test a b) i c d h env w v r =
        bind_follows R _ (eval_follows test i.0 c d h env w v r) (λ x. branching_follows R (is_true x) (is_true (m x)) _ _ _ _ (sym (true_moved g s x)) (eval_follows a i.1 c d h env) (eval_follows b i.2 c d h env))
    eval_follows (is_null line wanted e) i c d h env w v r = bind_follows R _ (eval_follows e i c d h env w v r) (λ x w1 v1 r1. goes_to R (as_wanted wanted (not (is_true x))) _ w1 v1 (wanted_moved wanted (not (is_true x)) ∙ ap (λ b. as_wanted wanted (not b)) (sym (true_moved g s x))) r1)
    eval_follows (same line wanted a b) i c d h env w v r =
        bind_follows R _ (eval_follows a i.0 c d h env w v r) (λ x w1 v1 r1. bind_follows R _ (eval_follows b i.1 c d h env w1 v1 r1) (λ y w2 v2 r2. goes_to R (as_wanted wanted (same_value x y)) _ w2 v2 (wanted_moved wanted (same_value x y) ∙ ap (as_wanted wanted) (sym (same_moved g s x y))) r2))
    eval_follows (call line f arguments) i c d h env w v r = bind_follows R _ (all_follow arguments i c d h env w v r) (h f)
    eval_follows (new_region line) i c d h env w v r = alike.new_region line w v r
    eval_follows (new_subregion line p) i c d h env w v r = bind_follows R _ (eval_follows p i c d h env w v r) (λ x w1 v1 r1. alike.new_subregion line x w1 v1 r1)
    eval_follows (region_of line p) i c d h env w v r = bind_follows R _ (eval_follows p i c d h env w v r) (named_follows line)
    eval_follows (allocate line p ty) i c d h env w v r = bind_follows R _ (eval_follows p i c d h env w v r) (λ x w1 v1 r1. alike.allocate line x _ _ w1 v1 r1)
    eval_follows (allocate_array line p n ty) i c d h env w v r =
        bind_follows R _ (eval_follows p i.0 c d h env w v r) (λ x w1 v1 r1. bind_follows R _ (eval_follows n i.1 c d h env w1 v1 r1) (λ y w2 v2 r2. rw (number_moved g s y) (alike.allocate line x (number_in y) (cells program.structs ty) w2 v2 r2)))
    eval_follows (putchar line e) i c d h env w v r =
        bind_follows R _ (eval_follows e i c d h env w v r) (λ x w1 v1 r1. rw (number_moved g s x) (bind_follows R _ (alike.put_byte (byte_of (number_in x)) w1 v1 r1) (λ y w2 v2 r2. goes (Number (pos (byte_of (number_in x)))) w2 v2 r2)))
    eval_follows (getchar line) i c d h env w v r = bind_follows R _ (alike.get_byte w v r) given

    pub all_follow : (es : Arguments) → AllReach g s es → (c : Calls W) (d : Calls V) → CallsFollow c d → (env : List Value) (w : W) (v : V) → R w v → Follows R (map m) (eval_all ops program es c env w) (eval_all to other es d (map m env) v)
    all_follow none i c d h env w v r = goes [] w v r
    all_follow (more e rest) i c d h env w v r = bind_follows R _ (eval_follows e i.0 c d h env w v r) (λ x w1 v1 r1. bind_follows R _ (all_follow rest i.1 c d h env w1 v1 r1) (λ xs w2 v2 r2. goes (x ∷ xs) w2 v2 r2))

    pub target_follows : (p : Place) → PlaceReaches g s p → (c : Calls W) (d : Calls V) → CallsFollow c d → (env : List Value) (w : W) (v : V) → R w v → Follows R (moved_target g s) (target ops program p c env w) (target to other p d (map m env) v)
    target_follows (global k path) i c d h env w v r =
        subst (λ z. Follows R (moved_target g s) (along ops program path (aimed (static k) (pos 0)) c env w) (along to other path (aimed z (pos 0)) d (map m env) v)) (static_moved k k (global_moved g s k i.0))
        (along_follows path i.1 (aimed (static k) (pos 0)) c d h env w v r)
    target_follows (pointed p path) i c d h env w v r = bind_follows R _ (eval_follows p i.0 c d h env w v r) (λ x w1 v1 r1. along_follows path i.1 (aimed x (pos 0)) c d h env w1 v1 r1)
    target_follows (indexed p n path) i c d h env w v r =
        bind_follows R _ (eval_follows p i.0 c d h env w v r) (λ x w1 v1 r1. bind_follows R _ (eval_follows n i.1 c d h env w1 v1 r1) (λ y w2 v2 r2. rw (number_moved g s y) (along_follows path i.2 (aimed x (number_in y)) c d h env w2 v2 r2)))

    pub along_follows : (path : Path) → PathReaches g s path → (t : Target) (c : Calls W) (d : Calls V) → CallsFollow c d → (env : List Value) (w : W) (v : V) → R w v → Follows R (moved_target g s) (along ops program path t c env w) (along to other path (moved_target g s t) d (map m env) v)
    along_follows here i t c d h env w v r = goes t w v r
    along_follows (field st f rest) i t c d h env w v r = along_follows rest i (further (offset program.structs st f) t) c d h env w v r
    along_follows (element st f n rest) i t c d h env w v r =
        bind_follows R _ (eval_follows n i.0 c d h env w v r) (λ y w1 v1 r1. rw (number_moved g s y)
        (along_follows rest i.1 (choosing (record { index = number_in y; count = count_of program.structs st f; stride = stride program.structs st f }) (further (offset program.structs st f) t)) c d h env w1 v1 r1))

  pub calling_follows : (c : Calls W) (d : Calls V) → CallsFollow c d → (live : ℕ → Bool) (env : List Value) → CallsFollow (calling ops program c live env) (calling to other d live (map m env))
  calling_follows c d h live env f xs w v r =
      branching_follows R (deletes program f) (deletes other f) _ _ _ _ (sym (same_deletes f)) within (λ w1 v1 r1. h f xs w1 v1 r1) w v r
    where
      within : (w1 : W) (v1 : V) → R w1 v1 → F R g s (bind (c f xs (ops.enter (held live env) w1)) (λ x w2. Go x (ops.leave w1 w2))) (bind (d f (map m xs) (to.enter (held live (map m env)) v1)) (λ x v2. Go x (to.leave v1 v2)))
      within w1 v1 r1 =
          rw (held_moved g s live env) (bind_follows R _ (h f xs _ _ (alike.enter (held live env) w1 v1 r1)) (λ x w2 v2 r2. goes x _ _ (alike.leave w1 w2 v1 v2 r1 r2)))

  module _ (c : Calls W) (d : Calls V) (h : CallsFollow c d) where
    pub value_follows : (live : ℕ → Bool) (e : Expr) → E e → (env : List Value) (w : W) (v : V) → R w v → F R g s (value_of ops program c live e env w) (value_of to other d live e (map m env) v)
    value_follows live e i env w v r = eval_follows e i _ _ (calling_follows c d h live env) env w v r

    place_follows : (live : ℕ → Bool) (p : Place) → PlaceReaches g s p → (env : List Value) (w : W) (v : V) → R w v → Follows R (moved_target g s) (target ops program p (calling ops program c live env) env w) (target to other p (calling to other d live (map m env)) (map m env) v)
    place_follows live p i env w v r = target_follows p i _ _ (calling_follows c d h live env) env w v r

    set_follows : (live : ℕ → Bool) (x : ℕ) (e : Expr) → E e → (env : List Value) (w : W) (v : V) → R w v → Follows R (moved_flow g s) (set_local ops program c live x e env w) (set_local to other d live x e (map m env) v)
    set_follows live x e i env w v r =
        bind_follows R _ (value_follows _ e i env w v r) (λ y w1 v1 r1. goes_to R (Next (with_local env x y)) _ w1 v1 (ap Next (sym (with_local_moved g s env x y))) r1)

    changed_follows : (line : ℕ) (change : Change) (old x : Value) (w : W) (v : V) → R w v → F R g s (changed ops program line change old x w) (changed to other line change (m old) (m x) v)
    changed_follows line (Compute from operator sg) old x w v r =
        rw (number_moved g s old, number_moved g s x) (bind_follows R _ (computed_follows R line (calculate operator sg (converted (type_of sg) (number_in old)) (number_in x)) w v r) (λ n w1 v1 r1. goes (Number (converted from n)) w1 v1 r1))
    changed_follows line (Step direction) old x w v r =
        subst (λ n. F R g s (ops.step line old (toward direction (number_in x)) w) (to.step line (m old) (toward direction n) v)) (sym (number_moved g s x)) (alike.step line old (toward direction (number_in x)) w v r)

    test_follows : (live : ℕ → Bool) (test : Option Expr) → OptionReaches g s test → (env : List Value) (w : W) (v : V) → R w v → F R g s (test_of ops program c live test env w) (test_of to other d live test (map m env) v)
    test_follows live None i env w v r = goes (Number (pos 1)) w v r
    test_follows live (Some e) i env w v r = value_follows live e i env w v r

  -- what goes on with locals
  abbrev GoOn : (List Value → W → Run W Flow) → (List Value → V → Run V Flow) → Type 0
  GoOn go go' = (env : List Value) (w : W) (v : V) → R w v → Follows R (moved_flow g s) (go env w) (go' (map m env) v)

  behind_follows : (go : List Value → W → Run W Flow) (go' : List Value → V → Run V Flow) → GoOn go go' → (x : Flow) (w : W) (v : V) → R w v → Follows R (moved_flow g s) (behind go x w) (behind go' (moved_flow g s x) v)
  behind_follows go go' h (Next env) w v r = h env w v r
  behind_follows go go' h (Broke env) w v r = goes (Broke env) w v r
  behind_follows go go' h (Continued env) w v r = goes (Continued env) w v r
  behind_follows go go' h (Returned x) w v r = goes (Returned x) w v r

  behind_body_follows : (go : List Value → W → Run W Flow) (go' : List Value → V → Run V Flow) → GoOn go go' → (x : Flow) (w : W) (v : V) → R w v → Follows R (moved_flow g s) (behind_body go x w) (behind_body go' (moved_flow g s x) v)
  behind_body_follows go go' h (Next env) w v r = h env w v r
  behind_body_follows go go' h (Broke env) w v r = goes (Next env) w v r
  behind_body_follows go go' h (Continued env) w v r = h env w v r
  behind_body_follows go go' h (Returned x) w v r = goes (Returned x) w v r

  zero_result_moved : (result : Option Ty) → m (zero_result result) ≡ zero_result result
  zero_result_moved None = refl
  zero_result_moved (Some ty) = zero_moved g s ty

  pub result_follows : (result : Option Ty) (x : Flow) (w : W) (v : V) → R w v → F R g s (result_of result x w) (result_of result (moved_flow g s x) v)
  result_follows result (Next env) w v r = goes_to R (zero_result result) _ w v (zero_result_moved result) r
  result_follows result (Broke env) w v r = goes_to R (zero_result result) _ w v (zero_result_moved result) r
  result_follows result (Continued env) w v r = goes_to R (zero_result result) _ w v (zero_result_moved result) r
  result_follows result (Returned x) w v r = goes x w v r

  -- bodies of loops, given what follows a round
  abbrev Rounds : ((List Value → W → Run W Flow) → List Value → W → Run W Flow) → ((List Value → V → Run V Flow) → List Value → V → Run V Flow) → Type 0
  Rounds body body' = (go : List Value → W → Run W Flow) (go' : List Value → V → Run V Flow) → GoOn go go' → GoOn (body go) (body' go')

  abbrev Tests : (List Value → W → Run W Value) → (List Value → V → Run V Value) → Type 0
  Tests test test' = (env : List Value) (w : W) (v : V) → R w v → F R g s (test env w) (test' (map m env) v)

  module _ (test : List Value → W → Run W Value) (test' : List Value → V → Run V Value) (t : Tests test test')
      (body : (List Value → W → Run W Flow) → List Value → W → Run W Flow) (body' : (List Value → V → Run V Flow) → List Value → V → Run V Flow) (b : Rounds body body') where
    rounds_follow : (n : ℕ) → GoOn (rounds ops program n test body) (rounds to other n test' body')
    rounds_follow zero env w v r = stops _ w v r
    rounds_follow (suc n) env w v r =
        bind_follows R _ (t env w v r) (λ x. branching_follows R (is_true x) (is_true (m x)) _ _ _ _ (sym (true_moved g s x))
        (b _ _ (λ env1 w1 v1 r1. bind_follows R _ (alike.take_turn w1 v1 r1) (λ _ w2 v2 r2. rounds_follow n env1 w2 v2 r2)) env)
        (λ w1 v1 r1. goes (Next env) w1 v1 r1))

    rounds_first_follow : (n : ℕ) → GoOn (rounds_first ops program n test body) (rounds_first to other n test' body')
    rounds_first_follow zero env w v r = stops _ w v r
    rounds_first_follow (suc n) env w v r =
        b _ _ (λ env1 w1 v1 r1. bind_follows R _ (t env1 w1 v1 r1) (λ x. branching_follows R (is_true x) (is_true (m x)) _ _ _ _ (sym (true_moved g s x))
        (λ w2 v2 r2. bind_follows R _ (alike.take_turn w2 v2 r2) (λ _ w3 v3 r3. rounds_first_follow n env1 w3 v3 r3))
        (λ w2 v2 r2. goes (Next env1) w2 v2 r2))) env w v r

    -- both have as many turns left
    pub loop_follows : GoOn (λ env w. rounds ops program (suc (ops.turns_left w)) test body env w) (λ env v. rounds to other (suc (to.turns_left v)) test' body' env v)
    loop_follows env w v r = subst (λ n. Follows R (moved_flow g s) (rounds ops program (suc (ops.turns_left w)) test body env w) (rounds to other (suc n) test' body' (map m env) v)) (alike.turns_left w v r) (rounds_follow (suc (ops.turns_left w)) env w v r)

    pub first_loop_follows : GoOn (λ env w. rounds_first ops program (suc (ops.turns_left w)) test body env w) (λ env v. rounds_first to other (suc (to.turns_left v)) test' body' env v)
    first_loop_follows env w v r = subst (λ n. Follows R (moved_flow g s) (rounds_first ops program (suc (ops.turns_left w)) test body env w) (rounds_first to other (suc n) test' body' (map m env) v)) (alike.turns_left w v r) (rounds_first_follow (suc (ops.turns_left w)) env w v r)

  -- bodies of loops
  abbrev body_of : {X : Type 0} → Ops X → Program → Calls X → Stmt → Function → Ways → (List Value → X → Run X Flow) → List Value → X → Run X Flow
  body_of o p calls body f k again env w = bind (exec o p body f calls k env w) (behind_body again)

  abbrev for_body_of : {X : Type 0} → Ops X → Program → Calls X → (third body : Stmt) → Function → (k l : Ways) → (List Value → X → Run X Flow) → List Value → X → Run X Flow
  for_body_of o p calls third body f k l again env w = bind (exec o p body f calls k env w) (behind_body (λ env1 w1. bind (exec o p third f calls l env1 w1) (behind again)))

  mutual
    pub exec_follows : (st : Stmt) → StatementReaches g s st → (f : Function) (c : Calls W) (d : Calls V) → CallsFollow c d → (k : Ways) → GoOn (exec ops program st f c k) (exec to other st f d k)
    exec_follows (block body) i f c d h k env w v r = exec_all_follows body i f c d h k env w v r
    exec_follows (declare line x None) i f c d h k env w v r =
        goes_to R (Next (with_local env x (zero_of (local_type f x)))) _ w v
        (ap Next (sym (with_local_moved g s env x (zero_of (local_type f x)))) ∙ ap (λ y. Next (with_local (map m env) x y)) (zero_moved g s (local_type f x))) r
    exec_follows (declare line x (Some e)) i f c d h k env w v r = set_follows c d h k.next x e i env w v r
    exec_follows (assign line x e) i f c d h k env w v r = set_follows c d h k.next x e i env w v r
    exec_follows (store line p e) i f c d h k env w v r =
        bind_follows R _ (place_follows c d h k.next p i.0 env w v r) (λ t w1 v1 r1. bind_follows R _ (value_follows c d h k.next e i.1 env w1 v1 r1) (λ x w2 v2 r2.
        bind_follows R _ (alike.store line t x w2 v2 r2) (λ _ w3 v3 r3. goes (Next env) w3 v3 r3)))
    exec_follows (update line p change e) i f c d h k env w v r =
        bind_follows R _ (place_follows c d h k.next p i.0 env w v r) (λ t w1 v1 r1. bind_follows R _ (value_follows c d h k.next e i.1 env w1 v1 r1) (λ x w2 v2 r2.
        bind_follows R _ (alike.load line t w2 v2 r2) (λ old w3 v3 r3. bind_follows R _ (changed_follows c d h line change old x w3 v3 r3) (λ new w4 v4 r4.
        bind_follows R _ (alike.store line t new w4 v4 r4) (λ _ w5 v5 r5. goes (Next env) w5 v5 r5)))))
    exec_follows (copy line st left right) i f c d h k env w v r =
        bind_follows R _ (place_follows c d h k.next left i.0 env w v r) (λ t w1 v1 r1. bind_follows R _ (place_follows c d h k.next right i.1 env w1 v1 r1) (λ from w2 v2 r2.
        bind_follows R _ (alike.load_all line from (size program.structs (struct st)) w2 v2 r2) (λ xs w3 v3 r3. bind_follows R _ (alike.store_all line t xs w3 v3 r3) (λ _ w4 v4 r4. goes (Next env) w4 v4 r4))))
    exec_follows (evaluate line e) i f c d h k env w v r = bind_follows R _ (value_follows c d h k.next e i env w v r) (λ _ w1 v1 r1. goes (Next env) w1 v1 r1)
    exec_follows (delete line e) i f c d h k env w v r =
        bind_follows R _ (value_follows c d h k.next e i env w v r) (λ x w1 v1 r1. rw (held_moved g s k.next env)
        (bind_follows R _ (alike.delete line (held k.next env) x w1 v1 r1) (λ _ w2 v2 r2. goes (Next env) w2 v2 r2)))
    exec_follows (branch line test a b) i f c d h k env w v r =
        bind_follows R _ (value_follows c d h (either (before a k) (before b k)) test i.0 env w v r) (λ x. branching_follows R (is_true x) (is_true (m x)) _ _ _ _ (sym (true_moved g s x))
        (exec_follows a i.1 f c d h k env) (exec_follows b i.2 f c d h k env))
    exec_follows (while line test body) i f c d h k env w v r =
        loop_follows (value_of ops program c (either k.next (before body (while_body test body k))) test) (value_of to other d (either k.next (before body (while_body test body k))) test)
        (value_follows c d h (either k.next (before body (while_body test body k))) test i.0)
        (body_of ops program c body f (while_body test body k)) (body_of to other d body f (while_body test body k))
        (λ go go' b env1 w1 v1 r1. bind_follows R _ (exec_follows body i.1 f c d h (while_body test body k) env1 w1 v1 r1) (behind_body_follows go go' b)) env w v r
    exec_follows (repeat line body test) i f c d h k env w v r =
        first_loop_follows (value_of ops program c (either k.next (repeat_head body test k)) test) (value_of to other d (either k.next (repeat_head body test k)) test)
        (value_follows c d h (either k.next (repeat_head body test k)) test i.1)
        (body_of ops program c body f (repeat_body body test k)) (body_of to other d body f (repeat_body body test k))
        (λ go go' b env1 w1 v1 r1. bind_follows R _ (exec_follows body i.0 f c d h (repeat_body body test k) env1 w1 v1 r1) (behind_body_follows go go' b)) env w v r
    exec_follows (for line first test third body) i f c d h k env w v r =
        bind_follows R _ (exec_follows first i.0 f c d h (then_live (for_head test third body k) k) env w v r) (behind_follows _ _
        (loop_follows (test_of ops program c (either k.next (before body (for_body test third body k))) test) (test_of to other d (either k.next (before body (for_body test third body k))) test)
        (test_follows c d h (either k.next (before body (for_body test third body k))) test i.1)
        (for_body_of ops program c third body f (for_body test third body k) (for_third test third body k)) (for_body_of to other d third body f (for_body test third body k) (for_third test third body k))
        (λ go go' b env2 w2 v2 r2. bind_follows R _ (exec_follows body i.3 f c d h (for_body test third body k) env2 w2 v2 r2) (behind_body_follows _ _ (λ env3 w3 v3 r3.
        bind_follows R _ (exec_follows third i.2 f c d h (for_third test third body k) env3 w3 v3 r3) (behind_follows go go' b))))))
    exec_follows (break line) i f c d h k env w v r = goes (Broke env) w v r
    exec_follows (continue line) i f c d h k env w v r = goes (Continued env) w v r
    exec_follows (return line None) i f c d h k env w v r = goes (Returned Null) w v r
    exec_follows (return line (Some e)) i f c d h k env w v r = bind_follows R _ (value_follows c d h (λ _. false) e i env w v r) (λ x w1 v1 r1. goes (Returned x) w1 v1 r1)

    pub exec_all_follows : (body : Stmts) → StatementsReach g s body → (f : Function) (c : Calls W) (d : Calls V) → CallsFollow c d → (k : Ways) → GoOn (exec_all ops program body f c k) (exec_all to other body f d k)
    exec_all_follows done i f c d h k env w v r = goes (Next env) w v r
    exec_all_follows (then st rest) i f c d h k env w v r = bind_follows R _ (exec_follows st i.0 f c d h (then_live (before_all rest k) k) env w v r) (behind_follows _ _ (exec_all_follows rest i.1 f c d h k))

  pub run_follows : (f : Function) → StatementReaches g s f.body → (c : Calls W) (d : Calls V) → CallsFollow c d → (xs : List Value) (w : W) (v : V) → R w v → F R g s (run_function ops program c (Some f) xs w) (run_function to other d (Some f) (map m xs) v)
  run_follows f i c d h xs w v r = rw (first_locals_moved g s f xs) (bind_follows R _ (exec_follows f.body i f c d h at_end (first_locals f xs) w v r) (result_follows f.result))
