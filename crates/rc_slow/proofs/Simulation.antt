-- Where operations agree over a change of world, so do whole runs.
use Rattle.std.proofs.Common.{◌≡◌, ℕ, zero, suc, pos, Bool, true, false, List, [], Option, Some, None, Result, Ok, Err, refl, sym, ap, subst, ◌∙◌}
use Rattle.std.specs.Prelude.{slice_get}
use Rattle.rc_base.specs.declared.ends.Trap.{Trap}
use Rattle.rc_core.specs.declared.stmt.Change.{Change}
use Rattle.rc_core.specs.declared.stmt.Change.TheVariants.{Compute, Step}
use Rattle.rc_core.specs.Numbers.{byte_of}
use Rattle.rc_core.specs.Arithmetic.{converted, type_of, calculate, calculate_one}
use Rattle.rc_core.specs.Types.{Ty, struct}
use Rattle.rc_core.specs.Programs.{Expr, constant, null, string, local, read, address, step, step_from, unary, binary, convert, not_zero, and, or, choose, is_null, same, call, new_region, new_subregion, region_of, allocate, allocate_array, putchar, getchar, Arguments, none, more, Place, global, pointed, indexed, Path, here, field, element, Stmt, block, declare, assign, store, update, copy, evaluate, delete, branch, while, repeat, for, break, continue, return, Stmts, done, then, Function, Program}
use Rattle.rc_core.specs.Layout.{cells, size, offset, count_of, stride}
use Rattle.rc_core.specs.Heap.{Value, Number, Null, Handle, Pointer}
use Rattle.rc_core.specs.Live.{Ways, before, before_all, then_live, unless_set, either, while_body, repeat_body, repeat_head, for_head, for_third, for_body, at_end}
use Rattle.rc_core.specs.Runs.{Run, Go, Stopped, bind, branching, computed, Target, Calls, Ops}
use Rattle.rc_core.specs.Evaluation.{number_in, is_true, toward, static, aimed, further, choosing, region_named, eval, eval_all, target, along}
use Rattle.rc_core.specs.Execution.{Flow, Next, Broke, Continued, Returned, held, first_locals, deletes, result_of, behind_body, behind, calling, value_of, set_local, changed, rounds, rounds_first, test_of, exec, exec_all, run_function, calls_within, run_main}
use Rattle.rc_memory.specs.Change.{mapped, Agree}

module _ {W V : Type 0} (change : W → V) where
  pub mapped_bind : {A B : Type 0} (m : Run W A) (m' : Run V A) (k : A → W → Run W B) (k' : A → V → Run V B) → mapped change m ≡ m' → ((x : A) (w : W) → mapped change (k x w) ≡ k' x (change w)) → mapped change (bind m k) ≡ bind m' k'
  mapped_bind (Go x w) m' k k' e h = h x w ∙ ap (λ m. bind m k') e
  mapped_bind (Stopped stop w) m' k k' e h = ap (λ m. bind m k') e

  pub mapped_branching : {A : Type 0} (b : Bool) (p q : W → Run W A) (p' q' : V → Run V A) → ((w : W) → mapped change (p w) ≡ p' (change w)) → ((w : W) → mapped change (q w) ≡ q' (change w)) → (w : W) → mapped change (branching b p q w) ≡ branching b p' q' (change w)
  mapped_branching true p q p' q' hp hq w = hp w
  mapped_branching false p q p' q' hp hq w = hq w

  pub mapped_computed : {A : Type 0} (line : ℕ) (r : Result A Trap) (w : W) → mapped change (computed line r w) ≡ computed line r (change w)
  mapped_computed line (Ok x) w = refl
  mapped_computed line (Err t) w = refl

  pub mapped_region : (line : ℕ) (v : Value) (w : W) → mapped change (region_named line v w) ≡ region_named line v (change w)
  mapped_region line (Number n) w = refl
  mapped_region line Null w = refl
  mapped_region line (Handle r) w = refl
  mapped_region line (Pointer a) w = refl

  pub mapped_result : (ty : Option Ty) (flow : Flow) (w : W) → mapped change (result_of ty flow w) ≡ result_of ty flow (change w)
  mapped_result ty (Next env) w = refl
  mapped_result ty (Broke env) w = refl
  mapped_result ty (Continued env) w = refl
  mapped_result ty (Returned v) w = refl

  -- what goes on with the locals, in both worlds
  Going : (List Value → W → Run W Flow) → (List Value → V → Run V Flow) → Type 0
  Going go go' = (env : List Value) (w : W) → mapped change (go env w) ≡ go' env (change w)

  pub mapped_behind_body : (go : List Value → W → Run W Flow) (go' : List Value → V → Run V Flow) → ((env : List Value) (w : W) → mapped change (go env w) ≡ go' env (change w)) → (flow : Flow) (w : W) → mapped change (behind_body go flow w) ≡ behind_body go' flow (change w)
  mapped_behind_body go go' h (Next env) w = h env w
  mapped_behind_body go go' h (Continued env) w = h env w
  mapped_behind_body go go' h (Broke env) w = refl
  mapped_behind_body go go' h (Returned v) w = refl

  pub mapped_behind : (go : List Value → W → Run W Flow) (go' : List Value → V → Run V Flow) → ((env : List Value) (w : W) → mapped change (go env w) ≡ go' env (change w)) → (flow : Flow) (w : W) → mapped change (behind go flow w) ≡ behind go' flow (change w)
  mapped_behind go go' h (Next env) w = h env w
  mapped_behind go go' h (Continued env) w = refl
  mapped_behind go go' h (Broke env) w = refl
  mapped_behind go go' h (Returned v) w = refl

  module _ (ops : Ops W) (others : Ops V) (program : Program) (agree : Agree change ops others) where
    abbrev pub CallsAgree : Calls W → Calls V → Type 0
    CallsAgree calls calls' = (f : ℕ) (arguments : List Value) (w : W) → mapped change (calls f arguments w) ≡ calls' f arguments (change w)

    mutual
      pub eval_agrees : (e : Expr) (calls : Calls W) (calls' : Calls V) → CallsAgree calls calls' → (env : List Value) (w : W) → mapped change (eval ops program e calls env w) ≡ eval others program e calls' env (change w)
      eval_agrees (constant line s n) calls calls' h env w = refl
      eval_agrees (null line) calls calls' h env w = refl
      eval_agrees (string line k) calls calls' h env w = refl
      eval_agrees (local line x) calls calls' h env w = refl
      eval_agrees (read line place) calls calls' h env w = mapped_bind _ _ _ _ (target_agrees place calls calls' h env w) (λ t w1. agree.load line t w1)
      eval_agrees (address line g) calls calls' h env w = refl
      eval_agrees (step line direction p i) calls calls' h env w = mapped_bind _ _ _ _ (eval_agrees p calls calls' h env w) (λ v w1. mapped_bind _ _ _ _ (eval_agrees i calls calls' h env w1) (λ n w2. agree.step line v (toward direction (number_in n)) w2))
      eval_agrees (step_from line i p) calls calls' h env w = mapped_bind _ _ _ _ (eval_agrees i calls calls' h env w) (λ n w1. mapped_bind _ _ _ _ (eval_agrees p calls calls' h env w1) (λ v w2. agree.step line v (number_in n) w2))
      eval_agrees (unary line operator s e) calls calls' h env w = mapped_bind _ _ _ _ (eval_agrees e calls calls' h env w) (λ v w1. mapped_bind _ _ _ _ (mapped_computed line (calculate_one operator s (number_in v)) w1) (λ n w2. refl))
      eval_agrees (binary line operator s a b) calls calls' h env w = mapped_bind _ _ _ _ (eval_agrees a calls calls' h env w) (λ v w1. mapped_bind _ _ _ _ (eval_agrees b calls calls' h env w1) (λ u w2. mapped_bind _ _ _ _ (mapped_computed line (calculate operator s (number_in v) (number_in u)) w2) (λ n w3. refl)))
      eval_agrees (convert line from to e) calls calls' h env w = mapped_bind _ _ _ _ (eval_agrees e calls calls' h env w) (λ v w1. refl)
      eval_agrees (not_zero line e) calls calls' h env w = mapped_bind _ _ _ _ (eval_agrees e calls calls' h env w) (λ v w1. refl)
      eval_agrees (and line a b) calls calls' h env w = mapped_bind _ _ _ _ (eval_agrees a calls calls' h env w) (λ v w1. mapped_branching (is_true v) _ _ _ _ (λ w2. mapped_bind _ _ _ _ (eval_agrees b calls calls' h env w2) (λ u w3. refl)) (λ w2. refl) w1)
      eval_agrees (or line a b) calls calls' h env w = mapped_bind _ _ _ _ (eval_agrees a calls calls' h env w) (λ v w1. mapped_branching (is_true v) _ _ _ _ (λ w2. refl) (λ w2. mapped_bind _ _ _ _ (eval_agrees b calls calls' h env w2) (λ u w3. refl)) w1)
      eval_agrees (choose line test a b) calls calls' h env w = mapped_bind _ _ _ _ (eval_agrees test calls calls' h env w) (λ v w1. mapped_branching (is_true v) _ _ _ _ (λ w2. eval_agrees a calls calls' h env w2) (λ w2. eval_agrees b calls calls' h env w2) w1)
      eval_agrees (is_null line wanted e) calls calls' h env w = mapped_bind _ _ _ _ (eval_agrees e calls calls' h env w) (λ v w1. refl)
      eval_agrees (same line wanted a b) calls calls' h env w = mapped_bind _ _ _ _ (eval_agrees a calls calls' h env w) (λ v w1. mapped_bind _ _ _ _ (eval_agrees b calls calls' h env w1) (λ u w2. refl))
      eval_agrees (call line f arguments) calls calls' h env w = mapped_bind _ _ _ _ (all_agree arguments calls calls' h env w) (λ vs w1. h f vs w1)
      eval_agrees (new_region line) calls calls' h env w = agree.new_region line w
      eval_agrees (new_subregion line r) calls calls' h env w = mapped_bind _ _ _ _ (eval_agrees r calls calls' h env w) (λ v w1. agree.new_subregion line v w1)
      eval_agrees (region_of line p) calls calls' h env w = mapped_bind _ _ _ _ (eval_agrees p calls calls' h env w) (λ v w1. mapped_region line v w1)
      eval_agrees (allocate line r ty) calls calls' h env w = mapped_bind _ _ _ _ (eval_agrees r calls calls' h env w) (λ v w1. agree.allocate line v (pos 1) (cells program.structs ty) w1)
      eval_agrees (allocate_array line r n ty) calls calls' h env w = mapped_bind _ _ _ _ (eval_agrees r calls calls' h env w) (λ v w1. mapped_bind _ _ _ _ (eval_agrees n calls calls' h env w1) (λ m w2. agree.allocate line v (number_in m) (cells program.structs ty) w2))
      eval_agrees (putchar line e) calls calls' h env w = mapped_bind _ _ _ _ (eval_agrees e calls calls' h env w) (λ v w1. mapped_bind _ _ _ _ (agree.put_byte (byte_of (number_in v)) w1) (λ u w2. refl))
      eval_agrees (getchar line) calls calls' h env w = mapped_bind _ _ _ _ (agree.get_byte w) (λ n w1. refl)

      pub all_agree : (es : Arguments) (calls : Calls W) (calls' : Calls V) → CallsAgree calls calls' → (env : List Value) (w : W) → mapped change (eval_all ops program es calls env w) ≡ eval_all others program es calls' env (change w)
      all_agree none calls calls' h env w = refl
      all_agree (more e rest) calls calls' h env w = mapped_bind _ _ _ _ (eval_agrees e calls calls' h env w) (λ v w1. mapped_bind _ _ _ _ (all_agree rest calls calls' h env w1) (λ vs w2. refl))

      pub target_agrees : (place : Place) (calls : Calls W) (calls' : Calls V) → CallsAgree calls calls' → (env : List Value) (w : W) → mapped change (target ops program place calls env w) ≡ target others program place calls' env (change w)
      target_agrees (global g path) calls calls' h env w = along_agrees path (aimed (static g) (pos 0)) calls calls' h env w
      target_agrees (pointed p path) calls calls' h env w = mapped_bind _ _ _ _ (eval_agrees p calls calls' h env w) (λ v w1. along_agrees path (aimed v (pos 0)) calls calls' h env w1)
      target_agrees (indexed p i path) calls calls' h env w = mapped_bind _ _ _ _ (eval_agrees p calls calls' h env w) (λ v w1. mapped_bind _ _ _ _ (eval_agrees i calls calls' h env w1) (λ n w2. along_agrees path (aimed v (number_in n)) calls calls' h env w2))

      pub along_agrees : (path : Path) (t : Target) (calls : Calls W) (calls' : Calls V) → CallsAgree calls calls' → (env : List Value) (w : W) → mapped change (along ops program path t calls env w) ≡ along others program path t calls' env (change w)
      along_agrees here t calls calls' h env w = refl
      along_agrees (field s f rest) t calls calls' h env w = along_agrees rest (further (offset program.structs s f) t) calls calls' h env w
      along_agrees (element s f i rest) t calls calls' h env w = mapped_bind _ _ _ _ (eval_agrees i calls calls' h env w) (λ n w1. along_agrees rest (choosing (record { index = number_in n; count = count_of program.structs s f; stride = stride program.structs s f }) (further (offset program.structs s f) t)) calls calls' h env w1)

    pub calling_agrees : (calls : Calls W) (calls' : Calls V) → CallsAgree calls calls' → (live : ℕ → Bool) (env : List Value) → CallsAgree (calling ops program calls live env) (calling others program calls' live env)
    calling_agrees calls calls' h live env f arguments w =
        mapped_branching (deletes program f) _ _ _ _
        (λ w1. mapped_bind _ _ _ _ (h f arguments (ops.enter (held live env) w1) ∙ ap (calls' f arguments) (agree.enter (held live env) w1)) (λ v w2. ap (Go v) (agree.leave w1 w2)))
        (λ w1. h f arguments w1) w

    pub value_agrees : (calls : Calls W) (calls' : Calls V) → CallsAgree calls calls' → (live : ℕ → Bool) (e : Expr) (env : List Value) (w : W) → mapped change (value_of ops program calls live e env w) ≡ value_of others program calls' live e env (change w)
    value_agrees calls calls' h live e env w = eval_agrees e _ _ (calling_agrees calls calls' h live env) env w

    set_agrees : (calls : Calls W) (calls' : Calls V) → CallsAgree calls calls' → (live : ℕ → Bool) (x : ℕ) (e : Expr) (env : List Value) (w : W) → mapped change (set_local ops program calls live x e env w) ≡ set_local others program calls' live x e env (change w)
    set_agrees calls calls' h live x e env w = mapped_bind _ _ _ _ (value_agrees calls calls' h (λ y. unless_set x y (live y)) e env w) (λ v w1. refl)

    pub changed_agrees : (line : ℕ) (c : Change) (old value : Value) (w : W) → mapped change (changed ops program line c old value w) ≡ changed others program line c old value (change w)
    changed_agrees line (Compute from operator s) old v w = mapped_bind _ _ _ _ (mapped_computed line (calculate operator s (converted (type_of s) (number_in old)) (number_in v)) w) (λ n w1. refl)
    changed_agrees line (Step direction) old v w = agree.step line old (toward direction (number_in v)) w

    pub rounds_agree : (n : ℕ) (test : List Value → W → Run W Value) (test' : List Value → V → Run V Value) (body : (List Value → W → Run W Flow) → List Value → W → Run W Flow) (body' : (List Value → V → Run V Flow) → List Value → V → Run V Flow) → ((env : List Value) (w : W) → mapped change (test env w) ≡ test' env (change w)) → ((go : List Value → W → Run W Flow) (go' : List Value → V → Run V Flow) → ((env : List Value) (w : W) → mapped change (go env w) ≡ go' env (change w)) → (env : List Value) (w : W) → mapped change (body go env w) ≡ body' go' env (change w)) → (env : List Value) (w : W) → mapped change (rounds ops program n test body env w) ≡ rounds others program n test' body' env (change w)
    rounds_agree zero test test' body body' ht hb env w = refl
    rounds_agree (suc n) test test' body body' ht hb env w =
        mapped_bind _ _ _ _ (ht env w) (λ v w1. mapped_branching (is_true v) _ _ _ _
        (λ w2. hb _ _ (λ env3 w3. mapped_bind _ _ _ _ (agree.take_turn w3) (λ u w4. rounds_agree n test test' body body' ht hb env3 w4)) env w2)
        (λ w2. refl) w1)

    pub rounds_first_agree : (n : ℕ) (test : List Value → W → Run W Value) (test' : List Value → V → Run V Value) (body : (List Value → W → Run W Flow) → List Value → W → Run W Flow) (body' : (List Value → V → Run V Flow) → List Value → V → Run V Flow) → ((env : List Value) (w : W) → mapped change (test env w) ≡ test' env (change w)) → ((go : List Value → W → Run W Flow) (go' : List Value → V → Run V Flow) → ((env : List Value) (w : W) → mapped change (go env w) ≡ go' env (change w)) → (env : List Value) (w : W) → mapped change (body go env w) ≡ body' go' env (change w)) → (env : List Value) (w : W) → mapped change (rounds_first ops program n test body env w) ≡ rounds_first others program n test' body' env (change w)
    rounds_first_agree zero test test' body body' ht hb env w = refl
    rounds_first_agree (suc n) test test' body body' ht hb env w =
        hb _ _ (λ env1 w1. mapped_bind _ _ _ _ (ht env1 w1) (λ v w2. mapped_branching (is_true v) _ _ _ _
        (λ w3. mapped_bind _ _ _ _ (agree.take_turn w3) (λ u w4. rounds_first_agree n test test' body body' ht hb env1 w4))
        (λ w3. refl) w2)) env w

    pub test_agrees : (calls : Calls W) (calls' : Calls V) → CallsAgree calls calls' → (live : ℕ → Bool) (test : Option Expr) (env : List Value) (w : W) → mapped change (test_of ops program calls live test env w) ≡ test_of others program calls' live test env (change w)
    test_agrees calls calls' h live None env w = refl
    test_agrees calls calls' h live (Some e) env w = value_agrees calls calls' h live e env w

    mutual
      pub exec_agrees : (s : Stmt) (f : Function) (calls : Calls W) (calls' : Calls V) → CallsAgree calls calls' → (k : Ways) (env : List Value) (w : W) → mapped change (exec ops program s f calls k env w) ≡ exec others program s f calls' k env (change w)
      exec_agrees (block body) f calls calls' h k env w = exec_all_agrees body f calls calls' h k env w
      exec_agrees (declare line x None) f calls calls' h k env w = refl
      exec_agrees (declare line x (Some e)) f calls calls' h k env w = set_agrees calls calls' h k.next x e env w
      exec_agrees (assign line x e) f calls calls' h k env w = set_agrees calls calls' h k.next x e env w
      exec_agrees (store line place e) f calls calls' h k env w =
          mapped_bind _ _ _ _ (target_agrees place _ _ (calling_agrees calls calls' h k.next env) env w) (λ t w1.
          mapped_bind _ _ _ _ (value_agrees calls calls' h k.next e env w1) (λ v w2.
          mapped_bind _ _ _ _ (agree.store line t v w2) (λ u w3. refl)))
      exec_agrees (update line place c e) f calls calls' h k env w =
          mapped_bind _ _ _ _ (target_agrees place _ _ (calling_agrees calls calls' h k.next env) env w) (λ t w1.
          mapped_bind _ _ _ _ (value_agrees calls calls' h k.next e env w1) (λ v w2.
          mapped_bind _ _ _ _ (agree.load line t w2) (λ old w3.
          mapped_bind _ _ _ _ (changed_agrees line c old v w3) (λ new w4.
          mapped_bind _ _ _ _ (agree.store line t new w4) (λ u w5. refl)))))
      exec_agrees (copy line s left right) f calls calls' h k env w =
          mapped_bind _ _ _ _ (target_agrees left _ _ (calling_agrees calls calls' h k.next env) env w) (λ to w1.
          mapped_bind _ _ _ _ (target_agrees right _ _ (calling_agrees calls calls' h k.next env) env w1) (λ from w2.
          mapped_bind _ _ _ _ (agree.load_all line from (size program.structs (struct s)) w2) (λ vs w3.
          mapped_bind _ _ _ _ (agree.store_all line to vs w3) (λ u w4. refl))))
      exec_agrees (evaluate line e) f calls calls' h k env w = mapped_bind _ _ _ _ (value_agrees calls calls' h k.next e env w) (λ v w1. refl)
      exec_agrees (delete line e) f calls calls' h k env w =
          mapped_bind _ _ _ _ (value_agrees calls calls' h k.next e env w) (λ v w1. mapped_bind _ _ _ _ (agree.delete line (held k.next env) v w1) (λ u w2. refl))
      exec_agrees (branch line test a b) f calls calls' h k env w =
          mapped_bind _ _ _ _ (value_agrees calls calls' h (either (before a k) (before b k)) test env w) (λ v w1.
          mapped_branching (is_true v) _ _ _ _ (λ w2. exec_agrees a f calls calls' h k env w2) (λ w2. exec_agrees b f calls calls' h k env w2) w1)
      exec_agrees (while line test body) f calls calls' h k env w =
          subst (λ n. mapped change (exec ops program (while line test body) f calls k env w) ≡ rounds others program (suc n) (value_of others program calls' (either k.next (before body (while_body test body k))) test) (λ again env1 w1. bind (exec others program body f calls' (while_body test body k) env1 w1) (behind_body again)) env (change w)) (sym (agree.turns_left w))
          (rounds_agree (suc (ops.turns_left w)) (value_of ops program calls (either k.next (before body (while_body test body k))) test) (value_of others program calls' (either k.next (before body (while_body test body k))) test) (λ again env1 w1. bind (exec ops program body f calls (while_body test body k) env1 w1) (behind_body again)) (λ again env1 w1. bind (exec others program body f calls' (while_body test body k) env1 w1) (behind_body again))
          (λ env1 w1. value_agrees calls calls' h (either k.next (before body (while_body test body k))) test env1 w1)
          (λ go go' hg env1 w1. mapped_bind _ _ _ _ (exec_agrees body f calls calls' h (while_body test body k) env1 w1) (λ flow w2. mapped_behind_body go go' hg flow w2))
          env w)
      exec_agrees (repeat line body test) f calls calls' h k env w =
          subst (λ n. mapped change (exec ops program (repeat line body test) f calls k env w) ≡ rounds_first others program (suc n) (value_of others program calls' (either k.next (repeat_head body test k)) test) (λ again env1 w1. bind (exec others program body f calls' (repeat_body body test k) env1 w1) (behind_body again)) env (change w)) (sym (agree.turns_left w))
          (rounds_first_agree (suc (ops.turns_left w)) (value_of ops program calls (either k.next (repeat_head body test k)) test) (value_of others program calls' (either k.next (repeat_head body test k)) test) (λ again env1 w1. bind (exec ops program body f calls (repeat_body body test k) env1 w1) (behind_body again)) (λ again env1 w1. bind (exec others program body f calls' (repeat_body body test k) env1 w1) (behind_body again))
          (λ env1 w1. value_agrees calls calls' h (either k.next (repeat_head body test k)) test env1 w1)
          (λ go go' hg env1 w1. mapped_bind _ _ _ _ (exec_agrees body f calls calls' h (repeat_body body test k) env1 w1) (λ flow w2. mapped_behind_body go go' hg flow w2))
          env w)
      exec_agrees (for line first test third body) f calls calls' h k env w =
          mapped_bind _ _ _ _ (exec_agrees first f calls calls' h (then_live (for_head test third body k) k) env w) (λ flow w0. mapped_behind _ _ (λ env1 w1.
          subst (λ n. mapped change (rounds ops program (suc (ops.turns_left w1)) (test_of ops program calls (either k.next (before body (for_body test third body k))) test) (λ again env2 w2. bind (exec ops program body f calls (for_body test third body k) env2 w2) (behind_body (λ env3 w3. bind (exec ops program third f calls (for_third test third body k) env3 w3) (behind again)))) env1 w1) ≡ rounds others program (suc n) (test_of others program calls' (either k.next (before body (for_body test third body k))) test) (λ again env2 w2. bind (exec others program body f calls' (for_body test third body k) env2 w2) (behind_body (λ env3 w3. bind (exec others program third f calls' (for_third test third body k) env3 w3) (behind again)))) env1 (change w1)) (sym (agree.turns_left w1))
          (rounds_agree (suc (ops.turns_left w1)) (test_of ops program calls (either k.next (before body (for_body test third body k))) test) (test_of others program calls' (either k.next (before body (for_body test third body k))) test) (λ again env2 w2. bind (exec ops program body f calls (for_body test third body k) env2 w2) (behind_body (λ env3 w3. bind (exec ops program third f calls (for_third test third body k) env3 w3) (behind again)))) (λ again env2 w2. bind (exec others program body f calls' (for_body test third body k) env2 w2) (behind_body (λ env3 w3. bind (exec others program third f calls' (for_third test third body k) env3 w3) (behind again))))
          (λ env2 w2. test_agrees calls calls' h (either k.next (before body (for_body test third body k))) test env2 w2)
          (λ go go' hg env2 w2. mapped_bind _ _ _ _ (exec_agrees body f calls calls' h (for_body test third body k) env2 w2) (λ flow2 w3.
          mapped_behind_body _ _ (λ env3 w4. mapped_bind _ _ _ _ (exec_agrees third f calls calls' h (for_third test third body k) env3 w4) (λ flow3 w5. mapped_behind go go' hg flow3 w5)) flow2 w3))
          env1 w1)) flow w0)
      exec_agrees (break line) f calls calls' h k env w = refl
      exec_agrees (continue line) f calls calls' h k env w = refl
      exec_agrees (return line None) f calls calls' h k env w = refl
      exec_agrees (return line (Some e)) f calls calls' h k env w = mapped_bind _ _ _ _ (value_agrees calls calls' h (λ _. false) e env w) (λ v w1. refl)

      pub exec_all_agrees : (body : Stmts) (f : Function) (calls : Calls W) (calls' : Calls V) → CallsAgree calls calls' → (k : Ways) (env : List Value) (w : W) → mapped change (exec_all ops program body f calls k env w) ≡ exec_all others program body f calls' k env (change w)
      exec_all_agrees done f calls calls' h k env w = refl
      exec_all_agrees (then s rest) f calls calls' h k env w =
          mapped_bind _ _ _ _ (exec_agrees s f calls calls' h (then_live (before_all rest k) k) env w) (λ flow w1. mapped_behind _ _ (λ env2 w2. exec_all_agrees rest f calls calls' h k env2 w2) flow w1)

    function_agrees : (calls : Calls W) (calls' : Calls V) → CallsAgree calls calls' → (o : Option Function) (arguments : List Value) (w : W) → mapped change (run_function ops program calls o arguments w) ≡ run_function others program calls' o arguments (change w)
    function_agrees calls calls' h None arguments w = refl
    function_agrees calls calls' h (Some f) arguments w = mapped_bind _ _ _ _ (exec_agrees f.body f calls calls' h at_end (first_locals f arguments) w) (λ flow w1. mapped_result f.result flow w1)

    pub calls_agree : (n : ℕ) → CallsAgree (calls_within ops program n) (calls_within others program n)
    calls_agree zero f arguments w = refl
    calls_agree (suc n) f arguments w = mapped_bind _ _ _ _ (agree.take_turn w) (λ u w1. function_agrees (calls_within ops program n) (calls_within others program n) (calls_agree n) (slice_get program.functions f) arguments w1)

    -- a run of `main` is the same in both worlds
    pub main_agrees : (w : W) → mapped change (run_main ops program w) ≡ run_main others program (change w)
    main_agrees w = calls_agree (suc (ops.turns_left w)) program.main [] w ∙ ap (λ n. calls_within others program (suc n) program.main [] (change w)) (sym (agree.turns_left w))
