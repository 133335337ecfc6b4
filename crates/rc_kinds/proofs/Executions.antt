-- Statements leave locals that suit, and what is returned suits the result.
use Rattle.std.proofs.Common.{◌≡◌, ℕ, zero, suc, pos, Bool, true, false, not, List, slice_get, Option, Some, None, Result, Ok, Err, refl, sym, ap, subst}
use Rattle.std.specs.Prelude.{IsTrue, IfSome}
use Rattle.rc_base.specs.declared.ends.Trap.{Trap}
use Rattle.rc_core.specs.declared.ty.NumberType.{NumberType}
use Rattle.rc_core.specs.declared.ty.NumberType.TheVariants.{Int, Unsigned, Char}
use Rattle.rc_core.specs.declared.stmt.Change.{Change}
use Rattle.rc_core.specs.declared.stmt.Change.TheVariants.{Compute, Step}
use Rattle.rc_core.specs.Arithmetic.{converted, type_of, calculate}
use Rattle.rc_core.specs.Types.{Ty, int, unsigned, char, region, struct, pointer}
use Rattle.rc_core.specs.Programs.{Expr, call, Stmt, block, declare, assign, store, update, copy, evaluate, delete, branch, while, repeat, for, break, continue, return, Stmts, done, then, Function, Program}
use Rattle.rc_core.specs.Layout.{cells, size}
use Rattle.std.specs.List.{AllZip}
use Rattle.rc_core.specs.Heap.{Value, Number, Null, zero_of}
use Rattle.rc_core.specs.Live.{Ways, then_live, unless_set, before, before_all, while_body, repeat_head, repeat_body, for_head, for_third, for_body, either}
use Rattle.rc_core.specs.Runs.{Run, Calls}
use Rattle.rc_core.specs.Source.{World, source}
use Rattle.rc_core.specs.Evaluation.{number_in, is_true, toward, eval_all, target}
use Rattle.rc_core.specs.Execution.{Flow, Next, Broke, Continued, Returned, with_local, held, local_type, behind_body, behind, calling, value_of, set_local, changed, rounds, rounds_first, test_of, exec, exec_all}
use Rattle.rc_core.specs.Typing.{number, arithmetic, is_struct, is_pointer, value_type, parameters_of, HasType, IsPlace, IsValue, Runs, Takes, IsTyped, AreTyped}
use Rattle.rc_core.specs.WellTyped.{StructsFit, IsVariable}
use Rattle.std.proofs.lemmas.Option.{get_or_from_slice_get}
use Rattle.rc_kinds.specs.Suits.{Ledger, Suits, CellSuits, Grows, WorldSuits, AllSuit}
use Rattle.rc_kinds.specs.Kinds.{Of, ResultSuits, FlowSuits}
use Rattle.rc_kinds.proofs.InRange.{IfOk, converted_fits, number_suits}
use Rattle.rc_kinds.proofs.Grown.{all_still_suit, suits_value}
use Rattle.rc_kinds.proofs.Kept.{Nothing, Keeps, keeps_here, keeps_then, keeps_more, keeps_branching, keeps_computed}
use Rattle.rc_kinds.proofs.Paths.{Aims}
use Rattle.rc_kinds.proofs.Operations.{load_keeps, load_all_keeps, store_keeps, store_all_keeps, delete_keeps, turn_keeps}
use Rattle.rc_kinds.proofs.Evaluations.{AllOf, of_type, step_of, still_aims, eval_keeps, eval_all_keeps, target_keeps}
use Rattle.rc_kinds.proofs.Locals.{zero_suits, set_suits, calling_keeps}

ok_any : {A : Type 0} (r : Result A Trap) → IfOk (λ x. Unit {0}) r
ok_any (Ok x) = tt
ok_any (Err t) = tt

number_is_cell : (k : NumberType) (t : Ty) → t ≡ number k → IsTrue (not (is_struct t))
number_is_cell Int t e = ap (λ u. not (is_struct u)) e
number_is_cell Unsigned t e = ap (λ u. not (is_struct u)) e
number_is_cell Char t e = ap (λ u. not (is_struct u)) e

pointer_is_cell : (t : Ty) → IsTrue (is_pointer t) → IsTrue (not (is_struct t))
pointer_is_cell int h = refl
pointer_is_cell unsigned h = refl
pointer_is_cell char h = refl
pointer_is_cell region h = refl
pointer_is_cell (struct k) h = cc
pointer_is_cell (pointer note target) h = refl

-- the operand of a change
module _ (program : Program) (f : Function) where
  abbrev pub taken_has : (t : Ty) (change : Change) (e : Expr) → Takes program f.locals t change e → (u : Ty) × HasType program f.locals e u
  taken_has t (Compute from op s) e h = (arithmetic h.3.0, h.3.1.1)
  taken_has t (Step direction) e h = (arithmetic h.1.0, h.1.1)

  pub taken_cell : (t : Ty) (change : Change) (e : Expr) → Takes program f.locals t change e → IsTrue (not (is_struct t))
  taken_cell t (Compute from op s) e h = number_is_cell from t h.0
  taken_cell t (Step direction) e h = pointer_is_cell t h.0

module _ (program : Program) (fit : StructsFit program.structs) (f : Function) (variables : (x : ℕ) (t : Ty) → slice_get f.locals x ≡ Some t → IsVariable program.structs t) (calls : Calls World)
    (called : (g : ℕ) (h : Function) (arguments : List Value) (l : Ledger) (w : World) → slice_get program.functions g ≡ Some h → AllSuit l (parameters_of h) arguments → WorldSuits program l w → Keeps program l (ResultSuits h.result) (calls g arguments w)) where
  abbrev Flows : Bool → Ledger → Flow → Type 0
  Flows loop l flow = FlowSuits f.locals f.result loop l flow

  abbrev Own : Ledger → List Value → Type 0
  Own l env = AllSuit l f.locals env

  -- runs that go on with locals
  abbrev GoesOn : Bool → (List Value → World → Run World Flow) → Type 0
  GoesOn loop go = (env : List Value) (l : Ledger) (w : World) → Own l env → WorldSuits program l w → Keeps program l (Flows loop) (go env w)

  stay : (env : List Value) (l l1 : Ledger) → Grows l l1 → Own l env → Own l1 env
  stay env l l1 g h = all_still_suit l l1 g f.locals env h

  pub value_keeps : (live : ℕ → Bool) (e : Expr) (t : Ty) (env : List Value) (l : Ledger) (w : World) → HasType program f.locals e t → Own l env → WorldSuits program l w → Keeps program l (Of t) (value_of source program calls live e env w)
  value_keeps live e t env l w h own suits = eval_keeps program fit f.locals (calling source program calls live env) env (calling_keeps program f.locals calls called live env) e t l w h own suits

  pub place_keeps : (live : ℕ → Bool) (place : _) (t : Ty) (env : List Value) (l : Ledger) (w : World) → IsPlace program f.locals place t → Own l env → WorldSuits program l w → Keeps program l (λ l tg. Aims program.structs l t tg) (target source program place (calling source program calls live env) env w)
  place_keeps live place t env l w h own suits = target_keeps program fit f.locals (calling source program calls live env) env (calling_keeps program f.locals calls called live env) place t l w h own suits

  looked_keeps : (live : ℕ → Bool) (e : Expr) (env : List Value) (l : Ledger) (w : World) → IsValue program f.locals e → Own l env → WorldSuits program l w → Keeps program l Nothing (value_of source program calls live e env w)
  looked_keeps live e env l w h own suits = keeps_more program l (Of h.1.0) Nothing _ (value_keeps live e h.1.0 env l w h.1.1 own suits) (λ v l1 g s. tt)

  -- a function without a result may be called too
  pub ran_keeps : (live : ℕ → Bool) (e : Expr) (env : List Value) (l : Ledger) (w : World) → Runs program f.locals e → Own l env → WorldSuits program l w → Keeps program l Nothing (value_of source program calls live e env w)
  ran_keeps live (call line g arguments) env l w h own suits =
      keeps_then program l (AllOf (parameters_of h.0)) Nothing (eval_all source program arguments (calling source program calls live env) env w) (calling source program calls live env g)
      (eval_all_keeps program fit f.locals (calling source program calls live env) env (calling_keeps program f.locals calls called live env) arguments (parameters_of h.0) l w h.1.1 own suits) (λ vs l1 w1 g1 s1 all.
      keeps_more program l1 (ResultSuits h.0.result) Nothing _ (calling_keeps program f.locals calls called live env g h.0 vs l1 w1 h.1.0 all (stay env l l1 g1 own) s1) (λ v l2 g2 s. tt))
  ran_keeps live e env l w h own suits = looked_keeps live e env l w h own suits

  set_keeps : (loop : Bool) (live : ℕ → Bool) (x : ℕ) (t : Ty) (e : Expr) (env : List Value) (l : Ledger) (w : World) → slice_get f.locals x ≡ Some t → HasType program f.locals e (value_type t) → Own l env → WorldSuits program l w → Keeps program l (Flows loop) (set_local source program calls live x e env w)
  set_keeps loop live x t e env l w there h own suits =
      keeps_then program l (Of (value_type t)) (Flows loop) (value_of source program calls (λ y. unless_set x y (live y)) e env w) _ (value_keeps (λ y. unless_set x y (live y)) e (value_type t) env l w h own suits) (λ v l1 w1 g1 s1 v1.
      keeps_here program l1 (Flows loop) (Next (with_local env x v)) w1 s1 (set_suits l1 f.locals env x t v there (suits_value l1 t v v1) (stay env l l1 g1 own)))

  declared_zero : (x : ℕ) (t : Ty) → slice_get f.locals x ≡ Some t → local_type f x ≡ t
  declared_zero x t e = get_or_from_slice_get f.locals x t int e

  pub changed_keeps : (line : ℕ) (t : Ty) (change : Change) (e : Expr) (old v : Value) (l : Ledger) (w : World) → Takes program f.locals t change e → Suits l t old → WorldSuits program l w → Keeps program l (Of t) (changed source program line change old v w)
  changed_keeps line t (Compute from operator s) e old v l w h so suits =
      of_type program l t (number from) _ h.0
      (keeps_then program l Nothing (Of (number from)) _ _ (keeps_computed program l (λ x. Unit {0}) line (calculate operator s (converted (type_of s) (number_in old)) (number_in v)) w suits (ok_any _)) (λ n l1 w1 g1 s1 _.
      keeps_here program l1 (Of (number from)) (Number (converted from n)) w1 s1 (number_suits l1 from (converted from n) (converted_fits from n))))
  changed_keeps line t (Step direction) e old v l w h so suits = step_of program l line t old (toward direction (number_in v)) w h.0 so suits

  behind_keeps : (loop : Bool) (go : List Value → World → Run World Flow) → GoesOn loop go → (flow : Flow) (l : Ledger) (w : World) → Flows loop l flow → WorldSuits program l w → Keeps program l (Flows loop) (behind go flow w)
  behind_keeps loop go on (Next env) l w s suits = on env l w s suits
  behind_keeps loop go on (Broke env) l w s suits = keeps_here program l (Flows loop) (Broke env) w suits s
  behind_keeps loop go on (Continued env) l w s suits = keeps_here program l (Flows loop) (Continued env) w suits s
  behind_keeps loop go on (Returned v) l w s suits = keeps_here program l (Flows loop) (Returned v) w suits s

  -- a body is in a loop
  behind_body_keeps : (loop : Bool) (go : List Value → World → Run World Flow) → GoesOn loop go → (flow : Flow) (l : Ledger) (w : World) → Flows true l flow → WorldSuits program l w → Keeps program l (Flows loop) (behind_body go flow w)
  behind_body_keeps loop go on (Next env) l w s suits = on env l w s suits
  behind_body_keeps loop go on (Broke env) l w s suits = keeps_here program l (Flows loop) (Next env) w suits s.1
  behind_body_keeps loop go on (Continued env) l w s suits = on env l w s.1 suits
  behind_body_keeps loop go on (Returned v) l w s suits = keeps_here program l (Flows loop) (Returned v) w suits s

  abbrev Tests : (List Value → World → Run World Value) → Type 0
  Tests test = (env : List Value) (l : Ledger) (w : World) → Own l env → WorldSuits program l w → Keeps program l Nothing (test env w)

  rounds_keeps : (loop : Bool) (n : ℕ) (test : List Value → World → Run World Value) (body : (List Value → World → Run World Flow) → List Value → World → Run World Flow) → Tests test → ((again : List Value → World → Run World Flow) → GoesOn loop again → GoesOn loop (body again)) → GoesOn loop (rounds source program n test body)
  rounds_keeps loop zero test body tests bodies env l w own suits = record { holds = tt }
  rounds_keeps loop (suc n) test body tests bodies env l w own suits =
      keeps_then program l Nothing (Flows loop) (test env w) _ (tests env l w own suits) (λ v l1 w1 g1 s1 _.
      keeps_branching program l1 (Flows loop) (is_true v) _ _ w1
      (bodies _ (λ env2 l2 w2 own2 s2.
      keeps_then program l2 Nothing (Flows loop) (source.take_turn w2) _ (turn_keeps program l2 w2 s2) (λ _ l3 w3 g3 s3 _. rounds_keeps loop n test body tests bodies env2 l3 w3 (stay env2 l2 l3 g3 own2) s3)) env l1 w1 (stay env l l1 g1 own) s1)
      (keeps_here program l1 (Flows loop) (Next env) w1 s1 (stay env l l1 g1 own)))

  rounds_first_keeps : (loop : Bool) (n : ℕ) (test : List Value → World → Run World Value) (body : (List Value → World → Run World Flow) → List Value → World → Run World Flow) → Tests test → ((again : List Value → World → Run World Flow) → GoesOn loop again → GoesOn loop (body again)) → GoesOn loop (rounds_first source program n test body)
  rounds_first_keeps loop zero test body tests bodies env l w own suits = record { holds = tt }
  rounds_first_keeps loop (suc n) test body tests bodies env l w own suits =
      bodies _ (λ env1 l1 w1 own1 s1.
      keeps_then program l1 Nothing (Flows loop) (test env1 w1) _ (tests env1 l1 w1 own1 s1) (λ v l2 w2 g2 s2 _.
      keeps_branching program l2 (Flows loop) (is_true v) _ _ w2
      (keeps_then program l2 Nothing (Flows loop) (source.take_turn w2) _ (turn_keeps program l2 w2 s2) (λ _ l3 w3 g3 s3 _. rounds_first_keeps loop n test body tests bodies env1 l3 w3 (stay env1 l2 l3 g3 (stay env1 l1 l2 g2 own1)) s3))
      (keeps_here program l2 (Flows loop) (Next env1) w2 s2 (stay env1 l1 l2 g2 own1)))) env l w own suits

  pub test_keeps : (live : ℕ → Bool) (test : Option Expr) → IfSome test (IsValue program f.locals) → Tests (test_of source program calls live test)
  test_keeps live None h env l w own suits = keeps_here program l Nothing (Number (pos 1)) w suits tt
  test_keeps live (Some e) h env l w own suits = looked_keeps live e env l w h own suits

  mutual
    pub exec_keeps : (loop : Bool) (s : Stmt) (k : Ways) (env : List Value) (l : Ledger) (w : World) → IsTyped program f loop s → Own l env → WorldSuits program l w → Keeps program l (Flows loop) (exec source program s f calls k env w)
    exec_keeps loop (block body) k env l w h own suits = exec_all_keeps loop body k env l w h own suits
    exec_keeps loop (declare line x None) k env l w h own suits =
        keeps_here program l (Flows loop) (Next (with_local env x _)) w suits
        (set_suits l f.locals env x h.0 _ h.1.0 (subst (λ t. Suits l h.0 (zero_of t)) (sym (declared_zero x h.0 h.1.0)) (zero_suits l h.0 (variables x h.0 h.1.0).1)) own)
    exec_keeps loop (declare line x (Some e)) k env l w h own suits = set_keeps loop k.next x h.0 e env l w h.1.0 h.1.1 own suits
    exec_keeps loop (assign line x e) k env l w h own suits = set_keeps loop k.next x h.0 e env l w h.1.0 h.1.1 own suits
    exec_keeps loop (store line place e) k env l w h own suits =
        keeps_then program l (λ l tg. Aims program.structs l h.0 tg) (Flows loop) _ _ (place_keeps k.next place h.0 env l w h.1.0 own suits) (λ tg l1 w1 g1 s1 a1.
        keeps_then program l1 (Of (value_type h.0)) (Flows loop) (value_of source program calls k.next e env w1) _ (value_keeps k.next e (value_type h.0) env l1 w1 h.1.2 (stay env l l1 g1 own) s1) (λ v l2 w2 g2 s2 v2.
        keeps_then program l2 Nothing (Flows loop) (source.store line tg v w2) _ (store_keeps program l2 line h.0 tg v w2 h.1.1 (still_aims program l1 l2 h.0 tg g2 a1) (suits_value l2 h.0 v v2) s2) (λ _ l3 w3 g3 s3 _.
        keeps_here program l3 (Flows loop) (Next env) w3 s3 (stay env l2 l3 g3 (stay env l1 l2 g2 (stay env l l1 g1 own))))))
    exec_keeps loop (update line place change e) k env l w h own suits =
        let cell = taken_cell program f h.0 change e h.1.1 in
        let has = taken_has program f h.0 change e h.1.1 in
        keeps_then program l (λ l tg. Aims program.structs l h.0 tg) (Flows loop) _ _ (place_keeps k.next place h.0 env l w h.1.0 own suits) (λ tg l1 w1 g1 s1 a1.
        keeps_then program l1 (Of has.0) (Flows loop) (value_of source program calls k.next e env w1) _ (value_keeps k.next e has.0 env l1 w1 has.1 (stay env l l1 g1 own) s1) (λ v l2 w2 g2 s2 v2.
        let a2 = still_aims program l1 l2 h.0 tg g2 a1 in
        keeps_then program l2 (Of h.0) (Flows loop) (source.load line tg w2) _ (load_keeps program l2 line h.0 tg w2 cell a2 s2) (λ old l3 w3 g3 s3 o3.
        let a3 = still_aims program l2 l3 h.0 tg g3 a2 in
        keeps_then program l3 (Of h.0) (Flows loop) (changed source program line change old v w3) _ (changed_keeps line h.0 change e old v l3 w3 h.1.1 o3 s3) (λ new l4 w4 g4 s4 n4.
        keeps_then program l4 Nothing (Flows loop) (source.store line tg new w4) _ (store_keeps program l4 line h.0 tg new w4 cell (still_aims program l3 l4 h.0 tg g4 a3) n4 s4) (λ _ l5 w5 g5 s5 _.
        keeps_here program l5 (Flows loop) (Next env) w5 s5 (stay env l4 l5 g5 (stay env l3 l4 g4 (stay env l2 l3 g3 (stay env l1 l2 g2 (stay env l l1 g1 own))))))))))
    exec_keeps loop (copy line s left right) k env l w h own suits =
        keeps_then program l (λ l tg. Aims program.structs l (struct s) tg) (Flows loop) _ _ (place_keeps k.next left (struct s) env l w h.0 own suits) (λ to l1 w1 g1 s1 a1.
        keeps_then program l1 (λ l tg. Aims program.structs l (struct s) tg) (Flows loop) _ _ (place_keeps k.next right (struct s) env l1 w1 h.1 (stay env l l1 g1 own) s1) (λ from l2 w2 g2 s2 a2.
        keeps_then program l2 (λ l vs. AllZip (CellSuits l) (cells program.structs (struct s)) vs) (Flows loop) (source.load_all line from (size program.structs (struct s)) w2) _ (load_all_keeps program l2 line (struct s) from w2 a2 s2) (λ vs l3 w3 g3 s3 all.
        keeps_then program l3 Nothing (Flows loop) (source.store_all line to vs w3) _ (store_all_keeps program l3 line (struct s) to vs w3 (still_aims program l2 l3 (struct s) to g3 (still_aims program l1 l2 (struct s) to g2 a1)) all s3) (λ _ l4 w4 g4 s4 _.
        keeps_here program l4 (Flows loop) (Next env) w4 s4 (stay env l3 l4 g4 (stay env l2 l3 g3 (stay env l1 l2 g2 (stay env l l1 g1 own))))))))
    exec_keeps loop (evaluate line e) k env l w h own suits =
        keeps_then program l Nothing (Flows loop) (value_of source program calls k.next e env w) _ (ran_keeps k.next e env l w h own suits) (λ _ l1 w1 g1 s1 _. keeps_here program l1 (Flows loop) (Next env) w1 s1 (stay env l l1 g1 own))
    exec_keeps loop (delete line e) k env l w h own suits =
        keeps_then program l (Of region) (Flows loop) (value_of source program calls k.next e env w) _ (value_keeps k.next e region env l w h own suits) (λ v l1 w1 g1 s1 v1.
        keeps_then program l1 Nothing (Flows loop) (source.delete line (held k.next env) v w1) _ (delete_keeps program l1 line (held k.next env) v w1 v1 s1) (λ _ l2 w2 g2 s2 _. keeps_here program l2 (Flows loop) (Next env) w2 s2 (stay env l1 l2 g2 (stay env l l1 g1 own))))
    exec_keeps loop (branch line test a b) k env l w h own suits =
        keeps_then program l Nothing (Flows loop) (value_of source program calls (either (before a k) (before b k)) test env w) _ (looked_keeps (either (before a k) (before b k)) test env l w h.0 own suits) (λ v l1 w1 g1 s1 _.
        keeps_branching program l1 (Flows loop) (is_true v) _ _ w1 (exec_keeps loop a k env l1 w1 h.1 (stay env l l1 g1 own) s1) (exec_keeps loop b k env l1 w1 h.2 (stay env l l1 g1 own) s1))
    exec_keeps loop (while line test body) k env l w h own suits =
        rounds_keeps loop (suc w.turns) (value_of source program calls (either k.next (before body (while_body test body k))) test) _
        (λ env1 l1 w1 own1 s1. looked_keeps (either k.next (before body (while_body test body k))) test env1 l1 w1 h.0 own1 s1)
        (λ again on env1 l1 w1 own1 s1.
        keeps_then program l1 (Flows true) (Flows loop) (exec source program body f calls (while_body test body k) env1 w1) (behind_body again) (exec_keeps true body (while_body test body k) env1 l1 w1 h.1 own1 s1) (λ flow l2 w2 g2 s2 fl. behind_body_keeps loop again on flow l2 w2 fl s2))
        env l w own suits
    exec_keeps loop (repeat line body test) k env l w h own suits =
        rounds_first_keeps loop (suc w.turns) (value_of source program calls (either k.next (repeat_head body test k)) test) _
        (λ env1 l1 w1 own1 s1. looked_keeps (either k.next (repeat_head body test k)) test env1 l1 w1 h.1 own1 s1)
        (λ again on env1 l1 w1 own1 s1.
        keeps_then program l1 (Flows true) (Flows loop) (exec source program body f calls (repeat_body body test k) env1 w1) (behind_body again) (exec_keeps true body (repeat_body body test k) env1 l1 w1 h.0 own1 s1) (λ flow l2 w2 g2 s2 fl. behind_body_keeps loop again on flow l2 w2 fl s2))
        env l w own suits
    exec_keeps loop (for line first test third body) k env l w h own suits =
        keeps_then program l (Flows loop) (Flows loop) (exec source program first f calls (then_live (for_head test third body k) k) env w) _ (exec_keeps loop first (then_live (for_head test third body k) k) env l w h.0 own suits) (λ flow0 l0 w0 g0 s0 fl0.
        behind_keeps loop _ (λ env1 l1 w1 own1 s1.
        rounds_keeps loop (suc w1.turns) (test_of source program calls (either k.next (before body (for_body test third body k))) test) _
        (test_keeps (either k.next (before body (for_body test third body k))) test h.1)
        (λ again on env2 l2 w2 own2 s2.
        keeps_then program l2 (Flows true) (Flows loop) (exec source program body f calls (for_body test third body k) env2 w2) _ (exec_keeps true body (for_body test third body k) env2 l2 w2 h.3 own2 s2) (λ flow3 l3 w3 g3 s3 fl3.
        behind_body_keeps loop _ (λ env4 l4 w4 own4 s4.
        keeps_then program l4 (Flows loop) (Flows loop) (exec source program third f calls (for_third test third body k) env4 w4) (behind again) (exec_keeps loop third (for_third test third body k) env4 l4 w4 h.2 own4 s4) (λ flow5 l5 w5 g5 s5 fl5. behind_keeps loop again on flow5 l5 w5 fl5 s5))
        flow3 l3 w3 fl3 s3))
        env1 l1 w1 own1 s1)
        flow0 l0 w0 fl0 s0)
    exec_keeps loop (break line) k env l w h own suits = keeps_here program l (Flows loop) (Broke env) w suits (h, own)
    exec_keeps loop (continue line) k env l w h own suits = keeps_here program l (Flows loop) (Continued env) w suits (h, own)
    exec_keeps loop (return line None) k env l w h own suits = keeps_here program l (Flows loop) (Returned Null) w suits (subst (λ r. ResultSuits r l Null) (sym h) tt)
    exec_keeps loop (return line (Some e)) k env l w h own suits =
        keeps_then program l (Of (value_type h.0)) (Flows loop) (value_of source program calls (λ _. false) e env w) _ (value_keeps (λ _. false) e (value_type h.0) env l w h.1.1 own suits) (λ v l1 w1 g1 s1 v1.
        keeps_here program l1 (Flows loop) (Returned v) w1 s1 (subst (λ r. ResultSuits r l1 v) (sym h.1.0) (suits_value l1 h.0 v v1)))

    pub exec_all_keeps : (loop : Bool) (s : Stmts) (k : Ways) (env : List Value) (l : Ledger) (w : World) → AreTyped program f loop s → Own l env → WorldSuits program l w → Keeps program l (Flows loop) (exec_all source program s f calls k env w)
    exec_all_keeps loop done k env l w h own suits = keeps_here program l (Flows loop) (Next env) w suits own
    exec_all_keeps loop (then s rest) k env l w h own suits =
        keeps_then program l (Flows loop) (Flows loop) (exec source program s f calls (then_live (before_all rest k) k) env w) (behind (exec_all source program rest f calls k)) (exec_keeps loop s (then_live (before_all rest k) k) env l w h.0 own suits) (λ flow l1 w1 g1 s1 fl.
        behind_keeps loop _ (λ env2 l2 w2 own2 s2. exec_all_keeps loop rest k env2 l2 w2 h.1 own2 s2) flow l1 w1 fl s1)
