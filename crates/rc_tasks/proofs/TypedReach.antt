-- Code that has types names only globals and strings that are there.
use Rattle.rc_tasks.proofs.Common.{◌≡◌, ℕ, zero, suc, ◌<◌, List, [], ◌∷◌, length, slice_get, Option, Some, None, arith, IfSome, Ty, Change, Compute, Step, Expr, constant, null, string, local, read, address, step, step_from, unary, binary, convert, not_zero, and, or, choose, is_null, same, call, new_region, new_subregion, region_of, allocate, allocate_array, putchar, getchar, Arguments, none, more, Place, global, pointed, indexed, Path, here, field, element, Stmt, block, declare, assign, store, copy, evaluate, delete, branch, while, repeat, for, break, continue, return, Stmts, done, then, Function, Program, IsValue, HasType, AreArguments, IsPlace, LeadsTo, IsTyped, AreTyped, Takes, Tasks, declared, HasOwnNames, Reaches, AllReach, PlaceReaches, PathReaches, OptionReaches, StatementReaches, StatementsReach}
use Rattle.std.specs.Prelude.{Bool, true, false}
use Rattle.rc_core.specs.Programs.{update}
use Rattle.rc_core.specs.Typing.{Runs as RunsTyped}

below : {A : Type 0} (xs : List A) (k : ℕ) (x : A) → slice_get xs k ≡ Some x → k < length xs
below [] k x h = absurd cc
below (y ∷ xs) zero x h = omega arith
below (y ∷ xs) (suc k) x h = omega (arith, below xs k x h)

module _ (program : Program) where
  abbrev G : ℕ
  G = length program.globals

  abbrev S : ℕ
  S = length program.strings

  module _ (locals : List Ty) where
    mutual
      pub typed_reaches : (e : Expr) (t : Ty) → HasType program locals e t → Reaches G S e
      typed_reaches (constant line s n) t h = tt
      typed_reaches (null line) t h = tt
      typed_reaches (string line k) t h = h.1
      typed_reaches (local line x) t h = tt
      typed_reaches (read line place) t h = place_typed place h.0 h.1.0
      typed_reaches (address line g) t h = below program.globals g h.0 h.1.0
      typed_reaches (step line direction e i) t h = (typed_reaches e t h.2, typed_reaches i _ h.3.1)
      typed_reaches (step_from line i e) t h = (typed_reaches i _ h.3.1, typed_reaches e t h.2)
      typed_reaches (unary line op s e) t h = typed_reaches e _ h.1
      typed_reaches (binary line op s a b) t h = (typed_reaches a _ h.1, typed_reaches b _ h.2.1.1)
      typed_reaches (convert line from to e) t h = typed_reaches e _ h.2
      typed_reaches (not_zero line e) t h = typed_reaches e _ h.1.1
      typed_reaches (and line a b) t h = (typed_reaches a h.3.0 h.3.1, typed_reaches b h.4.0 h.4.1)
      typed_reaches (or line a b) t h = (typed_reaches a h.3.0 h.3.1, typed_reaches b h.4.0 h.4.1)
      typed_reaches (choose line test a b) t h = (typed_reaches test h.1.0 h.1.1, typed_reaches a t h.3, typed_reaches b t h.4)
      typed_reaches (is_null line wanted e) t h = typed_reaches e h.2.0 h.2.1.1
      typed_reaches (same line wanted a b) t h = (typed_reaches a h.3.0 h.3.1.1, typed_reaches b h.3.0 h.3.1.2)
      typed_reaches (call line f arguments) t h = all_typed arguments _ h.1.2
      typed_reaches (new_region line) t h = tt
      typed_reaches (new_subregion line r) t h = typed_reaches r _ h.1
      typed_reaches (region_of line e) t h = typed_reaches e h.2.0 h.2.1.1
      typed_reaches (allocate line r u) t h = typed_reaches r _ h.2
      typed_reaches (allocate_array line r n u) t h = (typed_reaches r _ h.2, typed_reaches n _ h.3)
      typed_reaches (putchar line e) t h = typed_reaches e _ h.1
      typed_reaches (getchar line) t h = tt

      pub all_typed : (es : Arguments) (ts : List Ty) → AreArguments program locals es ts → AllReach G S es
      all_typed none ts h = tt
      all_typed (more e rest) [] h = absurd h
      all_typed (more e rest) (t ∷ ts) h = (typed_reaches e _ h.0, all_typed rest ts h.1)

      pub place_typed : (place : Place) (t : Ty) → IsPlace program locals place t → PlaceReaches G S place
      place_typed (global g path) t h = (below program.globals g h.0 h.1.0, path_typed path _ t h.1.2)
      place_typed (pointed e path) t h = (typed_reaches e _ h.1.1.0, path_typed path _ t h.1.1.1)
      place_typed (indexed e i path) t h = (typed_reaches e _ h.1.1.0, typed_reaches i _ h.1.1.1.1, path_typed path _ t h.1.1.2)

      pub path_typed : (path : Path) (u t : Ty) → LeadsTo program locals path u t → PathReaches G S path
      path_typed here u t h = tt
      path_typed (field s f rest) u t h = path_typed rest _ t h.1.1.2
      path_typed (element s f i rest) u t h = (typed_reaches i _ h.1.1.2.1, path_typed rest _ t h.1.1.3)

    option_typed : (value : Option Expr) (t : Ty) → IfSome value (λ e. HasType program locals e t) → OptionReaches G S value
    option_typed None t h = tt
    option_typed (Some e) t h = typed_reaches e t h

    test_typed : (test : Option Expr) → IfSome test (IsValue program locals) → OptionReaches G S test
    test_typed None h = tt
    test_typed (Some e) h = typed_reaches e h.1.0 h.1.1

    change_typed : (t : Ty) (change : Change) (e : Expr) → Takes program locals t change e → Reaches G S e
    change_typed t (Compute from op s) e h = typed_reaches e _ h.3.1.1
    change_typed t (Step direction) e h = typed_reaches e _ h.1.1

    run_typed : (e : Expr) → RunsTyped program locals e → Reaches G S e
    run_typed (call line f arguments) h = all_typed arguments _ h.1.1
    run_typed e h = typed_reaches e h.1.0 h.1.1

  module _ (f : Function) where
    mutual
      pub typed_runs : (loop : Bool) (s : Stmt) → IsTyped program f loop s → StatementReaches G S s
      typed_runs loop (block body) h = all_typed_run loop body h
      typed_runs loop (declare line x value) h = option_typed f.locals value _ h.1.1
      typed_runs loop (assign line x e) h = typed_reaches f.locals e _ h.1.1
      typed_runs loop (store line place e) h = (place_typed f.locals place h.0 h.1.0, typed_reaches f.locals e _ h.1.2)
      typed_runs loop (update line place change e) h = (place_typed f.locals place h.0 h.1.0, change_typed f.locals h.0 change e h.1.1)
      typed_runs loop (copy line s left right) h = (place_typed f.locals left _ h.0, place_typed f.locals right _ h.1)
      typed_runs loop (evaluate line e) h = run_typed f.locals e h
      typed_runs loop (delete line e) h = typed_reaches f.locals e _ h
      typed_runs loop (branch line test a b) h = (typed_reaches f.locals test h.0.1.0 h.0.1.1, typed_runs loop a h.1, typed_runs loop b h.2)
      typed_runs loop (while line test a) h = (typed_reaches f.locals test h.0.1.0 h.0.1.1, typed_runs true a h.1)
      typed_runs loop (repeat line a test) h = (typed_runs true a h.0, typed_reaches f.locals test h.1.1.0 h.1.1.1)
      typed_runs loop (for line first test third a) h = (typed_runs loop first h.0, test_typed f.locals test h.1, typed_runs loop third h.2, typed_runs true a h.3)
      typed_runs loop (break line) h = tt
      typed_runs loop (continue line) h = tt
      typed_runs loop (return line None) h = tt
      typed_runs loop (return line (Some e)) h = typed_reaches f.locals e _ h.1.1

      pub all_typed_run : (loop : Bool) (s : Stmts) → AreTyped program f loop s → StatementsReach G S s
      all_typed_run loop done h = tt
      all_typed_run loop (then s rest) h = (typed_runs loop s h.0, all_typed_run loop rest h.1)

-- the functions of tasks that have types where `yield` and `main` are declared
pub own_names : (t : Tasks) → ((k : ℕ) (f : Function) → slice_get t.program.functions k ≡ Some f → IsTyped (declared t) f false f.body) → HasOwnNames t.program
own_names t h k f q = typed_runs (declared t) f false f.body (h k f q)
