-- Small programs of tasks, and what they do under a few lists of choices: the definitions compute.
use Rattle.std.specs.Prelude.{◌≡◌, ℕ, suc, pos, Bool, true, false, List, [], ◌∷◌, codes, map, Some, None}
use Rattle.rc_base.specs.Acts.{Write}
use Rattle.rc_base.specs.declared.ends.End.{End}
use Rattle.rc_base.specs.declared.ends.End.TheVariants.{Exit, Trapped, Spent}
use Rattle.rc_base.specs.declared.ends.Trap.TheVariants.{Null as NullTrap, Reference, Full}
use Rattle.rc_core.specs.declared.ty.Note.TheVariants.{Plain}
use Rattle.rc_core.specs.declared.ty.Signedness.TheVariants.{Signed}
use Rattle.rc_core.specs.declared.operators.Operator.TheVariants.{Add}
use Rattle.rc_core.specs.Types.{Ty, int, region, struct, pointer}
use Rattle.rc_core.specs.Programs.{Expr, constant, null, string, local, read, binary, call, new_region, region_of, allocate, putchar, none, Place, global, pointed, field, here, Stmt, block, declare, assign, store, evaluate, delete, branch, Stmts, done, then, Global, Function, Program}
use Rattle.rc_core.specs.Runs.{Ends}
use Rattle.rc_tasks.specs.Tasks.{Tasks, task_meaning}

-- it has this end, and wrote this text, on an empty input, within these turns and with so many objects in a region
abbrev pub RunsWithin : (blocks : ℕ) → Tasks → (choices : List ℕ) → (turns : ℕ) → List ℕ → End → Type 0
RunsWithin blocks t choices turns text end =
    task_meaning t choices [] (record { turns = turns; regions = 10; blocks = blocks }) ≡ record { acts = map Write text; taken = 0; end = Ends end }

abbrev pub Runs : Tasks → (choices : List ℕ) → (turns : ℕ) → List ℕ → End → Type 0
Runs = RunsWithin 10

abbrev number : (line n : ℕ) → Expr
number line n = constant line Signed (pos n)

abbrev to_node : Ty
to_node = pointer Plain (struct 0)

-- void f(void) { .. }, or with `deletes`
abbrev function : (deletes : Bool) → (locals : List Ty) → Stmts → Function
function deletes locals body = record { parameters = 0; locals = locals; result = None; deletes = deletes; line = 1; body = block body }

-- f();
abbrev call_of : (line f : ℕ) → Stmt
call_of line f = evaluate line (call line f none)

-- putchar(first + e);
abbrev put : (line first : ℕ) → Expr → Stmt
put line first e = evaluate line (putchar line (binary line Add Signed (number line first) e))

abbrev put_letter : (line letter : ℕ) → Stmt
put_letter line letter = evaluate line (putchar line (number line letter))

-- `start` is the first function, and behind it stand the tasks from `task_0` on
abbrev in_order : Program → Tasks
in_order program = record { program = program; start = 0; task = λ d. suc d }

abbrev with_functions : List Function → Program
with_functions functions = record { structs = []; globals = []; strings = []; functions = functions; main = 0 }

abbrev no_value : Global
no_value = record { ty = int; count = None; initial = pos 0 }

-- region r; struct n { int v; };
abbrev over_a_region : List Function → Program
over_a_region functions = record (with_functions functions) { structs = (record { ty = int; count = None } ∷ []) ∷ []; globals = record no_value { ty = region } ∷ [] }

-- p->v, of the local p
abbrev value_of : (p : ℕ) → Place
value_of p = pointed (local 5 p) (field 0 0 here)

-- void f(void) deletes { region q = r; r = NULL; deleteregion(q); }, on line 6
abbrev deleter : Function
deleter = function true (region ∷ []) (then (declare 6 0 (Some (read 6 (global 0 here)))) (then (store 6 (global 0 here) (null 6)) (then (delete 6 (local 6 0)) done)))

-- void start(void) { r = newregion(); }
-- void task_0(void) deletes { struct n *p = ralloc(r, struct n); p->v = 7; yield(); putchar('0' + p->v); }
-- and task_1 deletes the region
abbrev sharing : Tasks
sharing = in_order (over_a_region (function false [] (then (store 4 (global 0 here) (new_region 4)) done)
    ∷ function true (to_node ∷ []) (then (declare 5 0 (Some (allocate 5 (read 5 (global 0 here)) (struct 0)))) (then (store 5 (value_of 0) (number 5 7))
    (then (call_of 5 3) (then (put 5 48 (read 5 (value_of 0))) done))))
    ∷ deleter ∷ []))

-- void start(void) deletes { struct n *p; r = newregion(); p = ralloc(r, struct n); yield(); .. }, and task_0 deletes the region
abbrev waiting_start : (behind : Stmts) → Tasks
waiting_start behind = in_order (over_a_region (function true (to_node ∷ []) (then (declare 4 0 None) (then (store 4 (global 0 here) (new_region 4))
    (then (assign 4 0 (allocate 4 (read 4 (global 0 here)) (struct 0))) (then (call_of 4 2) behind))))
    ∷ deleter ∷ []))

-- void start(void) { }
-- void task_0(void) deletes { putchar('a'); yield(); putchar('b'); }
abbrev halves : Tasks
halves = in_order (with_functions (function false [] done ∷ function true [] (then (put_letter 1 97) (then (call_of 1 2) (then (put_letter 1 98) done))) ∷ []))

-- void start(void) deletes { putchar('<'); yield(); putchar('>'); }
-- void task_0(void) deletes { putchar('a'); yield(); putchar('b'); yield(); putchar('c'); }
abbrev yielding_start : Tasks
yielding_start = in_order (with_functions (function true [] (then (put_letter 1 60) (then (call_of 1 2) (then (put_letter 1 62) done)))
    ∷ function true [] (then (put_letter 1 97) (then (call_of 1 2) (then (put_letter 1 98) (then (call_of 1 2) (then (put_letter 1 99) done))))) ∷ []))

-- int k; int main(void) deletes;
-- void start(void) deletes { int x = 7; putchar('s'); if (k) { } else { k = 1; x = main(); putchar('a' + x); } }
-- void task_0(void) { putchar('0'); }
abbrev calling_main : Tasks
calling_main = in_order (record (with_functions (function true (int ∷ []) (then (declare 1 0 (Some (number 1 7))) (then (put_letter 1 115)
    (then (branch 1 (read 1 (global 0 here)) (block done) (block (then (store 1 (global 0 here) (number 1 1)) (then (assign 1 0 (call 1 3 none)) (then (put 1 97 (local 1 0)) done))))) done)))
    ∷ function false [] (then (put_letter 1 48) done) ∷ [])) { globals = no_value ∷ [] })

-- void start(void) { task_1(); } void task_0(void) { putchar('0'); } void task_1(void) { putchar('1'); }
abbrev calling_a_task : Tasks
calling_a_task = in_order (with_functions (function false [] (then (call_of 1 2) done) ∷ function false [] (then (put_letter 1 48) done) ∷ function false [] (then (put_letter 1 49) done) ∷ []))

-- int k;
-- void start(void) { putchar('s'); if (k) { } else { k = 1; start(); } }
-- void task_0(void) { putchar('0'); }
abbrev starting_again : Tasks
starting_again = in_order (record (with_functions (function false [] (then (put_letter 1 115)
    (then (branch 1 (read 1 (global 0 here)) (block done) (block (then (store 1 (global 0 here) (number 1 1)) (then (call_of 1 0) done)))) done))
    ∷ function false [] (then (put_letter 1 48) done) ∷ [])) { globals = no_value ∷ [] })

-- int main(void) deletes;
-- void start(void) { putchar('s'); }
-- void task_0(void) deletes { int x = 7; putchar('<'); x = main(); putchar('>' + x); }
abbrev tasks_of_a_task : Tasks
tasks_of_a_task = in_order (with_functions (function false [] (then (put_letter 1 115) done)
    ∷ function true (int ∷ []) (then (declare 1 0 (Some (number 1 7))) (then (put_letter 1 60) (then (assign 1 0 (call 1 3 none)) (then (put 1 62 (local 1 0)) done)))) ∷ []))

-- void start(void) { r = newregion(); }
-- void task_0(void) deletes { struct n *p = ralloc(r, struct n); pause(); putchar('0' + p->v); }
-- task_1 deletes the region
-- void pause(void) deletes { yield(); }
abbrev pausing : Tasks
pausing = in_order (over_a_region (function false [] (then (store 4 (global 0 here) (new_region 4)) done)
    ∷ function true (to_node ∷ []) (then (declare 5 0 (Some (allocate 5 (read 5 (global 0 here)) (struct 0)))) (then (call_of 5 3) (then (put 5 48 (read 5 (value_of 0))) done)))
    ∷ deleter
    ∷ function true [] (then (call_of 7 4) done) ∷ []))

-- int g; void start(void) { ralloc(regionof("q"), int); } void task_0(void) { }
abbrev in_region_0 : Tasks
in_region_0 = in_order (record (with_functions (function false [] (then (evaluate 1 (allocate 1 (region_of 1 (string 1 0)) int)) done) ∷ function false [] done ∷ [])) { globals = no_value ∷ []; strings = codes "q" ∷ [] })

pub record Examples : Type 0 where
  -- a task waits, and goes on behind the last choice
  pub task_goes_on : Runs sharing (0 ∷ []) 6 (codes "7") (Exit (pos 0))
  pub in_no_fewer_turns : Runs sharing (0 ∷ []) 5 (codes "7") Spent
  -- a waiting task's local leads into the region that another deletes
  pub waiting_task_is_a_reference : Runs sharing (0 ∷ 1 ∷ []) 100 [] (Trapped Reference 6)
  pub so_are_two : Runs sharing (0 ∷ 0 ∷ 1 ∷ []) 100 [] (Trapped Reference 6)
  pub nothing_waits : Runs sharing (1 ∷ []) 100 [] (Exit (pos 0))
  pub region_is_gone : Runs sharing (1 ∷ 0 ∷ []) 100 [] (Trapped NullTrap 5)
  -- so does that of a task which waits in a function that it called
  pub waiting_deeper_is_too : Runs pausing (0 ∷ 1 ∷ []) 100 [] (Trapped Reference 6)
  pub and_goes_on : Runs pausing (0 ∷ []) 100 (codes "0") (Exit (pos 0))
  -- the function `start` waits as tasks do, and what it doesn't use any more counts no more
  pub waiting_start_is_a_reference : Runs (waiting_start (then (put 5 48 (read 5 (value_of 0))) done)) (0 ∷ []) 100 [] (Trapped Reference 6)
  pub what_is_not_used_is_none : Runs (waiting_start done) (0 ∷ []) 100 [] (Exit (pos 0))
  -- a task that waits goes on when the one that it started has ended
  pub inner_ends_first : Runs halves (0 ∷ 0 ∷ []) 8 (codes "aabb") (Exit (pos 0))
  pub last_turn_is_of_the_run : Runs halves (0 ∷ 0 ∷ []) 7 (codes "aabb") Spent
  pub three_deep : Runs halves (0 ∷ 0 ∷ 0 ∷ []) 100 (codes "aaabbb") (Exit (pos 0))
  -- the yields of `start` and of tasks take the choices, and where none is left they do nothing
  pub start_yields : Runs yielding_start (0 ∷ []) 6 (codes "<abc>") (Exit (pos 0))
  pub yield_of_nothing_is_a_turn : Runs yielding_start (0 ∷ []) 5 (codes "<ab") Spent
  pub choices_run_out_inside : Runs yielding_start (0 ∷ 0 ∷ []) 9 (codes "<aabcbc>") (Exit (pos 0))
  -- a call of `main` calls `start`, takes the choices that are left, and gives 0
  pub main_is_called : Runs calling_main (0 ∷ 0 ∷ []) 10 (codes "ss00a") (Exit (pos 0))
  pub and_takes_turns : Runs calling_main (0 ∷ 0 ∷ []) 9 (codes "ss00") Spent
  -- a task may call it too, and then waits for all that it runs
  pub task_calls_main : Runs tasks_of_a_task (0 ∷ 0 ∷ []) 12 (codes "s<s<s>>") (Exit (pos 0))
  pub main_ends_with_a_turn : Runs tasks_of_a_task (0 ∷ 0 ∷ []) 11 (codes "s<s<s>>") Spent
  -- a call of `start` by its name takes none
  pub start_calls_itself : Runs starting_again (0 ∷ []) 6 (codes "ss0") (Exit (pos 0))
  pub each_call_is_a_turn : Runs starting_again (0 ∷ []) 5 (codes "ss0") Spent
  -- a call of a task by its name takes no choice
  pub task_is_called : Runs calling_a_task (0 ∷ []) 6 (codes "10") (Exit (pos 0))
  pub that_is_a_turn_too : Runs calling_a_task (0 ∷ []) 5 (codes "10") Spent
  -- of a global, a literal and two more objects the next is the fifth in region 0
  pub fifth_object : RunsWithin 5 in_region_0 (0 ∷ []) 100 [] (Exit (pos 0))
  pub is_one_too_many : RunsWithin 4 in_region_0 (0 ∷ []) 100 [] (Trapped Full 1)
