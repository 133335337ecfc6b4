-- Small programs written out as data, and what their region code does: the definitions compute. They are the programs of the
-- definition's own examples, and one with struct copies, an update and a chosen value. `Runs` says the end of a run on an empty input
-- and what was written before it, within so many turns. A program is given by its structs, globals and functions; locals, fields and
-- functions go by number; the text above each says it in the language. What is asked for in `Examples` holds by computation alone: the
-- meaning of region code, run on the translation, comes to just this. The same programs with the same ends stand in the definition
-- of the language.
use Rattle.std.specs.Prelude.{◌≡◌, ℕ, ℤ, pos, true, List, [], ◌∷◌, Some, None}
use Rattle.rc_base.specs.Acts.{Act, Write}
use Rattle.rc_base.specs.declared.ends.End.{End}
use Rattle.rc_base.specs.declared.ends.End.TheVariants.{Exit, Trapped, Spent}
use Rattle.rc_base.specs.declared.ends.Trap.TheVariants.{SameRegion as UnfitSameRegion, Subregion, Reference}
use Rattle.rc_base.specs.declared.ends.Limits.{Limits}
use Rattle.rc_core.specs.declared.ty.Note.TheVariants.{Plain, SameRegion}
use Rattle.rc_core.specs.declared.ty.Signedness.TheVariants.{Signed}
use Rattle.rc_core.specs.declared.operators.Operator.TheVariants.{Add, Divide, Remainder, Less, LessEqual}
use Rattle.rc_core.specs.Types.{Ty, int, region, struct, pointer}
use Rattle.rc_core.specs.Programs.{Expr, constant, null, local, read, binary, call, new_region, new_subregion, allocate, putchar, none, more, Place, global, pointed, here, field, Stmt, block, declare, assign, store, evaluate, delete, repeat, for, return, update, copy, choose, and, not_zero, element, Stmts, done, then, Field, Struct, Global, Function, Program}
use Rattle.rc_core.specs.Runs.{Ends}
use Rattle.rc_core.specs.Meaning.{meaning_of_run, first_world}
use Rattle.rc_core.specs.Source.{source}
use Rattle.rc_rlang.specs.RegionRuns.{run_main}
use Rattle.rc_translation.specs.Translation.{region_of_program}
use Rattle.rc_core.specs.declared.stmt.Change.TheVariants.{Compute}
use Rattle.rc_core.specs.declared.ty.NumberType.TheVariants.{Int}

abbrev pub limits : (turns : ℕ) → Limits
limits turns = record { turns = turns; regions = 10; blocks = 10 }

-- it has this end, and wrote these bytes, on an empty input and within these turns
abbrev pub Runs : Program → (turns : ℕ) → List Act → End → Type 0
Runs program turns acts end = meaning_of_run [] (run_main source (region_of_program program) (first_world program [] (limits turns))) ≡ record { acts = acts; taken = 0; end = Ends end }

abbrev number : ℤ → Expr
number n = constant 1 Signed n

abbrev one : Ty → Field
one ty = record { ty = ty; count = None }

abbrev to_node : Ty
to_node = pointer Plain (struct 0)

abbrev function_with : (parameters : ℕ) → List Ty → Stmts → Function
function_with parameters locals body = record { parameters = parameters; locals = locals; result = Some int; deletes = true; line = 1; body = block body }

abbrev program_with : List Struct → List Global → List Function → Program
program_with structs globals functions = record { structs = structs; globals = globals; strings = []; functions = functions; main = 0 }

abbrev give : ℕ → Stmts
give line = then (return line (Some (number (pos 0)))) done

abbrev new : (line x : ℕ) → Stmt
new line x = declare line x (Some (new_region line))

abbrev allocate_in : (line x region : ℕ) → Stmt
allocate_in line x r = declare line x (Some (allocate line (local line r) (struct 0)))

-- putchar(72); return 0;
abbrev hello : Program
hello = program_with [] [] (function_with 0 [] (then (evaluate 1 (putchar 1 (number (pos 72)))) (give 1)) ∷ [])

-- struct node { int v; struct node *sameregion next; };
abbrev node : Struct
node = one int ∷ one (pointer SameRegion (struct 0)) ∷ []

abbrev next_of : (line x : ℕ) → Place
next_of line x = pointed (local line x) (field 0 1 here)

-- nine nodes in a list, their sum in two digits, and the deletion of all: r, last, n, i and sum are locals 0 to 4
abbrev listed : Program
listed = program_with (node ∷ []) [] (function_with 0 (region ∷ to_node ∷ to_node ∷ int ∷ int ∷ [])
    (then (new 4 0) (then (declare 5 1 (Some (null 5))) (then (declare 5 2 None) (then (declare 6 3 None) (then (declare 6 4 (Some (number (pos 0))))
    (then (for 7 (assign 7 3 (number (pos 1))) (Some (binary 7 LessEqual Signed (local 7 3) (number (pos 9)))) (assign 7 3 (binary 7 Add Signed (local 7 3) (number (pos 1))))
    (block (then (assign 8 2 (allocate 8 (local 8 0) (struct 0)))
    (then (store 9 (pointed (local 9 2) (field 0 0 here)) (local 9 3))
    (then (store 10 (next_of 10 2) (local 10 1))
    (then (assign 11 1 (local 11 2)) done))))))
    (then (for 13 (assign 13 2 (local 13 1)) (Some (local 13 2)) (assign 13 2 (read 13 (next_of 13 2)))
    (assign 13 4 (binary 13 Add Signed (local 13 4) (read 13 (pointed (local 13 2) (field 0 0 here))))))
    (then (evaluate 14 (putchar 14 (binary 14 Add Signed (number (pos 48)) (binary 14 Divide Signed (local 14 4) (number (pos 10))))))
    (then (evaluate 14 (putchar 14 (binary 14 Add Signed (number (pos 48)) (binary 14 Remainder Signed (local 14 4) (number (pos 10))))))
    (then (delete 15 (local 15 0)) (give 16))))))))))) ∷ [])

-- r = newregion(); p = ralloc(r, struct node); deleteregion(r); and then the return of this
abbrev dangling : Expr → Program
dangling result = program_with ((one int ∷ []) ∷ []) [] (function_with 0 (region ∷ to_node ∷ [])
    (then (new 3 0) (then (allocate_in 4 1 0) (then (delete 5 (local 5 0)) (then (return 6 (Some result)) done)))) ∷ [])

-- a global names the region, or is set to null before the deletion
abbrev in_global : (before : Stmts → Stmts) → Program
in_global before = program_with ((one int ∷ []) ∷ []) (record { ty = to_node; count = None; initial = pos 0 } ∷ [])
    (function_with 0 (region ∷ []) (then (new 4 0) (then (store 4 (global 0 here) (allocate 4 (local 4 0) (struct 0))) (before (then (delete 5 (local 5 0)) (give 6))))) ∷ [])

-- a handle in a cell of its own region
abbrev inside : Program
inside = program_with ((one region ∷ []) ∷ []) [] (function_with 0 (region ∷ to_node ∷ [])
    (then (new 4 0) (then (allocate_in 4 1 0) (then (store 4 (pointed (local 4 1) (field 0 0 here)) (local 4 0)) (then (delete 5 (local 5 0)) (give 6))))) ∷ [])

-- two regions whose objects point to each other
abbrev ring : Program
ring = program_with ((one to_node ∷ []) ∷ []) [] (function_with 0 (region ∷ region ∷ to_node ∷ to_node ∷ [])
    (then (new 3 0) (then (new 3 1) (then (allocate_in 4 2 0) (then (allocate_in 4 3 1)
    (then (store 5 (pointed (local 5 2) (field 0 0 here)) (local 5 3)) (then (store 5 (pointed (local 5 3) (field 0 0 here)) (local 5 2))
    (then (delete 6 (local 6 0)) (give 7)))))))) ∷ [])

-- a region and its subregion are deleted, this one first and then that one
abbrev family : (first second : ℕ) → Program
family first second = program_with [] [] (function_with 0 (region ∷ region ∷ [])
    (then (new 2 0) (then (declare 2 1 (Some (new_subregion 2 (local 2 0)))) (then (delete 3 (local 3 first)) (then (delete 4 (local 4 second)) (give 5))))) ∷ [])

-- an object's `next` is set by a function, to an object of this region
abbrev linked : (region : ℕ) → Program
linked r = program_with (node ∷ []) [] (function_with 0 (region ∷ region ∷ [])
    (then (new 3 0) (then (new 3 1) (then (evaluate 4 (call 4 1 (more (allocate 4 (local 4 0) (struct 0)) (more (allocate 4 (local 4 r) (struct 0)) none)))) (give 4))))
    ∷ function_with 2 (to_node ∷ to_node ∷ []) (then (store 2 (next_of 2 0) (local 2 1)) done) ∷ [])

-- a caller's live local names the region that a function two calls further deletes, where p is returned behind the call
abbrev frames : Expr → Program
frames result = program_with ((one int ∷ []) ∷ []) [] (
    function_with 0 (region ∷ to_node ∷ []) (then (new 4 0) (then (allocate_in 5 1 0) (then (evaluate 6 (call 6 1 (more (local 6 0) none))) (then (return 7 (Some result)) done))))
    ∷ function_with 1 (region ∷ []) (then (evaluate 3 (call 3 2 (more (local 3 0) none))) done)
    ∷ function_with 1 (region ∷ []) (then (delete 2 (local 2 0)) done) ∷ [])

-- i = 0; do i++; while (i < 3); return i;
abbrev counting : Program
counting = program_with [] [] (function_with 0 (int ∷ []) (then (declare 1 0 (Some (number (pos 0))))
    (then (repeat 1 (assign 1 0 (binary 1 Add Signed (local 1 0) (number (pos 1)))) (binary 1 Less Signed (local 1 0) (number (pos 3))))
    (then (return 1 (Some (local 1 0))) done))) ∷ [])

-- struct n { int v; struct n *sameregion next; char c[2]; } over r and s: the last copy goes to another region, or to its own
abbrev pair : (target : ℕ) → Program
pair target = program_with ((one int ∷ one (pointer SameRegion (struct 0)) ∷ record { ty = int; count = Some 2 } ∷ []) ∷ []) [] (function_with 0 (region ∷ region ∷ to_node ∷ to_node ∷ to_node ∷ [])
    (then (new 3 0) (then (new 3 1) (then (allocate_in 4 2 0) (then (allocate_in 4 3 0) (then (allocate_in 4 4 1)
    (then (store 5 (pointed (local 5 3) (field 0 0 here)) (number (pos 7))) (then (store 5 (pointed (local 5 3) (field 0 1 here)) (local 5 3)) (then (store 5 (pointed (local 5 3) (element 0 2 (number (pos 1)) here)) (number (pos 65)))
    (then (copy 6 0 (pointed (local 6 2) here) (pointed (local 6 3) here))
    (then (evaluate 7 (putchar 7 (read 7 (pointed (local 7 2) (element 0 2 (number (pos 1)) here)))))
    (then (copy 8 0 (pointed (local 8 4) here) (pointed (local 8 target) here))
    (then (update 9 (pointed (local 9 2) (element 0 2 (number (pos 1)) here)) (Compute Int Add Signed) (number (pos 5)))
    (then (return 9 (Some (binary 9 Add Signed (read 9 (pointed (local 9 2) (field 0 0 here))) (choose 9 (and 9 (local 9 2) (not_zero 9 (number (pos 0)))) (read 9 (pointed (local 9 2) (element 0 2 (number (pos 1)) here))) (number (pos 3)))))) done))))))))))))) ∷ [])

abbrev value_of_p : (x : ℕ) → Expr
value_of_p x = read 6 (pointed (local 6 x) (field 0 0 here))

-- each of the programs with its end, whatever it means that a program runs so
pub record AllRun (Runs : Program → (turns : ℕ) → List Act → End → Type 0) : Type 0 where
  pub pair_traps : Runs (pair 3) 1 (Write 65 ∷ []) (Trapped UnfitSameRegion 8)
  pub pair_exits : Runs (pair 4) 1 (Write 65 ∷ []) (Exit (pos 77))
  pub hello_writes : Runs hello 1 (Write 72 ∷ []) (Exit (pos 0))
  pub hello_needs_a_turn : Runs hello 0 [] Spent
  pub list_is_summed : Runs listed 19 (Write 52 ∷ Write 53 ∷ []) (Exit (pos 0))
  pub list_needs_its_turns : Runs listed 18 [] Spent
  pub live_local_is_a_reference : Runs (dangling (value_of_p 1)) 1 [] (Trapped Reference 5)
  pub dead_local_is_none : Runs (dangling (number (pos 1))) 1 [] (Exit (pos 1))
  pub global_is_a_reference : Runs (in_global (λ rest. rest)) 1 [] (Trapped Reference 5)
  pub null_global_is_none : Runs (in_global (then (store 4 (global 0 here) (null 4)))) 1 [] (Exit (pos 0))
  pub handle_inside_is_none : Runs inside 1 [] (Exit (pos 0))
  pub ring_holds_its_regions : Runs ring 1 [] (Trapped Reference 6)
  pub child_goes_first : Runs (family 0 1) 1 [] (Trapped Subregion 3)
  pub then_its_parent : Runs (family 1 0) 1 [] (Exit (pos 0))
  pub other_region_does_not_fit : Runs (linked 1) 2 [] (Trapped UnfitSameRegion 2)
  pub own_region_fits : Runs (linked 0) 2 [] (Exit (pos 0))
  pub waiting_local_is_a_reference : Runs (frames (read 7 (pointed (local 7 1) (field 0 0 here)))) 3 [] (Trapped Reference 2)
  pub nothing_waits : Runs (frames (number (pos 0))) 3 [] (Exit (pos 0))
  pub a_step_back_is_a_turn : Runs counting 3 [] (Exit (pos 3))
  pub and_no_more : Runs counting 2 [] Spent

abbrev pub Examples : Type 0
Examples = AllRun Runs
