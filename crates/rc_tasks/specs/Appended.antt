-- The program of a text of tasks with three items behind it, which take one choice after the other: a counter, `yield` and `main`. The lines
-- that they stand on are written out in rc_task_text.
use Rattle.std.specs.Prelude.{◌≡◌, ◌<◌, ◌≤◌, ℕ, suc, ◌+◌, pos, Bool, true, false, ◌||◌, nat_eq, List, [], ◌∷◌, ◌++◌, length, map, slice_get, Some, None}
use Rattle.std.specs.List.{AllByRecursion as Every}
use Rattle.rc_core.specs.declared.ty.Note.TheVariants.{Plain}
use Rattle.rc_core.specs.declared.ty.NumberType.TheVariants.{Int, Unsigned, Char}
use Rattle.rc_core.specs.declared.ty.Signedness.TheVariants.{Signed, Unsigned as Wrapping}
use Rattle.rc_core.specs.declared.operators.Operator.TheVariants.{Add, Less, Equal}
use Rattle.rc_core.specs.declared.stmt.Change.TheVariants.{Compute}
use Rattle.rc_core.specs.Types.{int, unsigned, char, pointer}
use Rattle.rc_core.specs.Programs.{Expr, constant, string, local, read, binary, convert, call, none, Place, global, indexed, here, Stmt, block, declare, assign, update, evaluate, branch, while, return, Stmts, done, then, Global, Function, Program}
use Rattle.rc_tasks.specs.Tasks.{Tasks, yield_of, main_of}
use Rattle.rc_tasks.specs.Reach.{StatementReaches}

-- unsigned rc_at;
abbrev pub counter : Global
counter = record { ty = unsigned; count = None; initial = pos 0 }

-- the character of a choice
abbrev pub digit : ℕ → ℕ
digit d = 48 + d

abbrev pub occurs : ℕ → List ℕ → Bool
occurs d [] = false
occurs d (c ∷ cs) = nat_eq c d || occurs d cs

abbrev pub also : Bool → Stmt → Stmts → Stmts
also true s rest = then s rest
also false s rest = rest

module _ (t : Tasks) (choices : List ℕ) (line : ℕ) where
  -- rc_at
  abbrev pub at : Place
  at = global (length t.program.globals) here

  abbrev pub at_value : Expr
  at_value = read line at

  -- rc_at < COUNT
  abbrev pub any_left : Expr
  any_left = binary line Less Wrapping at_value (convert line Int Unsigned (constant line Signed (pos (length choices))))

  -- if (c == 'd') task_d();
  abbrev pub call_of : ℕ → Stmt
  call_of d = branch line (binary line Equal Signed (convert line Char Int (local line 1)) (constant line Signed (pos (digit d)))) (evaluate line (call line (t.task d) none)) (block done)

  -- the same for each of these tasks that is chosen
  abbrev pub calls_of : List ℕ → Stmts
  calls_of [] = done
  calls_of (d ∷ ds) = also (occurs d choices) (call_of d) (calls_of ds)

  abbrev pub every_task : List ℕ
  every_task = 0 ∷ 1 ∷ 2 ∷ 3 ∷ 4 ∷ 5 ∷ 6 ∷ 7 ∷ 8 ∷ 9 ∷ []

  -- { char *s = "CHOICES"; char c; if (rc_at < COUNT) { c = s[rc_at]; rc_at++; CALLS } }
  abbrev pub taking : Stmts
  taking = then (assign line 1 (read line (indexed (local line 0) at_value here)))
      (then (update line at (Compute Unsigned Add Wrapping) (convert line Int Unsigned (constant line Signed (pos 1))))
      (calls_of every_task))

  abbrev pub yield_body : Stmt
  yield_body = block (then (declare line 0 (Some (string line (length t.program.strings)))) (then (declare line 1 None)
      (then (branch line any_left (block taking) (block done)) done)))

  -- void yield(void) deletes
  abbrev pub yield_function : Function
  yield_function = record { parameters = 0; locals = pointer Plain char ∷ char ∷ []; result = None; deletes = true; line = line; body = yield_body }

  -- { start(); while (rc_at < COUNT) yield(); return 0; }
  abbrev pub main_body : Stmt
  main_body = block (then (evaluate line (call line t.start none)) (then (while line any_left (evaluate line (call line (yield_of t) none)))
      (then (return line (Some (constant line Signed (pos 0)))) done)))

  -- int main(void) deletes
  abbrev pub main_function : Function
  main_function = record { parameters = 0; locals = []; result = Some int; deletes = true; line = line; body = main_body }

-- the program with the three items, of which `yield` stands at this line and `main` at the next
abbrev pub appended : Tasks → (choices : List ℕ) → (line : ℕ) → Program
appended t choices line = record {
  structs = t.program.structs;
  globals = t.program.globals ++ counter ∷ [];
  strings = t.program.strings ++ map digit choices ∷ [];
  functions = t.program.functions ++ yield_function t choices line ∷ main_function t choices (suc line) ∷ [];
  main = main_of t;
}

-- its functions name only its own globals and strings, and so none that is appended
abbrev pub HasOwnNames : Program → Type 0
HasOwnNames program = (k : ℕ) (f : Function) → slice_get program.functions k ≡ Some f → StatementReaches (length program.globals) (length program.strings) f.body

-- numbers of tasks, and not too many for the counter
abbrev pub ChooseTasks : List ℕ → Type 0
ChooseTasks choices = Every (λ d. d < 10) choices × (length choices ≤ 1000)
