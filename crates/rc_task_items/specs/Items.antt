-- The three lines that stand behind a text of tasks, as trees. Typing looks at the lines of words and not at their places, so these are any:
-- the node of each number has the place that a function gives it, and no two nodes of an item share a number.
use Rattle.std.specs.Prelude.{ℕ, suc, ◌+◌, Bool, true, false, List, [], ◌∷◌, ◌++◌, codes, length, map, Some, None}
use Rattle.rc_syntax.specs.declared.tree.Spot.{Spot}
use Rattle.rc_syntax.specs.declared.tree.Name.{Name}
use Rattle.rc_syntax.specs.declared.tree.Base.TheVariants as base
use Rattle.rc_syntax.specs.declared.tree.Note.TheVariants.{Plain}
use Rattle.rc_syntax.specs.declared.tree.BinaryOp.TheVariants.{Less, Equal}
use Rattle.rc_syntax.specs.declared.tree.StepOp.TheVariants.{Increment}
use Rattle.rc_syntax.specs.Tree as t
use Rattle.rc_deletes.specs.Kinds.{place_of, number_or}
use Rattle.rc_deletes.specs.Items.{function_names}
use Rattle.rc_core.specs.Programs.{Program}
use Rattle.rc_tasks.specs.Tasks.{Tasks}
use Rattle.rc_tasks.specs.Appended.{digit, occurs}

abbrev pub counter_name : List ℕ
counter_name = codes "rc_at"

abbrev pub yield_name : List ℕ
yield_name = codes "yield"

abbrev pub start_name : List ℕ
start_name = codes "start"

abbrev pub task_name : ℕ → List ℕ
task_name d = codes "task_" ++ digit d ∷ []

-- one line: its choices, the place of each node by its number, and the line on which all stand
module _ (choices : List ℕ) (place : ℕ → ℕ) (line : ℕ) where
  abbrev pub spot : ℕ → Spot
  spot k = record { place = place k; line = line }

  abbrev pub named : ℕ → List ℕ → Name
  named k text = record { spot = spot k; text = text }

  -- unsigned rc_at;
  abbrev pub counter_item : t.Item
  counter_item = t.global (spot 0) (record { base = base.Unsigned (spot 1); stars = [] }) (named 2 counter_name) None None

  abbrev pub at : ℕ → t.Expr
  at k = t.variable (named k counter_name)

  -- rc_at < COUNT
  abbrev pub any_left : ℕ → t.Expr
  any_left k = t.binary (spot k) Less (at (k + 1)) (t.number (spot (k + 2)) (length choices) false)

  -- name();
  abbrev pub call_of : ℕ → List ℕ → t.Stmt
  call_of k name = t.simple (spot k) (t.expression (t.call (named (k + 1) name) t.none))

  -- if (c == 'd') task_d();
  abbrev pub task_of : (k d : ℕ) → t.Stmt
  task_of k d = t.if_then (spot k) (t.binary (spot (k + 1)) Equal (t.variable (named (k + 2) (codes "c"))) (t.character (spot (k + 3)) (digit d))) (call_of (k + 4) (task_name d))

  abbrev pub also : Bool → t.Stmt → t.Stmts → t.Stmts
  also true s rest = t.next s rest
  also false s rest = rest

  -- the same for each of these tasks that is chosen
  abbrev pub tasks_of : (k : ℕ) → List ℕ → t.Stmts
  tasks_of k [] = t.done
  tasks_of k (d ∷ ds) = also (occurs d choices) (task_of k d) (tasks_of (k + 6) ds)

  abbrev pub every_task : List ℕ
  every_task = 0 ∷ 1 ∷ 2 ∷ 3 ∷ 4 ∷ 5 ∷ 6 ∷ 7 ∷ 8 ∷ 9 ∷ []

  -- c = s[rc_at]; rc_at++; and the calls
  abbrev pub taking : t.Stmts
  taking =
      t.next (t.simple (spot 20) (t.assign (spot 21) (t.variable (named 22 (codes "c"))) (t.index (spot 23) (t.variable (named 24 (codes "s"))) (at 25))))
      (t.next (t.simple (spot 26) (t.step_after (spot 27) Increment (at 28))) (tasks_of 30 every_task))

  -- char *s = "CHOICES";
  abbrev pub text_local : t.Local
  text_local = record { spot = spot 4; type_name = record { base = base.Char (spot 5); stars = Plain ∷ [] }; name = named 6 (codes "s"); initial = Some (t.string (spot 7) (map digit choices)) }

  -- char c;
  abbrev pub choice_local : t.Local
  choice_local = record { spot = spot 8; type_name = record { base = base.Char (spot 9); stars = [] }; name = named 10 (codes "c"); initial = None }

  abbrev pub yield_body : t.Stmts
  yield_body = t.next (t.local text_local) (t.next (t.local choice_local) (t.next (t.if_then (spot 11) (any_left 12) (t.block (spot 19) taking)) t.done))

  -- void yield(void) deletes
  abbrev pub yield_item : t.Item
  yield_item = t.function (spot 0) true None (named 1 yield_name) [] (Some yield_body)

  abbrev pub main_body : t.Stmts
  main_body =
      t.next (call_of 12 start_name) (t.next (t.while_do (spot 4) (any_left 5) (call_of 8 yield_name))
      (t.next (t.return_with (spot 10) (Some (t.number (spot 11) 0 false))) t.done))

  -- int main(void) deletes
  abbrev pub main_item : t.Item
  main_item = t.function (spot 0) true (Some (record { base = base.Int (spot 1); stars = [] })) (named 2 (codes "main")) [] (Some main_body)

abbrev pub appended_items : (choices : List ℕ) → (places : ℕ → ℕ → ℕ) → (line : ℕ) → List t.Item
appended_items choices places line = counter_item choices (places 0) line ∷ yield_item choices (places 1) (suc line) ∷ main_item choices (places 2) (suc (suc line)) ∷ []

-- the number of a function that the text defines; of another one 0
abbrev pub number_of : List t.Item → List ℕ → ℕ
number_of items name = number_or (place_of (function_names items) name) 0

-- the tasks of a text: what its program is without the three lines, and the numbers that its functions have
abbrev pub tasks_of_text : List t.Item → Program → Tasks
tasks_of_text items own = record { program = own; start = number_of items start_name; task = λ d. number_of items (task_name d) }

abbrev pub without_last : {A : Type 0} → List A → List A
without_last [] = []
without_last (x ∷ []) = []
without_last (x ∷ y ∷ xs) = x ∷ without_last (y ∷ xs)

-- a program without the three items. It has no `main` of its own; the number 0 stands for none, and nothing looks at it.
abbrev pub without_tasks : Program → Program
without_tasks program = record {
  structs = program.structs;
  globals = without_last program.globals;
  strings = without_last program.strings;
  functions = without_last (without_last program.functions);
  main = 0;
}
