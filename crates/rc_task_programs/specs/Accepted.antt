-- The tasks of an accepted text.
use Rattle.std.specs.Prelude.{ℕ, List}
use Rattle.rc_core.specs.Programs.{Program}
use Rattle.rc_compile.specs.Acceptance.{Accepted}
use Rattle.rc_tasks.specs.Tasks.{Tasks}
use Rattle.rc_task_items.specs.Items.{tasks_of_text, without_tasks}

-- what its program has but for the three items, and the numbers that its functions have
abbrev pub tasks_in : (text : List ℕ) (program : Program) → Accepted text program → Tasks
tasks_in text program accepted = tasks_of_text accepted.has_program.tree.items (without_tasks program)
