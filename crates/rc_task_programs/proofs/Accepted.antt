-- What an accepted text of tasks means.
use Rattle.std.proofs.Common.{◌≡◌, ℕ, suc, List, [], ◌∷◌, ◌++◌}
use Rattle.std.specs.List.{AllByRecursion as Every}
use Rattle.rc_base.specs.declared.ends.Limits.{Limits}
use Rattle.rc_core.specs.Numbers.{IsByte}
use Rattle.rc_core.specs.Programs.{Program}
use Rattle.rc_core.specs.Meaning.{meaning}
use Rattle.rc_syntax.specs.Bytes.{line_behind}
use Rattle.rc_syntax.specs.Grammar.{placed}
use Rattle.rc_compile.specs.Acceptance.{Accepted}
use Rattle.rc_tasks.specs.Tasks.{task_meaning}
use Rattle.rc_tasks.specs.Appended.{appended}
use Rattle.rc_task_text.specs.TaskText.{AreChoices, task_text_of}
use Rattle.rc_task_trees.specs.Choices.{choices_of}
use Rattle.rc_task_trees.specs.Programs.{TypesTasks}
use Rattle.rc_task_trees.proofs.Meanings.{has_program, means_tasks}
use Rattle.rc_task_trees.proofs.Bytes.{all_bytes}
use Rattle.rc_task_programs.specs.Accepted.{tasks_in}
use Rattle.rc_compile.proofs.Texts.{well_typed}
use Rattle.rc_compile.proofs.Words.{words_in_range}
use Rattle.rc_compile.proofs.Trees.{items_in_range}

types : (text digits : List ℕ) (program : Program) → Every IsByte text → AreChoices digits → (accepted : Accepted (task_text_of text digits) program) → TypesTasks text digits accepted.has_program.tree.items program
types text digits program bytes good accepted =
    let whole = task_text_of text digits in
    let has = accepted.has_program.has_tree in
    let items = accepted.has_program.tree.items in
    let all = all_bytes text digits bytes good in
    record {
      choices = good;
      tokens = has.tokens;
      words = has.has_words.words;
      derived = has.derived;
      in_range = items_in_range items (placed 0 has.tokens) has.derived (words_in_range whole has.tokens all has.has_words.words);
      typed = accepted.has_program.typed.0;
      well_typed = well_typed whole program all accepted;
    }

pub accepted_has : (text digits : List ℕ) (program : Program) → Every IsByte text → AreChoices digits → (accepted : Accepted (task_text_of text digits) program) →
    program ≡ appended (tasks_in (task_text_of text digits) program accepted) (choices_of digits) (suc (line_behind (text ++ 10 ∷ [])))
accepted_has text digits program bytes good accepted = (has_program text digits accepted.has_program.tree.items program (types text digits program bytes good accepted)).0

pub accepted_runs : (text digits : List ℕ) (program : Program) (input : List ℕ) (limits : Limits) → Every IsByte text → AreChoices digits → (accepted : Accepted (task_text_of text digits) program) →
    meaning program input limits ≡ task_meaning (tasks_in (task_text_of text digits) program accepted) (choices_of digits) input limits
accepted_runs text digits program input limits bytes good accepted = means_tasks text digits accepted.has_program.tree.items program input limits (types text digits program bytes good accepted)
