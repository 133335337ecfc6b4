-- What a text of tasks means.
use Rattle.rc_task_trees.proofs.Common.{◌≡◌, ◌<◌, ◌≤◌, refl, ap, sym, ◌∙◌, subst, arith, length-map, Limits, line_behind, Token, Words, placed, node, Derives, Program, meaning, Typed, ItemsInRange, task_meaning, digit, appended, ChooseTasks, HasOwnNames, means, tasks_of_text, without_tasks, tasks_without, task_text_of, choices_of, EndsWithTasks, TypesTasks}
use Rattle.std.proofs.Common.{ℕ, suc, ◌-◌, List, [], ◌∷◌, ◌++◌, map}
use Rattle.std.specs.List.{AllByRecursion as Every}
use Rattle.rc_syntax.specs.Tree as t
use Rattle.rc_syntax.specs.Grammar as g
use Rattle.rc_task_text.specs.TaskText as text_of
use Rattle.rc_task_trees.proofs.Whole.{ends_with_tasks}

digits_back : (digits : List ℕ) → Every (λ b. (48 ≤ b) × (b < 58)) digits → map digit (choices_of digits) ≡ digits
digits_back [] h = refl
digits_back (b ∷ digits) h = let e : digit (b - 48) ≡ b = omega (arith, h.0.0) in let f = digits_back digits h.1 in (cc)

choices_small : (digits : List ℕ) → Every (λ b. (48 ≤ b) × (b < 58)) digits → Every (λ d. d < 10) (choices_of digits)
choices_small [] h = tt
choices_small (b ∷ digits) h = (omega (arith, h.0.0, h.0.1), choices_small digits h.1)

pub are_choices : (digits : List ℕ) → text_of.AreChoices digits → ChooseTasks (choices_of digits)
are_choices digits h = (choices_small digits h.0, omega (arith, length-map digits (λ b. b - 48), h.2))

pub ends : (text digits : List ℕ) (tokens : List Token) (items : List t.Item) → text_of.AreChoices digits → Words (task_text_of text digits) tokens → Derives (placed 0 tokens) (node g.Text items) → EndsWithTasks text (choices_of digits) tokens items
ends text digits tokens items h words d =
    let P : List ℕ → Type 0 = λ z. Words (task_text_of text z) tokens in
    let a = are_choices digits h in
    ends_with_tasks text (choices_of digits) tokens items a.1 a.0 (subst P (sym (digits_back digits h.0)) words) d

-- the program is that of the tasks with the three items, and none of its own functions names them
pub has_program : (text digits : List ℕ) (items : List t.Item) (program : Program) → TypesTasks text digits items program →
    (program ≡ appended (tasks_of_text items (without_tasks program)) (choices_of digits) (suc (line_behind (text ++ 10 ∷ [])))) × HasOwnNames (without_tasks program)
has_program text digits items program h =
    let choices = choices_of digits in
    let e = ends text digits h.tokens items h.choices h.words h.derived in
    let few = are_choices digits h.choices in
    let P : List t.Item → Type 0 = λ z. ItemsInRange z in
    let Q : List t.Item → Type 0 = λ z. Typed (record { items = z }) program in
    let x = tasks_without e.own choices e.places e.line program few.1 (subst P e.are h.in_range) h.well_typed (subst Q e.are h.typed) in (
      x.0 ∙ ap (λ z. appended (tasks_of_text z (without_tasks program)) choices (suc e.line)) (sym e.are) ∙ ap (λ n. appended (tasks_of_text items (without_tasks program)) choices (suc n)) e.on_line,
      x.1,
    )

pub means_tasks : (text digits : List ℕ) (items : List t.Item) (program : Program) (input : List ℕ) (limits : Limits) → TypesTasks text digits items program →
    meaning program input limits ≡ task_meaning (tasks_of_text items (without_tasks program)) (choices_of digits) input limits
means_tasks text digits items program input limits h =
    let x = has_program text digits items program h in
    ap (λ z. meaning z input limits) x.0
    ∙ means (tasks_of_text items (without_tasks program)) (choices_of digits) (suc (line_behind (text ++ 10 ∷ []))) x.1 (are_choices digits h.choices) input limits
