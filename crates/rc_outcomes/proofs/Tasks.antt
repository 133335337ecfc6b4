-- The tasks of a text do what its program means, since the lines behind it run them.
use Rattle.std.proofs.Common.{◌≡◌, ◌∙◌, ◌↔◌, ℕ, List, sym, ap, subst}
use Rattle.std.specs.List.{AllByRecursion as Every}
use Rattle.rc_base.specs.declared.ends.End.{End}
use Rattle.rc_base.specs.declared.ends.Limits.{Limits}
use Rattle.rc_compile.specs.Acceptance.{Accepted, HasTree}
use Rattle.rc_core.specs.Meaning.{Meaning, meaning}
use Rattle.rc_core.specs.Numbers.{IsByte}
use Rattle.rc_core.specs.Programs.{Program}
use Rattle.rc_core.specs.Runs.{Ends}
use Rattle.rc_syntax.specs.Grammar.{Text, Derives, node, placed}
use Rattle.rc_syntax.specs.Tokens.{Token}
use Rattle.rc_syntax.specs.Tree.{Item, Tree}
use Rattle.rc_syntax.proofs.CutLaws.{one_list}
use Rattle.rc_syntax.proofs.Whole.{of_text, one_tree}
use Rattle.rc_task_items.specs.Items.{tasks_of_text, without_tasks}
use Rattle.rc_task_programs.proofs.Accepted.{accepted_runs}
use Rattle.rc_task_text.specs.TaskText.{AreChoices, task_text_of}
use Rattle.rc_task_trees.specs.Choices.{choices_of}
use Rattle.rc_tasks.specs.Tasks.{task_meaning}
use Rattle.rc_outcomes.specs.Outcome.{OfText, Outcome, Runs, RunsTasks, accepts, as_left, means_by_tasks, refuses, runs}

-- two trees of one text have the same items
same_items : (text : List ℕ) (one other : Tree) → HasTree text one → HasTree text other → one.items ≡ other.items
same_items text one other is also =
    let same : is.tokens ≡ also.tokens = one_list text is.tokens also.tokens is.has_words.words also.has_words.words in
    one_tree Text of_text (subst (λ (tokens : List Token). Derives (placed 0 tokens) (node Text one.items)) same is.derived) also.derived

same_by_tasks : (text choices input : List ℕ) (limits : Limits) (program : Program) (one other : Tree) → HasTree text one → HasTree text other → means_by_tasks one program choices input limits ≡ means_by_tasks other program choices input limits
same_by_tasks text choices input limits program one other is also =
    ap (λ (items : List Item). task_meaning (tasks_of_text items (without_tasks program)) (choices_of choices) input limits) (same_items text one other is also)

-- what comes of the tasks of a program is one outcome
pub one_by_tasks : (limits : Limits) (choices text input : List ℕ) (one other : Outcome) (program : Program) → RunsTasks limits choices text input program one → RunsTasks limits choices text input program other → one ≡ other
one_by_tasks limits choices text input one other program is also =
    let same = same_by_tasks text choices input limits program is.tree also.tree is.has_tree also.has_tree in
    let ends : Ends is.end ≡ Ends also.end = sym is.ends ∙ ap (λ (m : Meaning). m.end) same ∙ also.ends in
    let end : is.end ≡ also.end = cc in
    is.comes
    ∙ ap (λ (m : Meaning). runs m.acts is.end (as_left program input limits)) same
    ∙ ap (λ (e : End). runs (means_by_tasks also.tree program choices input limits).acts e (as_left program input limits)) end
    ∙ sym also.comes

module _ (text choices input : List ℕ) (limits : Limits) (bytes : Every IsByte text) (are : AreChoices choices) where
  abbrev pub whole : List ℕ
  whole = task_text_of text choices

  -- a program means what its tasks mean
  means : (program : Program) (tree : Tree) → Accepted whole program → HasTree whole tree → meaning program input limits ≡ means_by_tasks tree program choices input limits
  means program tree accepted has =
      accepted_runs text choices program input limits bytes are accepted
      ∙ same_by_tasks whole choices input limits program accepted.has_program.tree tree accepted.has_program.has_tree has

  -- and so comes to the same
  pub by_tasks : (outcome : Outcome) → OfText (Runs as_left limits input) whole outcome → OfText (RunsTasks limits choices whole input) whole outcome
  by_tasks outcome (accepts program accepted made) =
      let same = means program accepted.has_program.tree accepted accepted.has_program.has_tree in
      accepts program accepted (record {
        tree = accepted.has_program.tree;
        has_tree = accepted.has_program.has_tree;
        end = made.end;
        ends = ap (λ (m : Meaning). m.end) (sym same) ∙ made.ends;
        comes = made.comes ∙ ap (λ (m : Meaning). runs m.acts made.end (as_left program input limits)) same;
      })
  by_tasks outcome (refuses refusal refused comes) = refuses refusal refused comes

  pub as_program : (outcome : Outcome) → OfText (RunsTasks limits choices whole input) whole outcome → OfText (Runs as_left limits input) whole outcome
  as_program outcome (accepts program accepted made) =
      let same = means program made.tree accepted made.has_tree in
      accepts program accepted (record {
        end = made.end;
        ends = ap (λ (m : Meaning). m.end) same ∙ made.ends;
        comes = made.comes ∙ ap (λ (m : Meaning). runs m.acts made.end (as_left program input limits)) (sym same);
      })
  as_program outcome (refuses refusal refused comes) = refuses refusal refused comes

  pub both_ways : (outcome : Outcome) → OfText (RunsTasks limits choices whole input) whole outcome ↔ OfText (Runs as_left limits input) whole outcome
  both_ways outcome = (as_program outcome, by_tasks outcome)
