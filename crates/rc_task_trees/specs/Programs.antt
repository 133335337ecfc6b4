-- A text of tasks with its tree and its program.
use Rattle.std.specs.Prelude.{ℕ, List}
use Rattle.rc_syntax.specs.Tokens.{Token}
use Rattle.rc_syntax.specs.Words.{Words}
use Rattle.rc_syntax.specs.Tree.{Item}
use Rattle.rc_syntax.specs.Grammar.{Text, node, placed, Derives}
use Rattle.rc_core.specs.Programs.{Program}
use Rattle.rc_core.specs.WellTyped.{IsWellTyped}
use Rattle.rc_deletes.specs.Items.{Typed}
use Rattle.rc_deletes.specs.Ranges.{ItemsInRange}
use Rattle.rc_task_text.specs.TaskText.{AreChoices, task_text_of}

-- these are the items of the text with the three lines behind it, and this is the program that they have by the rules of types
pub record TypesTasks (text digits : List ℕ) (items : List Item) (program : Program) : Type 0 where
  pub choices : AreChoices digits
  pub tokens : List Token
  pub words : Words (task_text_of text digits) tokens
  pub derived : Derives (placed 0 tokens) (node Text items)
  pub in_range : ItemsInRange items
  pub typed : Typed (record { items = items }) program
  pub well_typed : IsWellTyped program
