-- The tree of a text keeps what the tree of a file has to keep.
use Rattle.std.specs.Prelude.{◌≤◌, List, length}
use Rattle.std.proofs.Common.{sym, ◌∙◌, subst, arith}
use Rattle.rc_syntax.specs.Tree as t
use Rattle.rc_syntax.specs.Grammar.{Derives, Placed, node, Text}
use Rattle.rc_deletes.specs.Limits.{AreShort}
use Rattle.rc_judgements.proofs.Filled.{keeps_limits}
use Rattle.rc_judgements.proofs.Strings.{strings_of_text, strings_are, few_strings}
use Rattle.rc_linking.specs.Limits.{IsFileLimited}

pub limited : (tree : t.Tree) (words : List Placed) → Derives words (node Text tree.items) → length words ≤ 1048576 → AreShort words → IsFileLimited tree
limited tree words d few short = record {
  limited = keeps_limits tree.items words d (omega (arith, few)) short;
  few = subst (λ l. length l ≤ 1048576) (sym (strings_are tree ∙ strings_of_text tree.items words d)) (omega (arith, few_strings words, few));
}
