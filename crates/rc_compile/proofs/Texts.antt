-- Bytes that are accepted are accepted as a well-typed program.
use Rattle.std.proofs.Common.{◌≡◌, ◌∙◌, ℕ, List, [], ◌∷◌, ◌++◌, sym, ap, subst}
use Rattle.std.specs.List.{AllByRecursion as Every}
use Rattle.rc_core.specs.Numbers.{IsByte}
use Rattle.rc_core.specs.Programs.{Program}
use Rattle.rc_core.specs.WellTyped.{IsWellTyped}
use Rattle.rc_syntax.specs.Tokens.{Word, name, number, character, string, key, mark}
use Rattle.rc_syntax.specs.Tree.{Tree}
use Rattle.rc_syntax.specs.Grammar.{Placed, Text, placed}
use Rattle.rc_syntax.proofs.Whole.{of_text, one_tree}
use Rattle.rc_deletes.specs.Answer.{IsProgramOf}
use Rattle.rc_deletes.specs.Items.{at_the_start, context_of, items}
use Rattle.rc_deletes.specs.Limits.{strings_of}
use Rattle.rc_deletes.specs.Ranges.{ItemsInRange}
use Rattle.rc_judgements.proofs.Filled.{keeps_limits}
use Rattle.rc_judgements.proofs.Strings.{strings_are, strings_at, strings_in_items, strings_in_words, strings_of_text}
use Rattle.rc_judgements.proofs.WellTyped.{fits_together, held_by}
use Rattle.rc_compile.specs.Acceptance.{Accepted, HasTree}
use Rattle.rc_compile.specs.Answers.{IsOnlyTree}
use Rattle.rc_compile.proofs.Limits.{is_written}
use Rattle.rc_compile.proofs.OneAnswer.{only_tree}
use Rattle.rc_compile.proofs.Words.{WordInRange, WordsInRange, words_in_range}
use Rattle.rc_compile.proofs.Trees.{items_in_range}

-- the strings of words in range are of bytes
string_here : (w : Word) (rest : List (List ℕ)) → WordInRange w → Every (Every IsByte) rest → Every (Every IsByte) (strings_at w ++ rest)
string_here (string bytes) rest h more = (h, more)
string_here (name bytes) rest h more = more
string_here (number value unsigned) rest h more = more
string_here (character value) rest h more = more
string_here (key k) rest h more = more
string_here (mark i) rest h more = more

strings_in_range : (ws : List Placed) → WordsInRange ws → Every (Every IsByte) (strings_in_words ws)
strings_in_range [] all = tt
strings_in_range (p ∷ ps) all = string_here p.word (strings_in_words ps) all.0 (strings_in_range ps all.1)

-- the strings of a tree's program are the tree's
pub program_strings : (tree : Tree) (program : Program) → IsProgramOf tree program → program.strings ≡ strings_of tree
program_strings tree program is =
    let by = held_by (items (context_of tree.items) at_the_start tree.items) tree.items program is.0 in
    sym (ap (λ (p : Program). p.strings) by.2)

-- the numbers and the strings in the tree of bytes
pub tree_in_range : (text : List ℕ) (tree : Tree) → Every IsByte text → HasTree text tree → ItemsInRange tree.items × Every (Every IsByte) (strings_in_items tree.items)
tree_in_range text tree bytes has =
    let placed_words = placed 0 has.tokens in
    let words = words_in_range text has.tokens bytes has.has_words.words in
    (items_in_range tree.items placed_words has.derived words, subst (Every (Every IsByte)) (sym (strings_of_text tree.items placed_words has.derived)) (strings_in_range placed_words words))

-- the tree of a text is its only one
pub only_tree_of : (text : List ℕ) (tree : Tree) → HasTree text tree → IsOnlyTree text tree
only_tree_of text tree has = only_tree text has.tokens tree has.has_words has.derived has.shallow (λ items d. one_tree Text of_text d has.derived)

pub well_typed : (text : List ℕ) (program : Program) → Every IsByte text → Accepted text program → IsWellTyped program
well_typed text program bytes accepted =
    let tree = accepted.has_program.tree in
    let has = accepted.has_program.has_tree in
    let written = is_written text tree (only_tree_of text tree has) in
    let ranges = tree_in_range text tree bytes has in
    fits_together tree program ranges.0
    (keeps_limits tree.items written.words written.derived written.few written.short)
    (subst (Every (Every IsByte)) (sym (program_strings tree program accepted.has_program.typed ∙ strings_are tree)) ranges.1)
    accepted.has_program.typed
