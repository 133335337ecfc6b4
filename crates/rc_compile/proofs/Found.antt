-- What each stage answers is the text's one answer.
use Rattle.std.proofs.Common.{◌≤◌, ℕ, List, length, Ok}
use Rattle.rc_syntax.specs.declared.tree.Tree as declared_tree
use Rattle.rc_syntax.specs.Tokens.{Token}
use Rattle.rc_syntax.specs.Tree.{Tree}
use Rattle.rc_syntax.specs.Shape.{tree_of}
use Rattle.rc_syntax.specs.Grammar.{Text}
use Rattle.rc_syntax.specs.Words.{UnreadByte, UnreadToken}
use Rattle.rc_syntax.specs.Place.{AnswersAll, StopsAtLine, SinksAtLine}
use Rattle.rc_syntax.proofs.Whole.{one_tree, of_text}
use Rattle.rc_core.specs.Programs.{Program}
use Rattle.rc_deletes.specs.Answer.{IsProgramOf}
use Rattle.rc_compile.specs.Acceptance.{HasProgram, HasWords, byte, token, syntax, deep}
use Rattle.rc_compile.specs.Answers.{IsOnlyRefusal, IsOnlyTree}
use Rattle.rc_compile.specs.declared.refusal.Refusal.TheVariants.{Byte, Token as BadToken, Syntax, Deep}
use Rattle.rc_compile.proofs.OneAnswer.{only_tree, unread_only, no_tree_only}

pub byte_only : (text : List ℕ) (line : ℕ) → (length text ≤ 1048576) × UnreadByte text line → IsOnlyRefusal text (Byte line)
byte_only text line x = unread_only text (Byte line) x.0 (byte line x.1)

pub token_only : (text : List ℕ) (line : ℕ) → (length text ≤ 1048576) × UnreadToken text line → IsOnlyRefusal text (BadToken line)
token_only text line x = unread_only text (BadToken line) x.0 (token line x.1)

pub tree_found : (text : List ℕ) (tokens : List Token) (tree : declared_tree.Tree) → HasWords text tokens → AnswersAll tokens (Ok tree) → IsOnlyTree text (tree_of tree)
tree_found text tokens tree has x = only_tree text tokens (tree_of tree) has x.0 x.1 (λ items derived. one_tree Text of_text derived x.0)

pub syntax_only : (text : List ℕ) (tokens : List Token) (line : ℕ) → HasWords text tokens → StopsAtLine tokens line → IsOnlyRefusal text (Syntax line)
syntax_only text tokens line has x = no_tree_only text tokens (Syntax line) has (syntax line x)

pub deep_only : (text : List ℕ) (tokens : List Token) (line : ℕ) → HasWords text tokens → SinksAtLine tokens line → IsOnlyRefusal text (Deep line)
deep_only text tokens line has x = no_tree_only text tokens (Deep line) has (deep line x)

pub program_found : (text : List ℕ) (tree : Tree) (p : Program) → IsOnlyTree text tree → IsProgramOf tree p → HasProgram text p
program_found text tree p only typed = record { tree = tree; has_tree = only.is_tree; typed = typed }
