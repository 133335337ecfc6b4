-- Which texts are programs, and why another is refused. A text goes through its words, its tree, the rules of types and the
-- counts of what it needs, and is refused by the first of these that it fails.
use Rattle.std.specs.Prelude.{◌≡◌, ◌<◌, ◌≤◌, ℕ, List, length, Some}
use Rattle.rc_base.specs.Limits.{most_text_bytes}
use Rattle.rc_syntax.specs.Tokens.{Token}
use Rattle.rc_syntax.specs.Words.{Words, UnreadByte, UnreadToken}
use Rattle.rc_syntax.specs.Tree.{Tree}
use Rattle.rc_syntax.specs.Grammar.{Text, Derives, node, placed}
use Rattle.rc_syntax.specs.Place.{Shallow, StopsAtLine, SinksAtLine}
use Rattle.rc_core.specs.Programs.{Program}
use Rattle.rc_deletes.specs.Answer as rules
use Rattle.rc_deletes.specs.declared.fault.Refusal.TheVariants as node_refusal
use Rattle.rc_deletes.specs.declared.deletes.DeletesFault.TheVariants as place_refusal
use Rattle.rc_rlang.specs.Bounds.{FirstWide, HasManyPoints, IsWithinBounds}
use Rattle.rc_compile.specs.declared.refusal.Refusal.{Refusal}
use Rattle.rc_compile.specs.declared.refusal.Refusal.TheVariants.{TooLong, Byte, Token as BadToken, Syntax, Deep, Unknown, Twice, Mistyped, Arity, AnnotationPlace, NotDeletes, DeletesPlace, Main, TooBig, Variables, Points}

-- it is no longer than a text may be, and these are its words
pub record HasWords (text : List ℕ) (tokens : List Token) : Type 0 where
  pub short : length text ≤ most_text_bytes
  pub words : Words text tokens

-- this is the tree of its words, none of which is too deep
pub record HasTree (text : List ℕ) (tree : Tree) : Type 0 where
  pub tokens : List Token
  pub has_words : HasWords text tokens
  pub derived : Derives (placed 0 tokens) (node Text tree.items)
  pub shallow : Shallow 0 Text (placed 0 tokens)

-- this is the program of its tree by the rules of types, of `main` and of deletions
pub record HasProgram (text : List ℕ) (program : Program) : Type 0 where
  pub tree : Tree
  pub has_tree : HasTree text tree
  pub typed : rules.IsProgramOf tree program

-- it is a program that needs no more than one may
pub record Accepted (text : List ℕ) (program : Program) : Type 0 where
  pub has_program : HasProgram text program
  pub bounds : IsWithinBounds program

-- its words can't be read
pub data Unread (text : List ℕ) : Refusal → Type 0 where
  byte : (line : ℕ) → UnreadByte text line → Unread text (Byte line)
  token : (line : ℕ) → UnreadToken text line → Unread text (BadToken line)

-- they are no tree, or are too deep
pub data NoTree (tokens : List Token) : Refusal → Type 0 where
  syntax : (line : ℕ) → StopsAtLine tokens line → NoTree tokens (Syntax line)
  deep : (line : ℕ) → SinksAtLine tokens line → NoTree tokens (Deep line)

-- what the rules refuse of a tree
abbrev pub rule_refusal : rules.Refused → Refusal
rule_refusal (rules.at_node node_refusal.Unknown line) = Unknown line
rule_refusal (rules.at_node node_refusal.Twice line) = Twice line
rule_refusal (rules.at_node node_refusal.Mistyped line) = Mistyped line
rule_refusal (rules.at_node node_refusal.Arity line) = Arity line
rule_refusal (rules.at_node node_refusal.TooBig line) = TooBig line
rule_refusal (rules.at_main line) = Main line
rule_refusal (rules.at_place (place_refusal.AnnotationPlace line)) = AnnotationPlace line
rule_refusal (rules.at_place (place_refusal.NotDeletes line)) = NotDeletes line
rule_refusal (rules.at_place (place_refusal.DeletesPlace line)) = DeletesPlace line

-- a program needs more than it may
pub data TooMuch (program : Program) : Refusal → Type 0 where
  variables : (line : ℕ) → FirstWide program.functions line → TooMuch program (Variables line)
  points : HasManyPoints program → TooMuch program Points

-- why a text is no program
pub data Refused (text : List ℕ) (refusal : Refusal) : Type 0 where
  too_long : most_text_bytes < length text → refusal ≡ TooLong → Refused text refusal
  in_words : length text ≤ most_text_bytes → Unread text refusal → Refused text refusal
  in_tree : (tokens : List Token) → HasWords text tokens → NoTree tokens refusal → Refused text refusal
  in_rules : (tree : Tree) (fault : rules.Refused) → HasTree text tree → rules.refusal tree ≡ Some fault → refusal ≡ rule_refusal fault → Refused text refusal
  in_counts : (program : Program) → HasProgram text program → TooMuch program refusal → Refused text refusal
