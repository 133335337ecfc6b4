-- What is answered of one text as a file of several.
use Rattle.std.specs.Prelude.{◌≡◌, ℕ, List, Result, Ok, Err, Some}
use Rattle.rc_syntax.specs.Shape.{tree_of}
use Rattle.rc_syntax.specs.Tree.{Tree}
use Rattle.rc_syntax.specs.declared.tree.Tree as declared_tree
use Rattle.rc_deletes.specs.Answer as rules
use Rattle.rc_compile.specs.Acceptance.{rule_refusal}
use Rattle.rc_compile.specs.declared.fault.CompileFault.{CompileFault}
use Rattle.rc_compile.specs.declared.fault.CompileFault.TheVariants.{Refused, Memory}
use Rattle.rc_linked_texts.specs.Texts.{IsFine, IsRefused}

-- the rules refuse the tree so
abbrev pub RefusedByRules : Tree → CompileFault → Type 0
RefusedByRules tree (Refused refusal) = (broken : rules.Refused) × (rules.refusal tree ≡ Some broken) × (refusal ≡ rule_refusal broken)
RefusedByRules tree Memory = Unit {0}

-- the text is fine and this is its tree; or it is refused so
abbrev pub FindsUnit : (text : List ℕ) → Result declared_tree.Tree CompileFault → Type 0
FindsUnit text (Ok tree) = IsFine text (tree_of tree)
FindsUnit text (Err (Refused refusal)) = IsRefused text refusal
FindsUnit text (Err Memory) = Unit {0}
