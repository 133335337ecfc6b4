-- What the checker answers.
use Rattle.std.specs.Prelude.{◌≡◌, ◌≤◌, List, length, Result, Ok, Err, Some}
use Rattle.rc_base.specs.Limits.{most_program_words}
use Rattle.rc_syntax.specs.Tree.{Tree}
use Rattle.rc_syntax.specs.Grammar.{Text, Placed, Derives, node}
use Rattle.rc_core.specs.declared.parts.Parts.{Parts}
use Rattle.rc_core.specs.Shapes.{program_of}
use Rattle.rc_deletes.specs.Answer.{IsProgramOf, refusal, at_node, at_main, at_place}
use Rattle.rc_deletes.specs.Limits.{AreShort}
use Rattle.rc_typing.specs.declared.fault.TypeFault.{TypeFault}
use Rattle.rc_deletes.specs.declared.fault.Refusal.TheVariants as node_refusal
use Rattle.rc_deletes.specs.declared.deletes.DeletesFault.TheVariants as place_refusal
use Rattle.rc_typing.specs.declared.fault.TypeFault.TheVariants.{Unknown, Twice, Mistyped, Arity, AnnotationPlace, NotDeletes, DeletesPlace, Main, TooBig, Memory}

-- the tree of at most so many words, whose string literals are no longer than a text may be
pub record IsWritten (tree : Tree) : Type 0 where
  pub words : List Placed
  pub derived : Derives words (node Text tree.items)
  pub few : length words ≤ most_program_words
  pub short : AreShort words

abbrev pub Refuses : Tree → TypeFault → Type 0
Refuses tree (Unknown line) = refusal tree ≡ Some (at_node node_refusal.Unknown line)
Refuses tree (Twice line) = refusal tree ≡ Some (at_node node_refusal.Twice line)
Refuses tree (Mistyped line) = refusal tree ≡ Some (at_node node_refusal.Mistyped line)
Refuses tree (Arity line) = refusal tree ≡ Some (at_node node_refusal.Arity line)
Refuses tree (AnnotationPlace line) = refusal tree ≡ Some (at_place (place_refusal.AnnotationPlace line))
Refuses tree (NotDeletes line) = refusal tree ≡ Some (at_place (place_refusal.NotDeletes line))
Refuses tree (DeletesPlace line) = refusal tree ≡ Some (at_place (place_refusal.DeletesPlace line))
Refuses tree (Main line) = refusal tree ≡ Some (at_main line)
Refuses tree (TooBig line) = refusal tree ≡ Some (at_node node_refusal.TooBig line)
Refuses tree Memory = Unit {0}

abbrev pub Checks : Tree → Result Parts TypeFault → Type 0
Checks tree (Ok program) = IsProgramOf tree (program_of program)
Checks tree (Err fault) = Refuses tree fault
