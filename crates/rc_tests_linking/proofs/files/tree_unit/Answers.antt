use Rattle.rc_syntax.specs.Shape.{tree_of}
use Rattle.rc_linked_texts.proofs.OneText.{file_limited}
use Rattle.rc_tests_linking.proofs.files.tree_unit.Goals as goal

pub unit-requires : goal.unit-requires
unit-requires c = file_limited c.args._text.now (tree_of c.args.tree.now) c.requires.tree.is_tree
