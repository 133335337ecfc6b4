use Rattle.rc_syntax.specs.Shape.{tree_of}
use Rattle.rc_linking.specs.Stubs.{stubbed}
use Rattle.rc_linked_texts.proofs.OneText.{file_limited, fine_of, refused_of}
use Rattle.rc_linked_texts.proofs.checking.tree_unit.Goals as goal

pub unit-requires : goal.unit-requires
unit-requires c = file_limited c.args._text.now (tree_of c.args.tree.now) c.requires.tree.is_tree

pub returns-in-Ok : goal.returns-in-Ok
returns-in-Ok c = fine_of c.args._text.now (tree_of c.args.tree.now) (tree_of c.in-Ok.unit) c.args.tree.now.last c.requires.tree c.requires.line c.in-Ok.ensures.tree c.in-Ok.ensures.typed

pub returns-in-Err : goal.returns-in-Err
returns-in-Err c = refused_of c.args._text.now (tree_of c.args.tree.now) c.args.tree.now.last c.reason.result c.requires.tree c.requires.line (c.reason.ensures (stubbed c.args.tree.now.last (tree_of c.args.tree.now)) c.in-Err.ensures.err)
