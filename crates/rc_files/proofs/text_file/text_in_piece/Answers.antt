use Rattle.rc_files.specs.Texts.{beyond, whole}
use Rattle.rc_files.proofs.text_file.text_in_piece.Goals as goal

pub returns-then-piece : goal.returns-then-piece
returns-then-piece c = whole c.if-piece.true

pub returns : goal.returns
returns c = beyond c.if-piece.false
