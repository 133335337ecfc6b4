use Rattle.std.proofs.Common.{ap, sym, ◌∙◌}
use Rattle.std.specs.List.{prefix_len}
use Rattle.rc_syntax.specs.Bytes.{in_name}
use Rattle.rc_syntax.specs.WordShapes.{word_of}
use Rattle.rc_lexer.specs.Shapes.{class_shape}
use Rattle.rc_lexer.proofs.Bodies.{whole_rest}
use Rattle.rc_lexer.proofs.Places.{look_letter}
use Rattle.rc_lexer.proofs.piece.look.Goals as goal

pub returns-in_ok-name_word-in-Letter-clause-ok : goal.returns-in_ok-name_word-in-Letter-clause-ok
returns-in_ok-name_word-in-Letter-clause-ok c =
    let text = c.args.text.now in
    look_letter c.args.before.now text c.run_len-length.result (word_of c.in_ok-name_word-in-Letter.field-0) c.in-len1-up.len_at_least
    (sym c.class_of.ensures ∙ ap class_shape c.in-Letter.is) (c.run_len-length.ensures.value ∙ ap (prefix_len in_name) (whole_rest text 1)) c.in_ok-name_word-in-Letter.ensures.ok
