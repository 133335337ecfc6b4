use Rattle.rc_syntax.specs.Grammar as g
use Rattle.rc_syntax.proofs.Whole.{one_depth, of_text, of_expression, of_unary}
use Rattle.rc_syntax.proofs.laws.words_have_one_depth.Goals as goal

pub returns : goal.returns
returns c = record {
  text = λ ws d e r s x y. one_depth g.Text of_text x y;
  expression = λ ws d e r s x y. one_depth (g.Level 0) of_expression x y;
  unary = λ ws d e r s x y. one_depth g.Unary of_unary x y;
}
