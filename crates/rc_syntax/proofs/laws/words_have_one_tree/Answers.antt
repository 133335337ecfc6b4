use Rattle.rc_syntax.specs.Grammar as g
use Rattle.rc_syntax.proofs.Whole.{one_tree, of_text, of_expression, of_unary}
use Rattle.rc_syntax.proofs.laws.words_have_one_tree.Goals as goal

pub returns : goal.returns
returns c = record {
  text = λ ws a b x y. one_tree g.Text of_text x y;
  expression = λ ws a b x y. one_tree (g.Level 0) of_expression x y;
  unary = λ ws a b x y. one_tree g.Unary of_unary x y;
}
