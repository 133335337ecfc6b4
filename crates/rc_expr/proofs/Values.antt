-- Lists of values, and the shape of a call.
use Rattle.std.proofs.Common.{◌≡◌, List, [], ◌∷◌, ◌++◌, refl, ap, ◌∙◌, Result, Ok, Err, IfOk}
use Rattle.std.specs.declared.vec.Vec.{Vec}
use Rattle.std.specs.declared.alloc.Global.{Global}
use Rattle.std.specs.declared.boxed.Box.{Box}
use Rattle.rc_syntax.specs.declared.fault.ParseFault.{ParseFault}
use Rattle.rc_syntax.specs.declared.tree.Name.{Name}
use Rattle.rc_syntax.specs.declared.tree.Expr.{Expr, Call}
use Rattle.rc_syntax.specs.Tree as t
use Rattle.rc_syntax.specs.Grammar.{with_last}
use Rattle.rc_syntax.specs.Shape.{expr_of, exprs_of}
use Rattle.rc_syntax.proofs.Rows.{call_is}

pub call_shape : (n : Name) (v : Vec Expr Global) → expr_of (Call n v) ≡ t.call n (exprs_of v.items)
call_shape n v = call_is (Call n v) n v refl

pub boxed_call : (n : Name) (v : Vec Expr Global) (r : Result (Box Expr Global) ParseFault) → IfOk r (λ b. b.value ≡ Call n v) → IfOk r (λ b. expr_of b.value ≡ t.call n (exprs_of v.items))
boxed_call n v (Ok b) e = ap expr_of e ∙ call_shape n v
boxed_call n v (Err f) e = tt

pub exprs_with_last : (es : List Expr) (e : Expr) → exprs_of (es ++ e ∷ []) ≡ with_last (exprs_of es) (expr_of e)
exprs_with_last [] e = refl
exprs_with_last (x ∷ es) e = ap (t.more (expr_of x)) (exprs_with_last es e)
