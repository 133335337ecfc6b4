-- What lies in boxes, and the shape of a `for`.
use Rattle.std.proofs.Common.{◌≡◌, Option, Some, None, refl, ap, ◌∙◌, Result, Ok, Err, IfOk}
use Rattle.std.specs.declared.boxed.Box.{Box}
use Rattle.std.specs.declared.alloc.Global.{Global}
use Rattle.rc_syntax.specs.declared.fault.ParseFault.{ParseFault}
use Rattle.rc_syntax.specs.declared.tree.Spot.{Spot}
use Rattle.rc_syntax.specs.declared.tree.Expr.{Expr}
use Rattle.rc_syntax.specs.declared.tree.Simple.{Simple}
use Rattle.rc_syntax.specs.declared.tree.ForStart.{ForStart}
use Rattle.rc_syntax.specs.declared.tree.Stmt.{Stmt, For}
use Rattle.rc_syntax.specs.Tree as t
use Rattle.rc_syntax.specs.Shape.{expr_of, simple_of, start_of, stmt_of, mapped}
use Rattle.rc_expr.specs.Goes.{boxed_of}
use Rattle.rc_stmt.specs.Shapes.{boxed_simple, boxed_start, boxed_stmt}

mapped_twice : {A B C : Type 0} (f : B → C) (g : A → B) (o : Option A) → mapped f (mapped g o) ≡ mapped (λ a. f (g a)) o
mapped_twice f g (Some a) = refl
mapped_twice f g None = refl

pub expr_given : (o : Option (Box Expr Global)) (e : Option Expr) → e ≡ mapped (λ b. b.value) o → mapped expr_of e ≡ mapped boxed_of o
expr_given o e h = ap (mapped expr_of) h ∙ mapped_twice expr_of (λ b. b.value) o

pub simple_given : (o : Option (Box Simple Global)) (e : Option Simple) → e ≡ mapped (λ b. b.value) o → mapped simple_of e ≡ mapped boxed_simple o
simple_given o e h = ap (mapped simple_of) h ∙ mapped_twice simple_of (λ b. b.value) o

pub boxed_for : (sp : Spot) (start : Box ForStart Global) (s : ForStart) (test : Option (Box Expr Global)) (e : Option Expr) (next : Option (Box Simple Global)) (x : Option Simple) (body : Box Stmt Global) (r : Result (Box Stmt Global) ParseFault) →
    s ≡ start.value → e ≡ mapped (λ b. b.value) test → x ≡ mapped (λ b. b.value) next → IfOk r (λ b. b.value ≡ For sp s e x body) →
    IfOk r (λ b. stmt_of b.value ≡ t.for_do sp (boxed_start start) (mapped boxed_of test) (mapped boxed_simple next) (boxed_stmt body))
boxed_for sp start s test e next x body (Ok b) p q u h =
    ap stmt_of h
    ∙ ap (λ z. t.for_do sp (start_of z) (mapped expr_of e) (mapped simple_of x) (boxed_stmt body)) p
    ∙ ap (λ o. t.for_do sp (boxed_start start) o (mapped simple_of x) (boxed_stmt body)) (expr_given test e q)
    ∙ ap (λ o. t.for_do sp (boxed_start start) (mapped boxed_of test) o (boxed_stmt body)) (simple_given next x u)
boxed_for sp start s test e next x body (Err f) p q u h = tt
