-- An expression that is no call, as a statement.
use Rattle.std.proofs.Common.{◌≡◌, ℕ, refl, sym, ◌∙◌, List, Vec}
use Rattle.std.specs.declared.alloc.Global.{Global as Alloc}
use Rattle.rc_syntax.specs.declared.tree.Name.{Name}
use Rattle.rc_syntax.specs.declared.tree.Expr as tree
use Rattle.rc_syntax.specs.declared.tree.Expr.{Expr, Call, Number, Character, Str, Null, Eof, Variable, Call', Ralloc', RarrayAlloc', Index', Member', Arrow', Unary', Cast', Binary', Conditional'}
use Rattle.rc_syntax.specs.declared.tree.Expr.TheViews.{roll-out-Expr}
use Rattle.rc_syntax.specs.declared.tree.Expr.TheVariants.{rolls-Call}
use Rattle.rc_syntax.specs.Shape as written
use Rattle.rc_deletes.specs.Scopes.{Context, Scope}
use Rattle.rc_deletes.specs.Statements.{expression_alone}
use Rattle.rc_deletes.specs.Statements.{value_alone}

pub alone_is : (context : Context) (names : Scope) (before : List (List ℕ)) (e : Expr) → ((n : Name) (given : Vec Expr Alloc) → e ≡ Call n given → ⊥) →
    expression_alone context names before (written.expr_of e) ≡ value_alone context names before (written.expr_of e)
unfolding tree.roll-Expr denote.Hole.Carrier.roll tree.out-Expr denote.Hole.Carrier.out
alone_is context names before (Number at n u) h = refl
alone_is context names before (Character at c) h = refl
alone_is context names before (Str at s) h = refl
alone_is context names before (Null at) h = refl
alone_is context names before (Eof at) h = refl
alone_is context names before (Variable n) h = refl
alone_is context names before (Call' n shape given) h = absurd (h n _ (sym (roll-out-Expr (Call' n shape given)) ∙ sym (rolls-Call n _)))
alone_is context names before (Ralloc' at p r n) h = refl
alone_is context names before (RarrayAlloc' at p r q k n) h = refl
alone_is context names before (Index' at p a q k) h = refl
alone_is context names before (Member' at p a n) h = refl
alone_is context names before (Arrow' at p a n) h = refl
alone_is context names before (Unary' at op p a) h = refl
alone_is context names before (Cast' at to p a) h = refl
alone_is context names before (Binary' at op p a q b) h = refl
alone_is context names before (Conditional' at p c q a r b) h = refl
