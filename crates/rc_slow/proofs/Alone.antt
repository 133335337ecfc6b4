-- Which nodes of the code begin alone, and whose first parts stay inside.
use Rattle.std.proofs.Common.{◌≡◌, ◌∙◌, ℕ, true, IsTrue, refl, sym}
use Rattle.std.specs.declared.alloc.Global.{Global as Alloc}
use Rattle.std.specs.declared.boxed.Box.{Box}
use Rattle.std.specs.declared.vec.Vec.{Vec}
use Rattle.rc_core.specs.declared.expr.Expr.{Expr as CodeExpr, Constant, Null, Str, Local, Read, Address, Step', StepFrom', Unary', Binary', Convert', Not', And', Or', Choose', IsNull', Same', Call', NewRegion, NewSubregion', RegionOf', Allocate', AllocateArray', Putchar', Getchar, Call, NewSubregion, Allocate, Putchar, roll-out-Expr}
use Rattle.rc_core.specs.declared.expr.Expr as X
use Rattle.rc_core.specs.declared.expr.Expr.TheVariants.{rolls-Call, rolls-NewSubregion, rolls-Allocate, rolls-Putchar}
use Rattle.rc_core.specs.declared.ty.Ty.{Ty as CodeTy}
use Rattle.rc_core.specs.Shapes.{expr_of}
use Rattle.rc_slow.specs.Advancing.{begins_alone}
use Rattle.rc_nodes.specs.Coming.{stays_inside}

pub alone_code : (e : CodeExpr) → ((line f : ℕ) (v : Vec CodeExpr Alloc) → e ≡ Call line f v → ⊥) → ((line : ℕ) → e ≡ NewRegion line → ⊥) → ((line : ℕ) → e ≡ Getchar line → ⊥) → begins_alone (expr_of e) ≡ true
unfolding X.roll-Expr denote.Hole.Carrier.roll X.out-Expr denote.Hole.Carrier.out
alone_code (Constant line a b) not_call not_region not_getchar = refl
alone_code (Null line) not_call not_region not_getchar = refl
alone_code (Str line a) not_call not_region not_getchar = refl
alone_code (Local line a) not_call not_region not_getchar = refl
alone_code (Read line a) not_call not_region not_getchar = refl
alone_code (Address line a) not_call not_region not_getchar = refl
alone_code (Step' line a b c d e) not_call not_region not_getchar = refl
alone_code (StepFrom' line a b c d) not_call not_region not_getchar = refl
alone_code (Unary' line a b c d) not_call not_region not_getchar = refl
alone_code (Binary' line a b c d e f) not_call not_region not_getchar = refl
alone_code (Convert' line a b c d) not_call not_region not_getchar = refl
alone_code (Not' line a b) not_call not_region not_getchar = refl
alone_code (And' line a b c d) not_call not_region not_getchar = refl
alone_code (Or' line a b c d) not_call not_region not_getchar = refl
alone_code (Choose' line a b c d e f) not_call not_region not_getchar = refl
alone_code (IsNull' line a b c) not_call not_region not_getchar = refl
alone_code (Same' line a b c d e) not_call not_region not_getchar = refl
alone_code (Call' line a b c) not_call not_region not_getchar = absurd (not_call line a _ (sym (roll-out-Expr (Call' line a b c)) ∙ sym (rolls-Call line a _)))
alone_code (NewRegion line) not_call not_region not_getchar = absurd (not_region line refl)
alone_code (NewSubregion' line a b) not_call not_region not_getchar = refl
alone_code (RegionOf' line a b) not_call not_region not_getchar = refl
alone_code (Allocate' line a b c) not_call not_region not_getchar = refl
alone_code (AllocateArray' line a b c d e) not_call not_region not_getchar = refl
alone_code (Putchar' line a b) not_call not_region not_getchar = refl
alone_code (Getchar line) not_call not_region not_getchar = absurd (not_getchar line refl)

pub inside_code : (e : CodeExpr) → ((line : ℕ) (b : Box CodeExpr Alloc) → e ≡ NewSubregion line b → ⊥) → ((line : ℕ) (b : Box CodeExpr Alloc) (ty : CodeTy) → e ≡ Allocate line b ty → ⊥) → ((line : ℕ) (b : Box CodeExpr Alloc) → e ≡ Putchar line b → ⊥) → IsTrue (stays_inside (expr_of e))
unfolding X.roll-Expr denote.Hole.Carrier.roll X.out-Expr denote.Hole.Carrier.out
inside_code (Constant line a b) not_subregion not_allocate not_putchar = refl
inside_code (Null line) not_subregion not_allocate not_putchar = refl
inside_code (Str line a) not_subregion not_allocate not_putchar = refl
inside_code (Local line a) not_subregion not_allocate not_putchar = refl
inside_code (Read line a) not_subregion not_allocate not_putchar = refl
inside_code (Address line a) not_subregion not_allocate not_putchar = refl
inside_code (Step' line a b c d e) not_subregion not_allocate not_putchar = refl
inside_code (StepFrom' line a b c d) not_subregion not_allocate not_putchar = refl
inside_code (Unary' line a b c d) not_subregion not_allocate not_putchar = refl
inside_code (Binary' line a b c d e f) not_subregion not_allocate not_putchar = refl
inside_code (Convert' line a b c d) not_subregion not_allocate not_putchar = refl
inside_code (Not' line a b) not_subregion not_allocate not_putchar = refl
inside_code (And' line a b c d) not_subregion not_allocate not_putchar = refl
inside_code (Or' line a b c d) not_subregion not_allocate not_putchar = refl
inside_code (Choose' line a b c d e f) not_subregion not_allocate not_putchar = refl
inside_code (IsNull' line a b c) not_subregion not_allocate not_putchar = refl
inside_code (Same' line a b c d e) not_subregion not_allocate not_putchar = refl
inside_code (Call' line a b c) not_subregion not_allocate not_putchar = refl
inside_code (NewRegion line) not_subregion not_allocate not_putchar = refl
inside_code (NewSubregion' line a b) not_subregion not_allocate not_putchar = absurd (not_subregion line _ (sym (roll-out-Expr (NewSubregion' line a b)) ∙ sym (rolls-NewSubregion line _)))
inside_code (RegionOf' line a b) not_subregion not_allocate not_putchar = refl
inside_code (Allocate' line a b c) not_subregion not_allocate not_putchar = absurd (not_allocate line _ c (sym (roll-out-Expr (Allocate' line a b c)) ∙ sym (rolls-Allocate line _ c)))
inside_code (AllocateArray' line a b c d e) not_subregion not_allocate not_putchar = refl
inside_code (Putchar' line a b) not_subregion not_allocate not_putchar = absurd (not_putchar line _ (sym (roll-out-Expr (Putchar' line a b)) ∙ sym (rolls-Putchar line _)))
inside_code (Getchar line) not_subregion not_allocate not_putchar = refl
