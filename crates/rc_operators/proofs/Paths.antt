-- Places with a path, as the code makes them and looks at them.
use Rattle.std.proofs.Common.{◌≡◌, ◌<◌, ℕ, refl, ap, ◌∙◌, List, [], ◌∷◌, length, arith}
use Rattle.std.specs.declared.boxed.Box.{Box}
use Rattle.std.specs.declared.vec.Vec.{Vec}
use Rattle.std.specs.declared.alloc.Global.{Global as Alloc}
use Rattle.rc_syntax.specs.declared.tree.Spot.{Spot}
use Rattle.rc_core.specs.declared.expr.Expr.{Expr as CodeExpr}
use Rattle.rc_core.specs.declared.expr.Place.{Place as CodePlace, Global, Pointed, Indexed}
use Rattle.rc_core.specs.declared.expr.PathStep.{PathStep, Field, Element}
use Rattle.rc_core.specs.declared.ty.Note.TheVariants.{Plain}
use Rattle.rc_core.specs.declared.operators.Direction.TheVariants.{Forward}
use Rattle.rc_core.specs.Types.{Ty, pointer}
use Rattle.rc_core.specs.Programs.{Expr, step, address, here, global, pointed, indexed}
use Rattle.rc_core.specs.Shapes.{expr_of, place_of, path_of}
use Rattle.rc_core.proofs.ShapeRows.{made_pointed, global_is, pointed_is, indexed_is}
use Rattle.rc_deletes.specs.declared.fault.Refusal.TheVariants.{Mistyped}
use Rattle.rc_deletes.specs.Judged.{Holds, fails}
use Rattle.rc_deletes.specs.Values.{a_place}
use Rattle.rc_deletes.specs.Operators.{address_rule, result}

pub pointed_here : (b : Box CodeExpr Alloc) (path : Vec PathStep Alloc) (e : CodeExpr) → b.value ≡ e → path.items ≡ [] → place_of (Pointed b path) ≡ pointed (expr_of e) here
pointed_here b path e h k = made_pointed b path ∙ (ap (λ steps. pointed (expr_of b.value) (path_of steps)) k ∙ ap (λ x. pointed (expr_of x) here) h)

no_steps : (steps : List PathStep) → length steps ≡ 0 → steps ≡ []
no_steps [] h = refl
no_steps (s ∷ steps) h = absurd (omega arith)

inside_global : (at : Spot) (g : ℕ) (steps : List PathStep) (t : Ty) → 0 < length steps → address_rule at (a_place (global g (path_of steps)) t) ≡ fails at Mistyped
inside_global at g [] t h = absurd (omega arith)
inside_global at g (Field k f ∷ rest) t h = refl
inside_global at g (Element k f i ∷ rest) t h = refl

inside_element : (at : Spot) (e i : Expr) (steps : List PathStep) (t : Ty) → 0 < length steps → address_rule at (a_place (indexed e i (path_of steps)) t) ≡ fails at Mistyped
inside_element at e i [] t h = absurd (omega arith)
inside_element at e i (Field k f ∷ rest) t h = refl
inside_element at e i (Element k f j ∷ rest) t h = refl

pub global_address : (at : Spot) (place : CodePlace) (g : ℕ) (path : Vec PathStep Alloc) (t : Ty) → place ≡ Global g path → length path.items ≡ 0 → address_rule at (a_place (place_of place) t) ≡ Holds (result at.line (pointer Plain t) (address at.line g))
global_address at place g path t h e = ap (λ q. address_rule at (a_place q t)) (global_is place g path h ∙ ap (λ steps. global g (path_of steps)) (no_steps path.items e))

pub global_without : (at : Spot) (place : CodePlace) (g : ℕ) (path : Vec PathStep Alloc) (t : Ty) → place ≡ Global g path → 0 < length path.items → address_rule at (a_place (place_of place) t) ≡ fails at Mistyped
global_without at place g path t h e = ap (λ q. address_rule at (a_place q t)) (global_is place g path h) ∙ inside_global at g path.items t e

pub pointed_without : (at : Spot) (place : CodePlace) (b : Box CodeExpr Alloc) (path : Vec PathStep Alloc) (t : Ty) → place ≡ Pointed b path → address_rule at (a_place (place_of place) t) ≡ fails at Mistyped
pointed_without at place b path t h = ap (λ q. address_rule at (a_place q t)) (pointed_is place b path h)

pub indexed_address : (at : Spot) (place : CodePlace) (b i : Box CodeExpr Alloc) (path : Vec PathStep Alloc) (t : Ty) → place ≡ Indexed b i path → length path.items ≡ 0 → address_rule at (a_place (place_of place) t) ≡ Holds (result at.line (pointer Plain t) (step at.line Forward (expr_of b.value) (expr_of i.value)))
indexed_address at place b i path t h e = ap (λ q. address_rule at (a_place q t)) (indexed_is place b i path h ∙ ap (λ steps. indexed (expr_of b.value) (expr_of i.value) (path_of steps)) (no_steps path.items e))

pub indexed_without : (at : Spot) (place : CodePlace) (b i : Box CodeExpr Alloc) (path : Vec PathStep Alloc) (t : Ty) → place ≡ Indexed b i path → 0 < length path.items → address_rule at (a_place (place_of place) t) ≡ fails at Mistyped
indexed_without at place b i path t h e = ap (λ q. address_rule at (a_place q t)) (indexed_is place b i path h) ∙ inside_element at (expr_of b.value) (expr_of i.value) path.items t e
