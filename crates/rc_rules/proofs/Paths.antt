-- Paths that go on inward, and places with a path, as the code makes them.
use Rattle.std.proofs.Common.{◌≡◌, ℕ, refl, ap, sym, ◌∙◌, List, [], ◌∷◌, ◌++◌}
use Rattle.std.specs.declared.boxed.Box.{Box}
use Rattle.std.specs.declared.vec.Vec.{Vec}
use Rattle.std.specs.declared.alloc.Global.{Global as Alloc}
use Rattle.rc_core.specs.declared.expr.Expr.{Expr as CodeExpr}
use Rattle.rc_core.specs.declared.expr.Place.{Place as CodePlace, Global, Pointed, Indexed}
use Rattle.rc_core.specs.declared.expr.PathStep.{PathStep, Field, Element}
use Rattle.rc_core.specs.Programs.{Path, here, global, pointed, indexed}
use Rattle.rc_core.specs.Shapes.{expr_of, place_of, path_of, inward}
use Rattle.rc_core.proofs.ShapeRows.{made_global, made_pointed, made_indexed, global_is, pointed_is, indexed_is}
use Rattle.rc_deletes.specs.Expressions.{path_then, inward as further}

step_then : (s : PathStep) (path end : Path) → path_then (inward s path) end ≡ inward s (path_then path end)
step_then (Field s f) path end = refl
step_then (Element s f i) path end = refl

-- one step more
path_more : (steps : List PathStep) (s : PathStep) → path_of (steps ++ s ∷ []) ≡ path_then (path_of steps) (inward s here)
path_more [] s = refl
path_more (t ∷ steps) s = ap (inward t) (path_more steps s) ∙ sym (step_then t (path_of steps) (inward s here))

pub global_more : (place : CodePlace) (g : ℕ) (path new : Vec PathStep Alloc) (s : PathStep) → place ≡ Global g path → new.items ≡ path.items ++ s ∷ [] → place_of (Global g new) ≡ further (place_of place) (inward s here)
global_more place g path new s h e = made_global g new ∙ ap (global g) (ap path_of e ∙ path_more path.items s) ∙ sym (ap (λ q. further q (inward s here)) (global_is place g path h))

pub pointed_more : (place : CodePlace) (b : Box CodeExpr Alloc) (path new : Vec PathStep Alloc) (s : PathStep) → place ≡ Pointed b path → new.items ≡ path.items ++ s ∷ [] → place_of (Pointed b new) ≡ further (place_of place) (inward s here)
pointed_more place b path new s h e = made_pointed b new ∙ ap (pointed (expr_of b.value)) (ap path_of e ∙ path_more path.items s) ∙ sym (ap (λ q. further q (inward s here)) (pointed_is place b path h))

pub indexed_more : (place : CodePlace) (b i : Box CodeExpr Alloc) (path new : Vec PathStep Alloc) (s : PathStep) → place ≡ Indexed b i path → new.items ≡ path.items ++ s ∷ [] → place_of (Indexed b i new) ≡ further (place_of place) (inward s here)
indexed_more place b i path new s h e = made_indexed b i new ∙ ap (indexed (expr_of b.value) (expr_of i.value)) (ap path_of e ∙ path_more path.items s) ∙ sym (ap (λ q. further q (inward s here)) (indexed_is place b i path h))

-- without a step

pub global_here : (q : CodePlace) (g : ℕ) (path : Vec PathStep Alloc) → q ≡ Global g path → path.items ≡ [] → place_of q ≡ global g here
global_here q g path h e = global_is q g path h ∙ ap (λ steps. global g (path_of steps)) e

pub indexed_here : (q : CodePlace) (b i : Box CodeExpr Alloc) (path : Vec PathStep Alloc) → q ≡ Indexed b i path → path.items ≡ [] → place_of q ≡ indexed (expr_of b.value) (expr_of i.value) here
indexed_here q b i path h e = indexed_is q b i path h ∙ ap (λ steps. indexed (expr_of b.value) (expr_of i.value) (path_of steps)) e
