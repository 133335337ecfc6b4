-- The code of a place that begins at a global.
use Rattle.std.proofs.Common.{◌≡◌, ℕ, suc, ◌+◌, List, sym, ap, subst, ◌∙◌, arith}
use Rattle.std.specs.Prelude.{Result, OnOk}
use Rattle.std.specs.declared.vec.Vec.{Vec}
use Rattle.std.specs.declared.alloc.Global.{Global as Alloc}
use Rattle.rc_core.specs.declared.expr.Place.{Place as CodePlace, Global}
use Rattle.rc_core.specs.declared.expr.PathStep.{PathStep}
use Rattle.rc_core.specs.declared.ty.Note.TheVariants.{Plain}
use Rattle.rc_core.specs.Programs.{Program}
use Rattle.rc_core.specs.Shapes.{place_of, path_of}
use Rattle.rc_core.specs.Types.{Ty, pointer}
use Rattle.rc_core.proofs.ShapeRows.{global_is}
use Rattle.rc_rlang.specs.declared.steps.Step.{Step as CodeStep}
use Rattle.rc_rlang.specs.RegionCode.{one, set, static}
use Rattle.rc_translation.specs.Translation.{global_type, path_code}
use Rattle.rc_region_steps.specs.Adding.{Adds, AddsPath, AddsPlace}
use Rattle.rc_region_steps.proofs.Behind.{adds_two, on_then}

pub global_on : {A E : Type 0} (program : Program) (locals : List Ty) (r : Result A E) (p : CodePlace) (g : ℕ) (v : Vec PathStep Alloc) (xs : List PathStep) (t u : Ty) (a b c : List CodeStep) (line h k : ℕ) →
    p ≡ Global g v → xs ≡ v.items → t ≡ pointer Plain u → u ≡ global_type program g → k ≡ h + 1 →
    Adds program.structs a b (one (set line h t (static g))) → OnOk r (AddsPath program locals b c (path_of xs) k) → OnOk r (AddsPlace program locals a c line (place_of p) h)
global_on program locals r p g v xs t u a b c line h k e f i j m d o =
    let n : k ≡ suc h = omega (arith, m) in
    on_then r (λ w. subst (λ q. AddsPlace program locals a c line q h) (sym (global_is p g v e))
    (adds_two program.structs a b c (one (set line h (pointer Plain (global_type program g)) (static g))) (path_code program locals (path_of v.items) (suc h))
    (subst (λ t. Adds program.structs a b (one (set line h t (static g)))) (i ∙ ap (pointer Plain) j) d)
    (subst (λ k. AddsPath program locals b c (path_of v.items) k) n (subst (λ ys. AddsPath program locals b c (path_of ys) k) f w)))) o
