-- The line of the last of steps in a slice.
use Rattle.std.proofs.Common.{◌≡◌, ◌-◌, List, [], ◌∷◌, length, Some, None, refl, sym, ap, ◌∙◌, arith}
use Rattle.std.specs.Prelude.{slice_get}
use Rattle.rc_core.specs.Programs.{Struct}
use Rattle.rc_rlang.specs.declared.steps.Step.{Step as CodeStep}
use Rattle.rc_rlang.specs.Shapes.{step_of, steps_of}
use Rattle.rc_emission.specs.StatementCode.{line_of_step, last_line}

last_more : (structs : List Struct) (a : CodeStep) (more : List CodeStep) (x : CodeStep) → slice_get (a ∷ more) (length more) ≡ Some x → last_line (steps_of structs (a ∷ more)) ≡ line_of_step (step_of structs x)
last_more structs a [] x e = let q : a ≡ x = cc in ap (λ s. line_of_step (step_of structs s)) q
last_more structs a (b ∷ more) x e = last_more structs b more x e

pub last_is : (structs : List Struct) (xs : List CodeStep) (x : CodeStep) → slice_get xs (length xs - 1) ≡ Some x → line_of_step (step_of structs x) ≡ last_line (steps_of structs xs)
last_is structs [] x e = absurd cc
last_is structs (a ∷ more) x e =
    let one : length (a ∷ more) - 1 ≡ length more = omega arith in
    sym (last_more structs a more x (ap (slice_get (a ∷ more)) (sym one) ∙ e))

something_there : (a : CodeStep) (more : List CodeStep) → slice_get (a ∷ more) (length more) ≡ None → ⊥
something_there a [] e = cc
something_there a (b ∷ more) e = something_there b more e

pub none_is : (structs : List Struct) (xs : List CodeStep) → slice_get xs (length xs - 1) ≡ None → 0 ≡ last_line (steps_of structs xs)
none_is structs [] e = refl
none_is structs (a ∷ more) e =
    let one : length (a ∷ more) - 1 ≡ length more = omega arith in
    absurd (something_there a more (ap (slice_get (a ∷ more)) (sym one) ∙ e))
