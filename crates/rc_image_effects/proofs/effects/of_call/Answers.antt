use Rattle.std.proofs.Common.{◌≡◌, ◌∙◌, ℕ, Bool, List, Option, map, take, ap}
use Rattle.rc_code.specs.declared.kind.Storage.{Storage}
use Rattle.rc_code.specs.declared.image.Function.{Function}
use Rattle.rc_code.specs.Running.{reading_of, function_at}
use Rattle.rc_code.specs.Soundness.{is_regional}
use Rattle.rc_rlang.specs.RegionFlow.{called}
use Rattle.rc_claims.specs.Counts.{place, regionals, regional_result}
use Rattle.rc_sealed.specs.Carrying.{when, regional_places}
use Rattle.rc_image_effects.proofs.Arguments.{taken}
use Rattle.rc_image_effects.proofs.effects.of_call.Goals as goal

pub returns : goal.returns
returns c = λ f l h pins low.
    let to : Function = function_at (reading_of c.args.parts.now) c.args.number in
    let first : c.when.result ≡ when (regional_result to.result) (place f l) =
    c.when.ensures ∙ ap (λ (b : Bool). when b c.args.low) (c.regional_result.ensures ∙ ap (λ (g : Function). regional_result g.result) c.function_of-to.ensures) ∙ ap (λ (n : ℕ). when (regional_result to.result) n) low in
    let second : c.in_ok-arguments.arguments.items ≡ regional_places f (take to.parameters (regionals to)) l =
    c.in_ok-arguments.ensures f l low ∙ ap (λ (ps : List Storage). regional_places f (map is_regional ps) l) (c.parameters_of.ensures ∙ ap (λ (g : Function). take g.parameters g.locals) c.function_of-to.ensures) ∙ ap (λ (bs : List Bool). regional_places f bs l) (taken to.parameters to.locals) in
    ap (λ (x : Option ℕ). called x c.args.number c.in_ok-arguments.arguments.items) first ∙ ap (λ (xs : List ℕ). called (when (regional_result to.result) (place f l)) c.args.number xs) second
