use Rattle.std.proofs.Common.{◌≡◌, ◌∙◌, ◌-◌, ◌<◌, ℕ, true, Result, Ok, Err, IfOk, List, length, sym, ap, subst, arith, length-take-le}
use Rattle.std.proofs.lemmas.List.{length-map}
use Rattle.rc_base.specs.declared.outside.NoMemory.{NoMemory}
use Rattle.rc_code.specs.declared.instruction.Instruction.TheVariants as instruction
use Rattle.rc_code.specs.declared.image.Function.{Function}
use Rattle.rc_code.specs.Running.{function_at}
use Rattle.rc_code.specs.Soundness.{ArePins, Names, instruction_at, is_regional}
use Rattle.rc_graph.specs.declared.node.Effect.{Effect}
use Rattle.rc_claims.specs.Counts.{regionals}
use Rattle.rc_sealed.specs.Carrying.{effect_of, height, lowest}
use Rattle.rc_image_steps.specs.declared.site.Site.{Site}
use Rattle.rc_image_steps.specs.Sites.{function_in, image_of, IsSite}
use Rattle.rc_image_steps.proofs.Places.{function_fits, height_fits, is_fine}
use Rattle.rc_image_steps.proofs.Stepping.{call_room}
use Rattle.rc_image_steps.proofs.site.effect_by.Goals as goal

if_more : (r : Result Effect NoMemory) (P Q : Effect → Type 0) → ((e : Effect) → P e → Q e) → IfOk r P → IfOk r Q
if_more (Ok e) P Q more h = more e h
if_more (Err x) P Q more h = tt

call_there : (site : Site) → IsSite site → (at g : ℕ) (pins : List ℕ) → at < length (function_in site).code → instruction_at (function_in site) at ≡ instruction.Call g pins → g < length site.parts.now.functions
call_there site is at g pins lt e =
    let fine = is_fine (image_of site) (function_in site) (is.sound.functions site.number is.there) at lt in
    let n : (g < length site.parts.now.functions) × ArePins (function_in site) pins = subst (Names true (image_of site) (function_in site)) e fine.names in
    n.0

pub of_call-requires-clause-there : goal.of_call-requires-clause-there
of_call-requires-clause-there c =
    let f = function_in c.args.site.now in
    let i : c.instruction_of-instruction.result.now ≡ instruction_at f c.args.at = c.instruction_of-instruction.ensures ∙ ap (λ (g : Function). instruction_at g c.args.at) c.function_of-function.ensures in
    call_there c.args.site.now c.requires.site c.args.at c.in-Some.number c.in-Some.ensures.0 c.requires.there (sym i ∙ c.in-Some.ensures.1)

pub of_call-requires-clause-room : goal.of_call-requires-clause-room
of_call-requires-clause-room c =
    let site = c.args.site.now in
    let image = image_of site in
    let f = function_in site in
    let g = c.in-Some.number in
    let to : Function = function_at image g in
    let i : c.instruction_of-instruction.result.now ≡ instruction_at f c.args.at = c.instruction_of-instruction.ensures ∙ ap (λ (h : Function). instruction_at h c.args.at) c.function_of-function.ensures in
    let e = sym i ∙ c.in-Some.ensures.1 in
    let fine = is_fine image f (c.requires.site.sound.functions site.number c.requires.site.there) c.args.at c.requires.there in
    let fits = function_fits site.parts.now c.requires.site.fields g (call_there site c.requires.site c.args.at g c.in-Some.ensures.0 c.requires.there e) in
    let p = fits.parameters in
    let m : length (regionals to) ≡ length to.locals = length-map to.locals is_regional in
    let l = length-take-le to.parameters (regionals to) (omega (arith, p, m)) in
    let r = call_room image f c.args.at g c.in-Some.ensures.0 fine e in
    let t = c.requires.there in
    let b = height_fits image f c.args.at (omega (arith, t)) in
    let n = c.requires.site.narrow in
    let w = c.requires.places.low in
    omega (arith, l, r, b, n, w)

pub of_other-requires : goal.of_other-requires
of_other-requires c =
    let site = c.args.site.now in
    let image = image_of site in
    let f = function_in site in
    let i : c.instruction_of-instruction.result.now ≡ instruction_at f c.args.at = c.instruction_of-instruction.ensures ∙ ap (λ (g : Function). instruction_at g c.args.at) c.function_of-function.ensures in
    let fine = is_fine image f (c.requires.site.sound.functions site.number c.requires.site.there) c.args.at c.requires.there in
    record { names = subst (λ (g : Function). Names true image g c.instruction_of-instruction.result.now) (sym c.function_of-function.ensures) (subst (Names true image f) (sym i) fine.names) }

pub returns-in-Some : goal.returns-in-Some
returns-in-Some c =
    let site = c.args.site.now in
    let image = image_of site in
    let f = function_in site in
    let at = c.args.at in
    let i : c.instruction_of-instruction.result.now ≡ instruction_at f at = c.instruction_of-instruction.ensures ∙ ap (λ (g : Function). instruction_at g at) c.function_of-function.ensures in
    if_more c.of_call.result _ _ (λ e tells. tells f (lowest image f at) (height image f at - 1) c.in-Some.ensures.0 c.requires.places.low ∙ ap (effect_of image f (lowest image f at) (height image f at - 1)) (sym c.in-Some.ensures.1 ∙ i)) c.of_call.ensures
