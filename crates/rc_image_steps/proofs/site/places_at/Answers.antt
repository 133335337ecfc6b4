use Rattle.std.proofs.Common.{◌≡◌, ◌∙◌, ◌-◌, true, sym, ap, subst, arith}
use Rattle.rc_code.specs.declared.instruction.Instruction.{Instruction}
use Rattle.rc_code.specs.declared.image.Function.{Function}
use Rattle.rc_code.specs.Soundness.{Names, count_off, instruction_at}
use Rattle.rc_claims.specs.Counts.{place}
use Rattle.rc_sealed.specs.Carrying.{height, lowest}
use Rattle.rc_image_effects.specs.Arguments.{LocalIs}
use Rattle.rc_image_steps.specs.Sites.{function_in, image_of}
use Rattle.rc_image_steps.proofs.Places.{is_fine, lowest_below, lowest_is, place_fits}
use Rattle.rc_image_steps.proofs.site.places_at.Goals as goal

pub place_of-requires : goal.place_of-requires
place_of-requires c =
    let image = image_of c.args.site.now in
    let f = function_in c.args.site.now in
    let at = c.args.at in
    let t = c.requires.there in
    let low : c.lowest-below.result ≡ lowest image f at = lowest_is image f at c.args.height c.lowest-below.result c.requires.height (c.lowest-below.ensures ∙ ap (λ (j : Instruction). c.args.height - count_off image c.function_of-function.result.now j) c.instruction_of-instruction.ensures
    ∙ ap (λ (g : Function). c.args.height - count_off image g (instruction_at g at)) c.function_of-function.ensures) in
    let b = lowest_below image f at in
    place_fits image f c.args.site.now.shape.now.first at c.lowest-below.result c.requires.site.shape.first c.requires.site.narrow (omega (arith, t)) (omega (arith, low, b))

pub place_of-requires-2 : goal.place_of-requires-2
place_of-requires-2 c =
    let t = c.requires.there in
    let h = c.requires.height in
    let s = c.saturating_sub.ensures in
    place_fits (image_of c.args.site.now) (function_in c.args.site.now) c.args.site.now.shape.now.first c.args.at c.saturating_sub.result c.requires.site.shape.first c.requires.site.narrow (omega (arith, t)) (omega (arith, h, s))

pub returns : goal.returns
returns c =
    let image = image_of c.args.site.now in
    let f = function_in c.args.site.now in
    let at = c.args.at in
    let shape = c.requires.site.shape in
    let i : c.instruction_of-instruction.result.now ≡ instruction_at f at = c.instruction_of-instruction.ensures ∙ ap (λ (g : Function). instruction_at g at) c.function_of-function.ensures in
    let low : c.lowest-below.result ≡ lowest image f at = lowest_is image f at c.args.height c.lowest-below.result c.requires.height (c.lowest-below.ensures ∙ ap (λ (j : Instruction). c.args.height - count_off image c.function_of-function.result.now j) c.instruction_of-instruction.ensures
    ∙ ap (λ (g : Function). c.args.height - count_off image g (instruction_at g at)) c.function_of-function.ensures) in
    let h = c.requires.height in
    let s = c.saturating_sub.ensures in
    let high : c.saturating_sub.result ≡ height image f at - 1 = omega (arith, h, s) in
    let fine = is_fine image f (c.requires.site.sound.functions c.args.site.now.number c.requires.site.there) at c.requires.there in
    record {
      low = c.place_of.ensures image f shape ∙ ap (place f) low;
      high = c.place_of-2.ensures image f shape ∙ ap (place f) high;
      result = shape.result;
      local = subst (LocalIs f c.local_of.result) i (c.local_of.ensures image f shape (subst (Names true image f) (sym i) fine.names));
    }
