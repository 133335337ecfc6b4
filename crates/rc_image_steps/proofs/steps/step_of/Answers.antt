use Rattle.std.proofs.Common.{◌≡◌, ℕ, suc, ◌+◌, true, false, MatchOption, subst, arith}
use Rattle.rc_facts.specs.declared.fact.Fact.{Fact}
use Rattle.rc_sealed.specs.Carrying.{is_target}
use Rattle.rc_sealed.specs.Claimed.{annotation_of}
use Rattle.rc_carrying.specs.Passing.{listed}
use Rattle.rc_image_steps.specs.Sites.{function_in}
use Rattle.rc_image_steps.proofs.Stepping.{step_fits}
use Rattle.rc_image_steps.proofs.steps.step_of.Goals as goal

pub returns-clause-stands : goal.returns-clause-stands
returns-clause-stands c =
    let site = c.args.site.now in
    let next : c.args.at + 1 ≡ suc c.args.at = omega arith in
    record {
      effect = c.in_ok-effect.ensures.effect;
      low = c.in_ok-effect.ensures.low;
      top = c.in_ok-effect.ensures.top;
      before = c.in_ok-before.ensures;
      behind = c.in_ok-behind.ensures;
      frame = subst (λ (n : ℕ). MatchOption c.in_ok-frame.frame (is_target (function_in site) n ≡ false) (λ given. (is_target (function_in site) n ≡ true) × ((fact : Fact) → listed given.items fact ≡ (annotation_of site.parts.now c.args.proofs.now).before site.number n fact))) next c.in_ok-frame.ensures;
    }

pub returns-clause-fits : goal.returns-clause-fits
returns-clause-fits c =
    let site = c.args.site.now in
    let next : c.args.at + 1 ≡ suc c.args.at = omega arith in
    step_fits site c.requires.site c.args.proofs.now c.args.at c.requires.there _ (record {
      effect = c.in_ok-effect.ensures.effect;
      low = c.in_ok-effect.ensures.low;
      top = c.in_ok-effect.ensures.top;
      before = c.in_ok-before.ensures;
      behind = c.in_ok-behind.ensures;
      frame = subst (λ (n : ℕ). MatchOption c.in_ok-frame.frame (is_target (function_in site) n ≡ false) (λ given. (is_target (function_in site) n ≡ true) × ((fact : Fact) → listed given.items fact ≡ (annotation_of site.parts.now c.args.proofs.now).before site.number n fact))) next c.in_ok-frame.ensures;
    })
