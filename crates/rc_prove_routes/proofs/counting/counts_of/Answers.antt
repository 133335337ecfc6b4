use Rattle.std.proofs.Common.{◌≡◌, ◌∙◌, ap, arith}
use Rattle.rc_code.specs.declared.image.Function.{Function}
use Rattle.rc_claims.specs.Counts.{one_if, regional_result}
use Rattle.rc_image_steps.specs.Sites.{function_in}
use Rattle.rc_prove_routes.proofs.Ranking.{all_ranked}
use Rattle.rc_prove_routes.proofs.counting.counts_of.Goals as goal

pub returns : goal.returns
returns c =
    let W = c.args.walk.now in
    let f = function_in W.site in
    let shape = c.requires.site.shape in
    let a = shape.copies in
    let r = shape.result in
    let o : c.regional.result ≡ one_if (regional_result f.result) = c.regional.ensures ∙ ap (λ (g : Function). one_if (regional_result g.result)) c.function_of-function.ensures in
    record {
      are = record {
        copies = a;
        answers = omega (arith, a, o);
        locals = shape.first;
        targets = c.count_of.ensures ∙ all_ranked f W.targets.now c.requires.targets c.requires.few;
      };
      variables = omega (arith, r);
    }
