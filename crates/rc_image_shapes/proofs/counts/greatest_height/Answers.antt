use Rattle.std.proofs.Common.{◌≡◌, ◌+◌, ◌∙◌, sym, ap, arith, refl, length}
use Rattle.rc_code.specs.Running.{reading_of}
use Rattle.rc_code.specs.Soundness.{kinds_before}
use Rattle.rc_sealed.specs.ImageVariables.{height_within}
use Rattle.rc_image_shapes.proofs.Counting.{greatest_next, greater_small}
use Rattle.rc_image_shapes.proofs.counts.greatest_height.Goals as goal

pub loop-at-preserved : goal.loop-at-preserved
loop-at-preserved c =
    let image = reading_of c.args.parts.now in
    let f = c.args.function.now in
    let at = c.loop-at.at in
    let e : Rattle.std.proofs.Common.suc at ≡ at + 1 = omega arith in
    let s = c.loop-at.invariant.small in
    let m = c.loop-at.invariant.most in
    let k = c.height_behind-next.ensures.most in
    record {
      height = c.height_behind-next.ensures.height ∙ ap (λ n. length (kinds_before image f n)) e;
      greatest = greatest_next image f at c.loop-at.greatest c.greater-most.result c.height_behind-next.result c.loop-at.invariant.greatest c.height_behind-next.ensures.height c.greater-most.ensures;
      small = omega (arith, s, k);
      most = greater_small c.loop-at.greatest c.height_behind-next.result c.greater-most.result (at + 1) c.greater-most.ensures (omega (arith, m)) (omega (arith, s, k));
    }

pub returns-clause-height : goal.returns-clause-height
returns-clause-height c =
    let last : c.loop-at.at ≡ length c.args.function.now.code = (let f = c.loop-at-test.false in let e = c.loop-at.auto.at-end in let s = ap length c.as_slice-at-end.ensures in omega (arith, f, e, s)) in
    c.loop-at.invariant.greatest ∙ ap (height_within (reading_of c.args.parts.now) c.args.function.now) last
