use Rattle.std.proofs.Common.{◌∙◌, ◌++◌, Bool, refl, ap, arith}
use Rattle.rc_image_effects.specs.Arguments.{place_if}
use Rattle.rc_image_effects.proofs.Arguments.{all_more}
use Rattle.rc_image_effects.proofs.effects.arguments.Goals as goal

pub loop-storage-preserved : goal.loop-storage-preserved
loop-storage-preserved c = record {
  here = (let h = c.loop-storage.invariant.here in omega (arith, h));
  so_far = λ f j e. all_more f c.args.parameters.now c.args.first c.loop-storage.place c.loop-storage.storage-index _ _ c.loop-storage.places.items c.push_if.new.out.items j e c.loop-storage.invariant.here c.loop-storage-test.true refl (c.loop-storage.invariant.so_far f j e)
      (c.in_ok-push_if.ensures ∙ ap (λ (b : Bool). c.loop-storage.places.items ++ place_if b c.loop-storage.place) c.is_regional.ensures);
}
