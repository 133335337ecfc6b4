-- What is counted and listed of a function is its shape.
use Rattle.std.proofs.Common.{◌≡◌, ◌∙◌, ℕ, ◌+◌, ◌<◌, true, false, length, map, get_or, ap}
use Rattle.std.specs.List.{list_any}
use Rattle.rc_code.specs.declared.image.Function.{Function}
use Rattle.rc_code.specs.Running.{Reading}
use Rattle.rc_code.specs.Soundness.{is_regional, FunctionIsSound}
use Rattle.rc_claims.specs.Counts.{regionals, trues}
use Rattle.rc_sealed.specs.Carrying.{jumps_to}
use Rattle.rc_image_shapes.specs.declared.counts.Counts.{Counts}
use Rattle.rc_image_shapes.specs.declared.shape.Shape.{Shape}
use Rattle.rc_image_shapes.specs.Counted.{AreCounts}
use Rattle.rc_image_shapes.specs.Shapes.{IsShape}
use Rattle.rc_image_shapes.proofs.Targets.{targets_told}

pub shape_is : (image : Reading) (f : Function) (shape : Shape) (counts : Counts) → FunctionIsSound true image f → AreCounts image f counts → shape.copies ≡ counts.copies → shape.first ≡ counts.first → shape.result ≡ counts.result
    → ((x : ℕ) → x < length f.locals → get_or shape.locals.items x 0 ≡ shape.copies + trues (map is_regional f.locals) x) → length shape.targets.items ≡ length f.code → ((at : ℕ) → at < length f.code → get_or shape.targets.items at false ≡ list_any (jumps_to at) f.code)
    → IsShape image f shape
shape_is image f shape counts sound are c p r locals long marks = record {
  copies = c ∙ are.copies;
  first = p ∙ are.first;
  result = r ∙ are.result;
  locals = λ x lt. locals x lt ∙ ap (λ n. n + trues (regionals f) x) (c ∙ are.copies);
  targets = targets_told image f sound shape.targets.items long marks;
}
