use Rattle.std.proofs.Common.{◌≡◌, ◌+◌, ℕ, take, map}
use Rattle.rc_code.specs.declared.image.Function.{Function}
use Rattle.rc_code.specs.Soundness.{is_regional}
use Rattle.rc_claims.specs.Counts.{place}
use Rattle.rc_sealed.specs.Carrying.{regional_places}
use Rattle.rc_image_effects.proofs.effects.arguments.Given as goal

abbrev pub invariant-loop-storage : goal.invariant-loop-storage
invariant-loop-storage l = record {
  here : l.place ≡ l.first + l.storage-index;
  so_far : (f : Function) (j : ℕ) → l.first ≡ place f j → l.places.items ≡ regional_places f (map is_regional (take l.storage-index l.parameters)) j;
}
