-- A live region with other objects.
use Rattle.std.proofs.Common.{◌≡◌, ℕ, zero, suc, IsTrue, List, [], ◌∷◌, set, Some, None, refl, ap}
use Rattle.std.proofs.lemmas.Bool.{false≢true}
use Rattle.rc_store.specs.Kept.{KeptObject, Regions}
use Rattle.rc_store.specs.Stores.{live_in, parent_in, with_objects}

pub objects_set : (r : ℕ) (objects : List KeptObject) (regions : Regions) → IsTrue (live_in regions r) → with_objects r objects regions ≡ set regions r (Some (record { parent = parent_in regions r; objects = objects }))
objects_set r objects [] live = absurd (false≢true live)
objects_set zero objects (None ∷ views) live = absurd (false≢true live)
objects_set zero objects (Some v ∷ views) live = refl
objects_set (suc r) objects (v ∷ views) live = ap (λ vs. v ∷ vs) (objects_set r objects views live)

-- and dead afterwards
pub objects_gone : (r : ℕ) (objects : List KeptObject) (regions : Regions) → set (with_objects r objects regions) r None ≡ set regions r None
objects_gone r objects [] = refl
objects_gone zero objects (v ∷ views) = refl
objects_gone (suc r) objects (v ∷ views) = ap (λ vs. v ∷ vs) (objects_gone r objects views)
