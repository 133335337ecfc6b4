-- A live region that is read and written in its place.
use Rattle.std.proofs.Common.{◌≡◌, ◌<◌, ◌∙◌, ℕ, zero, suc, IsTrue, List, [], ◌∷◌, length, set, get_or, Option, Some, None, refl, sym, ap, arith}
use Rattle.std.specs.Prelude.{option_map}
use Rattle.std.proofs.lemmas.Bool.{false≢true}
use Rattle.rc_store.specs.Kept.{KeptObject, KeptView, Regions}
use Rattle.rc_store.specs.Stores.{live_in, objects_in, view_with, with_objects}

-- what has objects is live
pub live_by : (regions : Regions) (r o : ℕ) → o < length (objects_in regions r) → IsTrue (live_in regions r)
live_by [] r o there = absurd (omega (arith, there))
live_by (None ∷ views) zero o there = absurd (omega (arith, there))
live_by (Some v ∷ views) zero o there = refl
live_by (v ∷ views) (suc r) o there = live_by views r o there

pub objects_there : (regions : Regions) (r : ℕ) (other : Option KeptView) (v : KeptView) → IsTrue (live_in regions r) → get_or regions r other ≡ Some v → objects_in regions r ≡ v.objects
objects_there [] r other v live is = absurd (false≢true live)
objects_there (None ∷ views) zero other v live is = absurd (false≢true live)
objects_there (Some w ∷ views) zero other v live is = ap (λ u. u.objects) (let same : w ≡ v = cc in same)
objects_there (w ∷ views) (suc r) other v live is = objects_there views r other v live is

pub changed_there : (regions : Regions) (r : ℕ) (other : Option KeptView) (v new : KeptView) (objects : List KeptObject) → get_or regions r other ≡ Some v → new ≡ view_with objects v
    → set regions r (Some new) ≡ with_objects r objects regions
changed_there [] r other v new objects is same = refl
changed_there (w ∷ views) zero other v new objects is same = ap (λ u. Some u ∷ views) same ∙ ap (λ x. option_map (view_with objects) x ∷ views) (sym is)
changed_there (w ∷ views) (suc r) other v new objects is same = ap (λ vs. w ∷ vs) (changed_there views r other v new objects is same)
