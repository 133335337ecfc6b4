-- Pins stay where regions go.
use Rattle.std.proofs.Common.{◌≡◌, ◌∙◌, ℕ, List, [], ◌∷◌, ap, refl}
use Rattle.std.specs.Prelude.{Result, Ok, Err, OnOk, OnErr}
use Rattle.rc_store.specs.Kept.{KeptStore}
use Rattle.rc_store.specs.Sets.{deleted_all}
use Rattle.rc_store.specs.Stores.{deleted}

pub pins_stay : (set : List ℕ) (s : KeptStore) → (deleted_all set s).pins ≡ s.pins
pins_stay [] s = refl
pins_stay (r ∷ set) s = pins_stay set (deleted r s)

pub pins_kept : {A B : Type 0} (answer : Result A B) (set : List ℕ) (old new : KeptStore) → OnOk answer (new ≡ deleted_all set old) → OnErr answer (new ≡ old) → new.pins ≡ old.pins
pins_kept (Ok a) set old new ok err = ap (λ (s : KeptStore). s.pins) ok ∙ pins_stay set old
pins_kept (Err e) set old new ok err = ap (λ (s : KeptStore). s.pins) err
