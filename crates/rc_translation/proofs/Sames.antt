-- Two runs that do the same: their values are related, and where they stop their worlds are.
use Rattle.std.proofs.Common.{◌≡◌, refl, subst, ◌⊎◌, inl, inr}
use Rattle.rc_core.specs.Runs.{Stop, Ends, Stale, Run, Go, Stopped, bind}
use Rattle.rc_core.specs.Laws.{IfGoes}

abbrev pub IsStale : Stop → Type 0
IsStale (Ends end) = ⊥
IsStale (Stale line) = Unit {0}

module _ {W : Type 0} (E : W → W → Type 0) where
  abbrev pub SameStop : {B : Type 0} → Stop → W → Run W B → Type 0
  SameStop s w (Go y w') = ⊥
  SameStop s w (Stopped s' w') = (s ≡ s') × E w w'

  -- nothing is said of a run that touches a dead region, which no program's does
  abbrev pub Same : {A B : Type 0} → (A → B → W → Type 0) → Run W A → Run W B → Type 0
  Same P (Go x w) (Go y w') = (w ≡ w') × P x y w
  Same P (Go x w) (Stopped s w') = ⊥
  Same P (Stopped s w) m' = IsStale s ⊎ SameStop s w m'

  stop_bind : {B D : Type 0} (s : Stop) (w : W) (m' : Run W B) (g : B → W → Run W D) → IsStale s ⊎ SameStop s w m' → IsStale s ⊎ SameStop s w (bind m' g)
  stop_bind s w (Go y w') g (inl h) = inl h
  stop_bind s w (Go y w') g (inr h) = absurd h
  stop_bind s w (Stopped s' w') g h = h

  pub same_bind : {A B C D : Type 0} (P : A → B → W → Type 0) (Q : C → D → W → Type 0) (m : Run W A) (m' : Run W B) (f : A → W → Run W C) (g : B → W → Run W D) → Same P m m' → ((x : A) (y : B) (w : W) → P x y w → Same Q (f x w) (g y w)) → Same Q (bind m f) (bind m' g)
  same_bind P Q (Go x w) (Go y w') f g h k = subst (λ v. Same Q (f x w) (g y v)) h.0 (k x y w h.1)
  same_bind P Q (Go x w) (Stopped e w') f g h k = absurd h
  same_bind P Q (Stopped e w) m' f g h k = stop_bind e w m' g h

  -- with what holds where the first goes on
  pub same_with : {A B : Type 0} (P : A → B → W → Type 0) (K : A → W → Type 0) (m : Run W A) (m' : Run W B) → IfGoes K m → Same P m m' → Same (λ x y w. P x y w × K x w) m m'
  same_with P K (Go x w) (Go y w') k h = (h.0, (h.1, k))
  same_with P K (Go x w) (Stopped e w') k h = absurd h
  same_with P K (Stopped e w) m' k h = h

  pub same_weaken : {A B : Type 0} (P Q : A → B → W → Type 0) (m : Run W A) (m' : Run W B) → Same P m m' → ((x : A) (y : B) (w : W) → P x y w → Q x y w) → Same Q m m'
  same_weaken P Q (Go x w) (Go y w') h k = (h.0, k x y w h.1)
  same_weaken P Q (Go x w) (Stopped e w') h k = absurd h
  same_weaken P Q (Stopped e w) m' h k = h

  -- a run beside itself
  pub same_self : {A C D : Type 0} (here : (w : W) → E w w) (Q : C → D → W → Type 0) (m : Run W A) (f : A → W → Run W C) (g : A → W → Run W D) → ((x : A) (w : W) → Same Q (f x w) (g x w)) → Same Q (bind m f) (bind m g)
  same_self here Q (Go x w) f g k = k x w
  same_self here Q (Stopped e w) f g k = inr (refl, here w)

pub bind_bind : {W A B C : Type 0} (m : Run W A) (f : A → W → Run W B) (g : B → W → Run W C) → bind (bind m f) g ≡ bind m (λ x w. bind (f x w) g)
bind_bind (Go x w) f g = refl
bind_bind (Stopped e w) f g = refl

pub bind_go : {W A : Type 0} (m : Run W A) → bind m (λ x w. Go x w) ≡ m
bind_go (Go x w) = refl
bind_go (Stopped e w) = refl
