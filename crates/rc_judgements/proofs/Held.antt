-- What holds of whatever a judgement gives.
use Rattle.std.specs.Prelude.{◌≡◌, List, [], ◌∷◌, ◌++◌, Option, Some, None, Bool, true, false, option_map, if◌then◌else◌}
use Rattle.std.proofs.Common.{refl}
use Rattle.rc_syntax.specs.declared.tree.Spot.{Spot}
use Rattle.rc_deletes.specs.declared.fault.Refusal.{Refusal}
use Rattle.rc_deletes.specs.Judged.{Judged, Holds, Faulty, with_part, with_parts, in_front, both, failing, ruled, fitting}

abbrev pub Held : {A : Type 0} → (A → Type 0) → Judged A → Type 0
Held P (Holds a) = P a
Held P (Faulty f fs) = Unit {0}

abbrev pub Given : {A : Type 0} → (A → Type 0) → Option A → Type 0
Given P (Some a) = P a
Given P None = Unit {0}

pub held_part : {A B : Type 0} (P : A → Type 0) (Q : B → Type 0) (x : Judged A) (rule : A → Judged B) → Held P x → ((a : A) → P a → Held Q (rule a)) → Held Q (with_part x rule)
held_part P Q (Holds a) rule h k = k a h
held_part P Q (Faulty f fs) rule h k = tt

pub held_parts : {A B C : Type 0} (P : A → Type 0) (Q : B → Type 0) (R : C → Type 0) (x : Judged A) (y : Judged B) (rule : A → B → Judged C) → Held P x → Held Q y → ((a : A) (b : B) → P a → Q b → Held R (rule a b)) → Held R (with_parts x y rule)
held_parts P Q R (Holds a) (Holds b) rule h k l = l a b h k
held_parts P Q R (Holds a) (Faulty f fs) rule h k l = tt
held_parts P Q R (Faulty f fs) y rule h k l = tt

pub held_front : {A B : Type 0} (P : B → Type 0) (x : Judged A) (y : Judged B) → Held P y → Held P (in_front x y)
held_front P (Holds a) y h = h
held_front P (Faulty f fs) y h = tt

pub held_both : {A B : Type 0} (P : A → Type 0) (Q : B → Type 0) (x : Judged A) (y : Judged B) → Held P x → Held Q y → Held (λ (c : A × B). P c.0 × Q c.1) (both x y)
held_both P Q (Holds a) (Holds b) h k = (h, k)
held_both P Q (Holds a) (Faulty f fs) h k = tt
held_both P Q (Faulty f fs) y h k = tt

pub held_if : {A : Type 0} (P : A → Type 0) (b : Bool) (x y : Judged A) → (b ≡ true → Held P x) → (b ≡ false → Held P y) → Held P (if b then x else y)
held_if P true x y h k = h refl
held_if P false x y h k = k refl

pub held_ruled : {A : Type 0} (P : A → Type 0) (at : Spot) (refusals : List Refusal) (a : A) → (refusals ≡ [] → P a) → Held P (ruled at refusals a)
held_ruled P at [] a h = h refl
held_ruled P at (k ∷ ks) a h = tt

pub held_fitting : {A : Type 0} (P : A → Type 0) (at : Spot) (a : Option A) → Given P a → Held P (fitting at a)
held_fitting P at None h = tt
held_fitting P at (Some a) h = h

pub held_more : {A : Type 0} (P Q : A → Type 0) (x : Judged A) → Held P x → ((a : A) → P a → Q a) → Held Q x
held_more P Q (Holds a) h k = k a h
held_more P Q (Faulty f fs) h k = tt

pub given_if : {A : Type 0} (P : A → Type 0) (b : Bool) (x y : Option A) → Given P x → Given P y → Given P (if b then x else y)
given_if P true x y h k = h
given_if P false x y h k = k

pub given_map : {A B : Type 0} (P : A → Type 0) (Q : B → Type 0) (f : A → B) (x : Option A) → Given P x → ((a : A) → P a → Q (f a)) → Given Q (option_map f x)
given_map P Q f (Some a) h k = k a h
given_map P Q f None h k = tt

pub given_and : {A : Type 0} (C : Type 0) (P : A → Type 0) (x : Option A) → C → Given P x → Given (λ a. C × P a) x
given_and C P (Some a) c h = (c, h)
given_and C P None c h = tt

pub given_always : {A : Type 0} (C : Type 0) (x : Option A) → C → Given (λ (a : A). C) x
given_always C (Some a) c = c
given_always C None c = tt

-- what holds whatever is given
pub held_always : {A : Type 0} (C : Type 0) (x : Judged A) → C → Held (λ (a : A). C) x
held_always C (Holds a) c = c
held_always C (Faulty f fs) c = tt

-- one thing known after the other
pub held_turn : {A B C : Type 0} (K L M : Type 0) (x : Judged A) (y : Judged B) (rule : A → B → Judged C) → Held (λ (a : A). K) x → (K → Held (λ (b : B). L) y) → ((a : A) (b : B) → L → Held (λ (c : C). M) (rule a b)) → Held (λ (c : C). M) (with_parts x y rule)
held_turn K L M (Holds a) y rule h k l = go y (k h) where
  go : (y : Judged _) → Held (λ b. L) y → Held (λ c. M) (with_part y (rule a))
  go (Holds b) q = l a b q
  go (Faulty f fs) q = tt
held_turn K L M (Faulty f fs) y rule h k l = tt

-- what is known of the first part serves the second
pub held_then : {A B C : Type 0} (K : Type 0) (Q : B → Type 0) (R : C → Type 0) (x : Judged A) (y : Judged B) (rule : A → B → Judged C) → Held (λ (a : A). K) x → (K → Held Q y) → ((a : A) (b : B) → K → Q b → Held R (rule a b)) → Held R (with_parts x y rule)
held_then K Q R (Holds a) y rule h k l = held_part Q R y (rule a) (k h) (λ b q. l a b h q)
held_then K Q R (Faulty f fs) y rule h k l = tt

pub held_after : {A B C : Type 0} (K : Type 0) (P : A → Type 0) (Q : B → Type 0) (R : C → Type 0) (x : Judged A) (y : Judged B) (rule : A → B → Judged C) → Held (λ a. K × P a) x → (K → Held Q y) → ((a : A) (b : B) → K → P a → Q b → Held R (rule a b)) → Held R (with_parts x y rule)
held_after K P Q R (Holds a) y rule h k l = held_part Q R y (rule a) (k h.0) (λ b q. l a b h.0 h.1 q)
held_after K P Q R (Faulty f fs) y rule h k l = tt

-- with what is known where something is given
pub held_knowing : {A : Type 0} (C : Type 0) (P : A → Type 0) (x : Judged A) → Held (λ (a : A). C) x → (C → Held P x) → Held P x
held_knowing C P (Holds a) c h = h c
held_knowing C P (Faulty f fs) c h = tt

pub held_and : {A : Type 0} (P Q : A → Type 0) (x : Judged A) → Held P x → Held Q x → Held (λ a. P a × Q a) x
held_and P Q (Holds a) h k = (h, k)
held_and P Q (Faulty f fs) h k = tt

-- none of several rules fails
pub none_failing : (b : Bool) (k : Refusal) (rest : List Refusal) → failing b k ++ rest ≡ [] → (b ≡ false) × (rest ≡ [])
none_failing true k rest h = absurd cc
none_failing false k rest h = (refl, h)

pub not_failing : (b : Bool) (k : Refusal) → failing b k ≡ [] → b ≡ false
not_failing true k h = absurd cc
not_failing false k h = refl
