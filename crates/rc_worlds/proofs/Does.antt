-- A run over the source's world and the same over its store; and what it reaches where it goes on.
use Rattle.std.proofs.Common.{◌≡◌, ◌⊎◌, inl, inr, ℕ, Bool, true, false, List, [], ◌∷◌, refl, sym, ap, ◌∙◌, subst, arith}
use Rattle.std.specs.List.{AllByRecursion as Every, list_all}
use Rattle.rc_base.specs.declared.ends.Trap.{Trap}
use Rattle.rc_base.specs.declared.ends.Trap.TheVariants.{Bounds}
use Rattle.rc_core.specs.Heap.{Value, Number, Null, Handle, Pointer, Address, Heap, live, objects, object_at, no_object}
use Rattle.rc_core.specs.Runs.{Run, Go, Stopped, bind, branching, trap, tested, touching, Target}
use Rattle.rc_core.specs.Source.{World, Spot, at_region, at_address, at_spot, is_index, chosen_in_range, cell_of}
use Rattle.std.specs.Prelude.{◌+ℤ◌, pos, unsigned_abs, get_or}
use Rattle.rc_code.specs.StoreModel.{Held, lives, on_region, on_address, on_spot}
use Rattle.rc_worlds.specs.Worlds.{Compared, failed, model, mapped, may_mark, looks, tells_apart}
use Rattle.rc_worlds.specs.Typed.{Good, Grows, AsFresh, Reaches}
use Rattle.rc_worlds.proofs.Looks.{lives_same, in_view, counts_renamed}

-- a check with a mark may have failed where the source's world watches them: nothing is said of the store
abbrev pub Excused : Compared → {A : Type 0} → Run World A → Type 0
Excused image (Go x w) = ⊥
Excused image (Stopped stop w) = (may_mark image.marks ≡ true) × (looks image.marks ≡ true) × ((line : ℕ) × (stop ≡ failed (tells_apart image.marks) line))

abbrev pub Same : Compared → {A : Type 0} → Run World A → Run Held A → Type 0
Same image m m' = Excused image m ⊎ (m' ≡ mapped image m)

abbrev pub IfGoes : {A : Type 0} → (A → World → Type 0) → Run World A → Type 0
IfGoes P (Go x w) = P x w
IfGoes P (Stopped s w) = Unit {0}

-- the same value or stop, in the store of the same world; and where it goes on, the invariant and what is said of the value
pub record Does (image : Compared) {A : Type 0} (w : World) (P : A → World → Type 0) (m : Run World A) (m' : Run Held A) : Type 0 where
  pub same : Same image m m'
  pub goes : IfGoes (λ x w1. Reaches image w w1 × P x w1) m

pub grows_itself : (heap : Heap) → Grows heap heap
grows_itself heap = record { regions = omega arith; objects = λ r o shape e. e }

pub grows_on : (a b c : Heap) → Grows a b → Grows b c → Grows a c
grows_on a b c f g = record { regions = let x = f.regions in let y = g.regions in omega (arith, x, y); objects = λ r o shape e. g.objects r o shape (f.objects r o shape e) }

every_both : {A : Type 0} (P Q R : A → Type 0) → ((x : A) → P x → Q x → R x) → (xs : List A) → Every P xs → Every Q xs → Every R xs
every_both P Q R k [] p q = tt
every_both P Q R k (x ∷ xs) p q = (k x p.0 q.0, every_both P Q R k xs p.1 q.1)

pub each_as_fresh : (heap : Heap) (vs : List Value) → Every (AsFresh heap heap) vs
each_as_fresh heap [] = tt
each_as_fresh heap (v ∷ vs) = (refl, each_as_fresh heap vs)

module _ (image : Compared) where
  pub reaches_itself : (w : World) → Good image w → Reaches image w w
  reaches_itself w good = record { good = good; grows = grows_itself w.heap; waits = refl; fresh = each_as_fresh w.heap w.waiting }

  pub reaches_on : (w w1 w2 : World) → Reaches image w w1 → Reaches image w1 w2 → Reaches image w w2
  reaches_on w w1 w2 a b = record {
    good = b.good;
    grows = grows_on w.heap w1.heap w2.heap a.grows b.grows;
    waits = b.waits ∙ a.waits;
    fresh = every_both (AsFresh w.heap w1.heap) (AsFresh w1.heap w2.heap) (AsFresh w.heap w2.heap) (λ v x y. y ∙ x) w.waiting a.fresh (subst (Every (AsFresh w1.heap w2.heap)) a.waits b.fresh);
  }

  pub does_go : {A : Type 0} (w w1 : World) (P : A → World → Type 0) (x : A) → Reaches image w w1 → P x w1 → Does image w P (Go x w1) (Go x (model image.name w1))
  does_go w w1 P x a p = record { same = inr refl; goes = (a, p) }

  pub does_stop : {A : Type 0} (w : World) (P : A → World → Type 0) (t : Trap) (line : ℕ) → Does image w P (trap t line w) (trap t line (model image.name w))
  does_stop w P t line = record { same = inr refl; goes = tt }

  goes_from : {B : Type 0} (w w1 : World) (Q : B → World → Type 0) (m : Run World B) → Reaches image w w1 → IfGoes (λ x w2. Reaches image w1 w2 × Q x w2) m → IfGoes (λ x w2. Reaches image w w2 × Q x w2) m
  goes_from w w1 Q (Go x w2) a g = (reaches_on w w1 w2 a g.0, g.1)
  goes_from w w1 Q (Stopped s w2) a g = tt

  pub does_from : {B : Type 0} (w w1 : World) (Q : B → World → Type 0) (m : Run World B) (m' : Run Held B) → Reaches image w w1 → Does image w1 Q m m' → Does image w Q m m'
  does_from w w1 Q m m' a d = record { same = d.same; goes = goes_from w w1 Q m a d.goes }

  pub does_then : {A B : Type 0} (w : World) (P : A → World → Type 0) (Q : B → World → Type 0) (m : Run World A) (m' : Run Held A) (next : A → World → Run World B) (next' : A → Held → Run Held B)
      → Does image w P m m' → ((x : A) (w1 : World) → Reaches image w w1 → P x w1 → Does image w1 Q (next x w1) (next' x (model image.name w1))) → Does image w Q (bind m next) (bind m' next')
  does_then w P Q m m' next next' d k = by m d.same d.goes
    where
      by : (m : Run World _) → Same image m m' → IfGoes (λ x w1. Reaches image w w1 × P x w1) m → Does image w Q (bind m next) (bind m' next')
      by (Go x w1) (inl e) goes = absurd e
      by (Stopped stop w1) (inl e) goes = record { same = inl e; goes = tt }
      by (Go x w1) (inr same) goes = subst (λ m'. Does image w Q (next x w1) (bind m' next')) (sym same) (does_from w w1 Q (next x w1) (next' x (model image.name w1)) goes.0 (k x w1 goes.0 goes.1))
      by (Stopped s w1) (inr same) goes = subst (λ m'. Does image w Q (Stopped s w1) (bind m' next')) (sym same) (record { same = inr refl; goes = tt })

  pub does_more : {A : Type 0} (w : World) (P Q : A → World → Type 0) (m : Run World A) (m' : Run Held A) → Does image w P m m' → ((x : A) (w1 : World) → Reaches image w w1 → P x w1 → Q x w1) → Does image w Q m m'
  does_more w P Q m m' d k = record { same = d.same; goes = by m d.goes }
    where
      by : (m : Run World _) → IfGoes (λ x w1. Reaches image w w1 × P x w1) m → IfGoes (λ x w1. Reaches image w w1 × Q x w1) m
      by (Go x w1) g = (g.0, k x w1 g.0 g.1)
      by (Stopped s w1) g = tt

  pub does_tested : {A : Type 0} (w : World) (P : A → World → Type 0) (a b : Bool) (t : Trap) (line : ℕ) (m : Run World A) (m' : Run Held A) → a ≡ b → (b ≡ true → Does image w P m m') → Does image w P (tested b t line w m) (tested a t line (model image.name w) m')
  does_tested w P a b t line m m' e k = subst (λ a. Does image w P (tested b t line w m) (tested a t line (model image.name w) m')) (sym e) (by b k)
    where
      by : (b : Bool) → (b ≡ true → Does image w P m m') → Does image w P (tested b t line w m) (tested b t line (model image.name w) m')
      by true k = k refl
      by false k = record { same = inr refl; goes = tt }

  pub does_touching : {A : Type 0} (w : World) (P : A → World → Type 0) (a b : Bool) (line : ℕ) (m : Run World A) (m' : Run Held A) → a ≡ b → (b ≡ true → Does image w P m m') → Does image w P (touching b line w m) (touching a line (model image.name w) m')
  does_touching w P a b line m m' e k = subst (λ a. Does image w P (touching b line w m) (touching a line (model image.name w) m')) (sym e) (by b k)
    where
      by : (b : Bool) → (b ≡ true → Does image w P m m') → Does image w P (touching b line w m) (touching b line (model image.name w) m')
      by true k = k refl
      by false k = record { same = inr refl; goes = tt }

  pub does_branching : {A : Type 0} (w : World) (P : A → World → Type 0) (b : Bool) (m n : World → Run World A) (m' n' : Held → Run Held A) → Does image w P (m w) (m' (model image.name w)) → Does image w P (n w) (n' (model image.name w))
      → Does image w P (branching b m n w) (branching b m' n' (model image.name w))
  does_branching w P true m n m' n' d e = d
  does_branching w P false m n m' n' d e = e

  pub does_region : {A : Type 0} (line : ℕ) (v : Value) (w : World) (P : A → World → Type 0) (go : ℕ → Run World A) (go' : ℕ → Run Held A) → ((r : ℕ) → Does image w P (go r) (go' r)) → Does image w P (at_region line v w go) (on_region line v (model image.name w) go')
  does_region line (Handle r) w P go go' k = k r
  does_region line (Number n) w P go go' k = record { same = inr refl; goes = tt }
  does_region line Null w P go go' k = record { same = inr refl; goes = tt }
  does_region line (Pointer a) w P go go' k = record { same = inr refl; goes = tt }

  pub does_address : {A : Type 0} (line : ℕ) (v : Value) (w : World) (P : A → World → Type 0) (go : Address → Run World A) (go' : Address → Run Held A) → ((a : Address) → v ≡ Pointer a → Does image w P (go a) (go' a)) → Does image w P (at_address line v w go) (on_address line v (model image.name w) go')
  does_address line (Pointer a) w P go go' k = k a refl
  does_address line (Number n) w P go go' k = record { same = inr refl; goes = tt }
  does_address line Null w P go go' k = record { same = inr refl; goes = tt }
  does_address line (Handle r) w P go go' k = record { same = inr refl; goes = tt }

  -- a spot that was reached: alive, inside the object, and by indices that are in range
  pub record IsSpot (w : World) (t : Target) (a : Address) (spot : Spot) : Type 0 where
    pub pointer : t.pointer ≡ Pointer a
    pub alive : live w.heap spot.region ≡ true
    pub there : (spot.region ≡ a.region) × (spot.object ≡ a.object)
    pub inside : is_index (pos a.index +ℤ t.shift) (object_at w.heap spot.region spot.object).count ≡ true
    pub element : spot.element ≡ unsigned_abs (pos a.index +ℤ t.shift)
    pub chosen : list_all chosen_in_range t.chosen ≡ true
    pub cell : spot.cell ≡ cell_of t

  pub does_spot : {A : Type 0} (line : ℕ) (t : Target) (w : World) (P : A → World → Type 0) (go : Spot → Run World A) (go' : Spot → Run Held A) → ((a : Address) (spot : Spot) → IsSpot w t a spot → Does image w P (go spot) (go' spot))
      → Does image w P (at_spot line t w go) (on_spot line t (model image.name w) go')
  does_spot line t w P go go' k =
      does_address line t.pointer w P _ _ (λ a p.
      does_touching w P (lives (model image.name w).store a.region) (live w.heap a.region) line _ _ (lives_same image.name w a.region) (λ l.
      does_tested w P _ (is_index (pos a.index +ℤ t.shift) (object_at w.heap a.region a.object).count) Bounds line _ _ (ap (λ os. is_index (pos a.index +ℤ t.shift) (get_or os a.object no_object).count) (in_view image.name w a.region l) ∙ ap (λ n. is_index (pos a.index +ℤ t.shift) n) (counts_renamed image.name (objects w.heap a.region) a.object)) (λ inside.
      does_tested w P (list_all chosen_in_range t.chosen) (list_all chosen_in_range t.chosen) Bounds line _ _ refl (λ chosen.
      k a (record { region = a.region; object = a.object; element = unsigned_abs (pos a.index +ℤ t.shift); cell = cell_of t }) (record { pointer = p; alive = l; there = (refl, refl); inside = inside; element = refl; chosen = chosen; cell = refl })))))
