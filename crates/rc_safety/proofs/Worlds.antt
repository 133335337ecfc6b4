-- A sound world, what a run may change of it, and runs one after another.
use Rattle.std.proofs.Common.{◌≡◌, ℕ, Bool, true, false, List, refl, ◌∙◌}
use Rattle.std.specs.List.{AllByRecursion as Every}
use Rattle.rc_base.specs.declared.ends.Trap.{Trap}
use Rattle.rc_core.specs.Heap.{Value, Heap, live}
use Rattle.rc_core.specs.Runs.{Stop, Ends, Stale, Run, Go, Stopped, bind, branching, tested, touching}
use Rattle.rc_core.specs.Source.{World, with_heap}
use Rattle.rc_safety.specs.Soundness.{IsFresh, HeapIsSound}
use Rattle.rc_safety.proofs.Heaps.{NoneDies, fresh_stays, all_fresh_stay}

-- the heap is sound, and each value that waits is fresh
pub record IsSound (w : World) : Type 0 where
  pub heap : HeapIsSound w.heap
  pub waiting : Every (IsFresh (live w.heap)) w.waiting

abbrev pub FreshIn : World → Value → Type 0
FreshIn w v = IsFresh (live w.heap) v

abbrev pub AllFreshIn : World → List Value → Type 0
AllFreshIn w vs = Every (FreshIn w) vs

-- from one world a run comes to another: a region dies only if the run may delete, and the same values wait
pub record Reaches (may : Bool) (w w1 : World) : Type 0 where
  pub sound : IsSound w1
  pub stays : may ≡ false → NoneDies (live w.heap) (live w1.heap)
  pub waits : w1.waiting ≡ w.waiting

pub reaches_itself : (may : Bool) (w : World) → IsSound w → Reaches may w w
reaches_itself may w sound = record { sound = sound; stays = λ e r l. l; waits = refl }

pub reaches_on : (may : Bool) (w w1 w2 : World) → Reaches may w w1 → Reaches may w1 w2 → Reaches may w w2
reaches_on may w w1 w2 a b = record { sound = b.sound; stays = λ e r l. b.stays e r (a.stays e r l); waits = b.waits ∙ a.waits }

-- a run that deletes nothing is one that may
pub reaches_quietly : (may : Bool) (w w1 : World) → Reaches false w w1 → Reaches may w w1
reaches_quietly may w w1 a = record { sound = a.sound; stays = λ e. a.stays refl; waits = a.waits }

pub still_fresh : (w w1 : World) → Reaches false w w1 → (v : Value) → FreshIn w v → FreshIn w1 v
still_fresh w w1 a v e = fresh_stays (live w.heap) (live w1.heap) (a.stays refl) v e

pub all_still_fresh : (w w1 : World) → Reaches false w w1 → (vs : List Value) → AllFreshIn w vs → AllFreshIn w1 vs
all_still_fresh w w1 a vs all = all_fresh_stay (live w.heap) (live w1.heap) (a.stays refl) vs all

abbrev pub NotStale : Stop → Type 0
NotStale (Ends end) = Unit {0}
NotStale (Stale line) = ⊥

-- a heap where no region died, and the same values wait
pub reaches_heap : (w : World) (heap : Heap) → IsSound w → HeapIsSound heap → NoneDies (live w.heap) (live heap) → Reaches false w (with_heap w heap)
reaches_heap w heap sound new stays = record {
  sound = record { heap = new; waiting = all_fresh_stay (live w.heap) (live heap) stays w.waiting sound.waiting };
  stays = λ e. stays;
  waits = refl;
}

-- what may be said of a value that a run gives: nothing, that it is fresh, that all are
abbrev pub Nothing : {A : Type 0} → A → World → Type 0
Nothing x w = Unit {0}

abbrev pub Fresh : Value → World → Type 0
Fresh v w = FreshIn w v

abbrev pub AllFresh : List Value → World → Type 0
AllFresh vs w = AllFreshIn w vs

-- where it goes on, the fact holds of what it gives and of the world that it reaches
abbrev pub Holds : {A : Type 0} → (may : Bool) → World → (A → World → Type 0) → Run World A → Type 0
Holds may w S (Go x w1) = Reaches may w w1 × S x w1
Holds may w S (Stopped stop w1) = NotStale stop

-- a run from this world touches no deleted region
pub record Yields {A : Type 0} (may : Bool) (w : World) (S : A → World → Type 0) (m : Run World A) : Type 0 where
  pub holds : Holds may w S m

pub gives : {A : Type 0} (may : Bool) (w w1 : World) (S : A → World → Type 0) (x : A) → Reaches may w w1 → S x w1 → Yields may w S (Go x w1)
gives may w w1 S x a s = record { holds = (a, s) }

pub yields_from : {A : Type 0} (may : Bool) (w w1 : World) (S : A → World → Type 0) (m : Run World A) → Reaches may w w1 → Yields may w1 S m → Yields may w S m
yields_from may w w1 S (Go x w2) a y = record { holds = (reaches_on may w w1 w2 a y.holds.0, y.holds.1) }
yields_from may w w1 S (Stopped stop w2) a y = record { holds = y.holds }

-- one run after another
pub yields_then : {A B : Type 0} (may : Bool) (w : World) (S : A → World → Type 0) (T : B → World → Type 0) (m : Run World A) (next : A → World → Run World B)
    → Yields may w S m → ((x : A) (w1 : World) → Reaches may w w1 → S x w1 → Yields may w1 T (next x w1)) → Yields may w T (bind m next)
yields_then may w S T (Go x w1) next y k = yields_from may w w1 T (next x w1) y.holds.0 (k x w1 y.holds.0 y.holds.1)
yields_then may w S T (Stopped stop w1) next y k = record { holds = y.holds }

-- another fact
pub yields_more : {A : Type 0} (may : Bool) (w : World) (S T : A → World → Type 0) (m : Run World A) → Yields may w S m → ((x : A) (w1 : World) → Reaches may w w1 → S x w1 → T x w1) → Yields may w T m
yields_more may w S T (Go x w1) y k = record { holds = (y.holds.0, k x w1 y.holds.0 y.holds.1) }
yields_more may w S T (Stopped stop w1) y k = record { holds = y.holds }

pub yields_quietly : {A : Type 0} (may : Bool) (w : World) (S : A → World → Type 0) (m : Run World A) → Yields false w S m → Yields may w S m
yields_quietly may w S (Go x w1) y = record { holds = (reaches_quietly may w w1 y.holds.0, y.holds.1) }
yields_quietly may w S (Stopped stop w1) y = record { holds = y.holds }

-- a test that holds, or traps
pub yields_tested : {A : Type 0} (may : Bool) (w : World) (S : A → World → Type 0) (test : Bool) (t : Trap) (line : ℕ) (m : Run World A) → (test ≡ true → Yields may w S m) → Yields may w S (tested test t line w m)
yields_tested may w S true t line m k = k refl
yields_tested may w S false t line m k = record { holds = tt }

-- a live region that is touched
pub yields_touching : {A : Type 0} (may : Bool) (w : World) (S : A → World → Type 0) (alive : Bool) (line : ℕ) (m : Run World A) → alive ≡ true → Yields may w S m → Yields may w S (touching alive line w m)
yields_touching may w S true line m e y = y
yields_touching may w S false line m e y = cc

pub yields_branching : {A : Type 0} (may : Bool) (w : World) (S : A → World → Type 0) (test : Bool) (a b : World → Run World A) → (test ≡ true → Yields may w S (a w)) → (test ≡ false → Yields may w S (b w)) → Yields may w S (branching test a b w)
yields_branching may w S true a b first second = first refl
yields_branching may w S false a b first second = second refl
