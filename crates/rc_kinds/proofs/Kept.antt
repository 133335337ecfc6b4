-- Runs that keep to the types, one after another.
use Rattle.std.proofs.Common.{◌≡◌, Bool, true, false, refl}
use Rattle.rc_base.specs.declared.ends.Trap.{Trap}
use Rattle.std.specs.Prelude.{ℕ, Result, Ok, Err}
use Rattle.rc_core.specs.Programs.{Program}
use Rattle.rc_core.specs.Runs.{Run, Go, Stopped, bind, branching, tested, touching, computed}
use Rattle.rc_core.specs.Source.{World}
use Rattle.rc_core.specs.Laws.{IfGoes}
use Rattle.rc_kinds.specs.Suits.{Ledger, Grows, WorldSuits}
use Rattle.rc_kinds.specs.Kinds.{Outcome}
use Rattle.rc_kinds.proofs.Grown.{grows_itself, grows_on}
use Rattle.rc_kinds.proofs.InRange.{IfOk}

-- nothing is said of what it gives
abbrev pub Nothing : {A : Type 0} → Ledger → A → Type 0
Nothing l x = Unit {0}

module _ (program : Program) where
  pub record Keeps {A : Type 0} (l : Ledger) (S : Ledger → A → Type 0) (m : Run World A) : Type 0 where
    pub holds : IfGoes (Outcome program l S) m

  pub keeps_go : {A : Type 0} (l l1 : Ledger) (S : Ledger → A → Type 0) (x : A) (w : World) → Grows l l1 → WorldSuits program l1 w → S l1 x → Keeps l S (Go x w)
  keeps_go l l1 S x w g suits s = record { holds = record { ledger = l1; grown = g; world = suits; value = s } }

  pub keeps_here : {A : Type 0} (l : Ledger) (S : Ledger → A → Type 0) (x : A) (w : World) → WorldSuits program l w → S l x → Keeps l S (Go x w)
  keeps_here l S x w suits s = keeps_go l l S x w (grows_itself l) suits s

  pub keeps_from : {A : Type 0} (l l1 : Ledger) (S : Ledger → A → Type 0) (m : Run World A) → Grows l l1 → Keeps l1 S m → Keeps l S m
  keeps_from l l1 S (Go x w) g k = record { holds = record { ledger = k.holds.ledger; grown = grows_on l l1 k.holds.ledger g k.holds.grown; world = k.holds.world; value = k.holds.value } }
  keeps_from l l1 S (Stopped stop w) g k = record { holds = tt }

  pub keeps_then : {A B : Type 0} (l : Ledger) (S : Ledger → A → Type 0) (T : Ledger → B → Type 0) (m : Run World A) (next : A → World → Run World B)
      → Keeps l S m → ((x : A) (l1 : Ledger) (w1 : World) → Grows l l1 → WorldSuits program l1 w1 → S l1 x → Keeps l1 T (next x w1)) → Keeps l T (bind m next)
  keeps_then l S T (Go x w1) next k go = keeps_from l k.holds.ledger T (next x w1) k.holds.grown (go x k.holds.ledger w1 k.holds.grown k.holds.world k.holds.value)
  keeps_then l S T (Stopped stop w1) next k go = record { holds = tt }

  pub keeps_more : {A : Type 0} (l : Ledger) (S T : Ledger → A → Type 0) (m : Run World A) → Keeps l S m → ((x : A) (l1 : Ledger) → Grows l l1 → S l1 x → T l1 x) → Keeps l T m
  keeps_more l S T (Go x w1) k more = record { holds = record { ledger = k.holds.ledger; grown = k.holds.grown; world = k.holds.world; value = more x k.holds.ledger k.holds.grown k.holds.value } }
  keeps_more l S T (Stopped stop w1) k more = record { holds = tt }

  pub keeps_tested : {A : Type 0} (l : Ledger) (S : Ledger → A → Type 0) (test : Bool) (t : Trap) (line : ℕ) (w : World) (m : Run World A) → (test ≡ true → Keeps l S m) → Keeps l S (tested test t line w m)
  keeps_tested l S true t line w m k = k refl
  keeps_tested l S false t line w m k = record { holds = tt }

  pub keeps_touching : {A : Type 0} (l : Ledger) (S : Ledger → A → Type 0) (alive : Bool) (line : ℕ) (w : World) (m : Run World A) → Keeps l S m → Keeps l S (touching alive line w m)
  keeps_touching l S true line w m k = k
  keeps_touching l S false line w m k = record { holds = tt }

  pub keeps_branching : {A : Type 0} (l : Ledger) (S : Ledger → A → Type 0) (test : Bool) (a b : World → Run World A) (w : World) → Keeps l S (a w) → Keeps l S (b w) → Keeps l S (branching test a b w)
  keeps_branching l S true a b w first second = first
  keeps_branching l S false a b w first second = second

  pub keeps_computed : {A : Type 0} (l : Ledger) (P : A → Type 0) (line : ℕ) (r : Result A Trap) (w : World) → WorldSuits program l w → IfOk P r → Keeps l (λ _. P) (computed line r w)
  keeps_computed l P line (Ok x) w suits p = keeps_here l (λ _. P) x w suits p
  keeps_computed l P line (Err t) w suits p = record { holds = tt }
