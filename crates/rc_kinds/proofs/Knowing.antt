-- What is known behind a run that went on, by operation.
use Rattle.std.proofs.Common.{◌≡◌, List, subst}
use Rattle.rc_core.specs.Types.{Ty}
use Rattle.rc_core.specs.Programs.{Program}
use Rattle.rc_core.specs.Heap.{Value}
use Rattle.rc_core.specs.Runs.{Run, Go, Stopped}
use Rattle.rc_core.specs.Source.{World}
use Rattle.rc_core.specs.Laws.{IfGoes}
use Rattle.rc_kinds.specs.Suits.{Ledger, Grows, WorldSuits, Known}
use Rattle.rc_kinds.specs.Kinds.{Outcome}
use Rattle.rc_kinds.proofs.Grown.{all_still_suit}
use Rattle.rc_kinds.proofs.Kept.{Keeps}

module _ (program : Program) where
  -- what follows from a run that keeps to the types
  pub goes_on : {A : Type 0} (l : Ledger) (S : Ledger → A → Type 0) (Q : A → World → Type 0) (m : Run World A) → Keeps program l S m → ((x : A) (l1 : Ledger) (w1 : World) → Grows l l1 → WorldSuits program l1 w1 → S l1 x → Q x w1) → IfGoes Q m
  goes_on l S Q (Go x w1) k more = more x k.holds.ledger w1 k.holds.grown k.holds.world k.holds.value
  goes_on l S Q (Stopped stop w1) k more = tt

  -- where it is known how it went
  pub went : {A : Type 0} (l : Ledger) (S : Ledger → A → Type 0) (m : Run World A) (x : A) (w : World) → Keeps program l S m → m ≡ Go x w → Outcome program l S x w
  went l S m x w k e = subst (λ r. IfGoes (Outcome program l S) r) e k.holds

  pub still_known : {A : Type 0} (types : List Ty) (values : List Value) (w : World) (known : Known program types values w) (S : Ledger → A → Type 0) (x : A) (w1 : World) → Outcome program known.ledger S x w1 → Known program types values w1
  still_known types values w known S x w1 a = record { ledger = a.ledger; world = a.world; suit = all_still_suit known.ledger a.ledger a.grown types values known.suit }
