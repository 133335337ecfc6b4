-- Values that keep to their types: in temporaries and in cells, as locals, and as what operations and calls give.
use Rattle.std.proofs.Common.{◌≡◌, ℕ, zero, suc, ℤ, Bool, not, List, [], ◌∷◌, get_or, Option, Some, None, Result, refl, sym, subst}
use Rattle.std.specs.Prelude.{IsTrue, IfSome, slice_get, take, option_map}
use Rattle.rc_base.specs.declared.ends.Trap.{Trap}
use Rattle.rc_core.specs.Types.{Ty, int, unsigned, char, region, struct, pointer, CellKind}
use Rattle.rc_core.specs.Heap.{Value, Number, Null, Handle, Pointer}
use Rattle.rc_core.specs.Runs.{Go, bind, computed}
use Rattle.rc_core.specs.Source.{World}
use Rattle.rc_core.specs.Evaluation.{as_wanted, region_named, give_number}
use Rattle.rc_core.specs.Execution.{zero_result}
use Rattle.rc_core.specs.Programs.{Function, Program}
use Rattle.rc_core.specs.Typing.{value_type, is_struct, is_pointer, parameters_of}
use Rattle.rc_core.specs.WellTyped.{IsVariable}
use Rattle.rc_kinds.specs.Suits.{Ledger, IsRegion, Suits, CellSuits, WorldSuits, AllSuit}
use Rattle.rc_kinds.specs.Kinds.{Of, ResultSuits}
use Rattle.rc_kinds.proofs.InRange.{IfOk, wanted_suits}
use Rattle.rc_kinds.proofs.Zips.{below_slice}
use Rattle.rc_kinds.proofs.Locals.{zero_suits}
use Rattle.rc_kinds.proofs.Grown.{still_suits, value_suits, suits_value}
use Rattle.rc_kinds.proofs.Kept.{Keeps, keeps_here, keeps_then, keeps_computed}
use Rattle.rc_kinds.proofs.Paths.{there}
use Rattle.rc_kinds.proofs.Evaluations.{of_type}
use Rattle.rc_rlang.specs.RegionCode.{Kind, kind_of}
use Rattle.rc_rlang.specs.RegionRuns as R
use Rattle.rc_rlang.specs.RegionRuns.{Temporaries, at_kind, temporary, kept, holds}
use Rattle.rc_translation.proofs.ValueKinds.{kind_value, kept_same}
use Rattle.rc_translation.proofs.Cells.{kept_in_cell}
use Rattle.rc_translation.proofs.Equations.{suits_so}

-- the value of a type, read by its kind
pub by_kind : (k : Kind) (own u : Ty) (h : ℕ) (l : Ledger) (t1 : Temporaries) → kind_of own ≡ k → Suits l u (temporary own t1 h) → Suits l u (at_kind k t1 h)
by_kind k own u h l t1 e s = subst (λ q. Suits l u (at_kind q t1 h)) e s

pub kept_suits : (l : Ledger) (ty : Ty) (v : Value) → Suits l (value_type ty) v → Suits l ty (kept ty v)
kept_suits l ty v s = subst (Suits l ty) (sym (kept_same ty v (suits_so l (value_type ty) v s))) (suits_value l ty v s)

-- what is stored
pub stored_suits : (l : Ledger) (t : Temporaries) (k : ℕ) (pt cell : Ty) → cell ≡ pt → Suits l (value_type pt) (temporary (value_type cell) t k) → Suits l pt (kept cell (temporary cell t k))
stored_suits l t k pt cell e s =
    subst (λ c. Suits l (value_type pt) (temporary (value_type c) t k) → Suits l pt (kept c (temporary c t k))) (sym e) (λ v. kept_suits l pt (temporary pt t k) (by_kind (kind_of pt) (value_type pt) (value_type pt) k l t (kind_value pt) v)) s

-- what is copied into a cell
pub kept_cell_suits : (l : Ledger) (kind : CellKind) (v : Value) → CellSuits l kind v → CellSuits l kind (R.kept_cell kind v)
kept_cell_suits l kind v s = subst (CellSuits l kind) (sym (kept_in_cell l kind v s)) s

pub sized_suits : (l : Ledger) (n : ℕ) (tys : List Ty) (xs : List Value) → ((x : ℕ) (t : Ty) → slice_get tys x ≡ Some t → IsTrue (not (is_struct t))) → AllSuit l (take n tys) xs → AllSuit l tys (R.sized tys xs)
sized_suits l n [] xs k all = tt
sized_suits l zero (ty ∷ tys) [] k all = (zero_suits l ty (k 0 ty refl), sized_suits l zero tys [] (λ x u e. k (suc x) u e) tt)
sized_suits l zero (ty ∷ tys) (x ∷ xs) k all = absurd all
sized_suits l (suc n) (ty ∷ tys) [] k all = absurd all
sized_suits l (suc n) (ty ∷ tys) (x ∷ xs) k all = (all.0, sized_suits l n tys xs (λ y u e. k (suc y) u e) all.1)

abbrev pub types_in : Option Function → List Ty
types_in None = []
types_in (Some h) = parameters_of h

pub result_of_call : (l : Ledger) (result : Option Ty) (t : Ty) (v : Value) → option_map value_type result ≡ Some t → ResultSuits result l v → Suits l t v
result_of_call l None t v e s = cc
result_of_call l (Some u) t v e s = let q : value_type u ≡ t = cc in subst (λ x. Suits l x v) q (value_suits l u v s)

module _ (program : Program) where
  -- what a call gives whose function ends without a value
  pub zero_of_result : (l : Ledger) (result : Option Ty) → IfSome result (IsVariable program.structs) → ResultSuits result l (zero_result result)
  zero_of_result l None h = tt
  zero_of_result l (Some t) h = zero_suits l t h.1

  pub computed_keeps : (l : Ledger) (u : Ty) (line : ℕ) (r : Result ℤ Trap) (w : World) → WorldSuits program l w → IfOk (λ n. Suits l u (Number n)) r → Keeps program l (Of u) (bind (computed line r w) give_number)
  computed_keeps l u line r w suits ok =
      keeps_then program l (λ _ n. Suits l u (Number n)) (Of u) (computed line r w) give_number (keeps_computed program l (λ n. Suits l u (Number n)) line r w suits ok) (λ n l1 w1 g s1 p. keeps_here program l1 (Of u) (Number n) w1 s1 (still_suits l l1 g u (Number n) p))

  pub wanted_keeps : (l : Ledger) (u : Ty) (wanted is : Bool) (w : World) → u ≡ int → WorldSuits program l w → Keeps program l (Of u) (Go (as_wanted wanted is) w)
  wanted_keeps l u wanted is w e suits = of_type program l u int _ e (keeps_here program l (Of int) (as_wanted wanted is) w suits (wanted_suits l wanted is))

  pub named_keeps : (l : Ledger) (line : ℕ) (u : Ty) (v : Value) (w : World) → IsTrue (is_pointer u) → Suits l u v → WorldSuits program l w → Keeps program l IsRegion (region_named line v w)
  named_keeps l line int v w h s suits = cc
  named_keeps l line unsigned v w h s suits = cc
  named_keeps l line char v w h s suits = cc
  named_keeps l line region v w h s suits = cc
  named_keeps l line (struct k) v w h s suits = cc
  named_keeps l line (pointer note target) (Number n) w h s suits = absurd s
  named_keeps l line (pointer note target) Null w h s suits = record { holds = tt }
  named_keeps l line (pointer note target) (Handle r) w h s suits = absurd s
  named_keeps l line (pointer note target) (Pointer a) w h s suits = keeps_here program l IsRegion (Handle a.region) w suits (below_slice l a.region (get_or l a.region []) (there l a.region a.object _ s.entry))
