-- Locals, zeros and calls that delete.
use Rattle.std.proofs.Common.{◌≡◌, ℕ, zero, suc, Bool, not, List, [], ◌∷◌, ◌++◌, map, take, drop, slice_get, Some, refl, subst}
use Rattle.std.specs.Prelude.{IsTrue}
use Rattle.rc_core.specs.Types.{Ty, int, unsigned, char, region, struct, pointer}
use Rattle.rc_core.specs.Programs.{Function, Program}
use Rattle.rc_core.specs.Heap.{Value, zero_of}
use Rattle.rc_core.specs.Runs.{Run, Go, Stopped, bind, Calls}
use Rattle.rc_core.specs.Source.{World, source}
use Rattle.rc_core.specs.Execution.{with_local, held, first_locals, deletes, calling}
use Rattle.rc_core.specs.Typing.{is_struct, parameters_of}
use Rattle.rc_core.specs.WellTyped.{IsVariable}
use Rattle.rc_kinds.specs.Suits.{Ledger, Suits, WorldSuits, AllSuit}
use Rattle.rc_kinds.proofs.Zips.{zip_change}
use Rattle.rc_kinds.proofs.Kept.{Keeps, keeps_branching}
use Rattle.rc_kinds.proofs.Operations.{held_suit, enter_suits, leave_suits}
use Rattle.rc_kinds.specs.Kinds.{ResultSuits}

pub zero_suits : (l : Ledger) (t : Ty) → IsTrue (not (is_struct t)) → Suits l t (zero_of t)
zero_suits l int h = refl
zero_suits l unsigned h = refl
zero_suits l char h = refl
zero_suits l region h = tt
zero_suits l (struct k) h = cc
zero_suits l (pointer note target) h = tt

-- a local that is set
pub set_suits : (l : Ledger) (locals : List Ty) (env : List Value) (x : ℕ) (t : Ty) (v : Value) → slice_get locals x ≡ Some t → Suits l t v → AllSuit l locals env → AllSuit l locals (with_local env x v)
set_suits l locals env x t v e s all = zip_change (Suits l) locals env x (λ _. v) (λ u y h q old. let same : t ≡ u = cc in subst (λ ty. Suits l ty v) same s) all

zeros_suit : (l : Ledger) (ts : List Ty) → ((x : ℕ) (t : Ty) → slice_get ts x ≡ Some t → IsTrue (not (is_struct t))) → AllSuit l ts (map zero_of ts)
zeros_suit l [] k = tt
zeros_suit l (t ∷ ts) k = (zero_suits l t (k 0 t refl), zeros_suit l ts (λ x u e. k (suc x) u e))

-- where a call begins
begin : (l : Ledger) (n : ℕ) (ts : List Ty) (arguments : List Value) → ((x : ℕ) (t : Ty) → slice_get ts x ≡ Some t → IsTrue (not (is_struct t))) → AllSuit l (take n ts) arguments → AllSuit l ts (arguments ++ map zero_of (drop n ts))
begin l zero ts [] k all = zeros_suit l ts k
begin l zero ts (v ∷ vs) k all = absurd all
begin l (suc n) [] [] k all = tt
begin l (suc n) [] (v ∷ vs) k all = absurd all
begin l (suc n) (t ∷ ts) [] k all = absurd all
begin l (suc n) (t ∷ ts) (v ∷ vs) k all = (all.0, begin l n ts vs (λ x u e. k (suc x) u e) all.1)

pub first_suit : (program : Program) (l : Ledger) (f : Function) (arguments : List Value) → ((x : ℕ) (t : Ty) → slice_get f.locals x ≡ Some t → IsVariable program.structs t) → AllSuit l (parameters_of f) arguments → AllSuit l f.locals (first_locals f arguments)
first_suit program l f arguments k all = begin l f.parameters f.locals arguments (λ x t e. (k x t e).1) all

-- a call, which may delete
pub calling_keeps : (program : Program) (locals : List Ty) (calls : Calls World)
    → ((f : ℕ) (g : Function) (arguments : List Value) (l : Ledger) (w : World) → slice_get program.functions f ≡ Some g → AllSuit l (parameters_of g) arguments → WorldSuits program l w → Keeps program l (ResultSuits g.result) (calls f arguments w))
    → (live : ℕ → Bool) (env : List Value) (f : ℕ) (g : Function) (arguments : List Value) (l : Ledger) (w : World) → slice_get program.functions f ≡ Some g → AllSuit l (parameters_of g) arguments → AllSuit l locals env → WorldSuits program l w
    → Keeps program l (ResultSuits g.result) (calling source program calls live env f arguments w)
calling_keeps program locals calls called live env f g arguments l w e all own suits =
    keeps_branching program l (ResultSuits g.result) (deletes program f) _ _ w
    (left (calls f arguments (source.enter (held live env) w)) (called f g arguments l (source.enter (held live env) w) e all (enter_suits program l (held live env) w (held_suit l live locals env own) suits)))
    (called f g arguments l w e all suits)
  where
    left : (m : Run World Value) → Keeps program l (ResultSuits g.result) m → Keeps program l (ResultSuits g.result) (bind m (λ v w2. Go v (source.leave w w2)))
    left (Go v w2) k = record { holds = record { ledger = k.holds.ledger; grown = k.holds.grown; world = leave_suits program l k.holds.ledger w w2 k.holds.grown suits k.holds.world; value = k.holds.value } }
    left (Stopped stop w2) k = record { holds = tt }
